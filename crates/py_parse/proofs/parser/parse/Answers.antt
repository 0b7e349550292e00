use Rattle.std.proofs.Common.{arith}
use Rattle.py_statements.specs.ViewStates.{view_state}
use Rattle.py_parse.proofs.View.Answering.{unparsed, module_rules}
use Rattle.py_parse.proofs.parser.parse.Goals as goal

pub unexpected-requires-clause-is : goal.unexpected-requires-clause-is
unexpected-requires-clause-is c = unparsed c.args.tokens.now c.tokens.place (view_state c.tokens.state) c.tokens.invariant c.tokens-test.false c.in-None.ensures

pub returns-in-Some : goal.returns-in-Some
returns-in-Some c = grind (arith, module_rules)
