use Rattle.std.proofs.Common.{rules}
use Rattle.py_statements.proofs.View.OneMore.{block_ends}
use Rattle.py_statements.proofs.suite_stack.SuiteStack.ends.Goals as goal

pub returns-then-not-open : goal.returns-then-not-open
returns-then-not-open c = let shown = block_ends c.args.self.now.body.items c.args.self.now.open.items c.in-Some.open.now in search rules
