use Rattle.std.proofs.Common.{arith}
use Rattle.py_statements.proofs.View.OneMore.{block_top}
use Rattle.py_statements.proofs.suite_stack.SuiteStack.is_top.Goals as goal

pub returns : goal.returns
returns c = grind (arith, block_top)
