use Rattle.py_compile_body.proofs.SimpleSizes.{both_sized}
use Rattle.py_compile_body.proofs.suite_sizes.both.Goals as goal

pub returns : goal.returns
returns c = both_sized c.args.left c.args.right c.sum-2.result c.in_ok-left.field-0 c.in_ok-right.field-0 c.in_ok-parts.parts c.args.more c.in_ok-left.was c.in_ok-right.was c.in_ok-parts.ensures c.sum-2.ensures
