use Rattle.py_compile_body.proofs.SimpleSizes.{after_sized}
use Rattle.py_compile_body.proofs.suite_sizes.after.Goals as goal

pub returns : goal.returns
returns c = after_sized c.args.size c.sum-2.result c.args.at c.in_ok-size.field-0 c.in_ok-end.end c.args.more c.in_ok-size.was c.in_ok-end.ensures c.sum-2.ensures
