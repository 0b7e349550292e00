use Rattle.std.proofs.Common.{arith}
use Rattle.py_value.proofs.Lists.{one_more_empty}
use Rattle.py_value.proofs.key_index.Index.with_buckets.Goals as goal

pub turns-preserved : goal.turns-preserved
turns-preserved c = grind (arith, one_more_empty)
