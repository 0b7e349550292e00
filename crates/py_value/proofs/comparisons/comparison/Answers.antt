use Rattle.std.proofs.Common.{rules, arith}
use Rattle.std.proofs.lemmas.Grind.{common_steps}
use Rattle.py_value.specs.HeapView.{plain_heap}
use Rattle.py_value.proofs.comparisons.comparison.Goals as goal

pub returns : goal.returns
returns c = let e = c.compare_whole_numbers.ensures (plain_heap c.args.heap.now) in first_of (search rules, grind (arith, common_steps))
