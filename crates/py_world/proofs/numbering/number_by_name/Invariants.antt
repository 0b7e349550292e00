use Rattle.std.proofs.Common.{◌≡◌, ℕ, ◌<◌, ◌-◌, List, Some, false, length}
use Rattle.std.specs.Prelude.{slice_get}
use Rattle.py_text.specs.Comparison.{is_same_text}
use Rattle.py_world.specs.Numbered.{global_names}
use Rattle.py_world.proofs.numbering.number_by_name.Given as goal

abbrev pub invariant-loop-number : goal.invariant-loop-number
invariant-loop-number l = (k : ℕ) (y : List ℕ) → k < l.number → slice_get (global_names l.globals) k ≡ Some y → is_same_text l.name y ≡ false

abbrev pub decreases-loop-number : goal.decreases-loop-number
decreases-loop-number l = length l.globals - l.number
