-- Sets of arcs, as lists in order.
use Rattle.std.specs.Prelude.{List}
use Rattle.std.specs.List.Sorted.{IsStrictlySortedBy}
use Rattle.py_syntax.specs.Prediction.{Arc, by_ends}

-- each arc is below those after it, by from and then by to
pub record IsInOrder (arcs : List Arc) : Type 0 where
  pub rises : IsStrictlySortedBy by_ends arcs
