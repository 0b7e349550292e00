use Rattle.py_value.proofs.Climb.{height_of}
use Rattle.py_value.proofs.exception.ExcKind.+is_or_under.Given as goal

abbrev pub decreases-is_or_under : goal.decreases-is_or_under
decreases-is_or_under l = height_of l.self
