use Rattle.std.proofs.Common.{◌≡◌, drop}
use Rattle.py_builtins.specs.Displays.{has}
use Rattle.py_builtins.proofs.displays.is_among.Given as goal

abbrev pub invariant-loop-other : goal.invariant-loop-other
invariant-loop-other l = has l.place (drop l.other-index l.places) ≡ has l.place l.places
