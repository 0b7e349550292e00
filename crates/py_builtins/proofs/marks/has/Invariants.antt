use Rattle.std.proofs.Common.{◌≡◌, drop, length}
use Rattle.std.specs.Str.{chars}
use Rattle.py_builtins.specs.Displays.{has}
use Rattle.py_builtins.proofs.marks.has.Given as goal

abbrev pub invariant-loop-c : goal.invariant-loop-c
invariant-loop-c l = has l.wanted (drop (length l.yielded) (chars l.text)) ≡ has l.wanted (chars l.text)
