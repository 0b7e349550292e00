use Rattle.std.proofs.Common.{◌≡◌, ◌++◌, take, drop, length}
use Rattle.std.specs.Str.{chars}
use Rattle.py_text.proofs.characters.part.Given as goal

abbrev pub invariant-loop-c : goal.invariant-loop-c
invariant-loop-c l = l.text ++ take l.left (drop l.ahead (drop (length l.yielded) (chars l.s))) ≡ take l.count (drop l.first (chars l.s))
