use Rattle.std.proofs.Common.{◌≡◌, drop, length}
use Rattle.std.specs.List.{slice_get}
use Rattle.std.specs.Str.{chars}
use Rattle.py_text.proofs.characters.char_at.Given as goal

abbrev pub invariant-loop-c : goal.invariant-loop-c
invariant-loop-c l = slice_get (drop (length l.yielded) (chars l.s)) l.ahead ≡ slice_get (chars l.s) l.at
