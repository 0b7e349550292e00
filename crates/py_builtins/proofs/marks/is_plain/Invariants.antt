use Rattle.std.proofs.Common.{◌≡◌, drop, length}
use Rattle.std.specs.Str.{chars}
use Rattle.py_builtins.specs.Displays.{all_escaped}
use Rattle.py_builtins.proofs.marks.is_plain.Given as goal

abbrev pub invariant-loop-c : goal.invariant-loop-c
invariant-loop-c l = all_escaped l.mark (drop (length l.yielded) (chars l.text)) ≡ drop (length l.yielded) (chars l.text) → all_escaped l.mark (chars l.text) ≡ chars l.text
