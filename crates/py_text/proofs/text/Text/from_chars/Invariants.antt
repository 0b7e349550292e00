use Rattle.std.proofs.Common.{◌≡◌, take}
use Rattle.py_text.proofs.text.Text.from_chars.Given as goal

abbrev pub invariant-loop-c : goal.invariant-loop-c
invariant-loop-c l = l.body ≡ take l.c-index l.characters
