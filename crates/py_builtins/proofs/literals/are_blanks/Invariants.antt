use Rattle.std.proofs.Common.{◌≡◌, drop}
use Rattle.py_builtins.specs.Builtins.{are_blanks}
use Rattle.py_builtins.proofs.literals.are_blanks.Given as goal

abbrev pub invariant-loop-c : goal.invariant-loop-c
invariant-loop-c l = are_blanks (drop l.c-index l.characters) ≡ are_blanks l.characters
