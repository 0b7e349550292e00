use Rattle.std.proofs.Common.{◌≡◌, drop}
use Rattle.py_builtins.specs.Builtins.{without_blanks}
use Rattle.py_builtins.proofs.literals.without_blanks.Given as goal

abbrev pub invariant-loop-i : goal.invariant-loop-i
invariant-loop-i l = without_blanks (drop l.i l.characters) ≡ without_blanks l.characters
