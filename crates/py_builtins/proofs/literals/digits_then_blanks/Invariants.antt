use Rattle.std.proofs.Common.{◌≡◌, ◌≤◌, drop}
use Rattle.py_builtins.specs.Builtins.{digits_then_blanks}
use Rattle.py_builtins.specs.Calls.{capped}
use Rattle.py_builtins.proofs.literals.digits_then_blanks.Given as goal

abbrev pub invariant-loop-i : goal.invariant-loop-i
invariant-loop-i l = record {
  fits : l.number ≤ 18446744073709551615;
  digits : capped (digits_then_blanks l.number (drop l.i l.characters)) ≡ capped (digits_then_blanks 0 l.characters);
}
