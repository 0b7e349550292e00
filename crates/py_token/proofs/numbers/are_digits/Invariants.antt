use Rattle.std.proofs.Common.{◌≡◌, length}
use Rattle.py_token.specs.Numbers.{are_digits}
use Rattle.py_token.proofs.numbers.are_digits.Given as goal

abbrev pub invariant-digits : goal.invariant-digits
invariant-digits l = are_digits l.base l.rest ≡ are_digits l.base l.chars

abbrev pub decreases-digits : goal.decreases-digits
decreases-digits l = length l.rest
