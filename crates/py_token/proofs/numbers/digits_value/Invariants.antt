use Rattle.std.proofs.Common.{◌≡◌, ◌^◌, ◌≤◌, min, length}
use Rattle.py_token.specs.Numbers.{digits_value}
use Rattle.py_token.proofs.numbers.digits_value.Given as goal

abbrev pub invariant-digits : goal.invariant-digits
invariant-digits l = record { in_range : l.value ≤ 2 ^ 63; same_value : min (digits_value l.base l.value l.rest) (2 ^ 63) ≡ min (digits_value l.base 0 l.chars) (2 ^ 63) }

abbrev pub decreases-digits : goal.decreases-digits
decreases-digits l = length l.rest
