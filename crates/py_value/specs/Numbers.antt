-- Whole numbers of 64 bits. A bool counts as 0 or 1.
use Rattle.std.specs.Prelude.{zero, suc, ◌/◌, ◌^◌, nat_lt, ℤ, pos, negsuc, ◌+ℤ◌, ◌-ℤ◌, ◌*ℤ◌, Bool, true, false, if◌then◌else◌, Option, Some, None, Result, Ok, Err}
use Rattle.py_operator.specs.declared.operator.BinOp.{BinOp}
use Rattle.py_operator.specs.declared.operator.BinOp.TheVariants.{Add, Sub, Mul, Floor, Mod}
use Rattle.py_value.specs.declared.cause.Cause.{Cause}
use Rattle.py_value.specs.declared.cause.Cause.TheVariants.{DivisionByZero, IntegerTooLarge}
use Rattle.py_value.specs.Plain.{PlainValue, bool_value, int_value}

-- a truth as a number
abbrev pub number_of_bool : Bool → ℤ
number_of_bool true = pos 1
number_of_bool false = pos 0

-- the number that a value counts as
abbrev pub number_of : PlainValue → Option ℤ
number_of (bool_value b) = Some (number_of_bool b)
number_of (int_value n) = Some n
number_of _ = None

-- whether a number fits 64 bits
abbrev pub fits_64_bits : ℤ → Bool
fits_64_bits (pos n) = nat_lt n (2 ^ 63)
fits_64_bits (negsuc n) = nat_lt n (2 ^ 63)

-- the exact value, where 64 bits hold it
abbrev pub exact : ℤ → Result ℤ Cause
exact n = if fits_64_bits n then Ok n else Err IntegerTooLarge

-- the quotient rounded down, of a divisor other than 0
abbrev pub floor_div : ℤ → ℤ → ℤ
floor_div (pos a) (pos b) = pos (a / b)
floor_div (negsuc a) (pos b) = negsuc (a / b)
floor_div (pos zero) (negsuc b) = pos 0
floor_div (pos (suc a)) (negsuc b) = negsuc (a / suc b)
floor_div (negsuc a) (negsuc b) = pos (suc a / suc b)

-- the rest, which has the divisor's sign
abbrev pub floor_mod : ℤ → ℤ → ℤ
floor_mod x y = x -ℤ y *ℤ floor_div x y

-- whether a number is zero
abbrev pub is_zero : ℤ → Bool
is_zero (pos zero) = true
is_zero _ = false

-- the five operators on numbers
abbrev pub arithmetic : BinOp → ℤ → ℤ → Result ℤ Cause
arithmetic Add x y = exact (x +ℤ y)
arithmetic Sub x y = exact (x -ℤ y)
arithmetic Mul x y = exact (x *ℤ y)
arithmetic Floor x y = if is_zero y then Err DivisionByZero else exact (floor_div x y)
arithmetic Mod x y = if is_zero y then Err DivisionByZero else Ok (floor_mod x y)
