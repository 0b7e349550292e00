-- Texts, tuples and lists as sequences of at most 1,048,576 items.
use Rattle.std.specs.Prelude.{ℕ, zero, suc, ◌-◌, ◌*◌, nat_lt, nat_le, min, ℤ, pos, negsuc, Bool, true, false, ◌||◌, ◌&&◌, nat_eq, if◌then◌else◌, List, [], ◌∷◌, ◌++◌, length, take, drop, Option, Some, None, Result, Ok, Err}
pub use Rattle.py_text.specs.Parts.{repeat, begins, is_part}
use Rattle.py_value.specs.declared.cause.Cause.{Cause}
use Rattle.py_value.specs.declared.cause.Cause.TheVariants.{TooManyItems}

-- the most items of a list, and characters of a text
abbrev pub most_items : ℕ
most_items = 1048576

-- the items, where there are not too many of them
abbrev pub within_limit : {A : Type 0} → List A → Result (List A) Cause
within_limit xs = if nat_le (length xs) most_items then Ok xs else Err TooManyItems

-- one list after another
abbrev pub joined : {A : Type 0} → List A → List A → Result (List A) Cause
joined xs ys = within_limit (xs ++ ys)

-- how often a number repeats: not at all below 1
abbrev pub times : ℤ → ℕ
times (pos n) = n
times (negsuc n) = 0

-- a list so many times, where it is not too long
abbrev pub repeated : {A : Type 0} → ℤ → List A → Result (List A) Cause
repeated n [] = Ok []
repeated n (x ∷ xs) =
    if nat_le (times n * length (x ∷ xs)) most_items then Ok (repeat (times n) (x ∷ xs)) else
    Err TooManyItems

-- the place that an index names among so many items, from the end where it is negative
abbrev pub place_among : ℕ → ℤ → Option ℕ
place_among count (pos i) = if nat_lt i count then Some i else None
place_among count (negsuc i) = if nat_lt i count then Some (count - suc i) else None

-- a bound of a slice: from the end where it is negative, and kept within the length
abbrev pub bound_among : ℕ → ℤ → ℕ
bound_among count (pos i) = min i count
bound_among count (negsuc i) = count - suc i

-- where a slice begins
abbrev pub first_bound : ℕ → Option ℤ → ℕ
first_bound count None = 0
first_bound count (Some i) = bound_among count i

-- where a slice ends
abbrev pub last_bound : ℕ → Option ℤ → ℕ
last_bound count None = count
last_bound count (Some i) = bound_among count i

-- the items from one bound up to the other
abbrev pub part : {A : Type 0} → Option ℤ → Option ℤ → List A → List A
part from to xs =
    let first = first_bound (length xs) from in
    take (last_bound (length xs) to - first) (drop first xs)
