-- The counts of rows.
--     Spot, spot_at              a file, a context and two numbers; those of a row
--     counts_at, count_of        the counts of a spot's rows in `hits`; the count of a spot
use Rattle.std.specs.Prelude.{ℕ, ℤ, pos, negsuc, Bool, false, cond, ◌&&◌, List, [], ◌∷◌, Option, Some, None, nat_lt, nat_le}
use Rattle.std.specs.declared.cmp.Ordering.{Ordering}
use Rattle.std.specs.List.{flat_map}
use Rattle.std.specs.Ordering.{is_eq, int_cmp, ordering_then}
use Rattle.cov_data.specs.DataSet.{most_count}
use Rattle.cov_tables.specs.Fields.{Row, whole_at}
use Rattle.cov_tables.specs.declared.hits.Spot.{Spot as Kept}

-- a file, a context and two numbers
abbrev pub Spot : Type 0
Spot = Kept

-- by file, context and numbers
abbrev pub spot_cmp : Spot → Spot → Ordering
spot_cmp a b =
    ordering_then (int_cmp a.file_id b.file_id)
    (ordering_then (int_cmp a.context_id b.context_id)
    (ordering_then (int_cmp a.from b.from) (int_cmp a.to b.to)))

-- the spot of four whole numbers, where all are there
abbrev pub spot_with : Option ℤ → Option ℤ → Option ℤ → Option ℤ → Option Spot
spot_with None context from to = None
spot_with (Some f) None from to = None
spot_with (Some f) (Some c) None to = None
spot_with (Some f) (Some c) (Some a) None = None
spot_with (Some f) (Some c) (Some a) (Some b) =
    Some (record { file_id = f; context_id = c; from = a; to = b })

-- the spot of a row of `hits`
abbrev pub spot_at : Row → Option Spot
spot_at r = spot_with (whole_at r 0) (whole_at r 1) (whole_at r 2) (whole_at r 3)

-- whether it is this spot
abbrev pub is_spot : Spot → Option Spot → Bool
is_spot s None = false
is_spot s (Some t) = is_eq (spot_cmp s t)

-- the count of a row, where it is of this spot
abbrev pub counts_with : Spot → Row → List (Option ℤ)
counts_with s r = cond (is_spot s (spot_at r)) (whole_at r 4 ∷ []) []

-- the counts of a spot's rows
abbrev pub counts_at : List Row → Spot → List (Option ℤ)
counts_at rs s = flat_map (counts_with s) rs

-- a whole number from 1 to the greatest count, and else 1
abbrev pub counted : Option ℤ → ℕ
counted None = 1
counted (Some (negsuc n)) = 1
counted (Some (pos n)) = cond (nat_lt 0 n && nat_le n most_count) n 1

-- where there is exactly one row
abbrev pub only_count : List (Option ℤ) → ℕ
only_count [] = 1
only_count (c ∷ []) = counted c
only_count (c ∷ d ∷ ds) = 1

-- the count of a spot
abbrev pub count_of : List Row → Spot → ℕ
count_of rs s = only_count (counts_at rs s)
