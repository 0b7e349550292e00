-- What small blobs have.
use Rattle.std.proofs.Common.{◌≡◌, ℕ, pos, [], ◌∷◌, map, Vec, ap}
use Rattle.std.specs.declared.alloc.Global.{Global}
use Rattle.cov_data.specs.Numbits.{lines_of_bits}
use Rattle.cov_tables.specs.Hits.{Spot}
use Rattle.cov_sql.specs.declared.saved.SavedRow.{SavedRow}
use Rattle.cov_sql.specs.declared.saved.SavedBits.{SavedBits}
use Rattle.cov_sql.specs.Blobs.{spot_of, spots_in}

abbrev row : ℕ → SavedRow
row n = record { file_id = pos 2; context_id = pos 1; from = pos n; to = pos n; count = pos 3 }

abbrev blob : Vec ℕ Global → SavedBits
blob bytes = record { file_id = pos 2; context_id = pos 1; numbits = bytes }

abbrev line : ℕ → Spot
line n = record { file_id = pos 2; context_id = pos 1; from = pos n; to = pos n }

-- lines 1, 8 and 9
numbers : (bytes : Vec ℕ Global) → bytes.items ≡ 2 ∷ 3 ∷ [] → spots_in (blob bytes) ≡ map spot_of (row 1 ∷ row 8 ∷ row 9 ∷ [])
numbers bytes is = ap (λ b. map line (lines_of_bits b)) is
