-- Counters: how often each arc of a set was taken, by module and label.
--     Numbers, numbers_from         the numbers of rows of counters, by their labels
--     Row, no_counts                a row of counters, which may have counted nothing
--     raised, bumped                a count more in a row, and in one of several
--     HasRow, MakesRow              a row of a module and a label, which may be a new one
--     AreIndexed                    numbers lead to rows of their label
use Rattle.std.specs.Prelude.{◌≡◌, ◌⊎◌, ℕ, zero, suc, ◌+◌, min, List, [], ◌∷◌, ◌++◌, replicate, String, string_bytes, Some, slice_get}
use Rattle.std.specs.FinMap.{FinMap, get, code, from_entries}
use Rattle.std.specs.Coded.{Coded, coded_list, coded_ℕ}
use Rattle.cov_data.specs.DataSet.{Text, text_cmp, rekeyed, most_count}

-- numbers of rows by their labels
abbrev pub Numbers : Type 0
Numbers = FinMap text_cmp ℕ

-- coded by their entries
abbrev pub numbers_code : Coded Numbers
numbers_code = code (coded_list coded_ℕ) coded_ℕ

-- those of the entries of a tree
abbrev pub numbers_from : {Y : Type 0} → List (String Y × ℕ) → Numbers
numbers_from es = from_entries (rekeyed string_bytes es)

-- the counts of the arcs of a module under a label, in the order of the module's set
pub record Row : Type 0 where
  pub «module» : ℕ
  pub label : Text
  pub counts : List ℕ

-- a count more at a place, up to the greatest count
abbrev pub raised : List ℕ → ℕ → List ℕ
raised [] place = []
raised (n ∷ rest) zero = min (n + 1) most_count ∷ rest
raised (n ∷ rest) (suc place) = n ∷ raised rest place

-- the same in the row of this number
abbrev pub bumped : List Row → ℕ → ℕ → List Row
bumped [] n place = []
bumped (row ∷ rest) zero place = record row { counts = raised row.counts place } ∷ rest
bumped (row ∷ rest) (suc n) place = row ∷ bumped rest n place

-- the row of this number is of this module and label
pub record HasRow (rows : List Row) (n m : ℕ) (label : Text) : Type 0 where
  pub row : Row
  pub at : slice_get rows n ≡ Some row
  pub of_module : row.module ≡ m
  pub of_label : row.label ≡ label

-- a row of so many counters that counted nothing
abbrev pub no_counts : ℕ → Text → ℕ → Row
no_counts m label size = record { «module» = m; label = label; counts = replicate size 0 }

-- the rows stay, or there is such a row more
abbrev pub MakesRow : List Row → ℕ → Text → ℕ → List Row → Type 0
MakesRow old m label size new = (new ≡ old) ⊎ (new ≡ old ++ no_counts m label size ∷ [])

-- the numbers of each module lead to its rows of their label
pub record AreIndexed (numbers : List Numbers) (rows : List Row) : Type 0 where
  pub leads : (m n : ℕ) (label : Text) (index : Numbers) →
      slice_get numbers m ≡ Some index → get index label ≡ Some n → HasRow rows n m label
