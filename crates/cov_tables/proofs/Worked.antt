-- What data files of a few rows hold.
use Rattle.std.proofs.Common.{◌≡◌, ℕ, pos, negsuc, true, false, List, [], ◌∷◌, ◌++◌, codes, refl}
use Rattle.cov_data.specs.DataSet.{Text, DataSet, no_data, with_path}
use Rattle.cov_data.specs.Rows.{with_row}
use Rattle.cov_vault.specs.declared.vault.Content.TheVariants.{Good, NotSchema7, BadRow}
use Rattle.cov_tables.specs.Fields.{Row, whole, text, blob, other}
use Rattle.cov_tables.specs.Content.{Tables, content}

version : ℕ → List Row
version n = (whole (pos n) ∷ []) ∷ []

arcs_key : Text → List Row
arcs_key value = (text (codes "version") ∷ text (codes "7.4") ∷ []) ∷ (text (codes "has_arcs") ∷ text value ∷ []) ∷ []

one : Text → List Row
one t = (whole (pos 1) ∷ text t ∷ []) ∷ []

arcs_of : List Row → List Row → Tables
arcs_of rows counts = record { coverage_schema = version 7; meta = arcs_key (codes "1"); file = one (codes "a.py"); context = one []; line_bits = []; arc = rows; hits = counts }

bits_of : List ℕ → Tables
bits_of bits = record (arcs_of [] []) { meta = arcs_key (codes "0"); line_bits = (whole (pos 1) ∷ whole (pos 1) ∷ blob bits ∷ []) ∷ [] }

paths : DataSet
paths = with_path (no_data true) (codes "a.py")

-- keys of `meta` besides are ignored, and each count is 1 without rows of `hits`
foreign_data : content (arcs_of ((whole (pos 1) ∷ whole (pos 1) ∷ whole (negsuc 0) ∷ whole (pos 2) ∷ []) ∷ []) [])
    ≡ Good (with_row paths (record { path = codes "a.py"; context = []; from = negsuc 0; to = pos 2; count = 1 }))
unfolding arcs_of version arcs_key one paths
foreign_data = refl

-- another version
version_6 : content (record (arcs_of [] []) { coverage_schema = version 6 }) ≡ NotSchema7
unfolding arcs_of version arcs_key one
version_6 = refl

-- a number beyond 65,535
wide_number : content (arcs_of ((whole (pos 1) ∷ whole (pos 1) ∷ whole (pos 70000) ∷ whole (pos 2) ∷ []) ∷ []) []) ≡ BadRow 0
unfolding arcs_of version arcs_key one
wide_number = refl

-- an arc with a 0, a row of no file and a value of another type: the second is not counted
other_rows : content (arcs_of ((whole (pos 1) ∷ whole (pos 1) ∷ whole (pos 1) ∷ other ∷ []) ∷ (whole (pos 5) ∷ whole (pos 1) ∷ other ∷ other ∷ []) ∷ (whole (pos 1) ∷ whole (pos 1) ∷ whole (pos 0) ∷ whole (pos 2) ∷ []) ∷ []) []) ≡ BadRow 1
unfolding arcs_of version arcs_key one
other_rows = refl

zero_arc : content (arcs_of ((whole (pos 1) ∷ whole (pos 1) ∷ whole (pos 0) ∷ whole (pos 2) ∷ []) ∷ []) []) ≡ Good paths
unfolding arcs_of version arcs_key one paths
zero_arc = refl

-- two rows of one path, of which `hits` counts the first: their counts are added
greatest_count : content (record (arcs_of ((whole (pos 2) ∷ whole (pos 1) ∷ whole (negsuc 0) ∷ whole (pos 2) ∷ []) ∷ (whole (pos 1) ∷ whole (pos 1) ∷ whole (negsuc 0) ∷ whole (pos 2) ∷ []) ∷ [])
    ((whole (pos 1) ∷ whole (pos 1) ∷ whole (negsuc 0) ∷ whole (pos 2) ∷ whole (pos 4294967295) ∷ []) ∷ [])) { file = one (codes "a.py") ++ (whole (pos 2) ∷ text (codes "a.py") ∷ []) ∷ [] })
    ≡ Good (with_row (with_row (with_path paths (codes "a.py")) (record { path = codes "a.py"; context = []; from = negsuc 0; to = pos 2; count = 4294967295 }))
    (record { path = codes "a.py"; context = []; from = negsuc 0; to = pos 2; count = 1 }))
unfolding arcs_of version arcs_key one paths
greatest_count = refl

-- lines 1, 8 and 9
numbers : content (bits_of (2 ∷ 3 ∷ []))
    ≡ Good (with_row (with_row (with_row (with_path (no_data false) (codes "a.py")) (record { path = codes "a.py"; context = []; from = pos 1; to = pos 1; count = 1 }))
    (record { path = codes "a.py"; context = []; from = pos 8; to = pos 8; count = 1 })) (record { path = codes "a.py"; context = []; from = pos 9; to = pos 9; count = 1 }))
unfolding bits_of arcs_of version arcs_key one
numbers = refl
