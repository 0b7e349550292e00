-- The lines of data, as a suite lists them.
use Rattle.std.proofs.Common.{◌≡◌, ℕ, zero, suc, Bool, true, false, ◌||◌, List, [], ◌∷◌, map, Contains, Option, Some, None, refl, ap, sym, ◌∙◌, arith}
use Rattle.std.specs.List.{flat_map, list_any}
use Rattle.std.specs.Prelude.{is_some}
use Rattle.std.specs.FinMap.{get, get-empty, contains_key-keys}
use Rattle.std.specs.Option.{unwrap_or}
use Rattle.std.proofs.lemmas.List.Folds.{list_any-append, Any-from_list_any}
use Rattle.std.proofs.lemmas.Bool.{false≢true}
use Rattle.cov_data.specs.DataSet.{Text, text_cmp, Place, place_cmp, File, DataSet, no_rows}
use Rattle.cov_data.specs.Rows.{lines_of, paths_of}
use Rattle.cov_data.proofs.ArcLists.{lines_of-has}
use Rattle.cov_data.proofs.FileViews.{text_cmp_total, text_cmp_same}
use Rattle.cov_data.proofs.Members.{member-Contains}
use Rattle.cov_suite.specs.Rows.{Line, lines_in, path_lines}
use Rattle.cov_suite.proofs.DataLines.{empty, mapped}

-- ---- lists

pub or_true : (b : Bool) → (b || true) ≡ true
or_true true = refl
or_true false = refl

pub any-found : {X : Type 0} (f : X → Bool) (xs : List X) (x : X) → Contains xs x → f x ≡ true → list_any f xs ≡ true
any-found f [] x at h = absurd (empty at)
any-found f (y ∷ xs) x (zero, lt, e) h = ap (λ b. b || list_any f xs) (ap f e ∙ h)
any-found f (y ∷ xs) x (suc k, lt, e) h = ap (λ b. f y || b) (any-found f xs x (k, omega (arith, lt), e) h) ∙ or_true (f y)

pub any-flat : {X Y : Type 0} (f : Y → Bool) (g : X → List Y) (xs : List X) (x : X) → Contains xs x → list_any f (g x) ≡ true → list_any f (flat_map g xs) ≡ true
any-flat f g [] x at h = absurd (empty at)
any-flat f g (y ∷ xs) x (zero, lt, e) h = list_any-append f (g y) (flat_map g xs) ∙ ap (λ b. b || list_any f (flat_map g xs)) (ap (λ z. list_any f (g z)) e ∙ h)
any-flat f g (y ∷ xs) x (suc k, lt, e) h =
    list_any-append f (g y) (flat_map g xs) ∙ ap (λ b. list_any f (g y) || b) (any-flat f g xs x (k, omega (arith, lt), e) h) ∙ or_true (list_any f (g y))

-- something of a list passes a test
pub found : {X : Type 0} (f : X → Bool) (xs : List X) → list_any f xs ≡ true → (x : X) × Contains xs x × (f x ≡ true)
found f xs h = let at = Any-from_list_any f xs h in (at.1, (at.0, at.2, at.3), at.4)

-- of lists in a row, it stands in one
found-flat : {X Y : Type 0} (f : Y → Bool) (g : X → List Y) (xs : List X) → list_any f (flat_map g xs) ≡ true → (x : X) × Contains xs x × (list_any f (g x) ≡ true)
found-flat f g [] h = absurd (false≢true h)
found-flat {X = X} f g (y ∷ xs) h = by_case (list_any f (g y)) refl (found-flat f g xs) where
  by_case : (b : Bool) → list_any f (g y) ≡ b → (list_any f (flat_map g xs) ≡ true → (x : X) × Contains xs x × (list_any f (g x) ≡ true)) → (x : X) × Contains (y ∷ xs) x × (list_any f (g x) ≡ true)
  by_case true e rest = (y, (0, omega arith, refl), e)
  by_case false e rest =
      let more = rest (sym (list_any-append f (g y) (flat_map g xs) ∙ ap (λ b. b || list_any f (flat_map g xs)) e) ∙ h) in
      (more.0, (suc more.1.0, omega (arith, more.1.1), more.1.2), more.2)

any-map : {X Y : Type 0} (f : Y → Bool) (g : X → Y) (xs : List X) → list_any f (map g xs) ≡ list_any (λ x. f (g x)) xs
any-map f g [] = refl
any-map f g (x ∷ xs) = ap (λ b. f (g x) || b) (any-map f g xs)

-- ---- lines of data

some_row : (x : Option File) (k : Place) → is_some (get (unwrap_or x no_rows) k) ≡ true → is_some x ≡ true
some_row None k h = absurd (false≢true (sym (ap is_some (get-empty place_cmp k)) ∙ h))
some_row (Some f) k h = refl

-- a path with a line is a path of the data
has_path : (d : DataSet) (p : Text) (l : ℕ) → Contains (lines_of d p) l → Contains (paths_of d) p
has_path d p l at =
    let row = (lines_of-has d p l).0 at in
    member-Contains text_cmp text_cmp_total text_cmp_same p (paths_of d) (sym (contains_key-keys d.files p) ∙ some_row (get d.files p) (row.1.0, row.0) row.1.1)

-- a line of data is among all of them
pub any-line : (which : Line → Bool) (d : DataSet) (p : Text) (l : ℕ) → Contains (lines_of d p) l → which (p, l) ≡ true → list_any which (lines_in d) ≡ true
any-line which d p l at h =
    any-flat which (path_lines d) (paths_of d) p (has_path d p l at)
    (any-found which (path_lines d p) (p, l) (mapped (λ line. (p, line)) (lines_of d p) l at) h)

-- among all lines of data is one of a path
pub line-found : (which : Line → Bool) (d : DataSet) → list_any which (lines_in d) ≡ true → (p : Text) × (l : ℕ) × Contains (lines_of d p) l × (which (p, l) ≡ true)
line-found which d h =
    let at = found-flat which (path_lines d) (paths_of d) h in
    let line = found (λ l. which (at.0, l)) (lines_of d at.0) (sym (any-map which (λ l. (at.0, l)) (lines_of d at.0)) ∙ at.2) in
    (at.0, line.0, line.1, line.2)
