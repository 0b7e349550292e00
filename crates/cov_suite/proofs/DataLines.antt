-- The lines of data, and those of a union.
--     line-left, line-right, line-either   the lines of a union are those of the one and of the other
--     no-line-zero                         0 is no line of data
use Rattle.std.proofs.Common.{◌≡◌, ◌⊎◌, inl, inr, ℕ, zero, suc, ◌<◌, ℤ, pos, negsuc, nat_eq, Bool, true, false, cond, ◌||◌, List, [], ◌∷◌, ◌++◌, map, Contains, Option, Some, None, refl, ap, sym, ◌∙◌, arith}
use Rattle.std.specs.List.{list_any}
use Rattle.std.specs.Prelude.{is_some}
use Rattle.std.specs.FinMap.{get, nat_cmp-IsAntisymmetric}
use Rattle.std.specs.Ordering.{eq_by_cmp, nat_cmp}
use Rattle.std.proofs.lemmas.Bool.{false≢true, eq-eqb}
use Rattle.std.proofs.lemmas.Cmp.{nat_cmp_total}
use Rattle.std.proofs.lemmas.List.Folds.{list_any-append}
use Rattle.cov_data.specs.DataSet.{Text, Place, DataSet, joined_count, file_of, union}
use Rattle.cov_data.specs.Rows.{lines_in, lines_of}
use Rattle.cov_data.proofs.ArcLists.{lines_of-has}
use Rattle.cov_data.proofs.Members.{member-one}
use Rattle.cov_data.proofs.Merging.{joined, get-merged}
use Rattle.cov_data.proofs.Soundness.{file_in-all_files}

-- ---- lists

or-true : (b : Bool) → (b || true) ≡ true
or-true true = refl
or-true false = refl

pub empty : {X : Type 0} {x : X} → Contains [] x → ⊥
empty at = let lt : at.0 < 0 = at.1 in omega (arith, lt)

pub mapped : {X Y : Type 0} (f : X → Y) (xs : List X) (x : X) → Contains xs x → Contains (map f xs) (f x)
mapped f [] x at = absurd (empty at)
mapped f (y ∷ xs) x (zero, lt, e) = (0, omega arith, ap f e)
mapped f (y ∷ xs) x (suc k, lt, e) = let rest = mapped f xs x (k, omega (arith, lt), e) in (suc rest.0, omega (arith, rest.1), rest.2)

pub unmapped : {X Y : Type 0} (f : X → Y) (xs : List X) (y : Y) → Contains (map f xs) y → (x : X) × Contains xs x × (f x ≡ y)
unmapped f [] y at = absurd (empty at)
unmapped f (x ∷ xs) y (zero, lt, e) = (x, (0, omega arith, refl), e)
unmapped f (x ∷ xs) y (suc k, lt, e) = let rest = unmapped f xs y (k, omega (arith, lt), e) in (rest.0, (suc rest.1.0, omega (arith, rest.1.1), rest.1.2), rest.2)

-- the lines among the two numbers of a row
abbrev end_lines : ℤ × ℤ → List ℕ
end_lines a = lines_in a.0 ++ lines_in a.1

abbrev has_line : ℕ → List ℕ → Bool
has_line l lines = list_any (eq_by_cmp nat_cmp l) lines

-- ---- unions

joins : (x y : Option ℕ) → is_some (joined joined_count x y) ≡ (is_some x || is_some y)
joins None None = refl
joins (Some m) None = refl
joins None (Some n) = refl
joins (Some m) (Some n) = refl

row-union : (a b : DataSet) (p : Text) (k : Place) → is_some (get (file_of (union a b) p) k) ≡ (is_some (get (file_of a p) k) || is_some (get (file_of b p) k))
row-union a b p k =
    ap (λ f. is_some (get f k)) (file_in-all_files a.files b.files p) ∙ ap is_some (get-merged (file_of a p) (file_of b p) k)
    ∙ joins (get (file_of a p) k) (get (file_of b p) k)

pub line-left : (a b : DataSet) (p : Text) (l : ℕ) → Contains (lines_of a p) l → Contains (lines_of (union a b) p) l
line-left a b p l at =
    let row = (lines_of-has a p l).0 at in let k : Place = (row.1.0, row.0) in
    (lines_of-has (union a b) p l).1 (row.0, (row.1.0, row-union a b p k ∙ ap (λ t. t || is_some (get (file_of b p) k)) row.1.1), row.2)

pub line-right : (a b : DataSet) (p : Text) (l : ℕ) → Contains (lines_of b p) l → Contains (lines_of (union a b) p) l
line-right a b p l at =
    let row = (lines_of-has b p l).0 at in let k : Place = (row.1.0, row.0) in
    (lines_of-has (union a b) p l).1 (row.0, (row.1.0, row-union a b p k ∙ ap (λ t. is_some (get (file_of a p) k) || t) row.1.1 ∙ or-true (is_some (get (file_of a p) k))), row.2)

either-row : (a b : DataSet) (p : Text) (l : ℕ) (k : Place) → (t : Bool) → is_some (get (file_of a p) k) ≡ t → (t || is_some (get (file_of b p) k)) ≡ true → has_line l (end_lines k.1) ≡ true → Contains (lines_of a p) l ⊎ Contains (lines_of b p) l
either-row a b p l k true e h is = inl ((lines_of-has a p l).1 (k.1, (k.0, e), is))
either-row a b p l k false e h is = inr ((lines_of-has b p l).1 (k.1, (k.0, h), is))

pub line-either : (a b : DataSet) (p : Text) (l : ℕ) → Contains (lines_of (union a b) p) l → Contains (lines_of a p) l ⊎ Contains (lines_of b p) l
line-either a b p l at =
    let row = (lines_of-has (union a b) p l).0 at in let k : Place = (row.1.0, row.0) in
    either-row a b p l k (is_some (get (file_of a p) k)) refl (sym (row-union a b p k) ∙ row.1.1) row.2

-- 0 is none of the two numbers of a row
zero-out : (n : ℕ) (b : Bool) → nat_eq n 0 ≡ b → has_line 0 (cond b [] (n ∷ [])) ≡ true → ⊥
zero-out n true e h = false≢true h
zero-out n false e h = let same : 0 ≡ n = member-one nat_cmp nat_cmp_total nat_cmp-IsAntisymmetric 0 n h in false≢true (sym e ∙ eq-eqb n 0 (sym same))

not-zero : (z : ℤ) → has_line 0 (lines_in z) ≡ true → ⊥
not-zero (pos n) h = zero-out n (nat_eq n 0) refl h
not-zero (negsuc n) h = false≢true h

no-end-zero : (a : ℤ × ℤ) (b : Bool) → has_line 0 (lines_in a.0) ≡ b → (b || has_line 0 (lines_in a.1)) ≡ true → ⊥
no-end-zero a true e h = not-zero a.0 e
no-end-zero a false e h = not-zero a.1 h

pub no-line-zero : (d : DataSet) (p : Text) → Contains (lines_of d p) 0 → ⊥
no-line-zero d p at =
    let row = (lines_of-has d p 0).0 at in
    no-end-zero row.0 (has_line 0 (lines_in row.0.0)) refl (sym (list_any-append (eq_by_cmp nat_cmp 0) (lines_in row.0.0) (lines_in row.0.1)) ∙ row.2)
