-- What combined data hold, path by path and row by row.
use Rattle.std.proofs.Common.{◌≡◌, ◌↔◌, ℕ, ℤ, ◌+◌, ◌≤◌, min, Bool, true, false, cond, List, [], ◌∷◌, All, Contains, Option, Some, None, Ordering, is_some, refl, ap, sym, subst, ◌∙◌, arith}
use Rattle.std.specs.declared.cmp.Ordering.TheVariants.{Less, Equal, Greater}
use Rattle.std.specs.Prelude.{◌||◌}
use Rattle.std.specs.Ordering.{is_eq, eq_by_cmp}
use Rattle.std.specs.Option.{unwrap_or}
use Rattle.std.specs.List.{fold, list_any, sum_by, AllByRecursion}
use Rattle.std.specs.FinMap.{get, get-insert, get-empty, contains_key-keys}
use Rattle.std.proofs.lemmas.Cmp.{tied_itself}
use Rattle.std.proofs.lemmas.List.Elements.{recursion_from_All}
use Rattle.std.proofs.lemmas.List.Folds.{Any-from_list_any, list_any_at}
use Rattle.std.proofs.lemmas.List.Sums.{sum_by-cons}
use Rattle.cov_data.specs.DataSet.{Text, text_cmp, Place, File, DataSet, joined_count, no_data, no_rows, file_of, has_path, count_at, merged, with_file, IsSound}
use Rattle.cov_data.specs.Rows.{paths_of}
use Rattle.cov_data.proofs.FileViews.{text_cmp_total, text_cmp_same}
use Rattle.cov_data.proofs.Members.{or_true, member-Contains, Contains-member}
use Rattle.cov_data.proofs.Merging.{joined, get-merged}
use Rattle.cov_data.proofs.Soundness.{file_in-insert, file_in-none}
use Rattle.cov_combine.specs.Combined.{with_renamed, flag_of, combined, has_row}
use Rattle.cov_combine.specs.Pointwise.{SomeHas, count_under, PointwiseLaw}
use Rattle.cov_combine.proofs.Laws.{combined-alone}
use Rattle.cov_combine.proofs.Unions.{with_renamed-paths}

-- ---- tests of lists

or_false : (b : Bool) → (b || false) ≡ b
or_false true = refl
or_false false = refl

or_assoc : (a b c : Bool) → ((a || b) || c) ≡ (a || (b || c))
or_assoc true b c = refl
or_assoc false b c = refl

passes : {X : Type 0} (t : X → Bool) (xs : List X) → (list_any t xs ≡ true) ↔ ((x : X) × Contains xs x × (t x ≡ true))
passes t xs = (
  λ h. let at = Any-from_list_any t xs h in (at.1, (at.0, at.2, at.3), at.4),
  λ h. let there = h.1 in list_any_at t xs there.0 h.0 there.1 (ap t there.2 ∙ h.2),
)

is_equal : (r : Ordering) → is_eq r ≡ true → r ≡ Equal
is_equal Less h = cc
is_equal Equal h = refl
is_equal Greater h = cc

both_hold : (b t : Bool) → cond b t false ≡ true → (b ≡ true) × (t ≡ true)
both_hold true t h = (refl, h)
both_hold false t h = cc

-- ---- paths of data

listed-path : (d : DataSet) (q : Text) → (has_path d q ≡ true) ↔ Contains (paths_of d) q
listed-path d q = (
  λ h. member-Contains text_cmp text_cmp_total text_cmp_same q (paths_of d) (sym (contains_key-keys d.files q) ∙ h),
  λ h. contains_key-keys d.files q ∙ Contains-member text_cmp text_cmp_total text_cmp_same q (paths_of d) h,
)

some_there : (k : Place) (o : Option File) → is_some (get (unwrap_or o no_rows) k) ≡ true → is_some o ≡ true
some_there k None h = let none = get-empty {X = ℕ} _ k in let bad : false ≡ true = sym (ap is_some none) ∙ h in cc
some_there k (Some f) h = refl

-- a path that has a row is there
path-of_row : (d : DataSet) (q : Text) (k : Place) → has_row d q k ≡ true → has_path d q ≡ true
path-of_row d q k h = some_there k (get d.files q) h

-- ---- counts, and the greatest

some_joined : (x y : Option ℕ) → is_some (joined joined_count x y) ≡ (is_some x || is_some y)
some_joined None None = refl
some_joined (Some m) None = refl
some_joined None (Some n) = refl
some_joined (Some m) (Some n) = refl

none_more : (n : ℕ) → min n 4294967295 ≡ min (n + 0) 4294967295
none_more n = omega arith

from_none : (n : ℕ) → min (0 + n) 4294967295 ≡ min n 4294967295
from_none n = omega arith

bounded : (n : ℕ) → n ≤ 4294967295 → n ≡ min n 4294967295
bounded n h = omega (arith, h)

more_counted : (x y z s : ℕ) → min x 4294967295 ≡ min (y + z) 4294967295 → min (x + s) 4294967295 ≡ min (y + (z + s)) 4294967295
more_counted x y z s h = omega (arith, h)

count_joined : (x y : Option ℕ) → min (unwrap_or (joined joined_count x y) 0) 4294967295 ≡ min (unwrap_or x 0 + unwrap_or y 0) 4294967295
count_joined None None = omega arith
count_joined (Some m) None = omega arith
count_joined None (Some n) = omega arith
count_joined (Some m) (Some n) = omega arith

bound_joined : (x y : Option ℕ) → unwrap_or x 0 ≤ 4294967295 → unwrap_or y 0 ≤ 4294967295 → unwrap_or (joined joined_count x y) 0 ≤ 4294967295
bound_joined None None h g = omega arith
bound_joined (Some m) None h g = h
bound_joined None (Some n) h g = g
bound_joined (Some m) (Some n) h g = omega arith

at_most : (x : Option ℕ) → ((n : ℕ) → x ≡ Some n → n ≤ 4294967295) → unwrap_or x 0 ≤ 4294967295
at_most None h = omega arith
at_most (Some n) h = h n refl

-- ---- what is told of data grows with each file that is joined

module _ (alias : Text → Text) (p : Text) where
  abbrev named : (DataSet → Text → Bool) → DataSet → Text → Bool
  named has d q = cond (eq_by_cmp text_cmp p (alias q)) (has d q) false

  module _ (see : DataSet → Bool) (has : DataSet → Text → Bool)
      (step : (m d : DataSet) (q : Text) → see (with_file m (alias q) (file_of d q)) ≡ (see m || named has d q)) where
    seen-paths : (d : DataSet) (qs : List Text) (m : DataSet) → see (fold (λ m q. with_file m (alias q) (file_of d q)) m qs) ≡ (see m || list_any (named has d) qs)
    seen-paths d [] m = sym (or_false (see m))
    seen-paths d (q ∷ qs) m =
        seen-paths d qs (with_file m (alias q) (file_of d q))
        ∙ ap (λ b. b || list_any (named has d) qs) (step m d q)
        ∙ or_assoc (see m) (named has d q) (list_any (named has d) qs)

    seen-inputs : (ds : List DataSet) (m : DataSet) → see (fold (with_renamed alias) m ds) ≡ (see m || list_any (λ d. list_any (named has d) (paths_of d)) ds)
    seen-inputs [] m = sym (or_false (see m))
    seen-inputs (d ∷ ds) m =
        let rest = list_any (λ d. list_any (named has d) (paths_of d)) ds in
        seen-inputs ds (with_renamed alias m d)
        ∙ ap (λ b. b || rest) (sym (ap see (with_renamed-paths alias d m)) ∙ seen-paths d (paths_of d) m)
        ∙ or_assoc (see m) (list_any (named has d) (paths_of d)) rest

  same-alias : (q : Text) → eq_by_cmp text_cmp p (alias q) ≡ true → alias q ≡ p
  same-alias q h = sym (text_cmp_same p (alias q) (is_equal (text_cmp p (alias q)) h))

  tied-alias : (q : Text) → alias q ≡ p → eq_by_cmp text_cmp p (alias q) ≡ true
  tied-alias q h = ap (λ x. is_eq (text_cmp p x)) h ∙ ap is_eq (tied_itself text_cmp_total p)

  some-input : (has : DataSet → Text → Bool) (ds : List DataSet) → (list_any (λ d. list_any (named has d) (paths_of d)) ds ≡ true)
      ↔ ((d : DataSet) × (q : Text) × Contains ds d × (alias q ≡ p) × Contains (paths_of d) q × (has d q ≡ true))
  some-input has ds = (
    λ h.
        let at = (passes (λ d. list_any (named has d) (paths_of d)) ds).0 h in
        let there = (passes (named has at.0) (paths_of at.0)).0 at.2 in
        let both = both_hold (eq_by_cmp text_cmp p (alias there.0)) (has at.0 there.0) there.2 in
        (at.0, there.0, at.1, same-alias there.0 both.0, there.1, both.1),
    λ h.
        (passes (λ d. list_any (named has d) (paths_of d)) ds).1
        (h.0, h.2, (passes (named has h.0) (paths_of h.0)).1 (h.1, h.4, ap (λ b. cond b (has h.0 h.1) false) (tied-alias h.1 h.3) ∙ h.5)),
  )

  -- ---- one file more

  path-step : (m d : DataSet) (q : Text) → has_path (with_file m (alias q) (file_of d q)) p ≡ (has_path m p || named (λ d q. true) d q)
  path-step m d q =
      let v = merged (file_of m (alias q)) (file_of d q) in
      ap is_some (get-insert text_cmp_total m.files (alias q) v p)
      ∙ elim (eq_by_cmp text_cmp p (alias q)) as (λ b. is_some (cond b (Some v) (get m.files p)) ≡ (is_some (get m.files p) || cond b true false)) [
        | true ↦ sym (or_true (has_path m p))
        | false ↦ sym (or_false (has_path m p))
      ]

  module _ (k : Place) where
    row-step : (m d : DataSet) (q : Text) → has_row (with_file m (alias q) (file_of d q)) p k ≡ (has_row m p k || named (λ d q. has_row d q k) d q)
    row-step m d q =
        let a = alias q in
        let f = file_of d q in
        let v = merged (file_of m a) f in
        ap (λ g. is_some (get g k)) (file_in-insert m.files a v p)
        ∙ elim (text_cmp p a) as (λ r. text_cmp p a ≡ r → is_some (get (cond (is_eq r) v (file_of m p)) k) ≡ (has_row m p k || cond (is_eq r) (is_some (get f k)) false)) [
          | Less ↦ λ t. sym (or_false (has_row m p k))
          | Equal ↦ λ t. ap is_some (get-merged (file_of m a) f k) ∙ some_joined (get (file_of m a) k) (get f k) ∙ ap (λ x. has_row m x k || is_some (get f k)) (sym (text_cmp_same p a t))
          | Greater ↦ λ t. sym (or_false (has_row m p k))
        ] refl

    -- the count of the row
    abbrev count : File → ℕ
    count f = unwrap_or (get f k) 0

    abbrev counted : DataSet → Text → ℕ
    counted d q = cond (eq_by_cmp text_cmp p (alias q)) (count (file_of d q)) 0

    abbrev counted_in : DataSet → ℕ
    counted_in d = sum_by (counted d) (paths_of d)

    count-step : (m d : DataSet) (q : Text) → min (count (file_of (with_file m (alias q) (file_of d q)) p)) 4294967295 ≡ min (count (file_of m p) + counted d q) 4294967295
    count-step m d q =
        let a = alias q in
        let f = file_of d q in
        let v = merged (file_of m a) f in
        ap (λ g. min (count g) 4294967295) (file_in-insert m.files a v p)
        ∙ elim (text_cmp p a) as (λ r. text_cmp p a ≡ r → min (count (cond (is_eq r) v (file_of m p))) 4294967295 ≡ min (count (file_of m p) + cond (is_eq r) (count f) 0) 4294967295) [
          | Less ↦ λ t. none_more (count (file_of m p))
          | Equal ↦ λ t. ap (λ o. min (unwrap_or o 0) 4294967295) (get-merged (file_of m a) f k) ∙ count_joined (get (file_of m a) k) (get f k)
              ∙ ap (λ x. min (count (file_of m x) + count f) 4294967295) (sym (text_cmp_same p a t))
          | Greater ↦ λ t. none_more (count (file_of m p))
        ] refl

    counts-paths : (d : DataSet) (qs : List Text) (m : DataSet) → min (count (file_of (fold (λ m q. with_file m (alias q) (file_of d q)) m qs) p)) 4294967295 ≡ min (count (file_of m p) + sum_by (counted d) qs) 4294967295
    counts-paths d [] m = none_more (count (file_of m p))
    counts-paths d (q ∷ qs) m =
        let next = with_file m (alias q) (file_of d q) in
        counts-paths d qs next
        ∙ more_counted (count (file_of next p)) (count (file_of m p)) (counted d q) (sum_by (counted d) qs) (count-step m d q)
        ∙ ap (λ s. min (count (file_of m p) + s) 4294967295) (sym (sum_by-cons (counted d) q qs))

    counts-inputs : (ds : List DataSet) (m : DataSet) → min (count (file_of (fold (with_renamed alias) m ds) p)) 4294967295 ≡ min (count (file_of m p) + sum_by counted_in ds) 4294967295
    counts-inputs [] m = none_more (count (file_of m p))
    counts-inputs (d ∷ ds) m =
        let next = with_renamed alias m d in
        counts-inputs ds next
        ∙ more_counted (count (file_of next p)) (count (file_of m p)) (counted_in d) (sum_by counted_in ds)
        (sym (ap (λ w. min (count (file_of w p)) 4294967295) (with_renamed-paths alias d m)) ∙ counts-paths d (paths_of d) m)
        ∙ ap (λ s. min (count (file_of m p) + s) 4294967295) (sym (sum_by-cons counted_in d ds))

    -- no count is beyond the greatest
    bound-step : (m : DataSet) (a : Text) (f : File) → count (file_of m p) ≤ 4294967295 → count f ≤ 4294967295 → count (file_of (with_file m a f) p) ≤ 4294967295
    bound-step m a f h g =
        let v = merged (file_of m a) f in
        subst (λ g. count g ≤ 4294967295) (sym (file_in-insert m.files a v p))
        (elim (text_cmp p a) as (λ r. text_cmp p a ≡ r → count (cond (is_eq r) v (file_of m p)) ≤ 4294967295) [
          | Less ↦ λ t. h
          | Equal ↦ λ t. subst (λ o. unwrap_or o 0 ≤ 4294967295) (sym (get-merged (file_of m a) f k))
              (bound_joined (get (file_of m a) k) (get f k) (subst (λ x. count (file_of m x) ≤ 4294967295) (text_cmp_same p a t) h) g)
          | Greater ↦ λ t. h
        ] refl)

    bound-paths : (d : DataSet) → IsSound d → (qs : List Text) (m : DataSet) → count (file_of m p) ≤ 4294967295 → count (file_of (fold (λ m q. with_file m (alias q) (file_of d q)) m qs) p) ≤ 4294967295
    bound-paths d sound [] m h = h
    bound-paths d sound (q ∷ qs) m h =
        bound-paths d sound qs (with_file m (alias q) (file_of d q)) (bound-step m (alias q) (file_of d q) h (at_most (get (file_of d q) k) (λ n e. (sound q k n e).1)))

    bound-inputs : (ds : List DataSet) → AllByRecursion IsSound ds → (m : DataSet) → count (file_of m p) ≤ 4294967295 → count (file_of (fold (with_renamed alias) m ds) p) ≤ 4294967295
    bound-inputs [] sound m h = h
    bound-inputs (d ∷ ds) sound m h =
        bound-inputs ds sound.1 (with_renamed alias m d) (subst (λ w. count (file_of w p) ≤ 4294967295) (with_renamed-paths alias d m) (bound-paths d sound.0 (paths_of d) m h))

-- ---- all inputs

module _ (alias : Text → Text) (ds : List DataSet) (p : Text) where
  no-row : (k : Place) → get (file_of (no_data (flag_of ds)) p) k ≡ None
  no-row k = ap (λ f. get f k) (file_in-none p) ∙ get-empty _ k

  any-path : has_path (combined alias ds) p ≡ list_any (λ d. list_any (named alias p (λ d q. true) d) (paths_of d)) ds
  any-path =
      seen-inputs alias p (λ m. has_path m p) (λ d q. true) (path-step alias p) ds (no_data (flag_of ds))
      ∙ ap (λ b. b || list_any (λ d. list_any (named alias p (λ d q. true) d) (paths_of d)) ds) (ap is_some (get-empty text_cmp p))

  any-row : (k : Place) → has_row (combined alias ds) p k ≡ list_any (λ d. list_any (named alias p (λ d q. has_row d q k) d) (paths_of d)) ds
  any-row k =
      seen-inputs alias p (λ m. has_row m p k) (λ d q. has_row d q k) (row-step alias p k) ds (no_data (flag_of ds))
      ∙ ap (λ b. b || list_any (λ d. list_any (named alias p (λ d q. has_row d q k) d) (paths_of d)) ds) (ap is_some (no-row k))

  paths_of-combined : (has_path (combined alias ds) p ≡ true) ↔ SomeHas alias ds p has_path
  paths_of-combined = (
    λ h. let s = (some-input alias p (λ d q. true) ds).0 (sym any-path ∙ h) in (s.0, s.1, s.2, s.3, (listed-path s.0 s.1).1 s.4),
    λ h. any-path ∙ (some-input alias p (λ d q. true) ds).1 (h.0, h.1, h.2, h.3, (listed-path h.0 h.1).0 h.4, refl),
  )

  rows_of-combined : (k : Place) → (has_row (combined alias ds) p k ≡ true) ↔ SomeHas alias ds p (λ d q. has_row d q k)
  rows_of-combined k = (
    λ h. let s = (some-input alias p (λ d q. has_row d q k) ds).0 (sym (any-row k) ∙ h) in (s.0, s.1, s.2, s.3, s.5),
    λ h. any-row k ∙ (some-input alias p (λ d q. has_row d q k) ds).1 (h.0, h.1, h.2, h.3, (listed-path h.0 h.1).0 (path-of_row h.0 h.1 k h.4), h.4),
  )

  counts_of-combined : All IsSound ds → (context : Text) (from to : ℤ) → count_at (combined alias ds) p context from to ≡ min (sum_by (count_under alias p context from to) ds) 4294967295
  counts_of-combined sound context from to =
      let k : Place = (context, (from, to)) in
      let nothing : count alias p k (file_of (no_data (flag_of ds)) p) ≡ 0 = ap (λ o. unwrap_or o 0) (no-row k) in
      bounded (count_at (combined alias ds) p context from to)
      (bound-inputs alias p k ds (recursion_from_All IsSound ds sound) (no_data (flag_of ds)) (omega (arith, nothing)))
      ∙ counts-inputs alias p k ds (no_data (flag_of ds))
      ∙ ap (λ n. min (n + sum_by (count_under alias p context from to) ds) 4294967295) nothing
      ∙ from_none (sum_by (count_under alias p context from to) ds)

pub holds_inputs : PointwiseLaw
holds_inputs alias ds sound = record {
  flag = ap (λ (d : DataSet). d.arcs) (combined-alone alias ds);
  paths = λ p. paths_of-combined alias ds p;
  rows = λ p k. rows_of-combined alias ds p k;
  counts = λ p context from to. counts_of-combined alias ds p sound context from to;
}
