-- The lines of a union are those of both data, merged.
--     lines_in-Rises     the lines of data are in order
--     line-in            a line is among those of data where it is one of its path
--     lines_in-union     the lines of a union
use Rattle.std.proofs.Common.{◌≡◌, ◌↔◌, inl, inr, ℕ, zero, suc, Bool, true, false, List, [], ◌∷◌, ◌++◌, map, Contains, Option, Some, None, refl, ap, sym, subst, ◌∙◌, arith}
use Rattle.std.specs.declared.cmp.Ordering.TheVariants.{Less}
use Rattle.std.specs.Prelude.{T, ◌||◌, is_some}
use Rattle.std.specs.List.{flat_map}
use Rattle.std.specs.Option.{unwrap_or}
use Rattle.std.specs.Ordering.{is_lt, nat_cmp, ordering_then}
use Rattle.std.specs.FinMap.{get, get-empty, entries, entries_sorted, is_sorted, contains_key-keys}
use Rattle.std.specs.FinMap.Entries.{below_all}
use Rattle.std.proofs.lemmas.Bool.{false≢true}
use Rattle.std.proofs.lemmas.Cmp.{nat_cmp_total, tied_itself}
use Rattle.std.proofs.lemmas.List.Elements.{Contains-append_left, Contains-append_right, Contains-append_cases}
use Rattle.cov_data.specs.DataSet.{Text, text_cmp, Place, place_cmp, File, DataSet, no_rows, file_of, union}
use Rattle.cov_data.specs.Rows.{place_lines, paths_of, lines_of}
use Rattle.cov_data.proofs.ArcLists.{lines_of-has}
use Rattle.cov_data.proofs.Distinct.{marked, Rises, distinct_in_order-Rises}
use Rattle.cov_data.proofs.FileViews.{text_cmp_total, text_cmp_same}
use Rattle.cov_data.proofs.MapViews.{first, second, less, both}
use Rattle.cov_data.proofs.Members.{or_true, bool_same, member, member-Contains, Contains-member}
use Rattle.cov_suite.specs.Merging.{line_cmp, merged}
use Rattle.cov_suite.specs.Rows.{Line, path_lines, lines_in}
use Rattle.cov_suite.proofs.DataLines.{empty, mapped, unmapped, line-left, line-right, line-either}
use Rattle.cov_suite.proofs.MergedLines.{line_cmp_total, line_cmp_same, IsBelow, same-lines, member-merged, merged-Rises}

-- ---- the lines of data are in order

-- a line is before those after it in its file
in-file : (p : Text) (l : ℕ) (ls : List ℕ) → T (below_all nat_cmp l (marked ls)) → IsBelow (p, l) (map (λ n. (p, n)) ls)
in-file p l [] h = tt
in-file p l (n ∷ ls) h =
    both _ _ (subst (λ r. T (is_lt (ordering_then r (nat_cmp l n)))) (sym (tied_itself text_cmp_total p)) (first _ _ h)) (in-file p l ls (second _ _ h))

-- and before those of a file after its own
before-file : (x : Line) (p : Text) (ls : List ℕ) → text_cmp x.0 p ≡ Less → IsBelow x (map (λ n. (p, n)) ls)
before-file x p [] t = tt
before-file x p (n ∷ ls) t = both _ _ (subst (λ r. T (is_lt (ordering_then r (nat_cmp x.1 n)))) (sym t) tt) (before-file x p ls t)

below-append : (x : Line) (us vs : List Line) → IsBelow x us → IsBelow x vs → IsBelow x (us ++ vs)
below-append x [] vs g h = h
below-append x (u ∷ us) vs g h = both _ _ (first _ _ g) (below-append x us vs (second _ _ g) h)

before-files : (d : DataSet) (x : Line) (ps : List Text) → T (below_all text_cmp x.0 (marked ps)) → IsBelow x (flat_map (path_lines d) ps)
before-files d x [] h = tt
before-files d x (p ∷ ps) h =
    below-append x (path_lines d p) (flat_map (path_lines d) ps) (before-file x p (lines_of d p) (less _ (first _ _ h))) (before-files d x ps (second _ _ h))

file-first : (p : Text) (ls : List ℕ) (others : List Line) → Rises nat_cmp ls → ((l : ℕ) → IsBelow (p, l) others) → Rises line_cmp others → Rises line_cmp (map (λ n. (p, n)) ls ++ others)
file-first p [] others g low h = h
file-first p (l ∷ ls) others g low h =
    both _ _ (below-append (p, l) (map (λ n. (p, n)) ls) others (in-file p l ls (first _ _ g)) (low l)) (file-first p ls others (second _ _ g) low h)

files-rise : (d : DataSet) (ps : List Text) → Rises text_cmp ps → Rises line_cmp (flat_map (path_lines d) ps)
files-rise d [] h = tt
files-rise d (p ∷ ps) h =
    file-first p (lines_of d p) (flat_map (path_lines d) ps) (distinct_in_order-Rises nat_cmp nat_cmp_total (flat_map (λ e. place_lines e.0) (entries (file_of d p)))) (λ l. before-files d (p, l) ps (first _ _ h)) (files-rise d ps (second _ _ h))

key-below : (p : Text) (es : List (Text × File)) → T (below_all text_cmp p es) → T (below_all text_cmp p (marked (map (λ e. e.0) es)))
key-below p [] h = tt
key-below p (e ∷ es) h = both _ _ (first _ _ h) (key-below p es (second _ _ h))

keys-rise : (es : List (Text × File)) → T (is_sorted text_cmp es) → Rises text_cmp (map (λ e. e.0) es)
keys-rise [] h = tt
keys-rise (e ∷ es) h = both _ _ (key-below e.0 es (first _ _ h)) (keys-rise es (second _ _ h))

-- the lines of data are in order
pub lines_in-Rises : (d : DataSet) → Rises line_cmp (lines_in d)
lines_in-Rises d = files-rise d (paths_of d) (keys-rise (entries d.files) (entries_sorted d.files))

-- ---- a line among those of data

in-flat : {X Y : Type 0} (f : X → List Y) (xs : List X) (y : Y) → Contains (flat_map f xs) y → (x : X) × Contains xs x × Contains (f x) y
in-flat f [] y at = absurd (empty at)
in-flat f (x ∷ xs) y at =
    elim (Contains-append_cases (f x) (flat_map f xs) y at) [
      | inl here ↦ (x, (0, omega arith, refl), here)
      | inr there ↦ let rest = in-flat f xs y there in (rest.0, (suc rest.1.0, omega (arith, rest.1.1), rest.1.2), rest.2)
    ]

flat-in : {X Y : Type 0} (f : X → List Y) (xs : List X) (x : X) (y : Y) → Contains xs x → Contains (f x) y → Contains (flat_map f xs) y
flat-in f [] x y at here = absurd (empty at)
flat-in f (z ∷ xs) x y (zero, lt, e) here = Contains-append_left (f z) (flat_map f xs) y (subst (λ w. Contains (f w) y) (sym e) here)
flat-in f (z ∷ xs) x y (suc k, lt, e) here = Contains-append_right (f z) (flat_map f xs) y (flat-in f xs x y (k, omega (arith, lt), e) here)

some-row : (x : Option File) (k : Place) → is_some (get (unwrap_or x no_rows) k) ≡ true → is_some x ≡ true
some-row None k h = absurd (false≢true (sym (ap is_some (get-empty place_cmp k)) ∙ h))
some-row (Some f) k h = refl

-- a path with a line is a path of the data
has-path : (d : DataSet) (p : Text) (l : ℕ) → Contains (lines_of d p) l → Contains (paths_of d) p
has-path d p l at =
    let row = (lines_of-has d p l).0 at in
    member-Contains text_cmp text_cmp_total text_cmp_same p (paths_of d) (sym (contains_key-keys d.files p) ∙ some-row (get d.files p) (row.1.0, row.0) row.1.1)

-- a line is among those of data where it is one of its path
pub line-in : (d : DataSet) (p : Text) (l : ℕ) → Contains (lines_in d) (p, l) ↔ Contains (lines_of d p) l
line-in d p l = (
  λ h.
      let at = in-flat (path_lines d) (paths_of d) (p, l) h in
      let n = unmapped (λ line. (at.0, line)) (lines_of d at.0) (p, l) at.2 in
      subst (λ (q : Line). Contains (lines_of d q.0) q.1) n.2 n.1,
  λ at. flat-in (path_lines d) (paths_of d) p (p, l) (has-path d p l at) (mapped (λ line. (p, line)) (lines_of d p) l at),
)

-- ---- the lines of a union

has : (q : Line) (ls : List Line) → Contains ls q → member line_cmp q ls ≡ true
has = Contains-member line_cmp line_cmp_total line_cmp_same

at : (q : Line) (ls : List Line) → member line_cmp q ls ≡ true → Contains ls q
at = member-Contains line_cmp line_cmp_total line_cmp_same

module _ (a b : DataSet) (p : Text) (l : ℕ) where
  abbrev q : Line
  q = (p, l)

  -- whether the line is among those of data
  abbrev among : DataSet → Bool
  among d = member line_cmp q (lines_in d)

  from-one : (x : Bool) → among b ≡ x → (x || among a) ≡ true → among (union a b) ≡ true
  from-one true e h = has q (lines_in (union a b)) ((line-in (union a b) p l).1 (line-right a b p l ((line-in b p l).0 (at q (lines_in b) e))))
  from-one false e h = has q (lines_in (union a b)) ((line-in (union a b) p l).1 (line-left a b p l ((line-in a p l).0 (at q (lines_in a) h))))

  to-one : among (union a b) ≡ true → (among b || among a) ≡ true
  to-one h =
      elim (line-either a b p l ((line-in (union a b) p l).0 (at q (lines_in (union a b)) h))) [
        | inl one ↦ ap (λ x. among b || x) (has q (lines_in a) ((line-in a p l).1 one)) ∙ or_true (among b)
        | inr other ↦ ap (λ x. x || among a) (has q (lines_in b) ((line-in b p l).1 other))
      ]

  same-line : member line_cmp q (merged (lines_in b) (lines_in a)) ≡ among (union a b)
  same-line = member-merged q (lines_in b) (lines_in a) ∙ bool_same (among b || among a) (among (union a b)) (from-one (among b) refl) to-one

-- those of both, merged
pub lines_in-union : (a b : DataSet) → lines_in (union a b) ≡ merged (lines_in b) (lines_in a)
lines_in-union a b =
    sym (same-lines (merged (lines_in b) (lines_in a)) (lines_in (union a b)) (merged-Rises (lines_in b) (lines_in a) (lines_in-Rises b) (lines_in-Rises a)) (lines_in-Rises (union a b)) (λ q. same-line a b q.0 q.1))
