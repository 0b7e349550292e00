-- A file as counts by context: what a look-up finds in it, its entries, and its changes.
use Rattle.std.proofs.Common.{◌≡◌, ℕ, ℤ, true, false, cond, List, [], ◌∷◌, ◌++◌, map, Option, Some, None, Ordering, refl, ap, sym, subst, ◌∙◌, append-nil}
use Rattle.std.specs.declared.cmp.Ordering.TheVariants.{Less, Equal, Greater}
use Rattle.std.specs.Prelude.{T}
use Rattle.std.specs.Option.{unwrap_or}
use Rattle.std.specs.Ordering.{is_eq, is_lt, eq_by_cmp, nat_cmp, ordering_then}
use Rattle.std.specs.Cmp.{tied_itself}
use Rattle.std.specs.List.{fold, flat_map}
use Rattle.std.specs.BTreeSet.{insert_key}
use Rattle.std.specs.FinMap.{FinMap, empty, get, insert, entries, find, is_sorted, entries_sorted, get-entries, get-empty, get-insert, get-from_entries, get_tied, same_map}
use Rattle.std.specs.FinMap.Entries.{below_all}
use Rattle.std.proofs.lemmas.List.{map-append}
use Rattle.std.proofs.lemmas.List.Sums.{fold-append}
use Rattle.std.proofs.lemmas.List.Concat.{flat_map-append}
use Rattle.cov_data.specs.DataSet.{Text, text_cmp, Place, place_cmp, File, joined_count, add_count, merged, no_rows}
use Rattle.cov_data.specs.Rows.{arc_cmp, place_lines}
use Rattle.cov_data.specs.Stored.{Counts, no_counts, add_at, both_counts, number_lines, under, listed, file_with, add_under}
use Rattle.cov_data.proofs.MapViews.{first, second, less, both, entries-from_entries}
use Rattle.cov_data.proofs.FileViews.{text_cmp_total, arc_cmp_total, place_cmp_total, place_cmp_same}
use Rattle.cov_data.proofs.Merging.{joined, find-below, get-fold, get-both_counts}

-- counts by context
abbrev pub Contexts : Type 0
Contexts = FinMap text_cmp Counts

abbrev Arc : Type 0
Arc = ℤ × ℤ

-- the counts of a context: none where it is absent
abbrev pub counts_in : Contexts → Text → Counts
counts_in m c = unwrap_or (get m c) no_counts

-- ---- what a look-up finds

find-under : (c k : Text) (a : Arc) (es : List (Arc × ℕ)) → find place_cmp (c, a) (under k es) ≡ cond (eq_by_cmp text_cmp c k) (find arc_cmp a es) None
find-under c k a [] = elim (eq_by_cmp text_cmp c k) as (λ b. None ≡ cond {A = Option ℕ} b None None) [ true ↦ refl | false ↦ refl ]
find-under c k a (e ∷ es) =
    ap (cond (eq_by_cmp place_cmp (c, a) (k, e.0)) (Some e.1)) (find-under c k a es)
    ∙ elim (text_cmp c k) as (λ r. cond (is_eq (ordering_then r (arc_cmp a e.0))) (Some e.1) (cond (is_eq r) (find arc_cmp a es) None) ≡ cond (is_eq r) (find arc_cmp a (e ∷ es)) None) [ Less ↦ refl | Equal ↦ refl | Greater ↦ refl ]

-- the first of two, and else the second
abbrev either : Option ℕ → Option ℕ → Option ℕ
either None o = o
either (Some n) o = Some n

find-append : {K : Type 0} (R : K → K → Ordering) (q : K) (xs ys : List (K × ℕ)) → find R q (xs ++ ys) ≡ either (find R q xs) (find R q ys)
find-append R q [] ys = refl
find-append R q (x ∷ xs) ys =
    ap (cond (eq_by_cmp R q x.0) (Some x.1)) (find-append R q xs ys)
    ∙ elim (eq_by_cmp R q x.0) as (λ b. cond b (Some x.1) (either (find R q xs) (find R q ys)) ≡ either (cond b (Some x.1) (find R q xs)) (find R q ys)) [ true ↦ refl | false ↦ refl ]

counts_at : Option Counts → Arc → Option ℕ
counts_at o a = get (unwrap_or o no_counts) a

either-none : (x y : Option ℕ) → y ≡ None → either x y ≡ x
either-none None y is = is
either-none (Some n) y is = refl

find-listed : (c : Text) (a : Arc) (es : List (Text × Counts)) → T (is_sorted text_cmp es) → find place_cmp (c, a) (listed es) ≡ counts_at (find text_cmp c es) a
unfolding counts_at
find-listed c a [] h = sym (get-empty arc_cmp a)
find-listed c a (e ∷ es) h =
    find-append place_cmp (c, a) (under e.0 (entries e.1)) (listed es)
    ∙ (λ i. either (find-under c e.0 a (entries e.1) i) (find-listed c a es (second _ _ h) i))
    ∙ elim (text_cmp c e.0) as (λ r. text_cmp c e.0 ≡ r → either (cond (is_eq r) (find arc_cmp a (entries e.1)) None) (counts_at (find text_cmp c es) a) ≡ counts_at (cond (is_eq r) (Some e.1) (find text_cmp c es)) a) [
      | Less ↦ λ t. refl
      | Equal ↦ λ t. either-none _ _ (ap (λ o. counts_at o a) (find-below text_cmp_total c e.0 es t (first _ _ h)) ∙ get-empty arc_cmp a) ∙ sym (get-entries e.1 a)
      | Greater ↦ λ t. refl
    ] refl

pub get-file_with : (m : Contexts) (c : Text) (a : Arc) → get (file_with m) (c, a) ≡ get (counts_in m c) a
unfolding file_with counts_at
get-file_with m c a = get-from_entries place_cmp_total (listed (entries m)) (c, a) ∙ find-listed c a (entries m) (entries_sorted m) ∙ ap (λ o. counts_at o a) (sym (get-entries m c))

-- ---- its entries

below-under : (c : Text) (a : Arc) (es : List (Arc × ℕ)) → T (below_all arc_cmp a es) → T (below_all place_cmp (c, a) (under c es))
below-under c a [] h = tt
below-under c a (e ∷ es) h = both _ _ (subst (λ r. T (is_lt (ordering_then r (arc_cmp a e.0)))) (sym (tied_itself text_cmp_total c)) (first _ _ h)) (below-under c a es (second _ _ h))

below-later : (c k : Text) (a : Arc) → text_cmp c k ≡ Less → (es : List (Arc × ℕ)) → T (below_all place_cmp (c, a) (under k es))
below-later c k a is [] = tt
below-later c k a is (e ∷ es) = both _ _ (subst (λ r. T (is_lt (ordering_then r (arc_cmp a e.0)))) (sym is) tt) (below-later c k a is es)

below-append : (x : Place) (xs ys : List (Place × ℕ)) → T (below_all place_cmp x xs) → T (below_all place_cmp x ys) → T (below_all place_cmp x (xs ++ ys))
below-append x [] ys g h = h
below-append x (e ∷ xs) ys g h = both _ _ (first _ _ g) (below-append x xs ys (second _ _ g) h)

below-listed : (c : Text) (a : Arc) (es : List (Text × Counts)) → T (below_all text_cmp c es) → T (below_all place_cmp (c, a) (listed es))
below-listed c a [] h = tt
below-listed c a (e ∷ es) h = below-append (c, a) (under e.0 (entries e.1)) (listed es) (below-later c e.0 a (less _ (first _ _ h)) (entries e.1)) (below-listed c a es (second _ _ h))

sorted-under : (c : Text) (es : List (Arc × ℕ)) (later : List (Place × ℕ)) → T (is_sorted arc_cmp es) → ((a : Arc) → T (below_all place_cmp (c, a) later)) → T (is_sorted place_cmp later) → T (is_sorted place_cmp (under c es ++ later))
sorted-under c [] later h low rest = rest
sorted-under c (e ∷ es) later h low rest = both _ _ (below-append (c, e.0) (under c es) later (below-under c e.0 es (first _ _ h)) (low e.0)) (sorted-under c es later (second _ _ h) low rest)

sorted-listed : (es : List (Text × Counts)) → T (is_sorted text_cmp es) → T (is_sorted place_cmp (listed es))
sorted-listed [] h = tt
sorted-listed (e ∷ es) h = sorted-under e.0 (entries e.1) (listed es) (entries_sorted e.1) (λ a. below-listed e.0 a es (first _ _ h)) (sorted-listed es (second _ _ h))

pub entries-file_with : (m : Contexts) → entries (file_with m) ≡ listed (entries m)
unfolding file_with
entries-file_with m = entries-from_entries place_cmp_total place_cmp_same (listed (entries m)) (sorted-listed (entries m) (entries_sorted m))

pub no_contexts : file_with empty ≡ no_rows
unfolding file_with
no_contexts = same_map place_cmp_total place_cmp_same _ _ (λ q. get-file_with _ q.0 q.1 ∙ ap (λ o. get (unwrap_or o no_counts) q.1) (get-empty text_cmp q.0) ∙ get-empty arc_cmp q.1 ∙ sym (get-empty place_cmp q))

-- ---- its changes

-- what is found where the counts of a context are written
get-written : (m : Contexts) (c : Text) (t : Counts) (q : Place) → get (file_with (insert m c t)) q ≡ cond (eq_by_cmp text_cmp q.0 c) (get t q.1) (get (counts_in m q.0) q.1)
get-written m c t q = get-file_with (insert m c t) q.0 q.1 ∙ ap (λ o. get (unwrap_or o no_counts) q.1) (get-insert text_cmp_total m c t q.0)
    ∙ elim (eq_by_cmp text_cmp q.0 c) as (λ b. get (unwrap_or (cond b (Some t) (get m q.0)) no_counts) q.1 ≡ cond b (get t q.1) (get (counts_in m q.0) q.1)) [ true ↦ refl | false ↦ refl ]

-- a count more
pub file_with-add : (m : Contexts) (c : Text) (a : Arc) (n : ℕ) → file_with (insert m c (add_at (counts_in m c) a n)) ≡ add_count (file_with m) (c, a) n
file_with-add m c a n = same_map place_cmp_total place_cmp_same _ _ (λ q.
    let t = counts_in m c in
    let v = joined_count (get t a) n in
    let w = joined_count (get (file_with m) (c, a)) n in
    get-written m c (add_at t a n) q
    ∙ ap (λ o. cond (eq_by_cmp text_cmp q.0 c) o (get (counts_in m q.0) q.1)) (get-insert arc_cmp_total t a v q.1)
    ∙ elim (text_cmp q.0 c) as (λ r. text_cmp q.0 c ≡ r → cond (is_eq r) (cond (eq_by_cmp arc_cmp q.1 a) (Some v) (get t q.1)) (get (counts_in m q.0) q.1) ≡ cond (is_eq (ordering_then r (arc_cmp q.1 a))) (Some v) (get (counts_in m q.0) q.1)) [
      | Less ↦ λ e. refl
      | Equal ↦ λ e. ap (λ o. cond (eq_by_cmp arc_cmp q.1 a) (Some v) (get (unwrap_or o no_counts) q.1)) (get_tied text_cmp_total m q.0 c e)
      | Greater ↦ λ e. refl
    ] refl
    ∙ (λ i. cond (eq_by_cmp place_cmp q (c, a)) (Some (joined_count (sym (get-file_with m c a) i) n)) (sym (get-file_with m q.0 q.1) i))
    ∙ sym (get-insert place_cmp_total (file_with m) (c, a) w q))

under_alone : (c : Text) (es : List (Arc × ℕ)) → under c es ++ [] ≡ under c es
under_alone c es = append-nil (under c es)

get-add_under : (f : File) (c : Text) (t : Counts) (q : Place) → get (add_under f c t) q ≡ joined joined_count (get f q) (cond (eq_by_cmp text_cmp q.0 c) (get t q.1) None)
unfolding add_under
get-add_under f c t q =
    get-fold place_cmp_total joined_count (under c (entries t)) f q (subst (λ es. T (is_sorted place_cmp es)) (under_alone c (entries t)) (sorted-under c (entries t) [] (entries_sorted t) (λ a. tt) tt))
    ∙ ap (joined joined_count (get f q)) (find-under q.0 c q.1 (entries t) ∙ ap (λ o. cond (eq_by_cmp text_cmp q.0 c) o None) (sym (get-entries t q.1)))

-- counts more under a context
pub file_with-under : (m : Contexts) (c : Text) (t : Counts) → file_with (insert m c (both_counts (counts_in m c) t)) ≡ add_under (file_with m) c t
file_with-under m c t = same_map place_cmp_total place_cmp_same _ _ (λ q.
    get-written m c (both_counts (counts_in m c) t) q
    ∙ ap (λ o. cond (eq_by_cmp text_cmp q.0 c) o (get (counts_in m q.0) q.1)) (get-both_counts (counts_in m c) t q.1)
    ∙ elim (text_cmp q.0 c) as (λ r. text_cmp q.0 c ≡ r → cond (is_eq r) (joined joined_count (get (counts_in m c) q.1) (get t q.1)) (get (counts_in m q.0) q.1) ≡ joined joined_count (get (counts_in m q.0) q.1) (cond (is_eq r) (get t q.1) None)) [
      | Less ↦ λ e. refl
      | Equal ↦ λ e. ap (λ o. joined joined_count (get (unwrap_or o no_counts) q.1) (get t q.1)) (get_tied text_cmp_total m q.0 c e)
      | Greater ↦ λ e. refl
    ] refl
    ∙ ap (λ o. joined joined_count o (cond (eq_by_cmp text_cmp q.0 c) (get t q.1) None)) (sym (get-file_with m q.0 q.1))
    ∙ sym (get-add_under (file_with m) c t q))

-- ---- walks over its contexts

abbrev step : File → Place × ℕ → File
step h e = add_count h e.0 e.1

merged-from : (f : File) (es : List (Text × Counts)) → fold step f (listed es) ≡ fold (λ h e. add_under h e.0 e.1) f es
unfolding add_under
merged-from f [] = refl
merged-from f (e ∷ es) = fold-append step f (under e.0 (entries e.1)) (listed es) ∙ merged-from (add_under f e.0 e.1) es

pub merged-contexts : (f : File) (m : Contexts) → merged f (file_with m) ≡ fold (λ h e. add_under h e.0 e.1) f (entries m)
unfolding merged
merged-contexts f m = ap (fold step f) (entries-file_with m) ∙ merged-from f (entries m)

-- the lines of counts under a context
lines-under : (c : Text) (es : List (Arc × ℕ)) → flat_map (λ e. place_lines e.0) (under c es) ≡ flat_map (λ e. number_lines e.0) es
lines-under c [] = refl
lines-under c (e ∷ es) = ap (λ ls. number_lines e.0 ++ ls) (lines-under c es)

pub lines-step : (ks : List ℕ) (c : Text) (t : Counts) (es : List (Text × Counts))
    → fold (insert_key nat_cmp) (fold (insert_key nat_cmp) ks (flat_map (λ e. number_lines e.0) (entries t))) (flat_map (λ e. place_lines e.0) (listed es))
    ≡ fold (insert_key nat_cmp) ks (flat_map (λ e. place_lines e.0) (listed ((c, t) ∷ es)))
lines-step ks c t es =
    sym (fold-append (insert_key nat_cmp) ks (flat_map (λ e. number_lines e.0) (entries t)) (flat_map (λ e. place_lines e.0) (listed es)))
    ∙ ap (λ ls. fold (insert_key nat_cmp) ks (ls ++ flat_map (λ e. place_lines e.0) (listed es))) (sym (lines-under c (entries t)))
    ∙ ap (fold (insert_key nat_cmp) ks) (sym (flat_map-append (λ e. place_lines e.0) (under c (entries t)) (listed es)))

abbrev pub pair : Place × ℕ → Arc
pair e = e.0.1

pairs-under : (c : Text) (es : List (Arc × ℕ)) → map pair (under c es) ≡ map (λ e. e.0) es
pairs-under c [] = refl
pairs-under c (e ∷ es) = ap (λ ps. e.0 ∷ ps) (pairs-under c es)

pub arcs-step : (ks : List Arc) (c : Text) (t : Counts) (es : List (Text × Counts))
    → fold (insert_key arc_cmp) (fold (insert_key arc_cmp) ks (map (λ e. e.0) (entries t))) (map pair (listed es))
    ≡ fold (insert_key arc_cmp) ks (map pair (listed ((c, t) ∷ es)))
arcs-step ks c t es =
    sym (fold-append (insert_key arc_cmp) ks (map (λ e. e.0) (entries t)) (map pair (listed es)))
    ∙ ap (λ ps. fold (insert_key arc_cmp) ks (ps ++ map pair (listed es))) (sym (pairs-under c (entries t)))
    ∙ ap (fold (insert_key arc_cmp) ks) (sym (map-append pair (under c (entries t)) (listed es)))
