-- Rows and paths that are added to data in any order.
use Rattle.std.proofs.Common.{◌≡◌, ℕ, zero, suc, ◌+◌, ◌<◌, true, false, cond, List, [], ◌∷◌, ◌++◌, length, Option, Some, None, Ordering, refl, ap, sym, subst, ◌∙◌, arith}
use Rattle.std.specs.declared.cmp.Ordering.TheVariants.{Less, Equal, Greater}
use Rattle.std.specs.Prelude.{min, slice_get, replicate}
use Rattle.std.specs.Option.{unwrap_or}
use Rattle.std.specs.Ordering.{is_eq, eq_by_cmp}
use Rattle.std.specs.Cmp.{IsTotalOrder}
use Rattle.std.specs.FinMap.{FinMap, IsAntisymmetric, get, insert, get-insert, get-empty, same_map}
use Rattle.std.proofs.lemmas.Cmp.{tied_itself}
use Rattle.cov_data.specs.DataSet.{Text, text_cmp, Place, place_cmp, File, Files, DataSet, add_counts, joined_count, add_count, merged, no_rows, no_files, file_in, add_path, add_row, all_files, with_path}
use Rattle.cov_data.specs.Rows.{RowView, with_row}
use Rattle.cov_data.proofs.FileViews.{place_cmp_total, place_cmp_same, text_cmp_total, text_cmp_same}
use Rattle.cov_data.proofs.Merging.{joined, joined_file, get-merged, get-all_files, none-merged, all_files-comm, all_files-assoc}
use Rattle.py_syntax.specs.Prediction.{Arc}
use Rattle.cov_recorder.specs.Plan.{Plan, set_of, path_of}
use Rattle.cov_recorder.specs.Recording.{one_row, joined as joined_context}
use Rattle.cov_recorder.specs.Counters.{Row, raised, bumped, no_counts}
use Rattle.cov_recorder.specs.Rows.{row_of_count, with_counts, with_rows}

-- ---- what is inserted twice

module _ {K X : Type 0} {R : K → K → Ordering} (o : IsTotalOrder R) (same : IsAntisymmetric R) where
  pub insert-twice : (m : FinMap R X) (k : K) (v w : X) → insert (insert m k v) k w ≡ insert m k w
  insert-twice m k v w = same_map o same _ _ (λ q.
      get-insert o (insert m k v) k w q
      ∙ ap (cond (eq_by_cmp R q k) (Some w)) (get-insert o m k v q)
      ∙ elim (eq_by_cmp R q k) as (λ b. cond b (Some w) (cond b (Some v) (get m q)) ≡ cond b (Some w) (get m q)) [ true ↦ refl | false ↦ refl ]
      ∙ sym (get-insert o m k w q))

  pub get-inserted : (m : FinMap R X) (k : K) (v : X) → get (insert m k v) k ≡ Some v
  get-inserted m k v = get-insert o m k v k ∙ ap (λ r. cond (is_eq r) (Some v) (get m k)) (tied_itself o k)

-- ---- a row more is a union with the data of that row

merged-one : (f : File) (k : Place) (n : ℕ) → merged f (insert no_rows k n) ≡ add_count f k n
merged-one f k n = same_map place_cmp_total place_cmp_same _ _ (λ j.
    get-merged f (insert no_rows k n) j
    ∙ ap (joined joined_count (get f j)) (get-insert place_cmp_total no_rows k n j ∙ ap (cond (eq_by_cmp place_cmp j k) (Some n)) (get-empty place_cmp j))
    ∙ elim (place_cmp j k) as (λ r. place_cmp j k ≡ r → joined joined_count (get f j) (cond (is_eq r) (Some n) None) ≡ cond (is_eq r) (Some (joined_count (get f k) n)) (get f j)) [
      | Less ↦ λ t. refl
      | Equal ↦ λ t. ap (λ i. Some (joined_count (get f i) n)) (place_cmp_same j k t)
      | Greater ↦ λ t. refl
    ] refl
    ∙ sym (get-insert place_cmp_total f k (joined_count (get f k) n) j))

-- the data of one path
one_file : Text → File → Files
one_file p f = insert no_files p f

joins-file : (m : Files) (p : Text) (f : File) → all_files m (one_file p f) ≡ insert m p (merged (file_in m p) f)
unfolding one_file
joins-file m p f = same_map text_cmp_total text_cmp_same _ _ (λ q.
    get-all_files m (insert no_files p f) q
    ∙ ap (joined joined_file (get m q)) (get-insert text_cmp_total no_files p f q ∙ ap (cond (eq_by_cmp text_cmp q p) (Some f)) (get-empty text_cmp q))
    ∙ elim (text_cmp q p) as (λ r. text_cmp q p ≡ r → joined joined_file (get m q) (cond (is_eq r) (Some f) None) ≡ cond (is_eq r) (Some (merged (file_in m p) f)) (get m q)) [
      | Less ↦ λ t. refl
      | Equal ↦ λ t. ap (λ x. Some (merged (file_in m x) f)) (text_cmp_same q p t)
      | Greater ↦ λ t. refl
    ] refl
    ∙ sym (get-insert text_cmp_total m p (merged (file_in m p) f) q))

add_row-joins : (m : Files) (p : Text) (k : Place) (n : ℕ) → add_row m p k n ≡ all_files m (one_file p (insert no_rows k n))
add_row-joins m p k n = ap (insert m p) (sym (merged-one (file_in m p) k n)) ∙ sym (joins-file m p (insert no_rows k n))

add_path-joins : (m : Files) (p : Text) → add_path m p ≡ all_files m (one_file p no_rows)
add_path-joins m p = ap (insert m p) (sym (none-merged (file_in m p))) ∙ sym (joins-file m p no_rows)

in_any_order : (m a b : Files) → all_files (all_files m a) b ≡ all_files (all_files m b) a
in_any_order m a b = all_files-assoc m a b ∙ ap (all_files m) (all_files-comm a b) ∙ sym (all_files-assoc m b a)

-- ---- steps that commute with rows

pub record Commutes (f : DataSet → DataSet) : Type 0 where
  pub row : (d : DataSet) (r : RowView) → with_row (f d) r ≡ f (with_row d r)

files_of_row : RowView → Files
files_of_row r = one_file r.path (insert no_rows (r.context, (r.from, r.to)) r.count)

with_row-joins : (d : DataSet) (r : RowView) → with_row d r ≡ record d { files = all_files d.files (files_of_row r) }
unfolding files_of_row
with_row-joins d r = ap (λ fs. record d { files = fs }) (add_row-joins d.files r.path (r.context, (r.from, r.to)) r.count)

joining-commutes : (d : DataSet) (fs : Files) (r : RowView) → with_row (record d { files = all_files d.files fs }) r ≡ record (with_row d r) { files = all_files (with_row d r).files fs }
unfolding files_of_row
joining-commutes d fs r =
    ap (λ x. record d { files = x }) (
    add_row-joins (all_files d.files fs) r.path (r.context, (r.from, r.to)) r.count
    ∙ in_any_order d.files fs (one_file r.path (insert no_rows (r.context, (r.from, r.to)) r.count))
    ∙ ap (λ x. all_files x fs) (sym (add_row-joins d.files r.path (r.context, (r.from, r.to)) r.count)))

pub row-commutes : (s : RowView) → Commutes (λ d. with_row d s)
row-commutes s = record {
  row = λ d r.
      ap (λ (x : DataSet). with_row x r) (with_row-joins d s)
      ∙ joining-commutes d (files_of_row s) r
      ∙ sym (with_row-joins (with_row d r) s);
}

with_path-joins : (d : DataSet) (p : Text) → with_path d p ≡ record d { files = all_files d.files (one_file p no_rows) }
with_path-joins d p = ap (λ fs. record d { files = fs }) (add_path-joins d.files p)

pub path-commutes : (p : Text) → Commutes (λ d. with_path d p)
path-commutes p = record {
  row = λ d r.
      ap (λ (x : DataSet). with_row x r) (with_path-joins d p)
      ∙ joining-commutes d (one_file p no_rows) r
      ∙ sym (with_path-joins (with_row d r) p);
}

module _ (f : DataSet → DataSet) (commutes : Commutes f) where
  pub with_counts-commutes : (path context : Text) (arcs : List Arc) (counts : List ℕ) (d : DataSet) → with_counts path context arcs counts (f d) ≡ f (with_counts path context arcs counts d)
  with_counts-commutes path context [] counts d = refl
  with_counts-commutes path context (a ∷ arcs) [] d = refl
  with_counts-commutes path context (a ∷ arcs) (zero ∷ counts) d = with_counts-commutes path context arcs counts d
  with_counts-commutes path context (a ∷ arcs) (suc n ∷ counts) d =
      ap (with_counts path context arcs counts) (commutes.row d (row_of_count path context a (suc n)))
      ∙ with_counts-commutes path context arcs counts (with_row d (row_of_count path context a (suc n)))

  pub with_rows-commutes : (plan : Plan) (rows : List Row) (d : DataSet) → with_rows plan rows (f d) ≡ f (with_rows plan rows d)
  with_rows-commutes plan [] d = refl
  with_rows-commutes plan (row ∷ rest) d =
      let path = path_of plan row.module in
      let context = joined_context plan.fixed row.label in
      let arcs = set_of plan row.module in
      ap (with_rows plan rest) (with_counts-commutes path context arcs row.counts d)
      ∙ with_rows-commutes plan rest (with_counts path context arcs row.counts d)

-- ---- a count more

counts_once_more : (o : Option ℕ) (n : ℕ) → add_counts (joined_count o 1) (suc n) ≡ joined_count o (min (suc n + 1) 4294967295)
counts_once_more None n = omega arith
counts_once_more (Some m) n = omega arith

add_count-again : (f : File) (k : Place) (n : ℕ) → add_count (add_count f k 1) k (suc n) ≡ add_count f k (min (suc n + 1) 4294967295)
add_count-again f k n =
    let v = joined_count (get f k) 1 in
    insert-twice place_cmp_total place_cmp_same f k v _
    ∙ ap (λ o. insert f k (joined_count o (suc n))) (get-inserted place_cmp_total place_cmp_same f k v)
    ∙ ap (insert f k) (counts_once_more (get f k) n)

add_row-again : (m : Files) (p : Text) (k : Place) (n : ℕ) → add_row (add_row m p k 1) p k (suc n) ≡ add_row m p k (min (suc n + 1) 4294967295)
add_row-again m p k n =
    let f = add_count (file_in m p) k 1 in
    insert-twice text_cmp_total text_cmp_same m p f _
    ∙ ap (λ o. insert m p (add_count (unwrap_or o no_rows) k (suc n))) (get-inserted text_cmp_total text_cmp_same m p f)
    ∙ ap (insert m p) (add_count-again (file_in m p) k n)

one_more : (path context : Text) (a : Arc) (n : ℕ) (d : DataSet) → with_row (with_row d (one_row path context a)) (row_of_count path context a (suc n)) ≡ with_row d (row_of_count path context a (min (suc n + 1) 4294967295))
one_more path context a n d = ap (λ fs. record d { files = fs }) (add_row-again d.files path (context, (a.0, a.1)) n)

counted_first : (path context : Text) (a : Arc) (arcs : List Arc) (counts : List ℕ) (v w : ℕ) → v ≡ suc w → (d : DataSet) → with_counts path context (a ∷ arcs) (v ∷ counts) d ≡ with_counts path context arcs counts (with_row d (row_of_count path context a v))
counted_first path context a arcs counts v w e d =
    ap (λ k. with_counts path context (a ∷ arcs) (k ∷ counts) d) e
    ∙ ap (λ k. with_counts path context arcs counts (with_row d (row_of_count path context a k))) (sym e)

same_arc_at : (a b : Arc) → Some a ≡ Some b → a ≡ b
same_arc_at a b e = cc

pub with_counts-raised : (path context : Text) (arcs : List Arc) (counts : List ℕ) (p : ℕ) (a : Arc) → slice_get arcs p ≡ Some a → p < length counts → (d : DataSet)
    → with_counts path context arcs (raised counts p) d ≡ with_counts path context arcs counts (with_row d (one_row path context a))
with_counts-raised path context [] counts p a at h d = cc
with_counts-raised path context (b ∷ arcs) [] p a at h d = absurd (omega (arith, h))
with_counts-raised path context (b ∷ arcs) (zero ∷ counts) zero a at h d = ap (λ x. with_counts path context arcs counts (with_row d (one_row path context x))) (same_arc_at b a at)
with_counts-raised path context (b ∷ arcs) (suc n ∷ counts) zero a at h d =
    let positive : min (suc n + 1) 4294967295 ≡ suc (min (suc n) 4294967294) = omega arith in
    counted_first path context b arcs counts (min (suc n + 1) 4294967295) (min (suc n) 4294967294) positive d
    ∙ ap (with_counts path context arcs counts) (sym (one_more path context b n d))
    ∙ ap (λ x. with_counts path context (b ∷ arcs) (suc n ∷ counts) (with_row d (one_row path context x))) (same_arc_at b a at)
with_counts-raised path context (b ∷ arcs) (zero ∷ counts) (suc p) a at h d = with_counts-raised path context arcs counts p a at (omega (arith, h)) d
with_counts-raised path context (b ∷ arcs) (suc n ∷ counts) (suc p) a at h d =
    let r = row_of_count path context b (suc n) in
    with_counts-raised path context arcs counts p a at (omega (arith, h)) (with_row d r)
    ∙ ap (with_counts path context arcs counts) ((row-commutes r).row d (one_row path context a))

same_row_at : (r s : Row) → Some r ≡ Some s → r ≡ s
same_row_at r s e = cc

raised_in : (plan : Plan) (rows : List Row) (n p : ℕ) (row : Row) (a : Arc) → slice_get rows n ≡ Some row → slice_get (set_of plan row.module) p ≡ Some a → p < length row.counts → (d : DataSet)
    → with_rows plan (bumped rows n p) d ≡ with_rows plan rows (with_row d (one_row (path_of plan row.module) (joined_context plan.fixed row.label) a))
raised_in plan [] n p row a at taken h d = cc
raised_in plan (r ∷ rest) zero p row a at taken h d =
    let same = same_row_at r row at in
    ap (with_rows plan rest) (
    with_counts-raised (path_of plan r.module) (joined_context plan.fixed r.label) (set_of plan r.module) r.counts p a
    (ap (λ (x : Row). slice_get (set_of plan x.module) p) same ∙ taken) (subst (λ (x : Row). p < length x.counts) (sym same) h) d)
    ∙ ap (λ (x : Row). with_rows plan (r ∷ rest) (with_row d (one_row (path_of plan x.module) (joined_context plan.fixed x.label) a))) same
raised_in plan (r ∷ rest) (suc n) p row a at taken h d =
    let one = one_row (path_of plan row.module) (joined_context plan.fixed row.label) a in
    raised_in plan rest n p row a at taken h (with_counts (path_of plan r.module) (joined_context plan.fixed r.label) (set_of plan r.module) r.counts d)
    ∙ ap (with_rows plan rest) (sym (with_counts-commutes (λ x. with_row x one) (row-commutes one) (path_of plan r.module) (joined_context plan.fixed r.label) (set_of plan r.module) r.counts d))

-- a count more is a row more
pub with_rows-bumped : (plan : Plan) (rows : List Row) (n p : ℕ) (row : Row) (a : Arc) → slice_get rows n ≡ Some row → slice_get (set_of plan row.module) p ≡ Some a → p < length row.counts → (d : DataSet)
    → with_rows plan (bumped rows n p) d ≡ with_row (with_rows plan rows d) (one_row (path_of plan row.module) (joined_context plan.fixed row.label) a)
with_rows-bumped plan rows n p row a at taken h d =
    let one = one_row (path_of plan row.module) (joined_context plan.fixed row.label) a in
    raised_in plan rows n p row a at taken h d ∙ with_rows-commutes (λ x. with_row x one) (row-commutes one) plan rows d

-- ---- a row of counters that counted nothing

with_counts-nothing : (path context : Text) (arcs : List Arc) (size : ℕ) (d : DataSet) → with_counts path context arcs (replicate size 0) d ≡ d
with_counts-nothing path context [] size d = refl
with_counts-nothing path context (a ∷ arcs) zero d = refl
with_counts-nothing path context (a ∷ arcs) (suc size) d = with_counts-nothing path context arcs size d

pub with_rows-nothing : (plan : Plan) (rows : List Row) (m : ℕ) (label : Text) (size : ℕ) (d : DataSet) → with_rows plan (rows ++ no_counts m label size ∷ []) d ≡ with_rows plan rows d
with_rows-nothing plan [] m label size d = with_counts-nothing (path_of plan m) (joined_context plan.fixed label) (set_of plan m) size d
with_rows-nothing plan (r ∷ rest) m label size d = with_rows-nothing plan rest m label size _
