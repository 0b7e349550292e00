-- What two files, and two maps of files, hold together.
use Rattle.std.proofs.Common.{◌≡◌, ℕ, ℤ, cond, List, [], ◌∷◌, Option, Some, None, Ordering, refl, ap, sym, ◌∙◌, arith}
use Rattle.std.specs.declared.cmp.Ordering.TheVariants.{Less, Equal, Greater}
use Rattle.std.specs.Prelude.{T}
use Rattle.std.specs.Option.{unwrap_or}
use Rattle.std.specs.Ordering.{is_eq}
use Rattle.std.specs.Cmp.{IsTotalOrder}
use Rattle.std.specs.List.{fold}
use Rattle.std.specs.FinMap.{FinMap, get, insert, entries, find, is_sorted, entries_sorted, get-entries, get-empty, get-insert, get_tied, same_map}
use Rattle.std.specs.FinMap.Entries.{below_all}
use Rattle.cov_data.specs.DataSet.{Text, text_cmp, Place, place_cmp, File, Files, add_counts, joined_count, merged, no_rows, no_files, all_files}
use Rattle.cov_data.specs.Rows.{arc_cmp}
use Rattle.cov_data.specs.Stored.{Counts, no_counts, both_counts}
use Rattle.cov_data.proofs.MapViews.{first, second, less}
use Rattle.cov_data.proofs.FileViews.{arc_cmp_total, arc_cmp_same, place_cmp_total, place_cmp_same, text_cmp_total, text_cmp_same}

-- what is there, with what comes if it does
abbrev pub joined : {X : Type 0} → (Option X → X → X) → Option X → Option X → Option X
joined op o None = o
joined op o (Some x) = Some (op o x)

module _ {K X : Type 0} {R : K → K → Ordering} (o : IsTotalOrder R) where
  -- a key below all keys, or tied with one that is, is not found
  pub find-below : (q x : K) (es : List (K × X)) → R q x ≡ Equal → T (below_all R x es) → find R q es ≡ None
  find-below q x [] t h = refl
  find-below q x (e ∷ es) t h = ap (λ r. cond (is_eq r) (Some e.1) (find R q es)) (o.congr q x e.0 t ∙ less (R x e.0) (first _ _ h)) ∙ find-below q x es t (second _ _ h)

  -- entries in order that are joined to a map one after the other
  pub get-fold : (op : Option X → X → X) (es : List (K × X)) (m : FinMap R X) (q : K) → T (is_sorted R es)
      → get (fold (λ h e. insert h e.0 (op (get h e.0) e.1)) m es) q ≡ joined op (get m q) (find R q es)
  get-fold op [] m q h = refl
  get-fold op (e ∷ es) m q h =
      let v = op (get m e.0) e.1 in
      get-fold op es (insert m e.0 v) q (second _ _ h)
      ∙ ap (λ x. joined op x (find R q es)) (get-insert o m e.0 v q)
      ∙ elim (R q e.0) as (λ r. R q e.0 ≡ r → joined op (cond (is_eq r) (Some v) (get m q)) (find R q es) ≡ joined op (get m q) (cond (is_eq r) (Some e.1) (find R q es))) [
        | Less ↦ λ t. refl
        | Equal ↦ λ t. ap (joined op (Some v)) (find-below q e.0 es t (first _ _ h)) ∙ ap (λ x. Some (op x e.1)) (get_tied o m q e.0 t)
        | Greater ↦ λ t. refl
      ] refl

pub get-merged : (f g : File) (k : Place) → get (merged f g) k ≡ joined joined_count (get f k) (get g k)
unfolding merged
get-merged f g k = get-fold place_cmp_total joined_count (entries g) f k (entries_sorted g) ∙ ap (joined joined_count (get f k)) (sym (get-entries g k))

pub get-both_counts : (m n : Counts) (a : ℤ × ℤ) → get (both_counts m n) a ≡ joined joined_count (get m a) (get n a)
unfolding both_counts
get-both_counts m n a = get-fold arc_cmp_total joined_count (entries n) m a (entries_sorted n) ∙ ap (joined joined_count (get m a)) (sym (get-entries n a))

-- a file joined to the one that may be there
abbrev pub joined_file : Option File → File → File
joined_file o f = merged (unwrap_or o no_rows) f

pub get-all_files : (a b : Files) (p : Text) → get (all_files a b) p ≡ joined joined_file (get a p) (get b p)
unfolding all_files
get-all_files a b p = get-fold text_cmp_total joined_file (entries b) a p (entries_sorted b) ∙ ap (joined joined_file (get a p)) (sym (get-entries b p))

-- ---- nothing joined

joined_count-none : (o : Option ℕ) → joined joined_count None o ≡ o
joined_count-none None = refl
joined_count-none (Some n) = refl

pub counts-none : (m : Counts) → both_counts no_counts m ≡ m
counts-none m = same_map arc_cmp_total arc_cmp_same _ _ (λ a. get-both_counts no_counts m a ∙ ap (λ o. joined joined_count o (get m a)) (get-empty arc_cmp a) ∙ joined_count-none (get m a))

pub merged-none : (f : File) → merged no_rows f ≡ f
merged-none f = same_map place_cmp_total place_cmp_same _ _ (λ k. get-merged no_rows f k ∙ ap (λ o. joined joined_count o (get f k)) (get-empty place_cmp k) ∙ joined_count-none (get f k))

pub none-merged : (f : File) → merged f no_rows ≡ f
none-merged f = same_map place_cmp_total place_cmp_same _ _ (λ k. get-merged f no_rows k ∙ ap (joined joined_count (get f k)) (get-empty place_cmp k))

joined_file-none : (o : Option File) → joined joined_file None o ≡ o
joined_file-none None = refl
joined_file-none (Some f) = ap Some (merged-none f)

pub all_files-none : (m : Files) → all_files no_files m ≡ m
all_files-none m = same_map text_cmp_total text_cmp_same _ _ (λ p. get-all_files no_files m p ∙ ap (λ o. joined joined_file o (get m p)) (get-empty text_cmp p) ∙ joined_file-none (get m p))

pub none-all_files : (m : Files) → all_files m no_files ≡ m
none-all_files m = same_map text_cmp_total text_cmp_same _ _ (λ p. get-all_files m no_files p ∙ ap (joined joined_file (get m p)) (get-empty text_cmp p))

-- ---- in any order

add_counts-comm : (a b : ℕ) → add_counts a b ≡ add_counts b a
add_counts-comm a b = omega arith

add_counts-assoc : (a b c : ℕ) → add_counts (add_counts a b) c ≡ add_counts a (add_counts b c)
add_counts-assoc a b c = omega arith

counts-comm : (x y : Option ℕ) → joined joined_count x y ≡ joined joined_count y x
counts-comm None None = refl
counts-comm None (Some n) = refl
counts-comm (Some m) None = refl
counts-comm (Some m) (Some n) = ap Some (add_counts-comm m n)

counts-assoc : (x y z : Option ℕ) → joined joined_count (joined joined_count x y) z ≡ joined joined_count x (joined joined_count y z)
counts-assoc x y None = refl
counts-assoc x None (Some c) = refl
counts-assoc None (Some b) (Some c) = refl
counts-assoc (Some a) (Some b) (Some c) = ap Some (add_counts-assoc a b c)

pub merged-comm : (f g : File) → merged f g ≡ merged g f
merged-comm f g = same_map place_cmp_total place_cmp_same _ _ (λ k. get-merged f g k ∙ counts-comm (get f k) (get g k) ∙ sym (get-merged g f k))

pub merged-assoc : (f g h : File) → merged (merged f g) h ≡ merged f (merged g h)
merged-assoc f g h = same_map place_cmp_total place_cmp_same _ _ (λ k.
    get-merged (merged f g) h k ∙ ap (λ o. joined joined_count o (get h k)) (get-merged f g k)
    ∙ counts-assoc (get f k) (get g k) (get h k)
    ∙ sym (get-merged f (merged g h) k ∙ ap (joined joined_count (get f k)) (get-merged g h k)))

files-comm : (x y : Option File) → joined joined_file x y ≡ joined joined_file y x
files-comm None None = refl
files-comm None (Some g) = ap Some (merged-none g)
files-comm (Some f) None = ap Some (sym (merged-none f))
files-comm (Some f) (Some g) = ap Some (merged-comm f g)

files-assoc : (x y z : Option File) → joined joined_file (joined joined_file x y) z ≡ joined joined_file x (joined joined_file y z)
files-assoc x y None = refl
files-assoc x None (Some h) = ap (λ g. Some (merged (unwrap_or x no_rows) g)) (sym (merged-none h))
files-assoc None (Some g) (Some h) = ap Some (ap (λ f. merged f h) (merged-none g) ∙ sym (merged-none (merged g h)))
files-assoc (Some f) (Some g) (Some h) = ap Some (merged-assoc f g h)

pub all_files-comm : (a b : Files) → all_files a b ≡ all_files b a
all_files-comm a b = same_map text_cmp_total text_cmp_same _ _ (λ p. get-all_files a b p ∙ files-comm (get a p) (get b p) ∙ sym (get-all_files b a p))

pub all_files-assoc : (a b c : Files) → all_files (all_files a b) c ≡ all_files a (all_files b c)
all_files-assoc a b c = same_map text_cmp_total text_cmp_same _ _ (λ p.
    get-all_files (all_files a b) c p ∙ ap (λ o. joined joined_file o (get c p)) (get-all_files a b p)
    ∙ files-assoc (get a p) (get b p) (get c p)
    ∙ sym (get-all_files a (all_files b c) p ∙ ap (joined joined_file (get a p)) (get-all_files b c p)))
