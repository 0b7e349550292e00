-- The order in which the rows of a table were read doesn't matter to the content.
use Rattle.std.proofs.Common.{◌≡◌, ℕ, zero, suc, ℤ, pos, ◌+◌, Bool, true, false, cond, List, [], ◌∷◌, map, Option, Some, None, refl, ap, sym, ◌∙◌, arith}
use Rattle.std.specs.Prelude.{◌||◌}
use Rattle.std.specs.List.{fold, flat_map, sum_by, list_any}
use Rattle.std.specs.List.Sorted.{IsPermutation}
use Rattle.std.specs.Option.{option_to_list, unwrap_or}
use Rattle.std.specs.declared.cmp.Ordering.TheVariants.{Less, Equal, Greater}
use Rattle.std.specs.Ordering.{is_eq, eq_by_cmp}
use Rattle.std.specs.FinMap.{get, get-insert, same_map}
use Rattle.std.proofs.lemmas.List.Sorted.{sum_by-IsPermutation}
use Rattle.std.proofs.lemmas.List.Sums.{sum_by-cons, sum_by-append}
use Rattle.cov_data.specs.DataSet.{Text, text_cmp, File, Files, DataSet, no_data, no_rows, with_path, file_in, add_path}
use Rattle.cov_data.proofs.FileViews.{text_cmp_total, text_cmp_same}
use Rattle.cov_vault.specs.declared.vault.Content.TheVariants.{NotSchema7}
use Rattle.cov_tables.specs.Fields.{Row, whole_at, text_at}
use Rattle.cov_tables.specs.Entries.{entry_cmp}
use Rattle.cov_tables.specs.Hits.{counts_with, counts_at, counted, only_count, count_of}
use Rattle.cov_tables.specs.Joins.{Key, is_whole, arc_key, bits_key, texts_with, texts_of, entry, joined, joined_if, arc_entries, bits_entries}
use Rattle.cov_tables.specs.Order.{in_order}
use Rattle.cov_tables.specs.Content.{Tables, is_schema_7, names_arcs, says_arcs, has_rows, is_arcs, paths_in, paths_only, is_bad_arc, is_bad_bits, arc_rows, bits_rows, read_entries, arc_content, bits_content, content}
use Rattle.cov_tables.proofs.Columns.{entry_cmp-total, entry_cmp-same}
use Rattle.cov_tables.proofs.InOrder.{Alike, in_order-of_alike}

-- each table's rows are those of the other, in some order
pub record ArePermuted (s t : Tables) : Type 0 where
  pub coverage_schema : IsPermutation s.coverage_schema t.coverage_schema
  pub meta : IsPermutation s.meta t.meta
  pub file : IsPermutation s.file t.file
  pub context : IsPermutation s.context t.context
  pub line_bits : IsPermutation s.line_bits t.line_bits
  pub arc : IsPermutation s.arc t.arc
  pub hits : IsPermutation s.hits t.hits

pub alike : {K : Type 0} (xs ys : List K) → IsPermutation xs ys → Alike xs ys
alike xs ys h f = sym (sum_by-IsPermutation f xs ys h)

-- ---- lists of lists

module _ {A B : Type 0} where
  sum_by-flat_map : (f : B → ℕ) (g : A → List B) (xs : List A) → sum_by f (flat_map g xs) ≡ sum_by (λ x. sum_by f (g x)) xs
  sum_by-flat_map f g [] = refl
  sum_by-flat_map f g (x ∷ xs) =
      let one = sum_by-append f (g x) (flat_map g xs) in
      let rest = sum_by-flat_map f g xs in
      let all = sum_by-cons (λ y. sum_by f (g y)) x xs in
      omega (arith, one, rest, all)

  sum_by-map : (f : B → ℕ) (g : A → B) (xs : List A) → sum_by f (map g xs) ≡ sum_by (λ x. f (g x)) xs
  sum_by-map f g [] = refl
  sum_by-map f g (x ∷ xs) =
      let one = sum_by-cons f (g x) (map g xs) in
      let rest = sum_by-map f g xs in
      let all = sum_by-cons (λ y. f (g y)) x xs in
      omega (arith, one, rest, all)

  pub flat_map-Alike : (g h : A → List B) (xs ys : List A) → Alike xs ys → ((x : A) → Alike (g x) (h x)) → Alike (flat_map g xs) (flat_map h ys)
  flat_map-Alike g h xs ys same each f =
      sum_by-flat_map f g xs ∙ ap (λ k. sum_by k xs) (λ i x. each x f i) ∙ same (λ x. sum_by f (h x)) ∙ sym (sum_by-flat_map f h ys)

  pub map-Alike : (g : A → B) (xs ys : List A) → Alike xs ys → Alike (map g xs) (map g ys)
  map-Alike g xs ys same f = sum_by-map f g xs ∙ same (λ x. f (g x)) ∙ sym (sum_by-map f g ys)

-- ---- entries

texts_of-Alike : (xs ys : List Row) → Alike xs ys → (id : ℤ) → Alike (texts_of xs id) (texts_of ys id)
texts_of-Alike xs ys same id = flat_map-Alike (texts_with id) (texts_with id) xs ys same (λ x f. refl)

joined-Alike : (k : Key) (ps qs ls ms : List Text) → Alike ps qs → Alike ls ms → Alike (joined k ps ls) (joined k qs ms)
joined-Alike k ps qs ls ms p l = flat_map-Alike (λ t. map (entry k t) ls) (λ t. map (entry k t) ms) ps qs p (λ t. map-Alike (entry k t) ls ms l)

joined_if-Alike : (k : Option Key) (f g h i : ℤ → List Text) → ((id : ℤ) → Alike (f id) (g id)) → ((id : ℤ) → Alike (h id) (i id)) → Alike (joined_if k f h) (joined_if k g i)
joined_if-Alike None f g h i p l = λ t. refl
joined_if-Alike (Some k) f g h i p l = joined-Alike k (f k.file) (g k.file) (h k.context) (i k.context) (p k.file) (l k.context)

module _ (files files' contexts contexts' rows rows' : List Row) (f : Alike files files') (c : Alike contexts contexts') (r : Alike rows rows') where
  arcs-in_order : in_order entry_cmp (arc_entries files contexts rows) ≡ in_order entry_cmp (arc_entries files' contexts' rows')
  arcs-in_order = in_order-of_alike entry_cmp entry_cmp-total entry_cmp-same (arc_entries files contexts rows) (arc_entries files' contexts' rows')
      (flat_map-Alike (λ x. joined_if (arc_key x) (texts_of files) (texts_of contexts)) (λ x. joined_if (arc_key x) (texts_of files') (texts_of contexts')) rows rows' r
      (λ x. joined_if-Alike (arc_key x) (texts_of files) (texts_of files') (texts_of contexts) (texts_of contexts') (texts_of-Alike files files' f) (texts_of-Alike contexts contexts' c)))

  bits-in_order : in_order entry_cmp (bits_entries files contexts rows) ≡ in_order entry_cmp (bits_entries files' contexts' rows')
  bits-in_order = in_order-of_alike entry_cmp entry_cmp-total entry_cmp-same (bits_entries files contexts rows) (bits_entries files' contexts' rows')
      (flat_map-Alike (λ x. joined_if (bits_key x) (texts_of files) (texts_of contexts)) (λ x. joined_if (bits_key x) (texts_of files') (texts_of contexts')) rows rows' r
      (λ x. joined_if-Alike (bits_key x) (texts_of files) (texts_of files') (texts_of contexts) (texts_of contexts') (texts_of-Alike files files' f) (texts_of-Alike contexts contexts' c)))

-- ---- counts, and rows that stand alone

module _ {K : Type 0} where
  none_for_one : {A : Type 0} (x : K) (xs : List K) → Alike [] (x ∷ xs) → A
  none_for_one x xs same = absurd (let one = same (λ _. 1) in let two = sum_by-cons (λ (_ : K). 1) x xs in omega (arith, one, two))

  one_for_two : {A : Type 0} (x y z : K) (zs : List K) → Alike (x ∷ []) (y ∷ z ∷ zs) → A
  one_for_two x y z zs same = absurd (
      let one = same (λ _. 1) in
      let two = sum_by-cons (λ (_ : K). 1) y (z ∷ zs) in
      let three = sum_by-cons (λ (_ : K). 1) z zs in
      omega (arith, one, two, three)
      )

  alone : (f : K → ℕ) (x y : K) → Alike (x ∷ []) (y ∷ []) → f x ≡ f y
  alone f x y same = (let h : 0 + f x ≡ 0 + f y = same f in omega (arith, h))

  turned : (xs ys : List K) → Alike xs ys → Alike ys xs
  turned xs ys same f = sym (same f)

only_count-Alike : (cs ds : List (Option ℤ)) → Alike cs ds → only_count cs ≡ only_count ds
only_count-Alike [] [] same = refl
only_count-Alike [] (d ∷ ds) same = none_for_one d ds same
only_count-Alike (c ∷ cs) [] same = none_for_one c cs (turned (c ∷ cs) [] same)
only_count-Alike (c ∷ []) (d ∷ []) same = alone counted c d same
only_count-Alike (c ∷ []) (d ∷ e ∷ ds) same = one_for_two c d e ds same
only_count-Alike (c ∷ b ∷ cs) (d ∷ []) same = one_for_two d c b cs (turned (c ∷ b ∷ cs) (d ∷ []) same)
only_count-Alike (c ∷ b ∷ cs) (d ∷ e ∷ ds) same = refl

count_of-Alike : (xs ys : List Row) → Alike xs ys → count_of xs ≡ count_of ys
count_of-Alike xs ys same = λ i s. only_count-Alike (counts_at xs s) (counts_at ys s) (flat_map-Alike (counts_with s) (counts_with s) xs ys same (λ x f. refl)) i

one_if : Bool → ℕ
one_if b = cond b 1 0

one_if-same : (b c : Bool) → one_if b ≡ one_if c → b ≡ c
unfolding one_if
one_if-same true true e = refl
one_if-same true false e = absurd (omega (arith, e))
one_if-same false true e = absurd (omega (arith, e))
one_if-same false false e = refl

is_schema_7-Alike : (xs ys : List Row) → Alike xs ys → is_schema_7 xs ≡ is_schema_7 ys
is_schema_7-Alike [] [] same = refl
is_schema_7-Alike [] (y ∷ ys) same = none_for_one y ys same
is_schema_7-Alike (x ∷ xs) [] same = none_for_one x xs (turned (x ∷ xs) [] same)
is_schema_7-Alike (x ∷ []) (y ∷ []) same = one_if-same (is_whole (pos 7) (whole_at x 0)) (is_whole (pos 7) (whole_at y 0)) (alone (λ r. one_if (is_whole (pos 7) (whole_at r 0))) x y same)
is_schema_7-Alike (x ∷ []) (y ∷ z ∷ ys) same = one_for_two x y z ys same
is_schema_7-Alike (x ∷ z ∷ xs) (y ∷ []) same = one_for_two y x z xs (turned (x ∷ z ∷ xs) (y ∷ []) same)
is_schema_7-Alike (x ∷ z ∷ xs) (y ∷ w ∷ ys) same = refl

-- ---- the kind of data

is_positive : ℕ → Bool
is_positive zero = false
is_positive (suc n) = true

module _ {K : Type 0} (p : K → Bool) where
  any_first : (b rest : Bool) (n : ℕ) → rest ≡ is_positive n → b || rest ≡ is_positive (one_if b + n)
  unfolding one_if is_positive
  any_first true rest n e = (let on : suc n ≡ 1 + n = omega arith in ap is_positive on)
  any_first false rest n e = (let on : n ≡ 0 + n = omega arith in e ∙ ap is_positive on)

  any_by_sum : (xs : List K) → list_any p xs ≡ is_positive (sum_by (λ x. one_if (p x)) xs)
  unfolding is_positive
  any_by_sum [] = refl
  any_by_sum (x ∷ xs) = any_first (p x) (list_any p xs) (sum_by (λ y. one_if (p y)) xs) (any_by_sum xs) ∙ ap is_positive (sym (sum_by-cons (λ y. one_if (p y)) x xs))

  pub list_any-Alike : (xs ys : List K) → Alike xs ys → list_any p xs ≡ list_any p ys
  list_any-Alike xs ys same = any_by_sum xs ∙ ap is_positive (same (λ x. one_if (p x))) ∙ sym (any_by_sum ys)

has_rows-Alike : (xs ys : List Row) → Alike xs ys → has_rows xs ≡ has_rows ys
has_rows-Alike [] [] same = refl
has_rows-Alike [] (y ∷ ys) same = none_for_one y ys same
has_rows-Alike (x ∷ xs) [] same = none_for_one x xs (turned (x ∷ xs) [] same)
has_rows-Alike (x ∷ xs) (y ∷ ys) same = refl

is_arcs-Alike : (meta meta' arcs arcs' : List Row) → Alike meta meta' → Alike arcs arcs' → is_arcs meta arcs ≡ is_arcs meta' arcs'
is_arcs-Alike meta meta' arcs arcs' m a =
    let names = list_any-Alike names_arcs meta meta' m in
    let says = list_any-Alike says_arcs meta meta' m in
    let has = has_rows-Alike arcs arcs' a in
    λ i. cond (names i) (says i) (has i)

-- ---- paths

kept_file : (m : Files) (p q : Text) → file_in (add_path m p) q ≡ file_in m q
kept_file m p q = ap (λ o. unwrap_or o no_rows) (get-insert text_cmp_total m p (file_in m p) q)
    ∙ elim (text_cmp q p) as (λ r. text_cmp q p ≡ r → unwrap_or (cond (is_eq r) (Some (file_in m p)) (get m q)) no_rows ≡ file_in m q) [
      | Less ↦ λ e. refl
      | Equal ↦ λ e. ap (file_in m) (sym (text_cmp_same q p e))
      | Greater ↦ λ e. refl
    ] refl

-- a path that is among those that were added has the rows that it had
get-paths : (m : Files) (ps : List Text) (q : Text) → get (fold add_path m ps) q ≡ cond (list_any (eq_by_cmp text_cmp q) ps) (Some (file_in m q)) (get m q)
get-paths m [] q = refl
get-paths m (p ∷ ps) q =
    get-paths (add_path m p) ps q
    ∙ (λ i. cond (list_any (eq_by_cmp text_cmp q) ps) (Some (kept_file m p q i)) (get-insert text_cmp_total m p (file_in m p) q i))
    ∙ elim (text_cmp q p) as (λ r. text_cmp q p ≡ r → cond (list_any (eq_by_cmp text_cmp q) ps) (Some (file_in m q)) (cond (is_eq r) (Some (file_in m p)) (get m q))
    ≡ cond (is_eq r || list_any (eq_by_cmp text_cmp q) ps) (Some (file_in m q)) (get m q)) [
      | Less ↦ λ e. refl
      | Equal ↦ λ e. either (list_any (eq_by_cmp text_cmp q) ps) _ _ (ap (λ t. Some (file_in m t)) (sym (text_cmp_same q p e)))
      | Greater ↦ λ e. refl
    ] refl
  where
    either : (b : Bool) (x y : Option File) → y ≡ x → cond b x y ≡ x
    either true x y e = refl
    either false x y e = e

with_paths : (d : DataSet) (ps : List Text) → fold with_path d ps ≡ record d { files = fold add_path d.files ps }
with_paths d [] = refl
with_paths d (p ∷ ps) = with_paths (with_path d p) ps

paths_only-Alike : (arcs : Bool) (xs ys : List Row) → Alike xs ys → paths_only arcs xs ≡ paths_only arcs ys
paths_only-Alike arcs xs ys same =
    let named = flat_map-Alike (λ r. option_to_list (text_at r 1)) (λ r. option_to_list (text_at r 1)) xs ys same (λ x f. refl) in
    let none = (no_data arcs).files in
    let files = same_map text_cmp_total text_cmp_same (fold add_path none (paths_in xs)) (fold add_path none (paths_in ys)) (λ q.
    get-paths none (paths_in xs) q ∙ ap (λ b. cond b (Some (file_in none q)) (get none q)) (list_any-Alike (eq_by_cmp text_cmp q) (paths_in xs) (paths_in ys) named) ∙ sym (get-paths none (paths_in ys) q)) in
    with_paths (no_data arcs) (paths_in xs) ∙ ap (λ m. record { arcs = arcs; files = m }) files ∙ sym (with_paths (no_data arcs) (paths_in ys))

-- ---- the whole

module _ (s t : Tables) (h : ArePermuted s t) where
  arc_content-Alike : arc_content s ≡ arc_content t
  arc_content-Alike =
      let counts = count_of-Alike s.hits t.hits (alike _ _ h.hits) in
      let all = arcs-in_order s.file t.file s.context t.context s.arc t.arc (alike _ _ h.file) (alike _ _ h.context) (alike _ _ h.arc) in
      let paths = paths_only-Alike true s.file t.file (alike _ _ h.file) in
      λ i. read_entries is_bad_arc (arc_rows (counts i)) (all i) (paths i)

  bits_content-Alike : bits_content s ≡ bits_content t
  bits_content-Alike =
      let counts = count_of-Alike s.hits t.hits (alike _ _ h.hits) in
      let all = bits-in_order s.file t.file s.context t.context s.line_bits t.line_bits (alike _ _ h.file) (alike _ _ h.context) (alike _ _ h.line_bits) in
      let paths = paths_only-Alike false s.file t.file (alike _ _ h.file) in
      λ i. read_entries is_bad_bits (bits_rows (counts i)) (all i) (paths i)

  pub content-permuted : content s ≡ content t
  content-permuted =
      let seven = is_schema_7-Alike s.coverage_schema t.coverage_schema (alike _ _ h.coverage_schema) in
      let arcs = is_arcs-Alike s.meta t.meta s.arc t.arc (alike _ _ h.meta) (alike _ _ h.arc) in
      λ i. cond (seven i) (cond (arcs i) (arc_content-Alike i) (bits_content-Alike i)) NotSchema7
