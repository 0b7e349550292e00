-- Trees that are made in one walk over two hold what both hold.
use Rattle.std.proofs.Common.{◌≡◌, ℕ, ℤ, List, [], ◌∷◌, map, Option, Some, None, Ordering, BTreeMap, refl, ap, sym, subst, ◌∙◌}
use denote.Ref.{Bor}
use Rattle.std.specs.Prelude.{T, String, string_bytes}
use Rattle.std.specs.Option.{unwrap_or}
use Rattle.std.specs.Cmp.{IsTotalOrder}
use Rattle.std.specs.Map.{keys_of}
use Rattle.std.specs.Map.Iter.{deref_pair, TakesFirst, ShowsInOrder}
use Rattle.std.specs.Iterator.{Yields}
use Rattle.std.proofs.iter.runs.Made.{run_of_exit}
use Rattle.itertools.specs.Adaptor.{EachRunBehindBoth, EndsWithBoth, GivesOfBoth}
use Rattle.itertools.specs.declared.either_or_both.EitherOrBoth.{EitherOrBoth}
use Rattle.std.specs.List.Sorted.{IsStrictlySortedBy}
use Rattle.std.specs.String.{string_cmp}
use Rattle.std.specs.BTreeMap.{IsFromIterResult}
use Rattle.std.specs.FinMap.{IsAntisymmetric, get, from_entries, find, is_sorted, get-from_entries, get-empty, same_map}
use Rattle.itertools.specs.List.{merge_join_by}
use Rattle.cov_data.specs.DataSet.{text_cmp, File, rekeyed, add_counts, joined_count, merged, all_files}
use Rattle.cov_data.specs.Stored.{Counts, counts_from, no_counts, both_counts, file_with, file_from, files_from}
use Rattle.cov_data.proofs.MapViews.{is_sorted-rekeyed, rekeyed-collected}
use Rattle.cov_data.specs.Rows.{arc_cmp}
use Rattle.cov_data.proofs.FileViews.{arc_cmp_total, arc_cmp_same, place_cmp_total, place_cmp_same, text_cmp_total, text_cmp_same}
use Rattle.cov_data.proofs.FilesViews.{texts_from}
use Rattle.cov_data.proofs.Nested.{get-file_with}
use Rattle.cov_data.proofs.Merging.{joined, joined_file, get-merged, get-both_counts, get-all_files, counts-none, merged-none}
use Rattle.cov_data.proofs.SideBySide.{of_both, entry_of, key_cmp, find-side_by_side, is_sorted-side_by_side}

abbrev Arc : Type 0
Arc = ℤ × ℤ

-- an entry as an iterator gives it
abbrev pub Lent : Type 0 → Type 0 → Type 0
Lent Z X = Bor Z × Bor X

-- a walk over two trees side by side that has ended went over the entries of both
module _ {U Z X : Type 0} {steps : U → Option (EitherOrBoth (Lent Z X) (Lent Z X)) → U → Type 0} where
  pub walked : (s from t u : U) (yielded : List (EitherOrBoth (Lent Z X) (Lent Z X))) → s ≡ from → Yields steps s yielded t → steps t None u → (mine other : List (Z × X)) → ShowsInOrder (deref_pair {K = Z} {X = X})
      → {Acts : (Lent Z X → Lent Z X → Ordering) → Type 0}
      → EachRunBehindBoth steps from (TakesFirst deref_pair) mine (TakesFirst deref_pair) other (λ p a b. EndsWithBoth p a b × ((h : Lent Z X → Lent Z X → Ordering) → Acts h → GivesOfBoth p a b (merge_join_by h)))
      → (h : Lent Z X → Lent Z X → Ordering) → Acts h
      → (ls : List (Lent Z X)) × (rs : List (Lent Z X)) × (map deref_pair ls ≡ mine) × (map deref_pair rs ≡ other) × (yielded ≡ merge_join_by h ls rs)
  walked s from t u yielded at ran ended mine other shows runs h acts =
      let p = run_of_exit steps s yielded t ran u ended in
      let r = runs p.0 p.0.seen (p.1 ∙ at) in
      let a = r.0 in
      let b = r.2.0 in
      let ends = r.2.2.0 p.2 in
      (a.items, b.items, (shows a a.seen).4 ends.0 ∙ r.1, (shows b b.seen).4 ends.1 ∙ r.2.1, sym p.3.0 ∙ (r.2.2.1 h acts).1 p.2)

-- an entry of a tree whose keys are read by f
abbrev pub entry_by : {Z K X : Type 0} → (Z → K) → Lent Z X → K × X
entry_by f a = (f a.0.now, a.1.now)

module _ {Z K X : Type 0} {R : K → K → Ordering} (o : IsTotalOrder R) (same : IsAntisymmetric R) (f : Z → K) (op : X → X → X) where
  abbrev Z_cmp : Z → Z → Ordering
  Z_cmp x y = R (f x) (f y)

  entries-seen : (ls : List (Lent Z X)) → map (entry_by f) ls ≡ rekeyed f (map deref_pair ls)
  entries-seen [] = refl
  entries-seen (a ∷ ls) = ap (λ es. (f a.0.now, a.1.now) ∷ es) (entries-seen ls)

  seen_sorted : (ls : List (Lent Z X)) (es : List (Z × X)) → map deref_pair ls ≡ es → IsStrictlySortedBy Z_cmp (keys_of es) → T (is_sorted R (map (entry_by f) ls))
  seen_sorted ls es all h = subst (λ xs. T (is_sorted R xs)) (sym (entries-seen ls ∙ ap (rekeyed f) all)) (is_sorted-rekeyed R f es h)

  get-seen : (ls : List (Lent Z X)) (es : List (Z × X)) → map deref_pair ls ≡ es → (q : K) → find R q (map (entry_by f) ls) ≡ get (from_entries {R = R} (rekeyed f es)) q
  get-seen ls es all q = ap (find R q) (entries-seen ls ∙ ap (rekeyed f) all) ∙ sym (get-from_entries o (rekeyed f es) q)

  pub get-united : (ls rs : List (Lent Z X)) (mine other xs : List (Z × X)) (n : BTreeMap Z X)
      → map deref_pair ls ≡ mine → map deref_pair rs ≡ other → IsStrictlySortedBy Z_cmp (keys_of mine) → IsStrictlySortedBy Z_cmp (keys_of other)
      → rekeyed f xs ≡ map (entry_of (entry_by f) op) (merge_join_by (key_cmp (entry_by f) R) ls rs) → IsFromIterResult Z_cmp xs n
      → (q : K) → get (from_entries {R = R} (rekeyed f n.entries)) q ≡ of_both op (get (from_entries {R = R} (rekeyed f mine)) q) (get (from_entries {R = R} (rekeyed f other)) q)
  get-united ls rs mine other xs n a b g h is made q =
      let left = seen_sorted ls mine a g in
      let right = seen_sorted rs other b h in
      let rises : T (is_sorted R (rekeyed f xs)) = subst (λ es. T (is_sorted R es)) (sym is) (is_sorted-side_by_side R (entry_by f) op o ls left rs right) in
      get-from_entries o (rekeyed f n.entries) q
      ∙ ap (find R q) (rekeyed-collected R f o same xs n rises made ∙ is)
      ∙ find-side_by_side R (entry_by f) op o q ls left rs right
      ∙ (λ i. of_both op (get-seen ls mine a q i) (get-seen rs other b q i))

counts_of_both : (x y : Option ℕ) → of_both add_counts x y ≡ joined joined_count x y
counts_of_both None None = refl
counts_of_both None (Some n) = refl
counts_of_both (Some m) None = refl
counts_of_both (Some m) (Some n) = refl

files_of_both : (x y : Option File) → of_both merged x y ≡ joined joined_file x y
files_of_both None None = refl
files_of_both None (Some g) = ap Some (sym (merged-none g))
files_of_both (Some f) None = refl
files_of_both (Some f) (Some g) = refl

pub counts_from-united : (ls rs : List (Lent Arc ℕ)) (mine other xs : List (Arc × ℕ)) (n : BTreeMap Arc ℕ)
    → map deref_pair ls ≡ mine → map deref_pair rs ≡ other → IsStrictlySortedBy arc_cmp (keys_of mine) → IsStrictlySortedBy arc_cmp (keys_of other)
    → rekeyed (λ k. k) xs ≡ map (entry_of (entry_by (λ k. k)) add_counts) (merge_join_by (key_cmp (entry_by (λ k. k)) arc_cmp) ls rs) → IsFromIterResult arc_cmp xs n
    → counts_from n.entries ≡ both_counts (counts_from mine) (counts_from other)
counts_from-united ls rs mine other xs n a b g h is made = same_map arc_cmp_total arc_cmp_same _ _ (λ k.
    get-united arc_cmp_total arc_cmp_same (λ k. k) add_counts ls rs mine other xs n a b g h is made k
    ∙ counts_of_both (get (counts_from mine) k) (get (counts_from other) k) ∙ sym (get-both_counts (counts_from mine) (counts_from other) k))

tallies_of_both : (x y : Option Counts) (a : Arc) → get (unwrap_or (of_both both_counts x y) no_counts) a ≡ joined joined_count (get (unwrap_or x no_counts) a) (get (unwrap_or y no_counts) a)
tallies_of_both None None a = get-empty arc_cmp a ∙ (λ i. joined joined_count (sym (get-empty {X = ℕ} arc_cmp a) i) (sym (get-empty {X = ℕ} arc_cmp a) i))
tallies_of_both None (Some g) a = ap (λ m. get m a) (sym (counts-none g)) ∙ get-both_counts no_counts g a
tallies_of_both (Some f) None a = ap (joined joined_count (get f a)) (sym (get-empty {X = ℕ} arc_cmp a))
tallies_of_both (Some f) (Some g) a = get-both_counts f g a

module _ {Y : Type 0} where
  pub file_from-united : (ls rs : List (Lent (String Y) Counts)) (mine other xs : List (String Y × Counts)) (n : BTreeMap (String Y) Counts)
      → map deref_pair ls ≡ mine → map deref_pair rs ≡ other → IsStrictlySortedBy string_cmp (keys_of mine) → IsStrictlySortedBy string_cmp (keys_of other)
      → rekeyed string_bytes xs ≡ map (entry_of (entry_by string_bytes) both_counts) (merge_join_by (key_cmp (entry_by string_bytes) text_cmp) ls rs) → IsFromIterResult string_cmp xs n
      → file_from n.entries ≡ merged (file_from mine) (file_from other)
  file_from-united ls rs mine other xs n a b g h is made = same_map place_cmp_total place_cmp_same _ _ (λ k.
      let all = texts_from n.entries in
      let one = texts_from mine in
      let two = texts_from other in
      get-file_with all k.0 k.1
      ∙ ap (λ o. get (unwrap_or o no_counts) k.1) (get-united text_cmp_total text_cmp_same string_bytes both_counts ls rs mine other xs n a b g h is made k.0)
      ∙ tallies_of_both (get one k.0) (get two k.0) k.1
      ∙ (λ i. joined joined_count (sym (get-file_with one k.0 k.1) i) (sym (get-file_with two k.0 k.1) i))
      ∙ sym (get-merged (file_with one) (file_with two) k))

module _ {Y : Type 0} where
  pub files_from-united : (ls rs : List (Lent (String Y) File)) (mine other xs : List (String Y × File)) (n : BTreeMap (String Y) File)
      → map deref_pair ls ≡ mine → map deref_pair rs ≡ other → IsStrictlySortedBy string_cmp (keys_of mine) → IsStrictlySortedBy string_cmp (keys_of other)
      → rekeyed string_bytes xs ≡ map (entry_of (entry_by string_bytes) merged) (merge_join_by (key_cmp (entry_by string_bytes) text_cmp) ls rs) → IsFromIterResult string_cmp xs n
      → files_from n.entries ≡ all_files (files_from mine) (files_from other)
  files_from-united ls rs mine other xs n a b g h is made = same_map text_cmp_total text_cmp_same _ _ (λ p.
      get-united text_cmp_total text_cmp_same string_bytes merged ls rs mine other xs n a b g h is made p
      ∙ files_of_both (get (files_from mine) p) (get (files_from other) p) ∙ sym (get-all_files (files_from mine) (files_from other) p))
