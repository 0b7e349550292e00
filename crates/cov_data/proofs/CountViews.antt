-- The counts of one context as a finite map over the tree that holds them.
use Rattle.std.proofs.Common.{◌≡◌, ℕ, ℤ, List, [], ◌∷◌, refl, ap, sym, ◌∙◌}
use Rattle.std.specs.Ordering.{is_eq}
use Rattle.std.specs.Map.{lookup, keys_of}
use Rattle.std.specs.List.{AllZip}
use Rattle.std.specs.List.Sorted.{IsStrictlySortedBy}
use Rattle.std.specs.BTreeMap.{insert_entry}
use Rattle.std.specs.FinMap.{get, insert, entries, from_entries, get-from_entries}
use Rattle.cov_data.specs.DataSet.{rekeyed, joined_count}
use Rattle.cov_data.specs.Rows.{arc_cmp}
use Rattle.cov_data.specs.Stored.{Counts, counts_from, add_at}
use Rattle.cov_data.proofs.FileViews.{arc_cmp_total, arc_cmp_same}
use Rattle.cov_data.proofs.MapViews.{find-rekeyed, rekeyed-insert_entry, is_sorted-rekeyed, from_entries-put, entries-from_entries}

abbrev Arc : Type 0
Arc = ℤ × ℤ

pub get-counts_from : (es : List (Arc × ℕ)) (k : Arc) → get (counts_from es) k ≡ lookup (λ x. is_eq (arc_cmp k x)) es
get-counts_from es k = get-from_entries arc_cmp_total _ _ ∙ find-rekeyed arc_cmp (λ k. k) k es

pub counts_from-insert_entry : (k : Arc) (v : ℕ) (es : List (Arc × ℕ)) → counts_from (insert_entry arc_cmp es k v) ≡ insert (counts_from es) k v
counts_from-insert_entry k v es = ap from_entries (rekeyed-insert_entry arc_cmp (λ k. k) k v es) ∙ from_entries-put arc_cmp_total arc_cmp_same k v (rekeyed (λ k. k) es)

pub entries-counts_from : (es : List (Arc × ℕ)) → IsStrictlySortedBy arc_cmp (keys_of es) → entries (counts_from es) ≡ rekeyed (λ k. k) es
entries-counts_from es h = entries-from_entries arc_cmp_total arc_cmp_same (rekeyed (λ k. k) es) (is_sorted-rekeyed arc_cmp (λ k. k) es h)

-- a count joined to the one that the tree holds
pub counts_from-joined : (es : List (Arc × ℕ)) (k : Arc) (n v : ℕ) → v ≡ joined_count (lookup (λ x. is_eq (arc_cmp k x)) es) n
    → counts_from (insert_entry arc_cmp es k v) ≡ add_at (counts_from es) k n
counts_from-joined es k n v is = counts_from-insert_entry k v es ∙ ap (insert (counts_from es) k) (is ∙ ap (λ o. joined_count o n) (sym (get-counts_from es k)))

-- what an iterator over the tree has left as a loop begins
pub left_at_start : (es s : List (Arc × ℕ)) (f : Counts) → counts_from es ≡ f → s ≡ es → IsStrictlySortedBy arc_cmp (keys_of es) → rekeyed (λ k. k) s ≡ entries f
left_at_start es s f is at h = ap (rekeyed (λ k. k)) at ∙ sym (entries-counts_from es h) ∙ ap entries is

-- a tree whose keys are read alike, and whose values are equal, place by place
pub counts_from-alike : {C : Arc → Arc → Type 0} {D : ℕ → ℕ → Type 0} → ((k l : Arc) → C k l → l ≡ k) → ((m n : ℕ) → D m n → n ≡ m)
    → (es fs : List (Arc × ℕ)) → AllZip (λ p q. C p.0 q.0 × D p.1 q.1) es fs → counts_from fs ≡ counts_from es
counts_from-alike keys values [] [] h = refl
counts_from-alike keys values [] (f ∷ fs) h = absurd h
counts_from-alike keys values (e ∷ es) [] h = absurd h
counts_from-alike keys values (e ∷ es) (f ∷ fs) h = λ i. insert (counts_from-alike keys values es fs h.1 i) (keys e.0 f.0 h.0.0 i) (values e.1 f.1 h.0.1 i)
