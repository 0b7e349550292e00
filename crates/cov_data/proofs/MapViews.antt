-- A finite map as the view of a tree whose keys are read by f: what a look-up, an insertion and the entries say.
use Rattle.std.proofs.Common.{◌≡◌, Bool, true, false, cond, List, [], ◌∷◌, Option, Some, None, Ordering, refl, ap, sym, subst, ◌∙◌}
use Rattle.std.specs.declared.cmp.Ordering.TheVariants.{Less, Equal, Greater}
use Rattle.std.specs.Ordering.{is_eq, is_lt, eq_by_cmp, match_ordering}
use Rattle.std.specs.Cmp.{IsTotalOrder, on_total, eq_by_cmp_equiv}
use Rattle.std.specs.Map.{lookup, keys_of}
use Rattle.std.specs.List.{AllByRecursion}
use Rattle.std.specs.List.Sorted.{IsStrictlySortedBy}
use Rattle.std.specs.BTreeMap.{BTreeMap, insert_entry, IsFromIterResult}
use Rattle.std.specs.FinMap.{FinMap, IsAntisymmetric, get, insert, entries, from_entries, from_sorted, find, put, is_sorted, get-from_entries, get-insert, get-from_sorted, entries-from_sorted, get_tied, same_map}
use Rattle.std.specs.Prelude.{T, ◌&&◌, is_some}
use Rattle.std.specs.FinMap.Entries.{below_all, find-put, find_tied, by_order, same_entries}
use Rattle.std.proofs.lemmas.Map.Made.{update_all_none}
use Rattle.std.proofs.lemmas.Map.Keys.{IsDistinct-from_sorted}
use Rattle.cov_data.specs.DataSet.{rekeyed}

pub first : (a b : Bool) → T (a && b) → T a
first true b p = tt
first false b p = p

pub second : (a b : Bool) → T (a && b) → T b
second true b p = p
second false b p = absurd p

pub less : (r : Ordering) → T (is_lt r) → r ≡ Less
less Less p = refl
less Equal p = absurd p
less Greater p = absurd p

pub both : (a b : Bool) → T a → T b → T (a && b)
both true b p q = q
both false b p q = p

module _ {K B X : Type 0} (S : B → B → Ordering) (f : K → B) where
  -- a look-up by the keys' views
  pub find-rekeyed : (q : B) (es : List (K × X)) → find S q (rekeyed f es) ≡ lookup (λ k. is_eq (S q (f k))) es
  find-rekeyed q [] = refl
  find-rekeyed q (e ∷ es) = ap (cond (is_eq (S q (f e.0))) (Some e.1)) (find-rekeyed q es)

  -- an insertion into the tree puts the entry in its place
  pub rekeyed-insert_entry : (k : K) (v : X) (es : List (K × X)) → rekeyed f (insert_entry (λ x y. S (f x) (f y)) es k v) ≡ put S (f k) v (rekeyed f es)
  rekeyed-insert_entry k v [] = refl
  rekeyed-insert_entry k v (e ∷ es) =
      elim (S (f k) (f e.0)) as (λ r. rekeyed f (match_ordering r ((k, v) ∷ e ∷ es) ((e.0, v) ∷ es) (e ∷ insert_entry (λ x y. S (f x) (f y)) es k v)) ≡ by_order r ((f k, v) ∷ rekeyed f (e ∷ es)) ((f e.0, v) ∷ rekeyed f es) ((f e.0, e.1) ∷ put S (f k) v (rekeyed f es))) [
        | Less ↦ refl
        | Equal ↦ refl
        | Greater ↦ ap (λ xs. (f e.0, e.1) ∷ xs) (rekeyed-insert_entry k v es)
      ]

  below_all-rekeyed : (x : K) (es : List (K × X)) → AllByRecursion (λ y. S (f x) (f y) ≡ Less) (keys_of es) → T (below_all S (f x) (rekeyed f es))
  below_all-rekeyed x [] h = tt
  below_all-rekeyed x (e ∷ es) h = both _ _ (subst (λ r. T (is_lt r)) (sym h.0) tt) (below_all-rekeyed x es h.1)

  pub is_sorted-rekeyed : (es : List (K × X)) → IsStrictlySortedBy (λ x y. S (f x) (f y)) (keys_of es) → T (is_sorted S (rekeyed f es))
  unfolding IsStrictlySortedBy
  is_sorted-rekeyed [] h = tt
  is_sorted-rekeyed (e ∷ es) h = both _ _ (below_all-rekeyed e.0 es h.0) (is_sorted-rekeyed es h.1)

  rises : (x : K) (es : List (K × X)) → T (below_all S (f x) (rekeyed f es)) → AllByRecursion (λ y. S (f x) (f y) ≡ Less) (keys_of es)
  rises x [] h = tt
  rises x (e ∷ es) h = (less _ (first _ _ h), rises x es (second _ _ h))

  sorted_from_rekeyed : (es : List (K × X)) → T (is_sorted S (rekeyed f es)) → IsStrictlySortedBy (λ x y. S (f x) (f y)) (keys_of es)
  unfolding IsStrictlySortedBy
  sorted_from_rekeyed [] h = tt
  sorted_from_rekeyed (e ∷ es) h = (rises e.0 es (first _ _ h), sorted_from_rekeyed es (second _ _ h))

  -- A follows where q is not found, and where it ties with a key
  known : (q : B) (es : List (K × X)) (A : Type 0) → (find S q (rekeyed f es) ≡ None → A) → ((k : K) → S q (f k) ≡ Equal → A) → A
  known q [] A absent at = absent refl
  known q (e ∷ es) A absent at =
      elim (S q (f e.0)) as (λ r. S q (f e.0) ≡ r → A) [
        | Less ↦ λ t. known q es A (λ none. absent (ap (λ r. cond (is_eq r) (Some e.1) (find S q (rekeyed f es))) t ∙ none)) at
        | Equal ↦ λ t. at e.0 t
        | Greater ↦ λ t. known q es A (λ none. absent (ap (λ r. cond (is_eq r) (Some e.1) (find S q (rekeyed f es))) t ∙ none)) at
      ] refl

  -- a tree that is made of pairs in order holds these pairs
  pub rekeyed-collected : IsTotalOrder S → IsAntisymmetric S → (xs : List (K × X)) (n : BTreeMap K X) → T (is_sorted S (rekeyed f xs)) → IsFromIterResult (λ x y. S (f x) (f y)) xs n → rekeyed f n.entries ≡ rekeyed f xs
  rekeyed-collected o same xs n h made =
      let R : K → K → Ordering = λ x y. S (f x) (f y) in
      let total : IsTotalOrder R = on_total f o in
      let apart = IsDistinct-from_sorted R (keys_of xs) (sorted_from_rekeyed xs h) in
      let es = rekeyed f n.entries in
      let ys = rekeyed f xs in
      let stored : (k : K) → find S (f k) es ≡ find S (f k) ys = λ k. find-rekeyed (f k) n.entries ∙ made.0 k ∙ update_all_none (eq_by_cmp_equiv total) (eq_by_cmp R) (λ x y. refl) xs k apart ∙ sym (find-rekeyed (f k) xs) in
      let tied : (q : B) (k : K) → S q (f k) ≡ Equal → find S q es ≡ find S q ys = λ q k t. sym (find_tied S o q (f k) t es) ∙ stored k ∙ find_tied S o q (f k) t ys in
      same_entries S o same es ys (is_sorted-rekeyed n.entries made.1) h (λ q. known q n.entries (find S q es ≡ find S q ys) (λ none. known q xs (find S q es ≡ find S q ys) (λ other. none ∙ sym other) (tied q)) (tied q))

module _ {B X : Type 0} {S : B → B → Ordering} (o : IsTotalOrder S) (same : IsAntisymmetric S) where
  pub from_entries-put : (k : B) (v : X) (es : List (B × X)) → from_entries {R = S} (put S k v es) ≡ insert (from_entries es) k v
  from_entries-put k v es = same_map o same _ _ (λ q. get-from_entries o (put S k v es) q ∙ find-put S o q k v es ∙ sym (get-insert o (from_entries es) k v q ∙ ap (cond (eq_by_cmp S q k) (Some v)) (get-from_entries o es q)))

  -- the map of a list in order holds that list
  pub entries-from_entries : (es : List (B × X)) → T (is_sorted S es) → entries (from_entries {R = S} es) ≡ es
  entries-from_entries es h = ap entries (same_map o same (from_entries es) (from_sorted es) (λ q. get-from_entries o es q ∙ sym (get-from_sorted S es q h))) ∙ entries-from_sorted S es h

  -- what is there, inserted again
  pub insert-same : (m : FinMap S X) (k : B) (v : X) → get m k ≡ Some v → insert m k v ≡ m
  insert-same m k v is = same_map o same _ _ (λ q. get-insert o m k v q ∙ elim (S q k) as (λ r. S q k ≡ r → cond (is_eq r) (Some v) (get m q) ≡ get m q) [
    | Less ↦ λ p. refl
    | Equal ↦ λ p. sym is ∙ get_tied o m q k p
    | Greater ↦ λ p. refl
  ] refl)

pub none_from_is_some : {X : Type 0} (o : Option X) → is_some o ≡ false → o ≡ None
none_from_is_some None h = refl
none_from_is_some (Some x) h = cc

pub some_from_is_some : {X : Type 0} (o : Option X) → is_some o ≡ true → (x : X) × (o ≡ Some x)
some_from_is_some None h = cc
some_from_is_some (Some x) h = (x, refl)
