-- Keys, their hashes and an index over them.
use Rattle.std.proofs.Common.{◌≡◌, ◌≢◌, ℕ, zero, suc, ◌+◌, ◌<◌, ◌≤◌, ◌%◌, Vec, map, take, Bool, true, false, ◌||◌, not, nat_eq, cond, IsTrue, List, [], ◌∷◌, ◌++◌, length, get_or, Option, Some, None, ◌⊎◌, inl, inr, refl, ap, sym, ◌∙◌, arith, subst}
use Rattle.std.proofs.Math.ListN.{set}
use Rattle.std.specs.List.{slice_get}
use Rattle.std.specs.Option.{option_map}
use Rattle.std.proofs.lemmas.Bool.{eqb-true, eq-eqb}
use Rattle.std.proofs.lemmas.Bool.Decides.{Decides-int_eq}
use Rattle.std.proofs.lemmas.Nat.{mod_below}
use Rattle.std.proofs.lemmas.List.{length-set, get_or-set_same, get_or-set_other, length-map, length-take-le, take_more, map-append, map-set}
use Rattle.std.proofs.Math.Seq.{map-set_same}
use Rattle.std.proofs.lemmas.Option.{slice_get-map, slice_get-get_or, slice_get_past}
use Rattle.std.specs.declared.alloc.Global.{Global}
use Rattle.py_value.specs.declared.pairs.Pair.{Pair}
use Rattle.py_value.specs.declared.value.Value.{Value}
use Rattle.py_value.specs.View.{plain}
use Rattle.py_value.specs.Pairs.{plain_pair}
use Rattle.py_value.proofs.DistinctKeys.{revalued}
use Rattle.py_value.specs.Plain.{PlainValue, none_value, int_value, str_value, tuple_value, PlainValues, no_values, value_then}
use Rattle.py_value.specs.Keys.{is_same_key, are_same_keys, place_of_key, has_none_same, has_distinct_keys}
use Rattle.py_value.specs.Hashes.{hash_of, is_among, named, with_place, IsIndex, has_key, first_with}
use Rattle.py_text.proofs.SameTexts.{same_text}
use Rattle.py_text.proofs.TestLaws.{first_true, second_true}

-- the same keys are equal
mutual
  pub same_key : (p q : PlainValue) → is_same_key p q ≡ true → p ≡ q
  same_key none_value none_value h = refl
  same_key (int_value m) (int_value n) h = ap int_value ((Decides-int_eq m n).0 h)
  same_key (str_value s) (str_value t) h = ap str_value (same_text s t h)
  same_key (tuple_value vs) (tuple_value ws) h = ap tuple_value (same_keys vs ws h)
  same_key _ _ h = absurd (cc)

  same_keys : (vs ws : PlainValues) → are_same_keys vs ws ≡ true → vs ≡ ws
  same_keys no_values no_values h = refl
  same_keys (value_then v vs) (value_then w ws) h =
      let e : v ≡ w = same_key v w (first_true (is_same_key v w) (are_same_keys vs ws) h) in
      let f : vs ≡ ws = same_keys vs ws (second_true (is_same_key v w) (are_same_keys vs ws) h) in
      cc
  same_keys _ _ h = absurd (cc)

pub same_hash : (p q : PlainValue) → is_same_key p q ≡ true → hash_of p ≡ hash_of q
same_hash p q h = ap hash_of (same_key p q h)

-- keys of other hashes aren't the same
pub other_hash : (p q : PlainValue) → hash_of p ≢ hash_of q → is_same_key p q ≡ false
other_hash p q d = either (is_same_key p q) refl
  where
    either : (b : Bool) → is_same_key p q ≡ b → b ≡ false
    either true e = absurd (d (same_hash p q e))
    either false e = refl

-- one more place
among-more : (i : ℕ) (xs ys : List ℕ) → IsTrue (is_among i xs) → IsTrue (is_among i (xs ++ ys))
among-more i [] ys h = absurd (cc)
among-more i (x ∷ xs) ys h = either (nat_eq i x) (is_among i xs) (is_among i (xs ++ ys)) h (λ t. among-more i xs ys t)
  where
    either : (a b c : Bool) → IsTrue (a || b) → (IsTrue b → IsTrue c) → IsTrue (a || c)
    either true b c h f = refl
    either false b c h f = f h

among-last : (i : ℕ) (xs : List ℕ) → IsTrue (is_among i (xs ++ i ∷ []))
among-last i [] = ap (λ b. b || false) (eq-eqb i i refl)
among-last i (x ∷ xs) = either (nat_eq i x) _ (among-last i xs)
  where
    either : (a b : Bool) → IsTrue b → IsTrue (a || b)
    either true b h = refl
    either false b h = h

named-same : (bs : List (List ℕ)) (h g p : ℕ) → 0 < length bs → h % length bs ≡ g % length bs → named (with_place bs h p) g ≡ named bs g ++ p ∷ []
named-same bs h g p l e =
    ap (λ n. get_or (with_place bs h p) (g % n) []) (length-set bs (h % length bs) (named bs h ++ p ∷ []))
    ∙ ap (λ a. get_or (with_place bs h p) a []) (sym e)
    ∙ get_or-set_same bs (h % length bs) (named bs h ++ p ∷ []) [] (mod_below h (length bs) l)
    ∙ ap (λ a. get_or bs a [] ++ p ∷ []) e

named-other : (bs : List (List ℕ)) (h g p : ℕ) → g % length bs ≢ h % length bs → named (with_place bs h p) g ≡ named bs g
named-other bs h g p e =
    ap (λ n. get_or (with_place bs h p) (g % n) []) (length-set bs (h % length bs) (named bs h ++ p ∷ []))
    ∙ get_or-set_other bs (h % length bs) (g % length bs) (named bs h ++ p ∷ []) [] e

pub named-kept : (bs : List (List ℕ)) (h g p i : ℕ) → 0 < length bs → IsTrue (is_among i (named bs g)) → IsTrue (is_among i (named (with_place bs h p) g))
named-kept bs h g p i l t = either (nat_eq (h % length bs) (g % length bs)) refl
  where
    either : (b : Bool) → nat_eq (h % length bs) (g % length bs) ≡ b → IsTrue (is_among i (named (with_place bs h p) g))
    either true e = ap (is_among i) (named-same bs h g p l (eqb-true _ _ e)) ∙ among-more i (named bs g) (p ∷ []) t
    either false e = ap (is_among i) (named-other bs h g p (λ f. absurd (clash (sym e ∙ eq-eqb (h % length bs) (g % length bs) (sym f))))) ∙ t
      where
        clash : false ≡ true → ⊥
        clash x = cc

-- one more pair
more-pairs : (ps : List (PlainValue × PlainValue)) (q : PlainValue × PlainValue) (i : ℕ) (p : PlainValue × PlainValue) → slice_get (ps ++ q ∷ []) i ≡ Some p → (slice_get ps i ≡ Some p) ⊎ ((i ≡ length ps) × (p ≡ q))
more-pairs [] q zero p e = inr (refl, same q p e)
  where
    same : (q p : PlainValue × PlainValue) → Some q ≡ Some p → p ≡ q
    same q p e = cc
more-pairs [] q (suc i) p e = absurd (cc)
more-pairs (r ∷ ps) q zero p e = inl e
more-pairs (r ∷ ps) q (suc i) p e = onward (more-pairs ps q i p e)
  where
    onward : (slice_get ps i ≡ Some p) ⊎ ((i ≡ length ps) × (p ≡ q)) → (slice_get ps i ≡ Some p) ⊎ ((suc i ≡ suc (length ps)) × (p ≡ q))
    onward (inl f) = inl f
    onward (inr w) = inr (ap suc w.0, w.1)

pub index-more : (bs : List (List ℕ)) (ps : List (PlainValue × PlainValue)) (h n : ℕ) → IsIndex bs ps → IsIndex (with_place bs h n) ps
index-more bs ps h n f l i p e =
    let k : 0 < length bs = omega (arith, l, length-set bs (h % length bs) (named bs h ++ n ∷ [])) in
    named-kept bs h (hash_of p.0) n i k (f k i p e)

pub index-added : (bs : List (List ℕ)) (ps : List (PlainValue × PlainValue)) (q : PlainValue × PlainValue) → IsIndex bs ps → IsIndex (with_place bs (hash_of q.0) (length ps)) (ps ++ q ∷ [])
index-added bs ps q f l i p e = either (more-pairs ps q i p e)
  where
    k : 0 < length bs
    k = omega (arith, l, length-set bs (hash_of q.0 % length bs) (named bs (hash_of q.0) ++ length ps ∷ []))

    last : IsTrue (is_among (length ps) (named (with_place bs (hash_of q.0) (length ps)) (hash_of q.0)))
    last = ap (is_among (length ps)) (named-same bs (hash_of q.0) (hash_of q.0) (length ps) k refl) ∙ among-last (length ps) (named bs (hash_of q.0))

    either : (slice_get ps i ≡ Some p) ⊎ ((i ≡ length ps) × (p ≡ q)) → IsTrue (is_among i (named (with_place bs (hash_of q.0) (length ps)) (hash_of p.0)))
    either (inl g) = named-kept bs (hash_of q.0) (hash_of p.0) (length ps) i k (f k i p g)
    either (inr w) = ap (λ j. is_among j (named (with_place bs (hash_of q.0) (length ps)) (hash_of p.0))) w.0 ∙ ap (λ (r : PlainValue × PlainValue). is_among (length ps) (named (with_place bs (hash_of q.0) (length ps)) (hash_of r.0))) w.1 ∙ last

-- the place of a key, where no two pairs have the same
other_key : (k c : PlainValue) (ps : List (PlainValue × PlainValue)) (j : ℕ) (p : PlainValue × PlainValue) → IsTrue (has_none_same c ps) → slice_get ps j ≡ Some p → is_same_key k p.0 ≡ true → is_same_key k c ≡ false
other_key k c [] j p h e s = absurd (cc)
other_key k c (r ∷ ps) zero p h e s = either (is_same_key k c) refl
  where
    not_both : (b : Bool) → IsTrue (not b) → b ≡ true → ⊥
    not_both true t f = absurd (cc)
    not_both false t f = absurd (cc)

    pair : (r p : PlainValue × PlainValue) → Some r ≡ Some p → r.0 ≡ p.0
    pair r p e = cc

    either : (b : Bool) → is_same_key k c ≡ b → b ≡ false
    either false f = refl
    either true f =
        let a : r.0 ≡ k = pair r p e ∙ sym (same_key k p.0 s) in
        absurd (not_both (is_same_key r.0 c) (first_true (not (is_same_key r.0 c)) _ h) (ap (λ x. is_same_key x c) a ∙ f))
other_key k c (r ∷ ps) (suc j) p h e s = other_key k c ps j p (second_true (not (is_same_key r.0 c)) _ h) e s

only_place : (k : PlainValue) (ps : List (PlainValue × PlainValue)) (j : ℕ) (p : PlainValue × PlainValue) → IsTrue (has_distinct_keys ps) → slice_get ps j ≡ Some p → is_same_key k p.0 ≡ true → place_of_key k ps ≡ Some j
only_place k [] j p d e s = absurd (cc)
only_place k (q ∷ ps) zero p d e s = ap (λ b. cond b (Some 0) (option_map (λ i. suc i) (place_of_key k ps))) (ap (is_same_key k) (pair q p e) ∙ s)
  where
    pair : (r p : PlainValue × PlainValue) → Some r ≡ Some p → r.0 ≡ p.0
    pair r p e = cc
only_place k (q ∷ ps) (suc j) p d e s =
    ap (λ b. cond b (Some 0) (option_map (λ i. suc i) (place_of_key k ps))) (other_key k q.0 ps j p (first_true (has_none_same q.0 ps) _ d) e s)
    ∙ ap (option_map (λ i. suc i)) (only_place k ps j p (second_true (has_none_same q.0 ps) _ d) e s)

nowhere : (k : PlainValue) (ps : List (PlainValue × PlainValue)) → ((i : ℕ) (p : PlainValue × PlainValue) → slice_get ps i ≡ Some p → is_same_key k p.0 ≡ false) → place_of_key k ps ≡ None
nowhere k [] f = refl
nowhere k (q ∷ ps) f = ap (λ b. cond b (Some 0) (option_map (λ i. suc i) (place_of_key k ps))) (f 0 q refl) ∙ ap (option_map (λ i. suc i)) (nowhere k ps (λ i p e. f (suc i) p e))

-- what a walk over places found
first-found : (k : PlainValue) (ps : List (PlainValue × PlainValue)) (is : List ℕ) (j : ℕ) → first_with k ps is ≡ Some j → (p : PlainValue × PlainValue) × (slice_get ps j ≡ Some p) × (is_same_key k p.0 ≡ true)
first-found k ps [] j e = absurd (cc)
first-found k ps (i ∷ is) j e = at (λ f. first-found k ps is j f) (slice_get ps i) refl
  where
    Found : Type 0
    Found = (p : PlainValue × PlainValue) × (slice_get ps j ≡ Some p) × (is_same_key k p.0 ≡ true)

    rest : (b : Bool) → has_key k (slice_get ps i) ≡ b → b ≡ false → first_with k ps is ≡ Some j
    rest b f g = sym (ap (λ c. cond c (Some i) (first_with k ps is)) (f ∙ g)) ∙ e

    here : has_key k (slice_get ps i) ≡ true → i ≡ j
    here f = some (sym (ap (λ c. cond c (Some i) (first_with k ps is)) f) ∙ e)
      where
        some : Some i ≡ Some j → i ≡ j
        some h = cc

    by : (first_with k ps is ≡ Some j → Found) → (p : PlainValue × PlainValue) → slice_get ps i ≡ Some p → (b : Bool) → is_same_key k p.0 ≡ b → Found
    by later p f true g = (p, ap (slice_get ps) (sym (here (ap (has_key k) f ∙ g))) ∙ f, g)
    by later p f false g = later (rest (has_key k (slice_get ps i)) refl (ap (has_key k) f ∙ g))

    at : (first_with k ps is ≡ Some j → Found) → (o : Option (PlainValue × PlainValue)) → slice_get ps i ≡ o → Found
    at later None f = later (rest (has_key k (slice_get ps i)) refl (ap (has_key k) f))
    at later (Some p) f = by later p f (is_same_key k p.0) refl

first-none : (k : PlainValue) (ps : List (PlainValue × PlainValue)) (is : List ℕ) (i : ℕ) (p : PlainValue × PlainValue) → first_with k ps is ≡ None → IsTrue (is_among i is) → slice_get ps i ≡ Some p → is_same_key k p.0 ≡ false
first-none k ps [] i p e t f = absurd (cc)
first-none k ps (x ∷ xs) i p e t f = either (λ g u. first-none k ps xs i p g u f) (nat_eq i x) refl (absent (has_key k (slice_get ps x)) (first_with k ps xs) e)
  where
    absent : (b : Bool) (o : Option ℕ) → cond b (Some x) o ≡ None → (b ≡ false) × (o ≡ None)
    absent true o h = absurd (cc)
    absent false o h = (refl, h)

    either : (first_with k ps xs ≡ None → IsTrue (is_among i xs) → is_same_key k p.0 ≡ false) → (b : Bool) → nat_eq i x ≡ b → (has_key k (slice_get ps x) ≡ false) × (first_with k ps xs ≡ None) → is_same_key k p.0 ≡ false
    either later true g w = sym (ap (has_key k) (ap (slice_get ps) (sym (eqb-true i x g)) ∙ f)) ∙ w.0
    either later false g w = later w.1 (sym (ap (λ b. b || is_among i xs) g) ∙ t)

-- the index leads to the place
pub found_by_index : (k : PlainValue) (ps : List (PlainValue × PlainValue)) (bs : List (List ℕ)) → IsTrue (has_distinct_keys ps) → IsIndex bs ps → 0 < length bs → first_with k ps (named bs (hash_of k)) ≡ place_of_key k ps
found_by_index k ps bs d f l = at (first_with k ps (named bs (hash_of k))) refl
  where
    at : (o : Option ℕ) → first_with k ps (named bs (hash_of k)) ≡ o → o ≡ place_of_key k ps
    at None e = sym (nowhere k ps (λ i p g. by i p g (is_same_key k p.0) refl))
      where
        by : (i : ℕ) (p : PlainValue × PlainValue) → slice_get ps i ≡ Some p → (b : Bool) → is_same_key k p.0 ≡ b → b ≡ false
        by i p g false h = refl
        by i p g true h =
            let t : IsTrue (is_among i (named bs (hash_of k))) = ap (λ n. is_among i (named bs n)) (same_hash k p.0 h) ∙ f l i p g in
            sym h ∙ first-none k ps (named bs (hash_of k)) i p e t g
    at (Some j) e = let w = first-found k ps (named bs (hash_of k)) j e in sym (only_place k ps j w.0 d w.1 w.2)

-- the same over the code's pairs
pub index-none : (bs : List (List ℕ)) (ps : List (PlainValue × PlainValue)) → bs ≡ [] → IsIndex bs ps
index-none bs ps e l i p f = absurd (omega (arith, l, ap length e))

pub index-step : (bs cs : List (List ℕ)) (ps : List Pair) (i h : ℕ) (d : Pair) → i < length ps → h ≡ hash_of (plain (get_or ps i d).key) → cs ≡ with_place bs h i → IsIndex bs (map plain_pair (take i ps))
    → IsIndex cs (map plain_pair (take (i + 1) ps))
index-step bs cs ps i h d l g f x =
    let q : Pair = get_or ps i d in
    let n : length (map plain_pair (take i ps)) ≡ i = length-map (take i ps) plain_pair ∙ length-take-le i ps (omega arith) in
    let more : map plain_pair (take (i + 1) ps) ≡ map plain_pair (take i ps) ++ plain_pair q ∷ [] =
    ap (map plain_pair) (take_more ps i d l) ∙ map-append plain_pair (take i ps) (q ∷ []) in
    let same : cs ≡ with_place bs (hash_of (plain q.key)) (length (map plain_pair (take i ps))) = f ∙ ap (λ k. with_place bs k i) g ∙ ap (with_place bs (hash_of (plain q.key))) (sym n) in
    let P : List (List ℕ) → Type 0 = λ ds. IsIndex ds (map plain_pair (take (i + 1) ps)) in
    let Q : List (PlainValue × PlainValue) → Type 0 = IsIndex (with_place bs (hash_of (plain q.key)) (length (map plain_pair (take i ps)))) in
    subst P (sym same) (subst Q (sym more) (index-added bs (map plain_pair (take i ps)) (plain_pair q) x))

pub index-pushed : (b : Bool) (bs cs : List (List ℕ)) (ps qs : List Pair) (h : ℕ) (r : Pair) → h ≡ hash_of (plain r.key) → cs ≡ with_place bs h (length ps) → qs ≡ cond b (ps ++ r ∷ []) ps → IsIndex bs (map plain_pair ps)
    → IsIndex cs (map plain_pair qs)
index-pushed true bs cs ps qs h r g f e x =
    let more : map plain_pair qs ≡ map plain_pair ps ++ plain_pair r ∷ [] = ap (map plain_pair) e ∙ map-append plain_pair ps (r ∷ []) in
    let same : cs ≡ with_place bs (hash_of (plain r.key)) (length (map plain_pair ps)) = f ∙ ap (λ k. with_place bs k (length ps)) g ∙ ap (with_place bs (hash_of (plain r.key))) (sym (length-map ps plain_pair)) in
    let P : List (List ℕ) → Type 0 = λ ds. IsIndex ds (map plain_pair qs) in
    let Q : List (PlainValue × PlainValue) → Type 0 = IsIndex (with_place bs (hash_of (plain r.key)) (length (map plain_pair ps))) in
    subst P (sym same) (subst Q (sym more) (index-added bs (map plain_pair ps) (plain_pair r) x))
index-pushed false bs cs ps qs h r g f e x =
    let P : List (List ℕ) → Type 0 = λ ds. IsIndex ds (map plain_pair qs) in
    let Q : List Pair → Type 0 = λ rs. IsIndex (with_place bs h (length ps)) (map plain_pair rs) in
    subst P (sym f) (subst Q (sym e) (index-more bs (map plain_pair ps) h (length ps) x))

key-kept : (ps : List Pair) (i j : ℕ) (o : Pair) (v : Value) (p : PlainValue × PlainValue) → o ≡ get_or ps i o → slice_get (map plain_pair (set ps i (revalued o v))) j ≡ Some p
    → (q : PlainValue × PlainValue) × (slice_get (map plain_pair ps) j ≡ Some q) × (q.0 ≡ p.0)
key-kept [] i j o v p e f = absurd (cc)
key-kept (r ∷ ps) zero zero o v p e f = (plain_pair r, refl, ap (λ (s : Pair). plain s.key) (sym e) ∙ first (plain o.key, plain v) p f)
  where
    first : (a b : PlainValue × PlainValue) → Some a ≡ Some b → a.0 ≡ b.0
    first a b g = cc
key-kept (r ∷ ps) zero (suc j) o v p e f = (p, f, refl)
key-kept (r ∷ ps) (suc i) zero o v p e f = (p, f, refl)
key-kept (r ∷ ps) (suc i) (suc j) o v p e f = key-kept ps i j o v p e f

pub index-set : (bs : List (List ℕ)) (ps : List Pair) (i : ℕ) (o : Pair) (v : Value) → o ≡ get_or ps i o → IsIndex bs (map plain_pair ps) → IsIndex bs (map plain_pair (set ps i (revalued o v)))
index-set bs ps i o v e x l j p f =
    let w = key-kept ps i j o v p e f in
    ap (λ k. is_among j (named bs (hash_of k))) (sym w.2) ∙ x l j w.0 w.1

pub key-there : (k : PlainValue) (ps : List Pair) (i : ℕ) (d : Pair) → i < length ps → is_same_key k (plain (get_or ps i d).key) ≡ has_key k (slice_get (map plain_pair ps) i)
key-there k ps i d l = sym (ap (has_key k) (slice_get-map plain_pair ps i ∙ ap (option_map plain_pair) (slice_get-get_or ps i d l)))

pub no-key-there : (k : PlainValue) (ps : List Pair) (i : ℕ) → length ps ≤ i → false ≡ has_key k (slice_get (map plain_pair ps) i)
no-key-there k ps i l = sym (ap (has_key k) (slice_get_past (map plain_pair ps) i (omega (arith, length-map ps plain_pair))))

-- the code's buckets
items_at : (vs : List (Vec ℕ Global)) (b : ℕ) (o : Vec ℕ Global) → b < length vs → o ≡ get_or vs b o → get_or (map (λ v. v.items) vs) b [] ≡ o.items
items_at [] b o l f = absurd (omega arith)
items_at (v ∷ vs) zero o l f = ap (λ (w : Vec ℕ Global). w.items) (sym f)
items_at (v ∷ vs) (suc b) o l f = items_at vs b o (omega arith) f

pub bucket-added : (vs : List (Vec ℕ Global)) (b h place : ℕ) (o n : Vec ℕ Global) → 0 < length vs → b ≡ h % length vs → o ≡ get_or vs b o → n.items ≡ o.items ++ place ∷ []
    → map (λ v. v.items) (set vs b n) ≡ with_place (map (λ v. v.items) vs) h place
bucket-added vs b h place o n l e f g =
    let at : b ≡ h % length (map (λ v. v.items) vs) = e ∙ ap (λ k. h % k) (sym (length-map vs (λ v. v.items))) in
    let inside : b < length vs = omega (arith, e, mod_below h (length vs) l) in
    let was : o.items ≡ get_or (map (λ v. v.items) vs) b [] = sym (items_at vs b o inside f) in
    map-set (λ v. v.items) vs b n
    ∙ ap (λ xs. set (map (λ v. v.items) vs) b xs) (g ∙ ap (λ xs. xs ++ place ∷ []) was)
    ∙ ap (λ k. set (map (λ v. v.items) vs) k (get_or (map (λ v. v.items) vs) k [] ++ place ∷ [])) at

pub bucket-kept : (vs : List (Vec ℕ Global)) (b : ℕ) (o n : Vec ℕ Global) → o ≡ get_or vs b o → n.items ≡ o.items → map (λ v. v.items) (set vs b n) ≡ map (λ v. v.items) vs
bucket-kept vs b o n f g = map-set_same (λ v. v.items) vs b n o (g ∙ ap (λ v. v.items) f)
