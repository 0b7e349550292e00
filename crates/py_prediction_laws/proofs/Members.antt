-- What lists of marks and of pairs have.
use Rattle.std.proofs.Common.{◌≡◌, ℕ, ◌<◌, Bool, true, false, ◌&&◌, nat_eq, if◌then◌else◌, IsTrue, List, [], ◌∷◌, ◌++◌, map, Ordering, Less, Equal, Greater, refl, ap, sym, ◌∙◌, subst, ◌⊎◌, inl, inr, append_assoc, Contains, true≢false, arith}
use Rattle.std.specs.Ordering.{int_cmp, match_ordering}
use Rattle.std.specs.BTreeSet.{insert_key}
use Rattle.std.specs.FinMap.{IsAntisymmetric, int_cmp-IsAntisymmetric}
use Rattle.std.proofs.lemmas.Bool.{eqb-true}
use Rattle.std.proofs.lemmas.Map.Lookups.{exact_pairs}
use Rattle.std.proofs.lemmas.List.Elements.{Contains-append_right}
use Rattle.py_syntax.specs.FirstMarks.{only}
use Rattle.py_syntax.specs.Neighbours.{Pair, followed, joined, turned}
use Rattle.py_syntax.specs.Prediction.{Arc, by_ends, arcs_in_order}

pub untrue : false ≡ true → ⊥
untrue e = true≢false (sym e)

unfoldable pub In : {A : Type 0} → A → List A → Type 0
In x [] = ⊥
In x (y ∷ ys) = (x ≡ y) ⊎ In x ys

pub in-front : {A : Type 0} (x y : A) (ys : List A) → x ≡ y → In x (y ∷ ys)
unfolding In
in-front x y ys e = inl e

pub in-rest : {A : Type 0} (x y : A) (ys : List A) → In x ys → In x (y ∷ ys)
unfolding In
in-rest x y ys h = inr h

pub in-none : {A : Type 0} (x : A) → In x [] → ⊥
unfolding In
in-none x h = h

pub in-left : {A : Type 0} (x : A) (xs ys : List A) → In x xs → In x (xs ++ ys)
unfolding In
in-left x [] ys h = absurd h
in-left x (y ∷ xs) ys (inl e) = inl e
in-left x (y ∷ xs) ys (inr h) = inr (in-left x xs ys h)

pub in-right : {A : Type 0} (x : A) (xs ys : List A) → In x ys → In x (xs ++ ys)
unfolding In
in-right x [] ys h = h
in-right x (z ∷ xs) ys h = inr (in-right x xs ys h)

in-only : (x : ℕ) (b : Bool) (ls : List ℕ) → IsTrue b → In x ls → In x (only b ls)
in-only x true ls e h = h
in-only x false ls e h = absurd (untrue e)

pub in-map : {A B : Type 0} (f : A → B) (x : A) (xs : List A) → In x xs → In (f x) (map f xs)
unfolding In
in-map f x [] h = absurd h
in-map f x (y ∷ ys) (inl e) = inl (ap f e)
in-map f x (y ∷ ys) (inr h) = inr (in-map f x ys h)

pub contains : {A : Type 0} (x : A) (xs : List A) → In x xs → Contains xs x
unfolding In
contains x [] h = absurd h
contains x (y ∷ ys) (inl e) = (0, omega arith, sym e)
contains x (y ∷ ys) (inr h) = Contains-append_right (y ∷ []) ys x (contains x ys h)

-- ---- marks, which are lines from 1 on

pub record Mark (k : ℕ) (ls : List ℕ) : Type 0 where
  pub found : In k ls
  pub up : 0 < k

pub mark-at : (k l : ℕ) → 0 < l → k ≡ l → Mark k (l ∷ [])
mark-at k l up e = record { found = in-front k l [] e; up = subst (λ n. 0 < n) (sym e) up }

pub left : {k : ℕ} {ls : List ℕ} (ms : List ℕ) → Mark k ls → Mark k (ls ++ ms)
left {k} {ls} ms h = record { found = in-left k ls ms h.found; up = h.up }

pub right : {k : ℕ} {ms : List ℕ} (ls : List ℕ) → Mark k ms → Mark k (ls ++ ms)
right {k} {ms} ls h = record { found = in-right k ls ms h.found; up = h.up }

pub when : {k : ℕ} {b : Bool} {ls : List ℕ} → IsTrue b → Mark k ls → Mark k (only b ls)
when {k} {b} {ls} e h = record { found = in-only k b ls e h.found; up = h.up }

pub and-true : (a b : Bool) → IsTrue a → IsTrue b → IsTrue (a && b)
and-true true b p q = q
and-true false b p q = absurd (untrue p)

pub and-first : (a b : Bool) → IsTrue (a && b) → IsTrue a
and-first true b p = refl
and-first false b p = absurd (untrue p)

pub and-second : (a b : Bool) → IsTrue (a && b) → IsTrue b
and-second true b p = p
and-second false b p = absurd (untrue p)

pub regroup : {k : ℕ} (ls ms ns : List ℕ) → Mark k (ls ++ ms) → Mark k (ls ++ (ms ++ ns))
regroup {k} ls ms ns h = subst (λ xs. Mark k xs) (append_assoc ls ms ns) (left ns h)

-- all of these lines are from 1 on
pub record Lines (ls : List ℕ) : Type 0 where
  pub all : (x : ℕ) → In x ls → 0 < x

pub lines-head : {l : ℕ} {ls : List ℕ} → Lines (l ∷ ls) → 0 < l
lines-head {l} {ls} h = h.all l (in-front l l ls refl)

pub lines-tail : {l : ℕ} {ls : List ℕ} → Lines (l ∷ ls) → Lines ls
lines-tail {l} {ls} h = record { all = λ x q. h.all x (in-rest x l ls q) }

pub lines-left : (ls ms : List ℕ) → Lines (ls ++ ms) → Lines ls
lines-left ls ms h = record { all = λ x q. h.all x (in-left x ls ms q) }

pub lines-right : (ls ms : List ℕ) → Lines (ls ++ ms) → Lines ms
lines-right ls ms h = record { all = λ x q. h.all x (in-right x ls ms q) }

-- ---- pairs

pub pairs-equal : (k l x m : ℕ) → k ≡ l → x ≡ m → ◌≡◌ {A = Pair} (k, x) (l, m)
pairs-equal k l x m e f i = (e i, f i)

followed-step : (k l x m : ℕ) (ms : List ℕ) → k ≡ l → (k ≡ x → ⊥) → (In x ms → In {A = Pair} (k, x) (followed l ms)) → (b : Bool) → nat_eq l m ≡ b → In x (m ∷ ms)
    → In {A = Pair} (k, x) (if b then followed l ms else (l, m) ∷ followed l ms)
unfolding In
followed-step k l x m ms e apart on true same (inl q) = absurd (apart (e ∙ eqb-true l m same ∙ sym q))
followed-step k l x m ms e apart on true same (inr q) = on q
followed-step k l x m ms e apart on false same (inl q) = inl (pairs-equal k l x m e q)
followed-step k l x m ms e apart on false same (inr q) = inr (on q)

in-followed : (k l x : ℕ) (ms : List ℕ) → k ≡ l → (k ≡ x → ⊥) → In x ms → In {A = Pair} (k, x) (followed l ms)
in-followed k l x [] e apart h = absurd (in-none x h)
in-followed k l x (m ∷ ms) e apart h = followed-step k l x m ms e apart (in-followed k l x ms e apart) (nat_eq l m) refl h

pub in-joined : (k x : ℕ) (ls ms : List ℕ) → (k ≡ x → ⊥) → In k ls → In x ms → In {A = Pair} (k, x) (joined ls ms)
unfolding In
in-joined k x [] ms apart h q = absurd h
in-joined k x (l ∷ ls) ms apart (inl e) q = in-left {A = Pair} (k, x) (followed l ms) (joined ls ms) (in-followed k l x ms e apart q)
in-joined k x (l ∷ ls) ms apart (inr h) q = in-right {A = Pair} (k, x) (followed l ms) (joined ls ms) (in-joined k x ls ms apart h q)

pub in-turned : (k header : ℕ) (ls : List ℕ) → In k ls → In {A = Pair} (k, header) (turned header ls)
in-turned k header ls h = in-map {B = Pair} (λ l. (l, header)) k ls h

-- ---- arcs in their order

same-arcs : IsAntisymmetric by_ends
same-arcs = exact_pairs int_cmp int_cmp int_cmp-IsAntisymmetric int_cmp-IsAntisymmetric

insert-new : (a : Arc) (as' : List Arc) → In a (insert_key by_ends as' a)
unfolding In
insert-new a [] = inl refl
insert-new a (b ∷ bs) = go (by_ends a b) refl (insert-new a bs)
  where
    go : (r : Ordering) → by_ends a b ≡ r → In a (insert_key by_ends bs a) → In a (match_ordering r (a ∷ b ∷ bs) (b ∷ bs) (b ∷ insert_key by_ends bs a))
    go Less e h = inl refl
    go Equal e h = inl (same-arcs a b e)
    go Greater e h = inr h

insert-old : (x a : Arc) (as' : List Arc) → In x as' → In x (insert_key by_ends as' a)
unfolding In
insert-old x a [] h = absurd h
insert-old x a (b ∷ bs) h = go (by_ends a b) h (insert-old x a bs)
  where
    go : (r : Ordering) → (x ≡ b) ⊎ In x bs → (In x bs → In x (insert_key by_ends bs a)) → In x (match_ordering r (a ∷ b ∷ bs) (b ∷ bs) (b ∷ insert_key by_ends bs a))
    go Less q on = inr q
    go Equal q on = q
    go Greater (inl e) on = inl e
    go Greater (inr q) on = inr (on q)

pub in-order : (x : Arc) (as' : List Arc) → In x as' → In x (arcs_in_order as')
unfolding In
in-order x [] h = absurd h
in-order x (a ∷ rest) (inl e) = subst (λ y. In y (arcs_in_order (a ∷ rest))) (sym e) (insert-new a (arcs_in_order rest))
in-order x (a ∷ rest) (inr h) = insert-old x a (arcs_in_order rest) (in-order x rest h)
