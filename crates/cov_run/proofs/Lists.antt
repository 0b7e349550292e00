-- Lists of names: what stands where, what is found first, and names added to others, each once.
use Rattle.std.proofs.Common.{◌≡◌, ◌⊎◌, inl, inr, ℕ, zero, suc, ◌<◌, ◌≤◌, Bool, true, false, ◌||◌, cond, if◌then◌else◌, List, [], ◌∷◌, ◌++◌, length, take, Option, Some, None, refl, sym, ap, ◌∙◌, arith, append_assoc, append-nil}
use Rattle.std.specs.List.{find, slice_get}
use Rattle.std.specs.Option.{option_or}
use Rattle.std.specs.Str.{bytes_eq}
use Rattle.std.proofs.lemmas.Bool.{or_left, or_right, or_cases, false≢true}
use Rattle.std.proofs.lemmas.List.{take-append-le}
use Rattle.std.proofs.lemmas.List.Folds.{find-append, list_any-append}
use Rattle.std.proofs.lemmas.Slice.Eq.{bytes_eq-Decides}
use Rattle.py_syntax.specs.Tree.{Text}
use Rattle.py_syntax.specs.Names.{is_among, add_name, add_names, distinct}

-- ---- places

pub get-append : {X : Type 0} (xs : List X) (y x : X) (i : ℕ) → slice_get (xs ++ y ∷ []) i ≡ Some x → (slice_get xs i ≡ Some x) ⊎ ((i ≡ length xs) × (y ≡ x))
get-append [] y x zero h = inr (refl, some_same y x h)
  where
    some_same : {X : Type 0} (y x : X) → Some y ≡ Some x → y ≡ x
    some_same {X} y x e = ap (λ o. elim o as (λ (o : Option X). X) [ None ↦ y | Some z ↦ z ]) e
get-append [] y x (suc i) h = cc
get-append (z ∷ xs) y x zero h = inl h
get-append (z ∷ xs) y x (suc i) h = elim (get-append xs y x i h) [ inl e ↦ inl e | inr e ↦ inr (ap suc e.0, e.1) ]

pub get-within : {X : Type 0} (xs : List X) (x : X) (i : ℕ) → slice_get xs i ≡ Some x → i < length xs
get-within [] x i h = cc
get-within (y ∷ xs) x zero h = omega arith
get-within (y ∷ xs) x (suc i) h = let k = get-within xs x i h in omega arith

pub get-front : {X : Type 0} (xs ys : List X) (i : ℕ) → i < length xs → slice_get (xs ++ ys) i ≡ slice_get xs i
get-front [] ys i h = absurd (omega arith)
get-front (x ∷ xs) ys zero h = refl
get-front (x ∷ xs) ys (suc i) h = get-front xs ys i (omega arith)

pub take-next : {X : Type 0} (xs : List X) (x : X) (i : ℕ) → slice_get xs i ≡ Some x → take (suc i) xs ≡ take i xs ++ x ∷ []
take-next [] x i h = cc
take-next (y ∷ xs) x zero h = cc
take-next (y ∷ xs) x (suc i) h = ap (λ t. y ∷ t) (take-next xs x i h)

pub take-whole : {X : Type 0} (xs ys : List X) → take (length xs) (xs ++ ys) ≡ xs
take-whole [] ys = refl
take-whole (x ∷ xs) ys = ap (λ t. x ∷ t) (take-whole xs ys)

pub take-all : {X : Type 0} (xs : List X) (i : ℕ) → length xs ≤ i → take i xs ≡ xs
take-all [] zero h = refl
take-all [] (suc i) h = refl
take-all (x ∷ xs) zero h = absurd (omega arith)
take-all (x ∷ xs) (suc i) h = ap (λ t. x ∷ t) (take-all xs i (omega arith))

-- ---- what is among names

pub among-here : (x : Text) → bytes_eq x x ≡ true
among-here x = (bytes_eq-Decides x x).1 refl

pub among-append : (xs ys : List Text) (x : Text) → is_among (xs ++ ys) x ≡ (is_among xs x || is_among ys x)
among-append xs ys x = list_any-append (bytes_eq x) xs ys

-- among some names and one more
pub among-more : (xs : List Text) (y x : Text) → is_among (xs ++ y ∷ []) x ≡ true → (is_among xs x ≡ true) ⊎ (x ≡ y)
among-more xs y x h =
    elim (or_cases (is_among xs x) (bytes_eq x y || false) (sym (among-append xs (y ∷ []) x) ∙ h)) [
      | inl e ↦ inl e
      | inr e ↦ inr ((bytes_eq-Decides x y).0 (last (bytes_eq x y) e))
    ]
  where
    last : (b : Bool) → (b || false) ≡ true → b ≡ true
    last true e = refl
    last false e = e

pub among-before : (xs ys : List Text) (x : Text) → is_among xs x ≡ true → is_among (xs ++ ys) x ≡ true
among-before xs ys x h = among-append xs ys x ∙ or_left (is_among xs x) (is_among ys x) h

pub among-last : (xs : List Text) (x : Text) → is_among (xs ++ x ∷ []) x ≡ true
among-last xs x = among-append xs (x ∷ []) x ∙ or_right (is_among xs x) (bytes_eq x x || false) (or_left (bytes_eq x x) false (among-here x))

-- ---- what is found first

pub find-none : (p : Text → Bool) (xs : List Text) → ((x : Text) → is_among xs x ≡ true → p x ≡ false) → find p xs ≡ None
find-none p [] h = refl
find-none p (x ∷ xs) h =
    ap (λ b. cond b (Some x) (find p xs)) (h x (or_left (bytes_eq x x) (is_among xs x) (among-here x)))
    ∙ find-none p xs (λ y k. h y (or_right (bytes_eq y x) (is_among xs y) k))

-- the first that passes, after others that don't
pub find-next : (p : Text → Bool) (xs ys : List Text) (x : Text) → ((y : Text) → is_among xs y ≡ true → p y ≡ false) → p x ≡ true → find p (xs ++ x ∷ ys) ≡ Some x
find-next p xs ys x h k =
    find-append p xs (x ∷ ys) ∙ ap (λ o. option_or o (find p (x ∷ ys))) (find-none p xs h) ∙ ap (λ b. cond b (Some x) (find p ys)) k

-- none is found, so each doesn't pass
pub none-found : (p : Text → Bool) (xs : List Text) → find p xs ≡ None → (x : Text) → is_among xs x ≡ true → p x ≡ false
none-found p [] h x k = absurd (false≢true k)
none-found p (y ∷ xs) h x k = by_first (p y) refl h (λ f q. none-found p xs f x q)
  where
    by_first : (b : Bool) → p y ≡ b → find p (y ∷ xs) ≡ None → (find p xs ≡ None → is_among xs x ≡ true → p x ≡ false) → p x ≡ false
    by_first true e h others = let f : find p (y ∷ xs) ≡ Some y = ap (λ b. cond b (Some y) (find p xs)) e in cc
    by_first false e h others =
        let f : find p xs ≡ None = sym (ap (λ b. cond b (Some y) (find p xs)) e) ∙ h in
        elim (or_cases (bytes_eq x y) (is_among xs x) k) [
          | inl q ↦ ap p ((bytes_eq-Decides x y).0 q) ∙ e
          | inr q ↦ others f q
        ]

found-among : (p : Text → Bool) (xs : List Text) (x : Text) → is_among xs x ≡ true → p x ≡ true → (z : Text) × (find p xs ≡ Some z)
found-among p xs x h k = go (find p xs) refl
  where
    go : (o : Option Text) → find p xs ≡ o → (z : Text) × (find p xs ≡ Some z)
    go (Some z) e = (z, e)
    go None e = absurd (false≢true (sym (none-found p xs e x h) ∙ k))

-- ---- names added to others

-- a name that is there already changes nothing of what is found
find-known : (p : Text → Bool) (xs ys : List Text) (y : Text) → is_among xs y ≡ true → find p (xs ++ ys) ≡ find p (xs ++ y ∷ ys)
find-known p xs ys y h = by_first (p y) refl
  where
    by_first : (b : Bool) → p y ≡ b → find p (xs ++ ys) ≡ find p (xs ++ y ∷ ys)
    by_first true e =
        let f = found-among p xs y h e in
        find-append p xs ys ∙ ap (λ o. option_or o (find p ys)) f.1 ∙ sym (find-append p xs (y ∷ ys) ∙ ap (λ o. option_or o (find p (y ∷ ys))) f.1)
    by_first false e =
        find-append p xs ys ∙ ap (option_or (find p xs)) (sym (ap (λ b. cond b (Some y) (find p ys)) e)) ∙ sym (find-append p xs (y ∷ ys))

find-added : (p : Text → Bool) (xs ys : List Text) (y : Text) (b : Bool) → is_among xs y ≡ b → find p ((if b then xs else (xs ++ y ∷ [])) ++ ys) ≡ find p (xs ++ y ∷ ys)
find-added p xs ys y true h = find-known p xs ys y h
find-added p xs ys y false h = ap (find p) (append_assoc xs (y ∷ []) ys)

find-names : (p : Text → Bool) (xs ys : List Text) → find p (add_names xs ys) ≡ find p (xs ++ ys)
find-names p xs [] = ap (find p) (sym (append-nil xs))
find-names p xs (y ∷ ys) = find-names p (add_name xs y) ys ∙ find-added p xs ys y (is_among xs y) refl

-- the same is found among names where each stands once
pub find-distinct : (p : Text → Bool) (xs : List Text) → find p (distinct xs) ≡ find p xs
find-distinct p xs = find-names p [] xs

pub add_names-append : (a xs ys : List Text) → add_names a (xs ++ ys) ≡ add_names (add_names a xs) ys
add_names-append a [] ys = refl
add_names-append a (x ∷ xs) ys = add_names-append (add_name a x) xs ys

-- names that are added stand after those that were there
add_name-front : (xs : List Text) (y : Text) (b : Bool) → (zs : List Text) × ((if b then xs else (xs ++ y ∷ [])) ≡ xs ++ zs)
add_name-front xs y true = ([], sym (append-nil xs))
add_name-front xs y false = (y ∷ [], refl)

pub add_names-front : (xs ys : List Text) → (zs : List Text) × (add_names xs ys ≡ xs ++ zs)
add_names-front xs [] = ([], sym (append-nil xs))
add_names-front xs (y ∷ ys) =
    let one = add_name-front xs y (is_among xs y) in
    let more = add_names-front (add_name xs y) ys in
    (one.0 ++ more.0, more.1 ∙ ap (λ t. t ++ more.0) one.1 ∙ append_assoc xs one.0 more.0)

-- each name stands once
abbrev pub AreApart : List Text → Type 0
AreApart xs = (i : ℕ) (x : Text) → slice_get xs i ≡ Some x → is_among (take i xs) x ≡ false

apart-added : (xs : List Text) (y : Text) (b : Bool) → is_among xs y ≡ b → AreApart xs → AreApart (if b then xs else (xs ++ y ∷ []))
apart-added xs y true e h = h
apart-added xs y false e h = λ i x k.
    elim (get-append xs y x i k) [
      | inl q ↦ let w = get-within xs x i q in ap (λ t. is_among t x) (take-append-le i xs (y ∷ []) (omega arith)) ∙ h i x q
      | inr q ↦ ap (λ n. is_among (take n (xs ++ y ∷ [])) x) q.0 ∙ ap (λ t. is_among t x) (take-whole xs (y ∷ [])) ∙ ap (is_among xs) (sym q.1) ∙ e
    ]

apart-names : (xs ys : List Text) → AreApart xs → AreApart (add_names xs ys)
apart-names xs [] h = h
apart-names xs (y ∷ ys) h = apart-names (add_name xs y) ys (apart-added xs y (is_among xs y) refl h)

pub distinct-apart : (xs : List Text) → AreApart (distinct xs)
distinct-apart xs = apart-names [] xs (λ i x k. cc)
