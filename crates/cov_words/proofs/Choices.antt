-- Choices that came out one way.
use Rattle.std.proofs.Common.{◌≡◌, Bool, true, false, ◌&&◌, cond, List, [], ◌∷◌, ◌++◌, Option, Some, None, refl, ap}
use Rattle.std.specs.Option.{is_some}
use Rattle.std.specs.List.{list_all}

pub first_true : (a b : Bool) → (a && b) ≡ true → a ≡ true
first_true true b h = refl
first_true false b h = h

pub second_true : (a b : Bool) → (a && b) ≡ true → b ≡ true
second_true true b h = h
second_true false b h = cc

pub both_true : (a b : Bool) → a ≡ true → b ≡ true → (a && b) ≡ true
both_true true b h k = k
both_true false b h k = h

pub cond_true : {A : Type 0} (b : Bool) (x y : A) → b ≡ true → cond b x y ≡ x
cond_true b x y h = ap (λ (c : Bool). cond c x y) h

pub cond_false : {A : Type 0} (b : Bool) (x y : A) → b ≡ false → cond b x y ≡ y
cond_false b x y h = ap (λ (c : Bool). cond c x y) h

-- what is there
pub there : {A : Type 0} (o : Option A) → is_some o ≡ true → (x : A) × (o ≡ Some x)
there None h = cc
there (Some x) h = (x, refl)

-- all of some words and of one more
pub one_more_passes : {A : Type 0} (p : A → Bool) (xs : List A) (x : A) → list_all p xs ≡ true → p x ≡ true → list_all p (xs ++ (x ∷ [])) ≡ true
one_more_passes p [] x h k = both_true (p x) true k refl
one_more_passes p (y ∷ ys) x h k = both_true (p y) (list_all p (ys ++ (x ∷ []))) (first_true (p y) (list_all p ys) h) (one_more_passes p ys x (second_true (p y) (list_all p ys) h) k)

pub next_passes : {A : Type 0} (p : A → Bool) (xs : List A) (x : A) (ys : List A) → list_all p (xs ++ (x ∷ ys)) ≡ true → p x ≡ true
next_passes p [] x ys h = first_true (p x) (list_all p ys) h
next_passes p (y ∷ xs) x ys h = next_passes p xs x ys (second_true (p y) (list_all p (xs ++ (x ∷ ys))) h)
