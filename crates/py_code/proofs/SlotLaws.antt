-- Slots and names hold the same values.
use Rattle.std.proofs.Common.{◌≡◌, ℕ, zero, suc, ◌-◌, ◌≤◌, List, [], ◌∷◌, ◌++◌, length, map, Option, Some, None, Bool, true, false, refl, sym, ap, ◌∙◌, subst, arith}
use Rattle.std.specs.Prelude.{slice_get, slice_set, replicate, if◌then◌else◌}
use Rattle.py_text.specs.Comparison.{is_same_text}
use Rattle.py_value.specs.Plain.{PlainValue}
use Rattle.py_text.proofs.SameTexts.{same_text, text_is_same}
use Rattle.py_builtins.specs.World.{Names, value_of}
use Rattle.py_code.specs.Slots.{held, IsApart, IsDistinct}
use Rattle.py_builtins.specs.Parameters.{parameters}

-- the values of these names
abbrev pub slots : List (List ℕ) → Names → List (Option PlainValue)
slots xs ns = map (λ x. value_of x ns) xs

differs : (x y : List ℕ) → (x ≡ y → ⊥) → is_same_text y x ≡ false
differs x y h = by_case (is_same_text y x) refl
  where
    by_case : (b : Bool) → is_same_text y x ≡ b → is_same_text y x ≡ false
    by_case true e = absurd (h (sym (same_text y x e)))
    by_case false e = e

-- what differs for one name alone is the same for names apart from it
apart_same : (f g : List ℕ → Option PlainValue) (x : List ℕ) (ys : List (List ℕ)) → IsApart x ys → ((y : List ℕ) → (x ≡ y → ⊥) → f y ≡ g y) → map f ys ≡ map g ys
apart_same f g x [] h k = refl
apart_same f g x (y ∷ ys) h k = let a = k y h.0 in let b = apart_same f g x ys h.1 k in cc

apart_at : (x : List ℕ) (ys : List (List ℕ)) (n : ℕ) (y : List ℕ) → IsApart x ys → slice_get ys n ≡ Some y → (x ≡ y → ⊥)
apart_at x [] n y h e = absurd cc
apart_at x (z ∷ zs) zero y h e = let same : z ≡ y = cc in subst (λ w. x ≡ w → ⊥) same h.0
apart_at x (z ∷ zs) (suc n) y h e = apart_at x zs n y h.1 e

pub looked_up : (ns : Names) (xs : List (List ℕ)) (n : ℕ) (x : List ℕ) → slice_get xs n ≡ Some x → held (slice_get (slots xs ns) n) ≡ value_of x ns
looked_up ns [] n x e = absurd cc
looked_up ns (y ∷ ys) zero x e = let same : y ≡ x = cc in ap (λ z. value_of z ns) same
looked_up ns (y ∷ ys) (suc n) x e = looked_up ns ys n x e

-- one name has another value, or none
pub changed : (ns ms : Names) (w : Option PlainValue) (xs : List (List ℕ)) (n : ℕ) (x : List ℕ) → IsDistinct xs → slice_get xs n ≡ Some x
    → ((y : List ℕ) → value_of y ms ≡ (if is_same_text y x then w else value_of y ns)) → slice_set (slots xs ns) n w ≡ slots xs ms
changed ns ms w [] n x d e h = absurd cc
changed ns ms w (y ∷ ys) zero x d e h =
    let same : y ≡ x = cc in
    let head : value_of y ms ≡ w = h y ∙ ap (λ b. if b then w else value_of y ns) (ap (λ z. is_same_text y z) (sym same) ∙ text_is_same y) in
    let rest : map (λ z. value_of z ms) ys ≡ map (λ z. value_of z ns) ys =
    apart_same (λ z. value_of z ms) (λ z. value_of z ns) y ys d.0
    (λ z k. h z ∙ ap (λ b. if b then w else value_of z ns) (ap (λ v. is_same_text z v) (sym same) ∙ differs y z k)) in
    cc
changed ns ms w (y ∷ ys) (suc n) x d e h =
    let head : value_of y ms ≡ value_of y ns =
    h y ∙ ap (λ b. if b then w else value_of y ns) (differs x y (λ k. apart_at y ys n x d.0 e (sym k))) in
    let rest = changed ns ms w ys n x d.1 e h in
    cc

none_set : (xs : List (List ℕ)) → replicate (length xs) None ≡ slots xs []
unfolding value_of
none_set [] = refl
none_set (x ∷ xs) = let rest = none_set xs in ap (λ zs. None ∷ zs) rest

no_values : (ps : List (List ℕ)) → parameters ps [] ≡ []
no_values [] = refl
no_values (p ∷ ps) = refl

pub begun : (ps rest : List (List ℕ)) (vs : List PlainValue) → IsDistinct (ps ++ rest) → length vs ≤ length ps
    → map Some vs ++ replicate (length (ps ++ rest) - length vs) None ≡ slots (ps ++ rest) (parameters ps vs)
unfolding value_of
begun ps rest [] d le = ap (λ n. replicate n None) (omega arith) ∙ (none_set (ps ++ rest) ∙ ap (slots (ps ++ rest)) (sym (no_values ps)))
begun [] rest (v ∷ vs) d le = absurd (omega arith)
begun (p ∷ ps) rest (v ∷ vs) d le =
    let tail = begun ps rest vs d.1 (omega arith) in
    let count : suc (length (ps ++ rest)) - suc (length vs) ≡ length (ps ++ rest) - length vs = omega arith in
    let head : (if is_same_text p p then Some v else value_of p (parameters ps vs)) ≡ Some v = ap (λ b. if b then Some v else value_of p (parameters ps vs)) (text_is_same p) in
    let others : map (λ y. value_of y (parameters ps vs)) (ps ++ rest) ≡ map (λ y. if is_same_text y p then Some v else value_of y (parameters ps vs)) (ps ++ rest) =
    apart_same (λ y. value_of y (parameters ps vs)) (λ y. if is_same_text y p then Some v else value_of y (parameters ps vs)) p (ps ++ rest) d.0
    (λ y k. ap (λ b. if b then Some v else value_of y (parameters ps vs)) (sym (differs p y k))) in
    ap (λ n. Some v ∷ (map Some vs ++ replicate n None)) count
    ∙ (ap (λ zs. Some v ∷ zs) (tail ∙ others) ∙ ap (λ z. z ∷ map (λ y. if is_same_text y p then Some v else value_of y (parameters ps vs)) (ps ++ rest)) (sym head))
