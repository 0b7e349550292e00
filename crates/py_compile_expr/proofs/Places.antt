-- Parts of code, where they stand.
use Rattle.std.proofs.Common.{◌≡◌, ℕ, ◌+◌, List, [], ◌∷◌, ◌++◌, length, ap, subst, arith}
use Rattle.py_code.specs.Units.{Code}
use Rattle.py_compile_expr.specs.Cells.{Cell}
use Rattle.py_compile_expr.specs.Stands.{HasAt}

pub has_front : (u : Code) (p : ℕ) (xs ys : List Cell) → HasAt u p (xs ++ ys) → HasAt u p xs
has_front u p [] ys h = tt
has_front u p (x ∷ xs) ys h = (h.0, has_front u (p + 1) xs ys h.1)

pub has_back : (u : Code) (p : ℕ) (xs ys : List Cell) → HasAt u p (xs ++ ys) → HasAt u (p + length xs) ys
has_back u p [] ys h = subst (λ q. HasAt u q ys) (omega arith) h
has_back u p (x ∷ xs) ys h = subst (λ q. HasAt u q ys) (omega arith) (has_back u (p + 1) xs ys h.1)

-- after a part of so many instructions
pub has_behind : (u : Code) (p n : ℕ) (xs ys : List Cell) → length xs ≡ n → HasAt u p (xs ++ ys) → HasAt u (p + n) ys
has_behind u p n xs ys e h = subst (λ q. HasAt u q ys) (ap (λ k. p + k) e) (has_back u p xs ys h)

pub has_at : (u : Code) (p q : ℕ) (xs : List Cell) → p ≡ q → HasAt u p xs → HasAt u q xs
has_at u p q xs e h = subst (λ r. HasAt u r xs) e h
