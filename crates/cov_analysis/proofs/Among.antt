-- What holds of each line of a list.
use Rattle.std.proofs.Common.{ℕ, Bool, true, false, List, [], ◌∷◌, ◌++◌}
use Rattle.std.specs.List.{AllByRecursion}
use Rattle.py_syntax.specs.FirstMarks.{only}

pub both : {X : Type 0} (Q : X → Type 0) (xs ys : List X) → AllByRecursion Q xs → AllByRecursion Q ys → AllByRecursion Q (xs ++ ys)
both Q [] ys h k = k
both Q (x ∷ xs) ys h k = (h.0, both Q xs ys h.1 k)

pub front : {X : Type 0} (Q : X → Type 0) (xs ys : List X) → AllByRecursion Q (xs ++ ys) → AllByRecursion Q xs
front Q [] ys h = tt
front Q (x ∷ xs) ys h = (h.0, front Q xs ys h.1)

pub rest-of : {X : Type 0} (Q : X → Type 0) (xs ys : List X) → AllByRecursion Q (xs ++ ys) → AllByRecursion Q ys
rest-of Q [] ys h = h
rest-of Q (x ∷ xs) ys h = rest-of Q xs ys h.1

module _ (P : ℕ → Type 0) where
  abbrev pub In : List ℕ → Type 0
  In ls = AllByRecursion P ls

  pub only-in : (b : Bool) (ls : List ℕ) → In ls → In (only b ls)
  only-in true ls h = h
  only-in false ls h = tt
