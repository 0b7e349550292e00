-- The mutant that a search reaches is the one of its number.
use Rattle.std.proofs.Common.{◌≡◌, ℕ, zero, suc, List, [], ◌∷◌, Option, Some, None, refl, sym, ap, ◌∙◌}
use Rattle.std.specs.Prelude.{slice_get}
use Rattle.cov_mutants_expr.specs.Search.{Reached, left, found, past, changed, Copied}

-- what a search comes to is in the list, or the list is too short
abbrev reach : {X A : Type 0} → Reached X → A → Option (X × A)
reach (left n) a = None
reach (found x) a = Some (x, a)

reach-get : {X A : Type 0} (n : ℕ) (a : A) (xs : List (X × A))
    → reach (past (left n) xs) (changed (left n) a xs) ≡ slice_get xs n
reach-get n a [] = refl
reach-get zero a (x ∷ xs) = refl
reach-get (suc n) a (x ∷ xs) = reach-get n a xs

pub got : {X A : Type 0} {mutants : A → List (X × A)} (n : ℕ) (t : Reached X) (a b : A) (x : X)
    → Copied mutants (left n) t a b → t ≡ found x → Some (x, b) ≡ slice_get (mutants a) n
got {mutants = mutants} n t a b x h e =
    sym (ap (λ s. reach s b) e) ∙ ap (λ s. reach s b) h.state
    ∙ ap (reach (past (left n) (mutants a))) h.tree ∙ reach-get n a (mutants a)

pub got-none : {X A : Type 0} {mutants : A → List (X × A)} (n k : ℕ) (t : Reached X) (a b : A)
    → Copied mutants (left n) t a b → t ≡ left k → None ≡ slice_get (mutants a) n
got-none {mutants = mutants} n k t a b h e =
    sym (ap (λ s. reach s b) e) ∙ ap (λ s. reach s b) h.state
    ∙ ap (reach (past (left n) (mutants a))) h.tree ∙ reach-get n a (mutants a)
