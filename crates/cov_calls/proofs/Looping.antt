-- One program for each element of a list that is seen so.
use Rattle.std.proofs.Common.{◌≡◌, List, [], ◌∷◌, map, refl, ap}
use Rattle.cov_programs.specs.Programs.{Program, give, bind, each}

pub each-map : {C : Type 0} {Answer : C → Type 0} {R A B X : Type 0} (p : A → Program C Answer R B) (view : X → A) (xs : List X) → each (λ x. p (view x)) xs ≡ each p (map view xs)
each-map p view [] = refl
each-map p view (x ∷ rest) = ap (λ q. bind (p (view x)) (λ b. bind q (λ more. give (b ∷ more)))) (each-map p view rest)
