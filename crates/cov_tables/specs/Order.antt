-- A list's elements in order.
--     IsInOrder      sorted, and a permutation of another
--     put_in         an element more, before the first that is not less
--     in_order       the elements in order
use Rattle.std.specs.Prelude.{List, [], ◌∷◌, IsPermutation, IsSorted}
use Rattle.std.specs.declared.cmp.Ordering.{Ordering}
use Rattle.std.specs.Ordering.{match_ordering}
use Rattle.std.specs.List.{fold}

-- sorted, and a permutation of xs
pub record IsInOrder {K : Type 0} (R : K → K → Ordering) (xs ys : List K) : Type 0 where
  pub sorted : IsSorted R ys
  pub same : IsPermutation xs ys

-- before the first element that is not less
abbrev pub put_in : {K : Type 0} → (K → K → Ordering) → List K → K → List K
put_in R [] x = x ∷ []
put_in R (y ∷ ys) x = match_ordering (R x y) (x ∷ y ∷ ys) (x ∷ y ∷ ys) (y ∷ put_in R ys x)

-- the elements in order, where equal ones stay side by side: by a law the one list `IsInOrder`
abbrev pub in_order : {K : Type 0} → (K → K → Ordering) → List K → List K
in_order R xs = fold (put_in R) [] xs
