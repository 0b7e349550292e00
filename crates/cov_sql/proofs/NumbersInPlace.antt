-- Rows of whole numbers, by their columns.
use Rattle.std.proofs.Common.{◌≡◌, ℤ, [], ◌∷◌, length, arith}
use Rattle.sqlite_value.specs.declared.value.Value.TheVariants.{Int}
use Rattle.sqlite_value.specs.Order.{Row, column}

pub four_are : (r : Row) (a b c d : ℤ) → length r ≡ 4 → column r 0 ≡ Int a → column r 1 ≡ Int b → column r 2 ≡ Int c → column r 3 ≡ Int d → r ≡ Int a ∷ Int b ∷ Int c ∷ Int d ∷ []
four_are [] a b c d l h i j k = absurd (omega (arith, l))
four_are (v ∷ []) a b c d l h i j k = absurd (omega (arith, l))
four_are (v ∷ w ∷ []) a b c d l h i j k = absurd (omega (arith, l))
four_are (v ∷ w ∷ x ∷ []) a b c d l h i j k = absurd (omega (arith, l))
four_are (v ∷ w ∷ x ∷ y ∷ []) a b c d l h i j k = λ p. h p ∷ i p ∷ j p ∷ k p ∷ []
four_are (v ∷ w ∷ x ∷ y ∷ z ∷ r) a b c d l h i j k = absurd (omega (arith, l))

pub five_are : (r : Row) (a b c d e : ℤ) → length r ≡ 5 → column r 0 ≡ Int a → column r 1 ≡ Int b → column r 2 ≡ Int c → column r 3 ≡ Int d → column r 4 ≡ Int e → r ≡ Int a ∷ Int b ∷ Int c ∷ Int d ∷ Int e ∷ []
five_are [] a b c d e l h i j k m = absurd (omega (arith, l))
five_are (v ∷ []) a b c d e l h i j k m = absurd (omega (arith, l))
five_are (v ∷ w ∷ []) a b c d e l h i j k m = absurd (omega (arith, l))
five_are (v ∷ w ∷ x ∷ []) a b c d e l h i j k m = absurd (omega (arith, l))
five_are (v ∷ w ∷ x ∷ y ∷ []) a b c d e l h i j k m = absurd (omega (arith, l))
five_are (v ∷ w ∷ x ∷ y ∷ z ∷ []) a b c d e l h i j k m = λ p. h p ∷ i p ∷ j p ∷ k p ∷ m p ∷ []
five_are (v ∷ w ∷ x ∷ y ∷ z ∷ u ∷ r) a b c d e l h i j k m = absurd (omega (arith, l))
