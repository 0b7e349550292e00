-- Texts as keys: their order is that of lists of numbers.
use Rattle.std.proofs.Common.{◌≡◌, ℕ, Bool, true, false, List, [], ◌∷◌, refl, ap, ◌∙◌, arith, if◌then◌else◌, nat_eq, nat_lt}
use Rattle.std.specs.declared.cmp.Ordering.{Ordering}
use Rattle.std.specs.Ordering.{nat_cmp, ordering_then}
use Rattle.std.specs.Cmp.Lexicographic.{slice_cmp}
use Rattle.std.proofs.lemmas.Bool.{eqb-true, ltb-true}
use Rattle.py_text.specs.Comparison.{order_of_texts}

-- one character more on both sides
one_more : (c d : ℕ) (rest : Ordering) (same below : Bool) → nat_eq c d ≡ same → nat_lt c d ≡ below
    → (if nat_eq c d then rest else nat_cmp c d) ≡ ordering_then (nat_cmp c d) rest
one_more c d rest true true e f = absurd (omega (arith, eqb-true c d e, ltb-true c d f))
one_more c d rest true false e f = rw (e, f) refl
one_more c d rest false true e f = rw (e, f) refl
one_more c d rest false false e f = rw (e, f) refl

pub order_of_lists : (a b : List ℕ) → order_of_texts a b ≡ slice_cmp nat_cmp a b
order_of_lists [] [] = refl
order_of_lists [] (d ∷ ds) = refl
order_of_lists (c ∷ cs) [] = refl
order_of_lists (c ∷ cs) (d ∷ ds) =
    one_more c d (order_of_texts cs ds) (nat_eq c d) (nat_lt c d) refl refl ∙ ap (ordering_then (nat_cmp c d)) (order_of_lists cs ds)
