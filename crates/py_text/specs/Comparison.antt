-- Texts beside each other.
use Rattle.std.specs.Prelude.{ℕ, nat_eq, Bool, true, false, ◌&&◌, if◌then◌else◌, List, [], ◌∷◌}
use Rattle.std.specs.Ordering.{nat_cmp}
use Rattle.std.specs.declared.cmp.Ordering.{Ordering}
use Rattle.std.specs.declared.cmp.Ordering.TheVariants.{Less, Equal, Greater}

-- whether two texts are the same, character by character
abbrev pub is_same_text : List ℕ → List ℕ → Bool
is_same_text [] [] = true
is_same_text (c ∷ cs) (d ∷ ds) = nat_eq c d && is_same_text cs ds
is_same_text _ _ = false

-- the order of two texts: the first unequal character decides, else the longer one is greater
abbrev pub order_of_texts : List ℕ → List ℕ → Ordering
order_of_texts [] [] = Equal
order_of_texts [] (d ∷ ds) = Less
order_of_texts (c ∷ cs) [] = Greater
order_of_texts (c ∷ cs) (d ∷ ds) = if nat_eq c d then order_of_texts cs ds else nat_cmp c d
