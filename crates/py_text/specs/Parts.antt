-- A text again and again, and texts inside each other.
use Rattle.std.specs.Prelude.{ℕ, zero, suc, Bool, true, false, ◌||◌, ◌&&◌, nat_eq, List, [], ◌∷◌, ◌++◌}

-- a list so many times
abbrev pub repeat : {A : Type 0} → ℕ → List A → List A
repeat zero xs = []
repeat (suc n) xs = xs ++ repeat n xs

-- whether the second text begins with the first
abbrev pub begins : List ℕ → List ℕ → Bool
begins [] ds = true
begins (c ∷ cs) [] = false
begins (c ∷ cs) (d ∷ ds) = nat_eq c d && begins cs ds

-- whether the first text stands somewhere in the second
abbrev pub is_part : List ℕ → List ℕ → Bool
is_part cs [] = begins cs []
is_part cs (d ∷ ds) = begins cs (d ∷ ds) || is_part cs ds
