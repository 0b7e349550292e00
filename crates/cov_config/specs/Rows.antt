-- What becomes of a row of places.
use Rattle.std.specs.Prelude.{Bool, false, ◌||◌, ◌&&◌, List, [], ◌∷◌}

-- a place is reached where it or one before it was
abbrev pub spread : Bool → List Bool → List Bool
spread reached [] = []
spread reached (b ∷ bs) = (reached || b) ∷ spread (reached || b) bs

-- a place is reached where the one before it was and the element between them passes
abbrev pub advanced : Bool → List Bool → List Bool → List Bool
advanced reached [] ts = []
advanced reached (b ∷ bs) [] = reached ∷ bs
advanced reached (b ∷ bs) (t ∷ ts) = reached ∷ advanced (b && t) bs ts

-- from some place that is reached, what follows passes
abbrev pub any_at : {A : Type 0} → List Bool → (List A → Bool) → List A → Bool
any_at [] f xs = false
any_at (b ∷ bs) f [] = b && f []
any_at (b ∷ bs) f (x ∷ xs) = (b && f (x ∷ xs)) || any_at bs f xs
