-- Texts cut at white space into parts, the last of which is still open.
use Rattle.std.proofs.Common.{ℕ, List, [], ◌∷◌, ◌++◌}

-- the open part put before the first one
abbrev pub put_before : List ℕ → List (List ℕ) → List (List ℕ)
put_before part [] = part ∷ []
put_before part (p ∷ ps) = (part ++ p) ∷ ps
