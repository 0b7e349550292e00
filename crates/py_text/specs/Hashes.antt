-- Hashes of texts.
use Rattle.std.specs.Prelude.{ℕ, ◌+◌, ◌*◌, ◌%◌, ◌^◌, ◌≡◌, List, [], ◌∷◌, length}

-- a hash with one more number in it
abbrev pub mixed : ℕ → ℕ → ℕ
mixed hash n = (hash * 31 % 2 ^ 64 + n) % 2 ^ 64

-- a hash with numbers mixed in, one by one
abbrev pub mixed_all : ℕ → List ℕ → ℕ
mixed_all hash [] = hash
mixed_all hash (n ∷ ns) = mixed_all (mixed hash n) ns

-- the hash of a text, from its characters
abbrev pub hash_of_text : List ℕ → ℕ
hash_of_text s = mixed_all 7 s

-- that a number and a hash kept with a text are its own
abbrev pub CountAndHash : List ℕ → ℕ → ℕ → Type 0
CountAndHash s count hash = (count ≡ length s) × (hash ≡ hash_of_text s)
