-- Whole numbers that stand in place.
use Rattle.std.proofs.Common.{◌≡◌, ℕ, zero, suc, ℤ, List, [], ◌∷◌, map, slice_get, None, refl}
use Rattle.std.specs.Prelude.{option_and_then}
use Rattle.cov_tables.specs.Fields.{whole, whole_in, text_in, bits_in}

pub whole_in_place : (ns : List ℤ) (k : ℕ) → slice_get ns k ≡ option_and_then whole_in (slice_get (map whole ns) k)
whole_in_place [] k = refl
whole_in_place (n ∷ ns) zero = refl
whole_in_place (n ∷ ns) (suc k) = whole_in_place ns k

pub no_text_in_place : (ns : List ℤ) (k : ℕ) → None ≡ option_and_then text_in (slice_get (map whole ns) k)
no_text_in_place [] k = refl
no_text_in_place (n ∷ ns) zero = refl
no_text_in_place (n ∷ ns) (suc k) = no_text_in_place ns k

pub no_bits_in_place : (ns : List ℤ) (k : ℕ) → None ≡ option_and_then bits_in (slice_get (map whole ns) k)
no_bits_in_place [] k = refl
no_bits_in_place (n ∷ ns) zero = refl
no_bits_in_place (n ∷ ns) (suc k) = no_bits_in_place ns k
