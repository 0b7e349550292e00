-- The characters of a source: they are ASCII, and at most 60 a block and 15.
use Rattle.std.proofs.Common.{◌≡◌, ℕ, zero, suc, ◌+◌, ◌*◌, ◌<◌, ◌≤◌, List, [], ◌∷◌, ◌++◌, length, length-append, refl, arith, rules, ap, sym}
use Rattle.std.specs.Prelude.{codes, nat_lt, Bool, true, false, ◌&&◌}
use Rattle.std.specs.Str.{IsAscii}
use Rattle.std.proofs.lemmas.Str.{IsAscii-append}
use Rattle.std.proofs.lemmas.Str.Ascii.{IsAscii-nil, IsAscii-cons}
use Rattle.cov_make.specs.Source.{number_after, drawn, blocks, source}
use Rattle.cov_make_laws.specs.Trees.{Form, If, For, Try, While, form_drawn, number_drawn}
use Rattle.cov_make_laws.proofs.Draws.{text, small, each_digit}
use Rattle.cov_make_laws.proofs.Texts.{end_text, one_on}

-- ---- ASCII

-- whether all are
abbrev pub are_ascii : List ℕ → Bool
are_ascii [] = true
are_ascii (c ∷ cs) = nat_lt c 128 && are_ascii cs

ascii_by : (b r : Bool) (c : ℕ) (cs : List ℕ) → nat_lt c 128 ≡ b → (r ≡ true → IsAscii cs)
    → (b && r) ≡ true → IsAscii (c ∷ cs)
ascii_by true r c cs e more h = IsAscii-cons c cs (grind (arith, e)) (more h)
ascii_by false r c cs e more h = absurd (search (rules, h))

pub is_ascii : (cs : List ℕ) → are_ascii cs ≡ true → IsAscii cs
is_ascii [] h = IsAscii-nil
is_ascii (c ∷ cs) h = ascii_by (nat_lt c 128) (are_ascii cs) c cs refl (is_ascii cs) h

block_ascii : (f : Form) (v : ℕ) → v < 7 → IsAscii (text f (48 + v))
block_ascii If v h =
    each_digit (λ v. IsAscii (text If (48 + v))) (is_ascii (text If 48) refl)
    (is_ascii (text If 49) refl) (is_ascii (text If 50) refl) (is_ascii (text If 51) refl)
    (is_ascii (text If 52) refl) (is_ascii (text If 53) refl) (is_ascii (text If 54) refl) v h
block_ascii For v h =
    each_digit (λ v. IsAscii (text For (48 + v))) (is_ascii (text For 48) refl)
    (is_ascii (text For 49) refl) (is_ascii (text For 50) refl) (is_ascii (text For 51) refl)
    (is_ascii (text For 52) refl) (is_ascii (text For 53) refl) (is_ascii (text For 54) refl) v h
block_ascii Try v h =
    each_digit (λ v. IsAscii (text Try (48 + v))) (is_ascii (text Try 48) refl)
    (is_ascii (text Try 49) refl) (is_ascii (text Try 50) refl) (is_ascii (text Try 51) refl)
    (is_ascii (text Try 52) refl) (is_ascii (text Try 53) refl) (is_ascii (text Try 54) refl) v h
block_ascii While v h =
    each_digit (λ v. IsAscii (text While (48 + v))) (is_ascii (text While 48) refl)
    (is_ascii (text While 49) refl) (is_ascii (text While 50) refl)
    (is_ascii (text While 51) refl) (is_ascii (text While 52) refl)
    (is_ascii (text While 53) refl) (is_ascii (text While 54) refl) v h

ascii_same : (xs ys : List ℕ) → xs ≡ ys → IsAscii xs → IsAscii ys
ascii_same xs ys e h = rw (sym e) h

all_ascii : (s n : ℕ) → IsAscii (blocks s n ++ end_text)
unfolding blocks
all_ascii s zero = is_ascii end_text refl
all_ascii s (suc n) =
    let q = drawn (number_after s) in
    ascii_same _ _ (sym (one_on s n end_text))
    (IsAscii-append _ _ (block_ascii (form_drawn q) (number_drawn q) (small q))
    (all_ascii (number_after s) n))

pub source_ascii : (seed size : ℕ) → IsAscii (source seed size)
source_ascii seed size =
    IsAscii-append (codes "t = 0\n") (blocks seed size ++ end_text)
    (is_ascii (codes "t = 0\n") refl) (all_ascii seed size)

-- ---- how many

block_length : (f : Form) (k : ℕ) → length (text f k) ≤ 60
block_length If k = search rules
block_length For k = search rules
block_length Try k = search rules
block_length While k = search rules

all_length : (s n : ℕ) → length (blocks s n ++ end_text) ≤ 60 * n + 9
unfolding blocks
all_length s zero = search rules
all_length s (suc n) =
    let q = drawn (number_after s) in
    omega (
      arith,
      ap length (one_on s n end_text),
      length-append (text (form_drawn q) (48 + number_drawn q))
          (blocks (number_after s) n ++ end_text),
      block_length (form_drawn q) (48 + number_drawn q),
      all_length (number_after s) n,
    )

pub source_length : (seed size : ℕ) → length (source seed size) ≤ 60 * size + 15
source_length seed size =
    omega (
      arith,
      length-append (codes "t = 0\n") (blocks seed size ++ end_text),
      all_length seed size,
    )
