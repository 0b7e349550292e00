-- What a draw chooses: the text of a block, and its digit.
use Rattle.std.proofs.Common.{◌≡◌, ℕ, zero, suc, ◌%◌, ◌<◌, ◌==◌, List, refl, arith, Bool, true, false, if◌then◌else◌}
use Rattle.cov_make.specs.Source.{form_of, block}
use Rattle.cov_make_laws.specs.Trees.{Form, If, For, Try, While, form_drawn, number_drawn}

-- the text of a block with the digit k
abbrev pub text : Form → ℕ → List ℕ
text If k = block (form_of 0) k
text For k = block (form_of 1) k
text Try k = block (form_of 2) k
text While k = block (form_of 3) k

-- the block of a draw has one of these texts
pub drawn_text : (q k : ℕ) → block (form_of q) k ≡ text (form_drawn q) k
drawn_text q k = by (q % 4 == 0) (q % 4 == 1) (q % 4 == 2)
  where
    by : (a b c : Bool)
        → block
        (if a then form_of 0 else if b then form_of 1 else if c then form_of 2 else form_of 3) k
        ≡ text (if a then If else if b then For else if c then Try else While) k
    by true b c = refl
    by false true c = refl
    by false false true = refl
    by false false false = refl

pub small : (q : ℕ) → number_drawn q < 7
small q = omega arith

-- what holds of each digit
pub each_digit : (P : ℕ → Type 0) → P 0 → P 1 → P 2 → P 3 → P 4 → P 5 → P 6
    → (v : ℕ) → v < 7 → P v
each_digit P a b c d e f g zero h = a
each_digit P a b c d e f g (suc zero) h = b
each_digit P a b c d e f g (suc (suc zero)) h = c
each_digit P a b c d e f g (suc (suc (suc zero))) h = d
each_digit P a b c d e f g (suc (suc (suc (suc zero)))) h = e
each_digit P a b c d e f g (suc (suc (suc (suc (suc zero))))) h = f
each_digit P a b c d e f g (suc (suc (suc (suc (suc (suc zero)))))) h = g
each_digit P a b c d e f g (suc (suc (suc (suc (suc (suc (suc v))))))) h =
    absurd (omega (arith, h))
