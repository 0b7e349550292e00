-- The blocks of the draws that are left, one draw on.
use Rattle.std.proofs.Common.{◌≡◌, ℕ, suc, ◌+◌, ◌-◌, ◌<◌, ◌≤◌, [], ◌++◌, List, refl, arith, append_assoc, append-nil, sym, ◌∙◌}
use Rattle.cov_make.specs.Source.{number_after, drawn, form_of, digit_of, block, blocks}

-- the block that is drawn with the number s
abbrev pub drawn_block : ℕ → List ℕ
drawn_block s = block (form_of (drawn s)) (digit_of (drawn s))

pub blocks-left : (s n i : ℕ) → i < n → blocks s (n - i) ≡ drawn_block (number_after s) ++ blocks (number_after s) (n - (i + 1))
unfolding blocks
blocks-left s n i h = let e : n - i ≡ suc (n - (i + 1)) = omega arith in rw e refl

pub blocks-none : (s n i : ℕ) → n ≤ i → blocks s (n - i) ≡ []
unfolding blocks
blocks-none s n i h = let e : n - i ≡ 0 = omega arith in rw e refl

-- no draw is left
pub all_pushed : (text whole : List ℕ) (s n i : ℕ) → n ≤ i → text ++ blocks s (n - i) ≡ whole → text ≡ whole
all_pushed text whole s n i h is =
    let left : text ++ blocks s (n - i) ≡ text = rw (blocks-none s n i h) (append-nil text) in
    sym left ∙ is

-- the block that is drawn with the number t, which follows s, pushed onto the text
pub pushed : (text more whole : List ℕ) (s t n i : ℕ) → i < n → t ≡ number_after s → more ≡ text ++ drawn_block t → text ++ blocks s (n - i) ≡ whole
    → more ++ blocks t (n - (i + 1)) ≡ whole
pushed text more whole s t n i h follows grown is =
    let left = blocks-left s n i h in
    rw (grown, follows, append_assoc, ← left) is
