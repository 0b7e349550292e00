-- The sources that are made up: a line at each end, and a block for each draw between them.
use Rattle.std.specs.Prelude.{ℕ, zero, suc, ◌+◌, ◌*◌, ◌/◌, ◌%◌, ◌^◌, ◌==◌, if◌then◌else◌, List, [], ◌∷◌, ◌++◌, codes}
use Rattle.cov_make.specs.declared.blocks.Form.{Form}
use Rattle.cov_make.specs.declared.blocks.Form.TheVariants.{If, For, Try, While}

-- the number after s: Knuth's linear congruential generator, modulo 2^64
abbrev pub number_after : ℕ → ℕ
number_after s = (s * 6364136223846793005 + 1442695040888963407) % 2 ^ 64

-- what a draw gives of the number s that it sets: its 31 high bits
abbrev pub drawn : ℕ → ℕ
drawn s = s / 2 ^ 33

-- the form of the block that is chosen by q
abbrev pub form_of : ℕ → Form
form_of q = if q % 4 == 0 then If else if q % 4 == 1 then For else if q % 4 == 2 then Try else While

-- the digit of the block that is chosen by q: 0 to 6
abbrev pub digit_of : ℕ → ℕ
digit_of q = 48 + q / 4 % 7

-- a block with the digit k
abbrev pub block : Form → ℕ → List ℕ
block If k = codes "if t % 3 == " ++ k ∷ [] ++ codes ":\n    t = t + 1\nelse:\n    t = t + 2\n"
block For k = codes "for i in range(" ++ k ∷ [] ++ codes "):\n    t = t + i\n"
block Try k =
    codes "try:\n    t = t // " ++ k ∷ [] ++ codes "\nexcept ZeroDivisionError:\n    t = t + 5\n"
block While k = codes "while t > " ++ k ∷ [] ++ codes " * 10:\n    t = t - 7\n"

-- the blocks of so many draws, where s was the number before them
unfoldable pub blocks : ℕ → ℕ → List ℕ
blocks s zero = []
blocks s (suc n) =
    let q = drawn (number_after s) in
    block (form_of q) (digit_of q) ++ blocks (number_after s) n

-- the source of a seed and a size
abbrev pub source : ℕ → ℕ → List ℕ
source seed size = codes "t = 0\n" ++ blocks seed size ++ codes "print(t)\n"
