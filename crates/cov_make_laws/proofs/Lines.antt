-- How many lines a source has.
use Rattle.std.proofs.Common.{◌≡◌, ℕ, suc, ◌+◌, ◌<◌, ◌≤◌, ◌==◌, ◌&&◌, not, max, if◌then◌else◌, Bool, true, false, List, [], ◌∷◌, ◌++◌, refl, arith}
use Rattle.std.specs.Prelude.{codes}
use Rattle.py_token.specs.Source.{line_count}
use Rattle.cov_make_laws.specs.Trees.{Form, If, For, Try, While}
use Rattle.cov_make_laws.proofs.Draws.{text, each_digit}

-- no line end stands in a text
abbrev pub is_one_line : List ℕ → Bool
is_one_line [] = true
is_one_line (c ∷ cs) = not (c == 10) && is_one_line cs

one_more : (b r : Bool) (n m : ℕ) → (r ≡ true → n ≡ suc m) → (not b && r) ≡ true
    → (if b then suc n else max 1 n) ≡ suc m
one_more true r n m e h = cc
one_more false r n m e h = omega (arith, e h)

pub line_of : (cs rest : List ℕ) → is_one_line cs ≡ true
    → line_count (cs ++ 10 ∷ rest) ≡ suc (line_count rest)
unfolding line_count
line_of [] rest h = refl
line_of (c ∷ cs) rest h =
    one_more (c == 10) (is_one_line cs) (line_count (cs ++ 10 ∷ rest)) (line_count rest)
    (line_of cs rest) h

two_lines : (a b rest : List ℕ) → is_one_line a ≡ true → is_one_line b ≡ true
    → line_count (a ++ 10 ∷ (b ++ 10 ∷ rest)) ≡ 2 + line_count rest
two_lines a b rest h k =
    omega (arith, line_of a (b ++ 10 ∷ rest) h, line_of b rest k)

-- ---- the lines of a block

-- a block at the front of a text has four lines at most
abbrev HasFewLines : Form → ℕ → Type 0
HasFewLines f k = (rest : List ℕ) → line_count (text f k ++ rest) ≤ 4 + line_count rest

if_lines : (k : ℕ) → is_one_line (codes "if t % 3 == " ++ k ∷ codes ":") ≡ true → HasFewLines If k
if_lines k h rest =
    omega (
      arith,
      two_lines (codes "if t % 3 == " ++ k ∷ codes ":") (codes "    t = t + 1")
          (codes "else:\n    t = t + 2\n" ++ rest) h refl,
      two_lines (codes "else:") (codes "    t = t + 2") rest refl refl,
    )

for_lines : (k : ℕ) → is_one_line (codes "for i in range(" ++ k ∷ codes "):") ≡ true
    → HasFewLines For k
for_lines k h rest =
    omega (
      arith,
      two_lines (codes "for i in range(" ++ k ∷ codes "):") (codes "    t = t + i") rest h refl,
    )

try_lines : (k : ℕ) → is_one_line (codes "    t = t // " ++ k ∷ []) ≡ true → HasFewLines Try k
try_lines k h rest =
    omega (
      arith,
      two_lines (codes "try:") (codes "    t = t // " ++ k ∷ [])
          (codes "except ZeroDivisionError:\n    t = t + 5\n" ++ rest) refl h,
      two_lines (codes "except ZeroDivisionError:") (codes "    t = t + 5") rest refl refl,
    )

while_lines : (k : ℕ) → is_one_line (codes "while t > " ++ k ∷ codes " * 10:") ≡ true
    → HasFewLines While k
while_lines k h rest =
    omega (
      arith,
      two_lines (codes "while t > " ++ k ∷ codes " * 10:") (codes "    t = t - 7") rest h refl,
    )

pub few_lines : (f : Form) (v : ℕ) → v < 7 → HasFewLines f (48 + v)
few_lines If v h =
    each_digit (λ v. HasFewLines If (48 + v)) (if_lines 48 refl) (if_lines 49 refl)
    (if_lines 50 refl) (if_lines 51 refl) (if_lines 52 refl) (if_lines 53 refl)
    (if_lines 54 refl) v h
few_lines For v h =
    each_digit (λ v. HasFewLines For (48 + v)) (for_lines 48 refl) (for_lines 49 refl)
    (for_lines 50 refl) (for_lines 51 refl) (for_lines 52 refl) (for_lines 53 refl)
    (for_lines 54 refl) v h
few_lines Try v h =
    each_digit (λ v. HasFewLines Try (48 + v)) (try_lines 48 refl) (try_lines 49 refl)
    (try_lines 50 refl) (try_lines 51 refl) (try_lines 52 refl) (try_lines 53 refl)
    (try_lines 54 refl) v h
few_lines While v h =
    each_digit (λ v. HasFewLines While (48 + v)) (while_lines 48 refl) (while_lines 49 refl)
    (while_lines 50 refl) (while_lines 51 refl) (while_lines 52 refl) (while_lines 53 refl)
    (while_lines 54 refl) v h
