-- Walks over the characters of a text.
use Rattle.std.proofs.Common.{◌≡◌, ◌≢◌, ℕ, zero, suc, ◌+◌, ◌/◌, ◌%◌, ◌<◌, ◌≤◌, ◌^◌, ◌||◌, nat_eq, nat_lt, ◌&&◌, ℤ, Bool, true, false, IsTrue, List, [], ◌∷◌, ◌++◌, length, get_or, drop, refl, ap, sym, ◌∙◌, arith, if◌then◌else◌}
use Rattle.std.proofs.lemmas.Bool.{eq-eqb, ne_eqb}
use Rattle.std.proofs.lemmas.List.{at_drop_more, at_drop_all, length_push}
use Rattle.std.proofs.lemmas.Bool.Decides.{nat_tests}
use Rattle.std.proofs.lemmas.Fmt.{IsAscii-signed}
use Rattle.std.proofs.lemmas.Str.{chars-IsAscii}
use Rattle.std.proofs.lemmas.Str.Ascii.{IsAscii-nil}
use Rattle.std.specs.Fmt.{signed_decimal}
use Rattle.std.specs.List.{slice_index}
use Rattle.std.specs.Str.{chars, IsAscii}
use lib.Signed.{mag}
use Rattle.py_builtins.specs.Written.{are_ascii}
use Rattle.py_builtins.specs.Displays.{has, hex_digit, escaped, all_escaped}
use Rattle.py_builtins.specs.Writing.{whole, ◌▸◌}

-- one more character is taken
pub chars_left : (cs ys : List ℕ) (x : ℕ) → (length ys < length cs) × (x ≡ get_or cs (length ys) x) → drop (length ys) cs ≡ x ∷ drop (length (ys ++ x ∷ [])) cs
chars_left cs ys x t =
    at_drop_more (λ ds. ds) cs (length ys) x t.0
    ∙ ap (λ y. y ∷ drop (length ys + 1) cs) (sym t.1)
    ∙ ap (λ k. x ∷ drop k cs) (sym (length_push ys x))

pub found : (w x : ℕ) (cs ys : List ℕ) (all : Bool) → (length ys < length cs) × (x ≡ get_or cs (length ys) x) → w ≡ x → has w (drop (length ys) cs) ≡ all → true ≡ all
found w x cs ys all t e h =
    sym (ap (λ b. b || has w (drop (length (ys ++ x ∷ [])) cs)) (eq-eqb w x e)) ∙ sym (ap (has w) (chars_left cs ys x t)) ∙ h

pub passed : (w x : ℕ) (cs ys : List ℕ) (all : Bool) → (length ys < length cs) × (x ≡ get_or cs (length ys) x) → w ≢ x → has w (drop (length ys) cs) ≡ all
    → has w (drop (length (ys ++ x ∷ [])) cs) ≡ all
passed w x cs ys all t e h =
    sym (ap (λ b. b || has w (drop (length (ys ++ x ∷ [])) cs)) (ne_eqb w x e)) ∙ sym (ap (has w) (chars_left cs ys x t)) ∙ h

pub not_found : (w : ℕ) (cs : List ℕ) (n : ℕ) (all : Bool) → length cs ≤ n → has w (drop n cs) ≡ all → false ≡ all
not_found w cs n all l h = sym (at_drop_all (has w) cs n l) ∙ h

-- the rest of a text, escaped
pub rest_escaped : (mark : ℕ) (cs ys : List ℕ) (x : ℕ) → (length ys < length cs) × (x ≡ get_or cs (length ys) x)
    → whole (all_escaped mark (drop (length ys) cs)) ≡ whole (escaped mark x) ▸ whole (all_escaped mark (drop (length (ys ++ x ∷ [])) cs))
rest_escaped mark cs ys x t = ap (λ ds. whole (all_escaped mark ds)) (chars_left cs ys x t)

pub no_rest_escaped : (mark : ℕ) (cs : List ℕ) (n : ℕ) → length cs ≤ n → whole (all_escaped mark (drop n cs)) ≡ whole []
no_rest_escaped mark cs n l = at_drop_all (λ ds. whole (all_escaped mark ds)) cs n l

-- ASCII is its own characters
below : (b : ℕ) → IsTrue (nat_lt b 128) → b < 128
below b h = grind (arith, nat_tests)

first_true : (a b : Bool) → IsTrue (a && b) → IsTrue a
first_true true b p = refl
first_true false b p = p

second_true : (a b : Bool) → IsTrue (a && b) → IsTrue b
second_true true b p = p
second_true false b p = absurd (cc)

all_ascii : (bs : List ℕ) → IsTrue (are_ascii bs) → IsAscii bs
all_ascii [] h = IsAscii-nil
all_ascii (b ∷ bs) h = one_more (below b (first_true (nat_lt b 128) (are_ascii bs) h)) (all_ascii bs (second_true (nat_lt b 128) (are_ascii bs) h))
  where
    one_more : b < 128 → IsAscii bs → (i : ℕ) → slice_index (b ∷ bs) i < 128
    one_more p q zero = p
    one_more p q (suc i) = q i

pub chars_of_ascii : (bs : List ℕ) → IsTrue (are_ascii bs) → chars bs ≡ bs
chars_of_ascii bs h = chars-IsAscii bs (all_ascii bs h)

pub chars_of_number : (z : ℤ) → mag z < 2 ^ 63 → chars (signed_decimal z) ≡ signed_decimal z
chars_of_number z h = chars-IsAscii (signed_decimal z) (IsAscii-signed z h)

-- ---- characters that stand as they are

abbrev by_tests : ℕ → Bool → Bool → Bool → Bool → Bool → List ℕ
by_tests c a b d e f = if a then 92 ∷ c ∷ [] else (if b then 92 ∷ 110 ∷ [] else (if d then 92 ∷ 114 ∷ [] else (if e then 92 ∷ 116 ∷ [] else (if f then 92 ∷ 120 ∷ hex_digit (c / 16) ∷ hex_digit (c % 16) ∷ [] else c ∷ []))))

no_escape : (mark c : ℕ) → (c ≡ 92 → ⊥) → (c ≡ mark → ⊥) → 32 ≤ c → (c ≡ 127 → ⊥) → escaped mark c ≡ c ∷ []
no_escape mark c h m l d =
    let a : (nat_eq c 92 || nat_eq c mark) ≡ false = grind (arith, nat_tests) in
    let b : nat_eq c 10 ≡ false = grind (arith, nat_tests) in
    let e : nat_eq c 13 ≡ false = grind (arith, nat_tests) in
    let f : nat_eq c 9 ≡ false = grind (arith, nat_tests) in
    let g : (nat_lt c 32 || nat_eq c 127) ≡ false = grind (arith, nat_tests) in
    ap (λ t. by_tests c t (nat_eq c 10) (nat_eq c 13) (nat_eq c 9) (nat_lt c 32 || nat_eq c 127)) a
    ∙ ap (λ t. by_tests c false t (nat_eq c 13) (nat_eq c 9) (nat_lt c 32 || nat_eq c 127)) b
    ∙ ap (λ t. by_tests c false false t (nat_eq c 9) (nat_lt c 32 || nat_eq c 127)) e
    ∙ ap (λ t. by_tests c false false false t (nat_lt c 32 || nat_eq c 127)) f
    ∙ ap (λ t. by_tests c false false false false t) g

-- one more such character
pub plain_on : (mark : ℕ) (cs ys : List ℕ) (x : ℕ) (P : Type 0) → (length ys < length cs) × (x ≡ get_or cs (length ys) x) → (x ≡ 92 → ⊥) → (x ≡ mark → ⊥) → 32 ≤ x → (x ≡ 127 → ⊥)
    → (all_escaped mark (drop (length ys) cs) ≡ drop (length ys) cs → P) → all_escaped mark (drop (length (ys ++ x ∷ [])) cs) ≡ drop (length (ys ++ x ∷ [])) cs → P
plain_on mark cs ys x P t h m l d f e =
    let here = chars_left cs ys x t in
    let rest = drop (length (ys ++ x ∷ [])) cs in
    f (ap (all_escaped mark) here ∙ ap (λ s. s ++ all_escaped mark rest) (no_escape mark x h m l d) ∙ ap (λ s. x ∷ s) e ∙ sym here)

pub plain_end : (mark : ℕ) (cs : List ℕ) (n : ℕ) (P : Type 0) → length cs ≤ n → (all_escaped mark (drop n cs) ≡ drop n cs → P) → P
plain_end mark cs n P l f = f (at_drop_all (all_escaped mark) cs n l ∙ sym (at_drop_all (λ (ds : List ℕ). ds) cs n l))
