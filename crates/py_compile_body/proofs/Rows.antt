-- Code in several parts, and the places after them.
--     five, six                      parts in a row
--     three_instrs                   three instructions, each under another name
--     two_more .. after_two          places
use Rattle.std.proofs.Common.{◌≡◌, ℕ, ◌+◌, Option, List, [], ◌++◌, Result, OnOk, refl, sym, ap, ◌∙◌, arith, append_assoc}
use Rattle.py_code.specs.declared.instr.Instr.{Instr}
use Rattle.py_compile_expr.proofs.Turns.{and_then, four}
use Rattle.py_compile_expr.specs.Cells.{plain, Guard, put}

pub five : {A E R : Type 0} (r : Result R E) (s i j k m n v w x y z all : List A) → i ≡ s ++ v → j ≡ i ++ w → k ≡ j ++ x → m ≡ k ++ y → OnOk r (n ≡ m ++ z)
    → all ≡ v ++ (w ++ (x ++ (y ++ z))) → OnOk r (n ≡ s ++ all)
five r s i j k m n v w x y z all c d e f h is =
    four r s j k m n (v ++ w) x y z all (and_then s i j v w (v ++ w) d c refl) e f h (is ∙ sym (append_assoc v w (x ++ (y ++ z))))

pub six : {A E R : Type 0} (r : Result R E) (s h i j k m n u v w x y z all : List A) → h ≡ s ++ u → i ≡ h ++ v → j ≡ i ++ w → k ≡ j ++ x → m ≡ k ++ y → OnOk r (n ≡ m ++ z)
    → all ≡ u ++ (v ++ (w ++ (x ++ (y ++ z)))) → OnOk r (n ≡ s ++ all)
six r s h i j k m n u v w x y z all b c d e f g is =
    five r s i j k m n (u ++ v) w x y z all (and_then s h i u v (u ++ v) c b refl) d e f g (is ∙ sym (append_assoc u v (w ++ (x ++ (y ++ z)))))

pub three_instrs : (g : Option Guard) (a b c x y z : Instr) → a ≡ x → b ≡ y → c ≡ z
    → put g (plain a) (put g (plain b) (put g (plain c) [])) ≡ put g (plain x) (put g (plain y) (put g (plain z) []))
three_instrs g a b c x y z d e f =
    ap (λ i. put g (plain i) (put g (plain b) (put g (plain c) []))) d
    ∙ ap (λ i. put g (plain x) (put g (plain i) (put g (plain c) []))) e
    ∙ ap (λ i. put g (plain x) (put g (plain y) (put g (plain i) []))) f

pub two_more : (p a : ℕ) → a ≡ p + 1 → a + 1 ≡ p + 2
two_more p a e = omega arith

pub three_more : (p a b : ℕ) → a ≡ p + 1 → b ≡ a + 1 → b + 1 ≡ p + 3
three_more p a b e f = omega arith

pub four_more : (p a b c : ℕ) → a ≡ p + 1 → b ≡ a + 1 → c ≡ b + 1 → c + 1 ≡ p + 4
four_more p a b c e f g = omega arith

-- one instruction, a part, and two more
pub one_part_two : (p s a b c : ℕ) → a ≡ p + 1 → b ≡ a + s → c ≡ b + 1 → c + 1 ≡ p + (1 + s + 2)
one_part_two p s a b c e f g = omega arith

-- two parts and three instructions
pub after_two : (p s t a b c d : ℕ) → a ≡ p + s → b ≡ a + t → c ≡ b + 1 → d ≡ c + 1 → d + 1 ≡ p + s + t + 3
after_two p s t a b c d e f g h = omega arith

pub six_more : (p a b c : ℕ) → a ≡ p + 1 → b ≡ a + 1 → c ≡ b + 1 → c + 3 ≡ p + 6
six_more p a b c e f g = omega arith

pub six_and_two : (p a : ℕ) → a ≡ p + 6 → a + 2 ≡ p + 8
six_and_two p a e = omega arith

-- a part, and more
pub part_more : (p s a more : ℕ) → a ≡ p + s → a + more ≡ p + (s + more)
part_more p s a more e = omega arith

-- a mark, and more
pub after_mark : (p a more : ℕ) → a ≡ p + 1 → a + more ≡ p + (1 + more)
after_mark p a more e = omega arith

-- a mark, a part, and more
pub marked_more : (p s a more : ℕ) → a ≡ p + 1 + s → a + more ≡ p + (1 + s + more)
marked_more p s a more e = omega arith

-- a mark, a part, and one instruction
pub marked_between : (p s a b : ℕ) → a ≡ p + 1 → b ≡ a + s → b + 1 ≡ p + (1 + s + 1)
marked_between p s a b e f = omega arith

-- a mark, a test, a jump, and a failure
pub asserted : (p s a b more : ℕ) → a ≡ p + 1 + s → b ≡ a + 1 → b + more ≡ p + (1 + s + 1 + more)
asserted p s a b more e f = omega arith

-- a mark, a module, and more
pub after_module : (p a b more : ℕ) → a ≡ p + 1 → b ≡ a + 3 → b + more ≡ p + (4 + more)
after_module p a b more e f = omega arith

-- ---- sums in another order

pub one_each_side : (n : ℕ) → n + 2 ≡ 1 + n + 1
one_each_side n = omega arith

pub one_in_front : (n : ℕ) → n + 1 ≡ 1 + n
one_in_front n = omega arith

pub four_in_front : (n : ℕ) → n + 4 ≡ 4 + n
four_in_front n = omega arith
