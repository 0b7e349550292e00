-- Values on the operands, one on the other.
use Rattle.std.proofs.Common.{◌≡◌, ℕ, suc, ◌+◌, List, [], ◌∷◌, ◌++◌, length, map, take, drop, true, refl, sym, ap, ◌∙◌, arith}
use Rattle.std.specs.Prelude.{reverse, nat_le, if◌then◌else◌}
use Rattle.std.proofs.lemmas.List.{reverse-append}
use Rattle.std.proofs.lemmas.Bool.Decides.{nat_tests}
use Rattle.py_value.specs.Plain.{PlainValue}
use Rattle.py_builtins.specs.World.{Names}
use Rattle.py_code.specs.Configurations.{Operand, of_value, Configuration, stuck, Next}
use Rattle.py_code.specs.Machine.{many, halted}
use Rattle.py_code.specs.Operands.{value_in}

-- the last value is on top
abbrev pub pushed : List PlainValue → List Operand → List Operand
pushed [] st = st
pushed (v ∷ vs) st = pushed vs (of_value v ∷ st)

-- so many operands with the others after them
pub take_pushed : (vs : List PlainValue) (m : ℕ) (ys : List Operand) → take (length vs + m) (pushed vs ys) ≡ reverse (map of_value vs) ++ take m ys
take_pushed [] m ys = ap (λ n. take n ys) (omega arith)
take_pushed (v ∷ vs) m ys =
    let count : suc (length vs) + m ≡ length vs + suc m = omega arith in
    ap (λ n. take n (pushed vs (of_value v ∷ ys))) count
    ∙ (take_pushed vs (suc m) (of_value v ∷ ys)
    ∙ (sym (append_one (reverse (map of_value vs)) (of_value v) (take m ys)) ∙ ap (λ xs. xs ++ take m ys) (sym (reverse-append (of_value v ∷ []) (map of_value vs)))))
  where
    append_one : (xs : List Operand) (y : Operand) (zs : List Operand) → (xs ++ y ∷ []) ++ zs ≡ xs ++ y ∷ zs
    append_one [] y zs = refl
    append_one (x ∷ xs) y zs = ap (λ rest. x ∷ rest) (append_one xs y zs)

pub drop_pushed : (vs : List PlainValue) (m : ℕ) (ys : List Operand) → drop (length vs + m) (pushed vs ys) ≡ drop m ys
drop_pushed [] m ys = ap (λ n. drop n ys) (omega arith)
drop_pushed (v ∷ vs) m ys =
    let count : suc (length vs) + m ≡ length vs + suc m = omega arith in ap (λ n. drop n (pushed vs (of_value v ∷ ys))) count ∙ drop_pushed vs (suc m) (of_value v ∷ ys)

pub length_pushed : (vs : List PlainValue) (ys : List Operand) → length (pushed vs ys) ≡ length vs + length ys
length_pushed [] ys = omega arith
length_pushed (v ∷ vs) ys = let h = length_pushed vs (of_value v ∷ ys) in omega arith

reverse_twice : (xs : List Operand) → reverse (reverse xs) ≡ xs
reverse_twice [] = refl
reverse_twice (x ∷ xs) =
    ap reverse (reverse-append (x ∷ []) xs) ∙ (reverse-append (reverse xs) (x ∷ []) ∙ ap (λ ys. x ∷ ys) (reverse_twice xs))

values_back : (vs : List PlainValue) → map value_in (map of_value vs) ≡ vs
values_back [] = refl
values_back (v ∷ vs) = ap (λ ws. v ∷ ws) (values_back vs)

append_none : (xs : List Operand) → xs ++ [] ≡ xs
append_none [] = refl
append_none (x ∷ xs) = ap (λ ys. x ∷ ys) (append_none xs)

-- an instruction finds them, the first first
pub many_pushed : (n : ℕ) (vs : List PlainValue) (st : List Operand) (c : Configuration Names) (k : List PlainValue → List Operand → Next Names) → length vs ≡ n → many n (pushed vs st) c k ≡ k vs st
many_pushed n vs st c k e =
    let long = length_pushed vs st in
    let enough : nat_le n (length (pushed vs st)) ≡ true = grind (arith, nat_tests) in
    let count : n ≡ length vs + 0 = omega arith in
    let kept : drop n (pushed vs st) ≡ st = ap (λ m. drop m (pushed vs st)) count ∙ drop_pushed vs 0 st in
    let taken : take n (pushed vs st) ≡ reverse (map of_value vs) = ap (λ m. take m (pushed vs st)) count ∙ (take_pushed vs 0 st ∙ append_none (reverse (map of_value vs))) in
    let back : map value_in (reverse (take n (pushed vs st))) ≡ vs = ap (λ xs. map value_in (reverse xs)) taken ∙ (ap (map value_in) (reverse_twice (map of_value vs)) ∙ values_back vs) in
    ap (λ b. if b then k (map value_in (reverse (take n (pushed vs st)))) (drop n (pushed vs st)) else halted stuck c) enough
    ∙ (ap (λ ws. k ws (drop n (pushed vs st))) back ∙ ap (k vs) kept)
