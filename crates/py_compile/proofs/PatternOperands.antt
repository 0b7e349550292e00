-- Operands of patterns: those that wait, those that are captured, and what is left where a match fails.
use Rattle.std.proofs.Common.{◌≡◌, ℕ, zero, suc, ◌+◌, ◌≤◌, List, [], ◌∷◌, ◌++◌, length, map, take, drop, Option, Some, None, Bool, true, false, refl, sym, ap, ◌∙◌, subst, arith}
use Rattle.std.specs.Prelude.{if◌then◌else◌, nat_eq}
use Rattle.py_value.specs.Plain.{PlainValue}
use Rattle.py_syntax.specs.Tree.{Text}
use Rattle.py_builtins.specs.Items.{of_length}
use Rattle.py_builtins.specs.World.{Names}
use Rattle.py_code.specs.Configurations.{Operand, of_value}
use Rattle.py_compile_expr.specs.Cells.{Guard}
use Rattle.py_compile_expr.specs.Runs.{Fits}
use Rattle.py_compile_expr.proofs.Pushed.{pushed, length_pushed}
use Rattle.py_compile_expr.proofs.Simulation.{fits_more}
use Rattle.py_compile.proofs.PatternNames.{captured_names}
use Rattle.py_compile.proofs.TargetRuns.{same_number}

-- ---- operands in front of others

pub append_more : (xs ys zs : List Operand) → (xs ++ ys) ++ zs ≡ xs ++ (ys ++ zs)
append_more [] ys zs = refl
append_more (x ∷ xs) ys zs = ap (λ r. x ∷ r) (append_more xs ys zs)

pub length_more : (xs ys : List Operand) → length (xs ++ ys) ≡ length xs + length ys
length_more [] ys = omega arith
length_more (x ∷ xs) ys = let h = length_more xs ys in omega arith

pub take_front : (xs ys : List Operand) (n : ℕ) → length xs ≡ n → take n (xs ++ ys) ≡ xs
take_front [] ys zero e = refl
take_front [] ys (suc n) e = absurd (omega arith)
take_front (x ∷ xs) ys zero e = absurd (omega arith)
take_front (x ∷ xs) ys (suc n) e = ap (λ r. x ∷ r) (take_front xs ys n (omega arith))

pub drop_front : (xs ys : List Operand) (n m : ℕ) → length xs + m ≡ n → drop n (xs ++ ys) ≡ drop m ys
drop_front [] ys n m e = ap (λ q. drop q ys) (omega arith)
drop_front (x ∷ xs) ys zero m e = absurd (omega arith)
drop_front (x ∷ xs) ys (suc n) m e = drop_front xs ys n m (omega arith)

pub pushed_append : (us vs : List PlainValue) (st : List Operand) → pushed (us ++ vs) st ≡ pushed vs (pushed us st)
pushed_append [] vs st = refl
pushed_append (v ∷ us) vs st = pushed_append us vs (of_value v ∷ st)

pub length_values : (us vs : List PlainValue) → length (us ++ vs) ≡ length us + length vs
length_values [] vs = omega arith
length_values (v ∷ us) vs = let h = length_values us vs in omega arith

pub spread_length : (vs : List PlainValue) → length (map of_value vs) ≡ length vs
spread_length [] = refl
spread_length (v ∷ vs) = ap suc (spread_length vs)

pub no_names_left : (ns : Names) → captured_names ns ≡ [] → ns ≡ []
no_names_left [] e = refl
no_names_left (n ∷ ns) e = absurd cc

pub length_is : (n : ℕ) (o : Option (List PlainValue)) (vs : List PlainValue) → of_length n o ≡ Some vs → length vs ≡ n
length_is n None vs e = absurd cc
length_is n (Some us) vs e = by_case (nat_eq (length us) n) refl e
  where
    by_case : (b : Bool) → nat_eq (length us) n ≡ b → (if b then Some us else None) ≡ Some vs → length vs ≡ n
    by_case true q h = let same : us ≡ vs = cc in ap length (sym same) ∙ same_number (length us) n q
    by_case false q h = absurd cc

-- Where a match fails, after up to so many captured values, these operands are left.
abbrev pub Falls : (most extra : ℕ) (W R F : List Operand) → Type 0
Falls most extra W R F = (vs : List PlainValue) → length vs ≤ most → (length vs + extra ≤ length (W ++ pushed vs R)) × (drop (length vs + extra) (W ++ pushed vs R) ≡ F)

pub falls_fewer : (m n extra : ℕ) (W R F : List Operand) → m ≤ n → Falls n extra W R F → Falls m extra W R F
falls_fewer m n extra W R F le f vs less = f vs (omega arith)

pub at_least : {a b : ℕ} → a ≡ b → b ≤ a
at_least e = omega arith

pub texts_more : (xs ys : List Text) → length (xs ++ ys) ≡ length xs + length ys
texts_more [] ys = omega arith
texts_more (x ∷ xs) ys = let h = texts_more xs ys in omega arith

pub waits : (vs : List PlainValue) (W : List Operand) (count waiting : ℕ) → length vs ≡ count → length W ≡ waiting → length (map of_value vs ++ W) ≡ count + waiting
waits vs W count waiting few wait = let a = length_more (map of_value vs) W in let b = spread_length vs in omega arith

-- in front of more values that wait
pub item_falls : (vs : List PlainValue) (W R F : List Operand) (count cq cqs extra : ℕ) → length vs ≡ count → Falls (cq + cqs) extra W R F → Falls cq (count + extra) (map of_value vs ++ W) R F
item_falls vs W R F count cq cqs extra few f us le =
    let fact = f us (omega arith) in
    let enough = fact.0 in
    let shape = append_more (map of_value vs) W (pushed us R) in
    let long = length_more (map of_value vs) (W ++ pushed us R) in
    let many = spread_length vs in
    let same_long : length ((map of_value vs ++ W) ++ pushed us R) ≡ length (map of_value vs ++ (W ++ pushed us R)) = ap length shape in (
      omega arith,
      ap (λ zs. drop (length us + (count + extra)) zs) shape
          ∙ (drop_front (map of_value vs) (W ++ pushed us R) (length us + (count + extra)) (length us + extra) (omega arith) ∙ fact.1),
    )

-- over captured values
pub rest_falls : (ws : List PlainValue) (W R F : List Operand) (cq cqs extra : ℕ) → length ws ≡ cq → Falls (cq + cqs) extra W R F → Falls cqs (cq + extra) W (pushed ws R) F
rest_falls ws W R F cq cqs extra named f us le =
    let long = length_values ws us in
    let fact = f (ws ++ us) (omega arith) in
    let shape : W ++ pushed (ws ++ us) R ≡ W ++ pushed us (pushed ws R) = ap (λ zs. W ++ zs) (pushed_append ws us R) in
    let count : length (ws ++ us) + extra ≡ length us + (cq + extra) = omega arith in (
      subst (λ m. m ≤ length (W ++ pushed us (pushed ws R))) count (subst (λ zs. length (ws ++ us) + extra ≤ length zs) shape fact.0),
      ap (λ m. drop m (W ++ pushed us (pushed ws R))) (sym count) ∙ (ap (λ zs. drop (length (ws ++ us) + extra) zs) (sym shape) ∙ fact.1),
    )

pub as_falls : (x : Operand) (W R F : List Operand) (cq extra : ℕ) → Falls (cq + 1) extra W R F → Falls cq (1 + extra) (x ∷ W) R F
as_falls x W R F cq extra f us le =
    let fact = f us (omega arith) in
    let enough = fact.0 in
    let count : length us + (1 + extra) ≡ suc (length us + extra) = omega arith in
    (omega arith, ap (λ m. drop m (x ∷ (W ++ pushed us R))) count ∙ fact.1)

pub alone_falls : (most : ℕ) (V R : List Operand) → most ≡ 0 → Falls most 0 V R (V ++ R)
alone_falls most V R e [] le = (omega arith, refl)
alone_falls most V R e (v ∷ vs) le = absurd (omega arith)

pub fits_over : (ws : List PlainValue) (R : List Operand) (g : Option Guard) (end : ℕ) → Fits g end (length R) → Fits g end (length (pushed ws R))
fits_over ws R g end f = let long = length_pushed ws R in fits_more g end (length R) (length (pushed ws R)) (omega arith) f
