-- Copies of each form of an expression.
use Rattle.std.specs.Prelude.{Box, ℤ}
use Rattle.std.specs.Global.{Global}
use Rattle.std.proofs.Common.{◌≡◌, List, [], ◌++◌, Bool, None, Result, Ok, Err, IfOk, refl, sym, ap, ◌∙◌}
use Rattle.std.specs.Result.{IsOkAnd}
use Rattle.py_syntax.specs.declared.expr.Expr.{Expr as Node}
use Rattle.py_syntax.specs.declared.expr.Expr.TheVariants as variant
use Rattle.py_syntax.specs.Tree.{Expr, int, none, bool}
use Rattle.py_syntax.specs.View.{plain_expr}
use Rattle.py_changes.specs.Mutants.{Token, around, number_change, truth_change, expr_mutants}
use Rattle.cov_mutants_expr.specs.Search.{Reached, Copied}
use Rattle.cov_mutants_expr.proofs.Copies.{copied-none, copied-one, copied-two, copied-three, copied-as, over}
use Rattle.cov_places.proofs.Forms.{plain-none, plain-int, plain-bool}

-- a copy of an expression in a box, where there is memory
abbrev pub IsCopy : {E : Type 0} → Reached Token → Reached Token → Expr → Result (Box Node Global) E → Type 0
IsCopy s t e r = IfOk r (λ b. Copied expr_mutants s t e (plain_expr b.value))

-- a copy of what a node is
pub renamed : {E : Type 0} (r : Result (Box Node Global) E) (s t : Reached Token) (e f : Expr) → e ≡ f
    → IsCopy s t f r → IsCopy s t e r
renamed (Ok k) s t e f is h = copied-as is refl h
renamed (Err u) s t e f is h = tt

-- what has no mutant
pub silent : {E : Type 0} (r : Result (Box Node Global) E) (s : Reached Token) (e f : Expr) → e ≡ f
    → expr_mutants f ≡ [] → IfOk r (λ b. plain_expr b.value ≡ f) → IsCopy s s e r
silent (Ok k) s e f is empty h = copied-as is h (copied-none s f empty)
silent (Err u) s e f is empty h = tt

-- ---- what is made of copies, of which the last is there where there is memory

pub made-one : {A M E D : Type 0} (firsts : A → List (Token × A)) (view : M → A) (F : A → Expr)
    (s t : Reached Token) (x : A) (q : Result M E) (r : Result (Box Node Global) D)
    → expr_mutants (F x) ≡ around F (firsts x) → IfOk q (λ m. Copied firsts s t x (view m))
    → IfOk r (λ b. IsOkAnd q (λ m. plain_expr b.value ≡ F (view m))) → IsCopy s t (F x) r
made-one firsts view F s t x q r law h k = over q r (λ m b g e. copied-as refl e (copied-one F law g)) h k

pub made-two : {A B M E D : Type 0} {firsts : A → List (Token × A)} (seconds : B → List (Token × B))
    (view : M → B) (F : A → B → Expr) (s t u : Reached Token) (x x' : A) (y : B) (q : Result M E)
    (r : Result (Box Node Global) D)
    → expr_mutants (F x y) ≡ around (λ a. F a y) (firsts x) ++ around (λ b. F x b) (seconds y)
    → Copied firsts s t x x' → IfOk q (λ m. Copied seconds t u y (view m))
    → IfOk r (λ b. IsOkAnd q (λ m. plain_expr b.value ≡ F x' (view m))) → IsCopy s u (F x y) r
made-two seconds view F s t u x x' y q r law f h k =
    over q r (λ m b g e. copied-as refl e (copied-two F law f g)) h k

pub made-three : {A B C M E D : Type 0} {firsts : A → List (Token × A)} {seconds : B → List (Token × B)}
    (thirds : C → List (Token × C)) (view : M → C) (F : A → B → C → Expr) (s t u v : Reached Token)
    (x x' : A) (y y' : B) (z : C) (q : Result M E) (r : Result (Box Node Global) D)
    → expr_mutants (F x y z) ≡ around (λ a. F a y z) (firsts x)
    ++ (around (λ b. F x b z) (seconds y) ++ around (λ c. F x y c) (thirds z))
    → Copied firsts s t x x' → Copied seconds t u y y' → IfOk q (λ m. Copied thirds u v z (view m))
    → IfOk r (λ b. IsOkAnd q (λ m. plain_expr b.value ≡ F x' y' (view m))) → IsCopy s v (F x y z) r
made-three thirds view F s t u v x x' y y' z q r law f g h k =
    over q r (λ m b i e. copied-as refl e (copied-three F law f g i)) h k

-- ---- without mutants

pub none-copied : {E : Type 0} (r : Result (Box Node Global) E) (s : Reached Token) (e : Node)
    → e ≡ variant.None → IfOk r (λ k. k.value ≡ variant.None) → IsCopy s s (plain_expr e) r
none-copied (Ok k) s e is h = copied-as (ap plain_expr is ∙ plain-none) (ap plain_expr h ∙ plain-none) (copied-none s none refl)
none-copied (Err u) s e is h = tt

-- ---- a number or a truth value

pub int-copied : {E : Type 0} (r : Result (Box Node Global) E) (s t : Reached Token) (e : Node) (n k m l : ℤ) → e ≡ variant.Int n
    → k ≡ n → l ≡ m → Copied number_change s t k m → IfOk r (λ b. b.value ≡ variant.Int l) → IsCopy s t (plain_expr e) r
int-copied (Ok b) s t e n k m l is same also h g = copied-as (ap plain_expr is ∙ plain-int n ∙ ap int (sym same)) (ap plain_expr g ∙ plain-int l ∙ ap int also) (copied-one int refl h)
int-copied (Err u) s t e n k m l is same also h g = tt

pub bool-copied : {E : Type 0} (r : Result (Box Node Global) E) (s t : Reached Token) (e : Node) (n m : Bool) → e ≡ variant.Bool n
    → Copied truth_change s t n m → IfOk r (λ k. k.value ≡ variant.Bool m) → IsCopy s t (plain_expr e) r
bool-copied (Ok k) s t e n m is h g = copied-as (ap plain_expr is ∙ plain-bool n) (ap plain_expr g ∙ plain-bool m) (copied-one bool refl h)
bool-copied (Err u) s t e n m is h g = tt
