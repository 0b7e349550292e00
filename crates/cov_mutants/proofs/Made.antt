-- What is made of copies, of which the last is there where there is memory.
use Rattle.std.proofs.Common.{◌≡◌, List, [], ◌++◌, Result, Ok, Err, IfOk, refl}
use Rattle.std.specs.Result.{IsOkAnd}
use Rattle.py_changes.specs.Mutants.{around}
use Rattle.cov_mutants_expr.specs.Search.{Reached, Copied}
use Rattle.cov_mutants_expr.proofs.Copies.{copied-none, copied-one, copied-two, copied-three, copied-four, copied-as, over}

-- of nothing
pub made-none : {X C N D : Type 0} (mutants : C → List (X × C)) (whole : N → C) (s : Reached X) (c : C)
    (r : Result N D) → mutants c ≡ [] → IfOk r (λ b. whole b ≡ c) → IfOk r (λ b. Copied mutants s s c (whole b))
made-none mutants whole s c (Ok b) law h = copied-as refl h (copied-none s c law)
made-none mutants whole s c (Err u) law h = tt

-- of one part
pub made-one : {X A C M N E D : Type 0} (mutants : C → List (X × C)) (firsts : A → List (X × A)) (whole : N → C)
    (view : M → A) (F : A → C) (s t : Reached X) (x : A) (q : Result M E) (r : Result N D)
    → mutants (F x) ≡ around F (firsts x) → IfOk q (λ m. Copied firsts s t x (view m))
    → IfOk r (λ b. IsOkAnd q (λ m. whole b ≡ F (view m))) → IfOk r (λ b. Copied mutants s t (F x) (whole b))
made-one mutants firsts whole view F s t x q r law h k =
    over q r (λ m b g e. copied-as refl e (copied-one F law g)) h k

-- of two parts
pub made-two : {X A B C M N E D : Type 0} (mutants : C → List (X × C)) (firsts : A → List (X × A))
    (seconds : B → List (X × B)) (whole : N → C) (view : M → B) (F : A → B → C) (s t u : Reached X)
    (x x' : A) (y : B) (q : Result M E) (r : Result N D)
    → mutants (F x y) ≡ around (λ a. F a y) (firsts x) ++ around (λ b. F x b) (seconds y)
    → Copied firsts s t x x' → IfOk q (λ m. Copied seconds t u y (view m))
    → IfOk r (λ b. IsOkAnd q (λ m. whole b ≡ F x' (view m)))
    → IfOk r (λ b. Copied mutants s u (F x y) (whole b))
made-two mutants firsts seconds whole view F s t u x x' y q r law f h k =
    over q r (λ m b g e. copied-as refl e (copied-two F law f g)) h k

-- of three parts
pub made-three : {X A B C G M N E D : Type 0} (mutants : G → List (X × G)) (firsts : A → List (X × A))
    (seconds : B → List (X × B)) (thirds : C → List (X × C)) (whole : N → G) (view : M → C)
    (F : A → B → C → G) (s t u v : Reached X) (x x' : A) (y y' : B) (z : C) (q : Result M E) (r : Result N D)
    → mutants (F x y z) ≡ around (λ a. F a y z) (firsts x)
    ++ (around (λ b. F x b z) (seconds y) ++ around (λ c. F x y c) (thirds z))
    → Copied firsts s t x x' → Copied seconds t u y y' → IfOk q (λ m. Copied thirds u v z (view m))
    → IfOk r (λ b. IsOkAnd q (λ m. whole b ≡ F x' y' (view m)))
    → IfOk r (λ b. Copied mutants s v (F x y z) (whole b))
made-three mutants firsts seconds thirds whole view F s t u v x x' y y' z q r law f g h k =
    over q r (λ m b i e. copied-as refl e (copied-three F law f g i)) h k

-- of four parts
pub made-four : {X A B C G H M N E D : Type 0} (mutants : H → List (X × H)) (firsts : A → List (X × A))
    (seconds : B → List (X × B)) (thirds : C → List (X × C)) (fourths : G → List (X × G)) (whole : N → H)
    (view : M → G) (F : A → B → C → G → H) (s t u v w : Reached X) (x x' : A) (y y' : B) (z z' : C) (o : G)
    (q : Result M E) (r : Result N D)
    → mutants (F x y z o) ≡ around (λ a. F a y z o) (firsts x)
    ++ (around (λ b. F x b z o) (seconds y)
    ++ (around (λ c. F x y c o) (thirds z) ++ around (λ d. F x y z d) (fourths o)))
    → Copied firsts s t x x' → Copied seconds t u y y' → Copied thirds u v z z'
    → IfOk q (λ m. Copied fourths v w o (view m))
    → IfOk r (λ b. IsOkAnd q (λ m. whole b ≡ F x' y' z' (view m)))
    → IfOk r (λ b. Copied mutants s w (F x y z o) (whole b))
made-four mutants firsts seconds thirds fourths whole view F s t u v w x x' y y' z z' o q r law f g h i k =
    over q r (λ m b j e. copied-as refl e (copied-four F law f g h j)) i k

-- of what has another name
pub made-as : {X C N D : Type 0} (mutants : C → List (X × C)) (whole : N → C) (s t : Reached X) (c d : C) (r : Result N D)
    → c ≡ d → IfOk r (λ b. Copied mutants s t d (whole b)) → IfOk r (λ b. Copied mutants s t c (whole b))
made-as mutants whole s t c d (Ok b) is h = copied-as is refl h
made-as mutants whole s t c d (Err u) is h = tt
