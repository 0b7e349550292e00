-- What is asked of the statements that are executed, in one: each `if` has a test, and each `def`
-- stands in the body of the module.
use Rattle.std.proofs.Common.{◌≡◌, ℕ, false, List, [], ◌∷◌, IsTrue, refl}
use Rattle.std.specs.List.{AllByRecursion}
use Rattle.py_syntax.specs.Functions.{Function, functions, without_docstring}
use Rattle.py_syntax.specs.Gathering.{gather}
use Rattle.py_syntax.specs.Marks.{kind_marks}
use Rattle.py_syntax.specs.Tree.{Stmts, suite, OptSuite, Arms, no_arms, arm, StmtKind, if', def}
use Rattle.py_changes.specs.Changed.{is_empty}
use Rattle.py_changes.specs.Regular.{all_statements, executed_in, HasTest, StandsIn, begins_one, AllExecuted}
use Rattle.py_changes.proofs.Lists.{all-left, all-right}

-- `Inside` says which lines begin a `def` of the module
abbrev pub IsMade : (ℕ → Type 0) → ℕ → StmtKind → Type 0
IsMade Inside l (if' no_arms o) = ⊥
IsMade Inside l (def x ps ds comma s) = Inside l
IsMade Inside l k = Unit {0}

-- of statements
abbrev pub AreMade : (ℕ → Type 0) → List (ℕ × StmtKind) → Type 0
AreMade Inside ss = AllByRecursion (λ s. IsMade Inside s.0 s.1) ss

-- the statements of a body
abbrev pub BodyMade : (ℕ → Type 0) → Stmts → Type 0
BodyMade Inside a = AreMade Inside (gather all_statements a)

-- an `if` with a test marks a line
pub some_arm : (Inside : ℕ → Type 0) (l : ℕ) (us : Arms) (o : OptSuite)
    → IsMade Inside l (if' us o) → is_empty (kind_marks l (if' us o)) ≡ false
some_arm Inside l no_arms o h = absurd h
some_arm Inside l (arm t (suite f g i b) rest) o h = refl

-- the lines of the `def`s of a module
abbrev pub Inside : Stmts → ℕ → Type 0
Inside a l = IsTrue (begins_one l (functions a))

module _ (a : Stmts) where
  statement-made : (l : ℕ) (k : StmtKind) → HasTest k → StandsIn (functions a) l k
      → IsMade (Inside a) l k
  statement-made l (if' no_arms o) h d = h
  statement-made l (def x ps ds comma s) h d = d
  statement-made l k h d = tt

  statements-made : (ss : List (ℕ × StmtKind)) → AllByRecursion (λ s. HasTest s.1) ss
      → AllByRecursion (λ s. StandsIn (functions a) s.0 s.1) ss → AreMade (Inside a) ss
  statements-made [] h d = tt
  statements-made (s ∷ ss) h d = (statement-made s.0 s.1 h.0 d.0, statements-made ss h.1 d.1)

  functions-made : (fs : List Function) → AllByRecursion (λ s. HasTest s.1) (executed_in fs)
      → AllByRecursion (λ s. StandsIn (functions a) s.0 s.1) (executed_in fs)
      → AllByRecursion (λ f. BodyMade (Inside a) (without_docstring f.body)) fs
  functions-made [] h d = tt
  functions-made (f ∷ fs) h d =
      let here = gather all_statements (without_docstring f.body) in (
        statements-made here
            (all-left (λ s. HasTest s.1) here (executed_in fs) h)
            (all-left (λ s. StandsIn (functions a) s.0 s.1) here (executed_in fs) d),
        functions-made fs
            (all-right (λ s. HasTest s.1) here (executed_in fs) h)
            (all-right (λ s. StandsIn (functions a) s.0 s.1) here (executed_in fs) d),
      )

  -- those of the body of a module, and of its functions
  pub module-made : AllExecuted (λ l k. HasTest k) a → AllExecuted (StandsIn (functions a)) a
      → BodyMade (Inside a) (without_docstring a)
      × AllByRecursion (λ f. BodyMade (Inside a) (without_docstring f.body)) (functions a)
  module-made h d =
      let here = gather all_statements (without_docstring a) in (
        statements-made here
            (all-left (λ s. HasTest s.1) here (executed_in (functions a)) h)
            (all-left (λ s. StandsIn (functions a) s.0 s.1) here (executed_in (functions a)) d),
        functions-made (functions a)
            (all-right (λ s. HasTest s.1) here (executed_in (functions a)) h)
            (all-right (λ s. StandsIn (functions a) s.0 s.1) here (executed_in (functions a)) d),
      )
