-- What the laws ask of modules, beside their types. It holds of all that normal, well-formed texts
-- spell, where the script marks a line.
--     all_statements, executed      the statements of a text, and those that a module executes
--     HasTest, StandsIn             an `if` with a test, and a `def` of the module's body
--     MarksSomething                a body that marks a line
--     AllExecuted, IsRegular        modules as the laws ask
use Rattle.std.specs.Prelude.{◌≡◌, ℕ, nat_eq, Bool, false, ◌||◌, List, [], ◌∷◌, ◌++◌, IsTrue}
use Rattle.std.specs.List.{AllByRecursion}
use Rattle.py_syntax.specs.Functions.{Function, functions, without_docstring}
use Rattle.py_syntax.specs.Gathering.{Gathering, nothing, gather}
use Rattle.py_syntax.specs.Marks.{body_marks}
use Rattle.py_syntax.specs.Tree.{Stmts, no_arms, arm, StmtKind, expr, assign, aug_assign, pass, break, continue, return, raise, assert, global, import, from, if', while, for, try, def, match}
use Rattle.py_meaning.specs.Modules.{LoadedModule, body_of}
use Rattle.py_changes.specs.Changed.{is_empty}

-- the statements of a text, each with its first line, but none in a function
abbrev pub all_statements : Gathering (ℕ × StmtKind)
all_statements = record {
  of_kind = λ first last k. (first, k) ∷ [];
  of_arm = λ t s. [];
  of_clause = λ e x s. [];
  of_case = λ p g s. [];
  within = nothing;
}

-- the statements of the bodies of functions
abbrev pub executed_in : List Function → List (ℕ × StmtKind)
executed_in [] = []
executed_in (f ∷ fs) = gather all_statements (without_docstring f.body) ++ executed_in fs

-- the statements that a module executes: those of its body and of its functions
abbrev pub executed : Stmts → List (ℕ × StmtKind)
executed a = gather all_statements (without_docstring a) ++ executed_in (functions a)

-- an `if` has a test
abbrev pub HasTest : StmtKind → Type 0
HasTest (expr e) = Unit {0}
HasTest (assign ts e) = Unit {0}
HasTest (aug_assign t op e) = Unit {0}
HasTest pass = Unit {0}
HasTest break = Unit {0}
HasTest continue = Unit {0}
HasTest (return e) = Unit {0}
HasTest (raise e) = Unit {0}
HasTest (assert e w) = Unit {0}
HasTest (global xs) = Unit {0}
HasTest (import names) = Unit {0}
HasTest (from m names) = Unit {0}
HasTest (if' no_arms o) = ⊥
HasTest (if' (arm t s r) o) = Unit {0}
HasTest (while t s o) = Unit {0}
HasTest (for t e s o) = Unit {0}
HasTest (try s cs o fin) = Unit {0}
HasTest (def x ps ds c s) = Unit {0}
HasTest (match e last cs) = Unit {0}

-- whether one of these functions begins at a line
abbrev pub begins_one : ℕ → List Function → Bool
begins_one l [] = false
begins_one l (f ∷ fs) = nat_eq f.line l || begins_one l fs

-- a `def` in a line begins one of these functions
abbrev pub StandsIn : List Function → ℕ → StmtKind → Type 0
StandsIn fs l (expr e) = Unit {0}
StandsIn fs l (assign ts e) = Unit {0}
StandsIn fs l (aug_assign t op e) = Unit {0}
StandsIn fs l pass = Unit {0}
StandsIn fs l break = Unit {0}
StandsIn fs l continue = Unit {0}
StandsIn fs l (return e) = Unit {0}
StandsIn fs l (raise e) = Unit {0}
StandsIn fs l (assert e w) = Unit {0}
StandsIn fs l (global xs) = Unit {0}
StandsIn fs l (import names) = Unit {0}
StandsIn fs l (from m names) = Unit {0}
StandsIn fs l (if' arms o) = Unit {0}
StandsIn fs l (while t s o) = Unit {0}
StandsIn fs l (for t e s o) = Unit {0}
StandsIn fs l (try s cs o fin) = Unit {0}
StandsIn fs l (def x ps ds c s) = IsTrue (begins_one l fs)
StandsIn fs l (match e last cs) = Unit {0}

-- a body marks a line, as one with a test does
abbrev pub MarksSomething : Stmts → Type 0
MarksSomething a = is_empty (body_marks a) ≡ false

-- all statements that a module executes are as `P` asks of a line and a statement
abbrev pub AllExecuted : (ℕ → StmtKind → Type 0) → Stmts → Type 0
AllExecuted P a = AllByRecursion (λ s. P s.0 s.1) (executed a)

-- Each `if` that is executed has a test, each `def` that is executed stands in the body of its
-- module and not in a function, and the script marks a line.
pub record IsRegular (ms : List LoadedModule) : Type 0 where
  pub tests : (m : ℕ) → AllExecuted (λ l k. HasTest k) (body_of ms m)
  pub defs : (m : ℕ) → AllExecuted (StandsIn (functions (body_of ms m))) (body_of ms m)
  pub marks : MarksSomething (body_of ms 0)
