-- Lists that are gathered of statements, in the order of the text (Python Language Reference, 7 and
-- 8).
--     Within                     whether what stands in a `def` is gathered too
--     Gathering                  what a statement itself gives, and a test, a clause and a case
--     gather, gather_kind        what statements give with all that stands in them; gather_suite
--                                and the like for what stands in them
use Rattle.std.specs.Prelude.{ℕ, Bool, if◌then◌else◌, List, [], ◌++◌, Option}
use Rattle.py_syntax.specs.Tree.{Text, Expr, Pattern, Stmts, no_stmts, stmt, Suite, suite, OptSuite, no_suite, has_suite, Arms, no_arms, arm, Clauses, no_clauses, clause, Cases, no_cases, case, StmtKind, expr, assign, aug_assign, pass, break, continue, return, raise, assert, global, import, from, if', while, for, try, def, match}

-- of the suite of a `def`: nothing, all, or all but a first statement for which something holds
pub data Within : Type 0 where
  nothing : Within
  everything : Within
  all_but : (leads : StmtKind → Bool) → Within

-- What each part gives itself, before what stands in it: a statement with its first and last line,
-- and a test of an `if`, a clause of a `try` and a case of a `match` with their suites.
pub record Gathering (A : Type 0) : Type 0 where
  pub of_kind : (first last : ℕ) → StmtKind → List A
  pub of_arm : Expr → Suite → List A
  pub of_clause : Option Expr → Option Text → Suite → List A
  pub of_case : Pattern → Option Expr → Suite → List A
  pub within : Within

-- What a `def` gives itself, and then of its suite what is gathered. The last two are what the
-- whole suite gives, and what it gives without a first statement for which something holds.
abbrev pub with_body : {A : Type 0} → List A → Within → List A → ((StmtKind → Bool) → List A)
    → List A
with_body own nothing body but = own
with_body own everything body but = own ++ body
with_body own (all_but leads) body but = own ++ but leads

abbrev mutual
  -- of statements in a row
  pub gather : {A : Type 0} → Gathering A → Stmts → List A
  gather g no_stmts = []
  gather g (stmt first last k e ss) = gather_kind g (g.of_kind first last k) k ++ gather g ss

  -- of a statement that gives these itself
  pub gather_kind : {A : Type 0} → Gathering A → List A → StmtKind → List A
  gather_kind g own (expr e) = own
  gather_kind g own (assign ts e) = own
  gather_kind g own (aug_assign t op e) = own
  gather_kind g own pass = own
  gather_kind g own break = own
  gather_kind g own continue = own
  gather_kind g own (return e) = own
  gather_kind g own (raise e) = own
  gather_kind g own (assert e w) = own
  gather_kind g own (global xs) = own
  gather_kind g own (import names) = own
  gather_kind g own (from m names) = own
  gather_kind g own (if' arms o) = own ++ (gather_arms g arms ++ gather_opt g o)
  gather_kind g own (while t s o) = own ++ (gather_suite g s ++ gather_opt g o)
  gather_kind g own (for t e s o) = own ++ (gather_suite g s ++ gather_opt g o)
  gather_kind g own (try s cs o fin) =
      own ++ (gather_suite g s ++ (gather_clauses g cs ++ (gather_opt g o ++ gather_opt g fin)))
  gather_kind g own (def x ps ds c s) =
      with_body own g.within (gather_suite g s) (λ leads. gather_body g leads s)
  gather_kind g own (match e last cs) = own ++ gather_cases g cs

  -- of a suite
  pub gather_suite : {A : Type 0} → Gathering A → Suite → List A
  gather_suite g (suite first last inline b) = gather g b

  -- of the suite of an `else` or a `finally`, which may be missing
  pub gather_opt : {A : Type 0} → Gathering A → OptSuite → List A
  gather_opt g no_suite = []
  gather_opt g (has_suite s) = gather_suite g s

  -- of the tests of an `if`
  pub gather_arms : {A : Type 0} → Gathering A → Arms → List A
  gather_arms g no_arms = []
  gather_arms g (arm t s rest) = g.of_arm t s ++ (gather_suite g s ++ gather_arms g rest)

  -- of the clauses of a `try`
  pub gather_clauses : {A : Type 0} → Gathering A → Clauses → List A
  gather_clauses g no_clauses = []
  gather_clauses g (clause e x s rest) =
      g.of_clause e x s ++ (gather_suite g s ++ gather_clauses g rest)

  -- of the cases of a `match`
  pub gather_cases : {A : Type 0} → Gathering A → Cases → List A
  gather_cases g no_cases = []
  gather_cases g (case p guard s rest) =
      g.of_case p guard s ++ (gather_suite g s ++ gather_cases g rest)

  -- of a suite without a first statement for which something holds
  pub gather_body : {A : Type 0} → Gathering A → (StmtKind → Bool) → Suite → List A
  gather_body g leads (suite first last inline b) = gather_but g leads b

  -- of statements in a row without such a first one
  pub gather_but : {A : Type 0} → Gathering A → (StmtKind → Bool) → Stmts → List A
  gather_but g leads no_stmts = []
  gather_but g leads (stmt first last k e ss) =
      if leads k
      then gather g ss
      else gather_kind g (g.of_kind first last k) k ++ gather g ss
