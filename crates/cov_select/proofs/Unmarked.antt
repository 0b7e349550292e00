-- A body that marks nothing has no function.
use Rattle.std.proofs.Common.{◌≡◌, ◌⊎◌, inl, inr, ℕ, Bool, true, false, List, [], ◌∷◌, ◌++◌, map, refl, ap, ◌∙◌}
use Rattle.py_changes.specs.Changed.{is_empty}
use Rattle.py_changes.specs.Regular.{MarksSomething}
use Rattle.py_meaning.specs.Modules.{LoadedModule, body_of}
use Rattle.py_syntax.specs.Functions.{Function, defining, own_function, functions, is_docstring, without_docstring}
use Rattle.py_syntax.specs.Gathering.{gather, gather_kind, gather_opt}
use Rattle.py_syntax.specs.Marks.{stmts_marks, kind_marks, opt_marks, body_marks}
use Rattle.py_syntax.specs.Tree.{Stmts, no_stmts, stmt, suite, OptSuite, no_suite, has_suite, no_arms, arm, StmtKind, expr, global, if'}
use Rattle.cov_pieces.proofs.Agreeing.{body_marks-is}
use Rattle.cov_hook_laws.specs.MeantHooks.{name_of}
use Rattle.cov_suite.specs.Tests.{test_names, tests_of}

-- both lists of lines are empty
none-each : (xs ys : List ℕ) → is_empty (xs ++ ys) ≡ true → (is_empty xs ≡ true) × (is_empty ys ≡ true)
none-each [] ys h = (refl, h)
none-each (x ∷ xs) ys h = absurd cc

none-of-both : (xs ys : List Function) → xs ≡ [] → ys ≡ [] → xs ++ ys ≡ []
none-of-both xs ys e f = ap (λ l. l ++ ys) e ∙ f

mutual
  row : (a : Stmts) → is_empty (stmts_marks a) ≡ true → gather defining a ≡ []
  row no_stmts e = refl
  row (stmt l b k f r) e =
      let parts = none-each (kind_marks l k) (stmts_marks r) e in
      none-of-both (gather_kind defining (own_function l k) k) (gather defining r) (kind l k parts.0) (row r parts.1)

  kind : (l : ℕ) (k : StmtKind) → is_empty (kind_marks l k) ≡ true → gather_kind defining (own_function l k) k ≡ []
  kind l (global xs) e = refl
  kind l (if' no_arms o) e = otherwise o e
  kind l (if' (arm t (suite f g i b) r) o) e = absurd cc
  kind l k e = absurd cc

  otherwise : (o : OptSuite) → is_empty (opt_marks o) ≡ true → gather_opt defining o ≡ []
  otherwise no_suite e = refl
  otherwise (has_suite (suite f l i b)) e = row b e

-- a docstring is no function
docstring-kind : (l : ℕ) (k : StmtKind) → is_docstring k ≡ true → gather_kind defining (own_function l k) k ≡ []
docstring-kind l (expr e) h = refl
docstring-kind l k h = absurd cc

led : (a : Stmts) → gather defining a ≡ gather defining (without_docstring a)
led no_stmts = refl
led (stmt l a k f r) = by_case (is_docstring k) refl where
  by_case : (b : Bool) → is_docstring k ≡ b → gather defining (stmt l a k f r) ≡ gather defining (without_docstring (stmt l a k f r))
  by_case true e = rw e (ap (λ fs. fs ++ gather defining r) (docstring-kind l k e))
  by_case false e = rw e refl

pub no-functions : (a : Stmts) → is_empty (body_marks a) ≡ true → functions a ≡ []
unfolding functions
no-functions a e = led a ∙ row (without_docstring a) (ap is_empty (body_marks-is a) ∙ e)

-- a script that marks nothing has no tests
pub marks-or-none : (ms : List LoadedModule) → MarksSomething (body_of ms 0) ⊎ (tests_of ms ≡ [])
marks-or-none [] = inr refl
marks-or-none (m ∷ ms) = by_case (is_empty (body_marks m.body)) refl where
  by_case : (b : Bool) → is_empty (body_marks m.body) ≡ b → MarksSomething (body_of (m ∷ ms) 0) ⊎ (tests_of (m ∷ ms) ≡ [])
  by_case true e = inr (ap (λ fs. test_names (map name_of fs)) (no-functions m.body e))
  by_case false e = inl e
