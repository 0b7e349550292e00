-- Versions of statements that differ in expressions at the marks of one line alone.
--     SameNames, Kept           expressions in which the same names occur, and that stay normal
--     Alike                     both; AlikeAll and AlikeMaybe for rows and for what may be missing
--     Here                      the same, or alike at the line
--     Rows, Kinds               statements; Suites and the like for what stands in them
use Rattle.std.proofs.Common.{◌≡◌, ℕ, Bool, false, Option, ◌⊎◌}
use Rattle.std.specs.Prelude.{is_none}
use Rattle.py_operator.specs.declared.operator.BinOp.{BinOp}
use Rattle.py_syntax.specs.Functions.{is_string}
use Rattle.py_syntax.specs.Names.{target_names, targets_names}
use Rattle.py_syntax.specs.Tree.{Text, Expr, tuple, Exprs, no_exprs, exprs}
use Rattle.py_syntax.specs.Tree.{Stmts, no_stmts, stmt, Suite, suite, OptSuite, no_suite, has_suite, Arms, no_arms, arm, Clauses, no_clauses, clause, Cases, no_cases, case, StmtKind, expr, assign, aug_assign, pass, break, continue, return, raise, assert, global, import, from, if', while, for, try, def, match}
use Rattle.py_syntax.specs.Normal.{precedence, Normal, NormalItems, Each, is_target, are_targets, is_place}
use Rattle.py_syntax.specs.Statements.{IsOption, NormalExpr, NormalTargets, NormalClauseHead, NormalKind, count}
use Rattle.py_scope.specs.Occurrences.{in_expr, in_exprs, in_option, in_target, in_targets}
use Rattle.py_changes.specs.Mutants.{header_line}

-- two expressions in which the same names occur, as targets too, and of which none is a docstring
pub record SameNames (e f : Expr) : Type 0 where
  pub targets : target_names e ≡ target_names f
  pub old : is_string e ≡ false
  pub new : is_string f ≡ false
  pub uses : in_expr e ≡ in_expr f
  pub assigned : in_target e ≡ in_target f

-- two rows of them
pub record SameNamesAll (es fs : Exprs) : Type 0 where
  pub targets : targets_names es ≡ targets_names fs
  pub uses : in_exprs es ≡ in_exprs fs
  pub assigned : in_targets es ≡ in_targets fs

-- two expressions in which the same names occur, or none
pub record SameNamesMaybe (e f : Option Expr) : Type 0 where
  pub there : is_none e ≡ is_none f
  pub uses : in_option e ≡ in_option f

-- two expressions of which one is normal where the other is, and stands where it does
pub record Kept (e f : Expr) : Type 0 where
  pub level : precedence e ≡ precedence f
  pub normal : Normal e → Normal f
  pub target : is_target e ≡ is_target f
  pub place : is_place e ≡ is_place f

-- the same of rows, in each place where one stands
pub record KeptAll (es fs : Exprs) : Type 0 where
  pub each : Each es → Each fs
  pub counted : count es ≡ count fs
  pub targets : are_targets es ≡ are_targets fs
  pub items : (c : Bool) → NormalItems es c → NormalItems fs c
  pub level : (c : Bool) → precedence (tuple es c) ≡ precedence (tuple fs c)
  pub spread : (c : Bool) → Normal (tuple es c) → Normal (tuple fs c)
  pub after : (e : Expr) (c : Bool) → Normal (tuple (exprs e es) c) → Normal
      (tuple (exprs e fs) c)
  pub assigned : NormalTargets es → NormalTargets fs
  pub assigns : (g : Expr) → NormalKind (assign es g) → NormalKind (assign fs g)
  pub defaults : es ≡ no_exprs → fs ≡ no_exprs

-- the same of what may be missing
pub record KeptMaybe (e f : Option Expr) : Type 0 where
  pub loose : IsOption Normal e → IsOption Normal f
  pub tight : IsOption NormalExpr e → IsOption NormalExpr f
  pub clause : (x : Option Text) → NormalClauseHead e x → NormalClauseHead f x

-- two expressions with the same names, of which one is normal where the other is
pub record Alike (e f : Expr) : Type 0 where
  pub names : SameNames e f
  pub kept : Kept e f

-- two rows of them
pub record AlikeAll (es fs : Exprs) : Type 0 where
  pub names : SameNamesAll es fs
  pub kept : KeptAll es fs

-- two that may be missing
pub record AlikeMaybe (e f : Option Expr) : Type 0 where
  pub names : SameNamesMaybe e f
  pub kept : KeptMaybe e f

-- operators, whatever they are
abbrev pub AnyOperator : BinOp → BinOp → Type 0
AnyOperator op oq = Unit {0}

module _ (l : ℕ) where
  -- the same, or alike at a mark of the line
  abbrev pub Here : {A : Type 0} → (A → A → Type 0) → ℕ → A → A → Type 0
  Here Like m x y = (x ≡ y) ⊎ ((m ≡ l) × Like x y)

  abbrev mutual
    -- statements in a row
    pub Rows : Stmts → Stmts → Type 0
    Rows no_stmts no_stmts = Unit {0}
    Rows (stmt f a k e r) (stmt g b j x s) = (f ≡ g) × Kinds f k j × Rows r s × (e ≡ x)
    Rows a b = ⊥

    -- statements with this first line
    pub Kinds : ℕ → StmtKind → StmtKind → Type 0
    Kinds m (expr e) (expr f) = Here Alike m e f
    Kinds m (assign ts e) (assign us f) = Here AlikeAll m ts us × Here Alike m e f
    Kinds m (aug_assign t op e) (aug_assign u oq f) =
        Here Alike m t u × Here AnyOperator m op oq × Here Alike m e f
    Kinds m pass pass = Unit {0}
    Kinds m break break = Unit {0}
    Kinds m continue continue = Unit {0}
    Kinds m (return e) (return f) = Here AlikeMaybe m e f
    Kinds m (raise e) (raise f) = Here AlikeMaybe m e f
    Kinds m (assert e w) (assert f v) = Here Alike m e f × Here AlikeMaybe m w v
    Kinds m (global xs) (global ys) = xs ≡ ys
    Kinds m (import names) (import others) = names ≡ others
    Kinds m (from x names) (from y others) = (x ≡ y) × (names ≡ others)
    Kinds m (if' us o) (if' bs q) = ArmsOf us bs × Opts o q
    Kinds m (while e s o) (while f t q) = Here Alike m e f × Suites s t × Opts o q
    Kinds m (for x e s o) (for y f t q) =
        Here Alike m x y × Here Alike m e f × Suites s t × Opts o q
    Kinds m (try s cs o fin) (try t ds q gin) =
        Suites s t × ClausesOf cs ds × Opts o q × Opts fin gin
    Kinds m (def x ps ds c s) (def y qs es d t) =
        (x ≡ y) × (ps ≡ qs) × Here AlikeAll m ds es × (c ≡ d) × Suites s t
    Kinds m (match e a cs) (match f b ds) = Here Alike m e f × (a ≡ b) × CasesOf cs ds
    Kinds m k j = ⊥

    -- suites
    pub Suites : Suite → Suite → Type 0
    Suites (suite f a i b) (suite g c j d) = (f ≡ g) × Rows b d × (i ≡ j)

    -- the suites of an `else` or a `finally`
    pub Opts : OptSuite → OptSuite → Type 0
    Opts no_suite no_suite = Unit {0}
    Opts (has_suite s) (has_suite t) = Suites s t
    Opts o q = ⊥

    -- the tests of an `if`
    pub ArmsOf : Arms → Arms → Type 0
    ArmsOf no_arms no_arms = Unit {0}
    ArmsOf (arm e s r) (arm f t q) = Here Alike (header_line s) e f × Suites s t × ArmsOf r q
    ArmsOf us bs = ⊥

    -- the clauses of a `try`
    pub ClausesOf : Clauses → Clauses → Type 0
    ClausesOf no_clauses no_clauses = Unit {0}
    ClausesOf (clause e x s r) (clause f y t q) =
        Here AlikeMaybe (header_line s) e f × (x ≡ y) × Suites s t × ClausesOf r q
    ClausesOf cs ds = ⊥

    -- the cases of a `match`
    pub CasesOf : Cases → Cases → Type 0
    CasesOf no_cases no_cases = Unit {0}
    CasesOf (case p g s r) (case q h t c) =
        (p ≡ q) × Here AlikeMaybe (header_line s) g h × Suites s t × CasesOf r c
    CasesOf cs ds = ⊥
