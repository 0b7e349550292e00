-- The code of statements and of their parts is as long as its size says.
use Rattle.std.proofs.Common.{◌≡◌, ℕ, ◌+◌, false, List, [], length, Option, Some, None, refl, arith}
use Rattle.std.proofs.lemmas.List.{length-append}
use Rattle.py_syntax.specs.Functions.{Function}
use Rattle.py_syntax.specs.Tree.{Expr, Exprs, no_exprs, exprs, Stmts, no_stmts, stmt, suite, OptSuite, no_suite, has_suite, Arms, Clauses, StmtKind, if', try}
use Rattle.py_meaning.specs.Statements.{has_clauses}
use Rattle.py_compile_expr.specs.Cells.{Guard}
use Rattle.py_compile_expr.specs.Expressions.{expr_size, expr_code, each_size, each_code}
use Rattle.py_compile_expr.proofs.Sizes.{both, expr_length, each_length}
use Rattle.py_compile.specs.Laws.{SizesHold}
use Rattle.py_compile.specs.Statements.{function_size, function_code, caught_size, caught_code, guard_size, guard_code, tried_size, tried_code, stmts_size, kind_size, opt_size, arms_size, clauses_size, stmts_code, kind_code, opt_code, arms_code, clauses_code}
use Rattle.py_compile.specs.Ways.{Ways, in_hand}

-- ---- parts

pub function_length : (g : Option Guard) (p unit : ℕ) (es : Exprs) → length (function_code g p unit es) ≡ function_size es
function_length g p unit no_exprs = refl
function_length g p unit (exprs e es) = both (each_code g p (exprs e es)) _ (each_size (exprs e es)) 2 (each_length g p (exprs e es)) refl

pub caught_length : (g : Option Guard) (p next : ℕ) (e : Option Expr) → length (caught_code g p next e) ≡ caught_size e
caught_length g p next None = refl
caught_length g p next (Some e) = both (expr_code g p e) _ (expr_size e) 2 (expr_length g p e) refl

pub guard_length : (g : Option Guard) (p next : ℕ) (e : Option Expr) → length (guard_code g p next e) ≡ guard_size e
guard_length g p next None = refl
guard_length g p next (Some e) = both (expr_code g p e) _ (expr_size e) 1 (expr_length g p e) refl

-- ---- statements

module _ (sizes : SizesHold) (fs : List Function) where
  pub stmts_length : (w : Ways) (p : ℕ) (ss : Stmts) → length (stmts_code fs w p ss) ≡ stmts_size (in_hand w) ss
  stmts_length w p ss = sizes.stmts fs w p ss

  pub kind_length : (w : Ways) (p l : ℕ) (k : StmtKind) → length (kind_code fs w p l k) ≡ kind_size (in_hand w) k
  kind_length w p l k =
      let alone = sizes.stmts fs w p (stmt l l k (record { semicolon = false; newline = false }) no_stmts) in
      let row = length-append (kind_code fs w p l k) [] in
      omega arith

  pub opt_length : (w : Ways) (p : ℕ) (o : OptSuite) → length (opt_code fs w p o) ≡ opt_size (in_hand w) o
  opt_length w p no_suite = refl
  opt_length w p (has_suite (suite first last inline body)) = stmts_length w p body

  -- in front of an `else`
  pub arms_length : (w : Ways) (p : ℕ) (arms : Arms) (orelse : OptSuite) → length (arms_code fs w p (p + arms_size (in_hand w) arms + opt_size (in_hand w) orelse) arms) ≡ arms_size (in_hand w) arms
  arms_length w p arms orelse =
      let rest = p + arms_size (in_hand w) arms in
      let whole = kind_length w p p (if' arms orelse) in
      let last = opt_length w rest orelse in
      let row = length-append (arms_code fs w p (rest + opt_size (in_hand w) orelse) arms) (opt_code fs w rest orelse) in
      omega arith

  pub tried_length : (w : Ways) (p : ℕ) (body : Stmts) (orelse : OptSuite) (clauses : Clauses)
      → length (tried_code (has_clauses clauses) w (p + 1) (stmts_size (in_hand w) body) (opt_size (in_hand w) orelse) (clauses_size (in_hand w) clauses) (λ v q. stmts_code fs v q body) (λ q. opt_code fs w q orelse) (λ q end. clauses_code fs w q end clauses))
      ≡ tried_size (has_clauses clauses) (stmts_size (in_hand w) body) (opt_size (in_hand w) orelse) (clauses_size (in_hand w) clauses)
  tried_length w p body orelse clauses = let whole = kind_length w p p (try (suite p p false body) clauses orelse no_suite) in omega arith
