-- The places of the code of simple statements have one number of operands each.
use Rattle.std.proofs.Common.{◌≡◌, ℕ, suc, ◌+◌, ◌<◌, Bool, false, List, Option, refl, ap, ◌∙◌, arith}
use Rattle.py_operator.specs.declared.operator.BinOp.{BinOp}
use Rattle.py_syntax.specs.Functions.{Function}
use Rattle.py_syntax.specs.Tree.{Text, Alias, Expr, Exprs, Suite as TreeSuite, expr, assign, aug_assign, pass, break, continue, return, raise, assert, global, import, from, def}
use Rattle.py_meaning.specs.Modules.{unit_at}
use Rattle.py_code.specs.declared.instr.Instr.TheVariants.{Pop, IfTrue}
use Rattle.py_compile_expr.specs.Cells.{store, marks, plain}
use Rattle.py_compile_expr.specs.Expressions.{expr_size}
use Rattle.py_compile.specs.Statements.{option_size, assert_size, function_size}
use Rattle.py_code_laws.proofs.Blocks.{resize}
use Rattle.py_code_laws.proofs.Pieces.{elsewhere, calm, fork, finish, after, only, anywhere}
use Rattle.py_code_laws.proofs.ExpressionFits.{expr_fits}
use Rattle.py_code_laws.proofs.TargetFits.{all_fit}
use Rattle.py_code_laws.proofs.StatementFits.{option_fits, module_fits, import_fits, take_fits, augment_fits, raise_fits, assert_fits, function_fits}
use Rattle.py_code_laws.proofs.Suites.{exit_break, exit_continue, exit_return}
use Rattle.py_code_laws.proofs.Forms.{KindFits}

module _ {units : ℕ} (fs : List Function) (l : ℕ) where
  pub expr_form : (e : Expr) → KindFits units fs l (expr e)
  expr_form e w p q held at =
      let d = w.depth in
      resize (omega arith) (only (calm (marks l) 0 0 d d d refl (omega arith) (omega arith) tt (omega arith)
      (after refl (omega arith) (expr_fits w.guard d (p + 1) d (p + 1 + expr_size e) e refl (omega arith))
      (calm (plain Pop) 1 0 d (suc d) d refl (omega arith) (omega arith) tt (omega arith) (finish (omega arith) refl)))))

  pub assign_form : (targets : Exprs) (e : Expr) → KindFits units fs l (assign targets e)
  assign_form targets e w p q held at =
      let d = w.depth in
      resize (omega arith) (only (calm (marks l) 0 0 d d d refl (omega arith) (omega arith) tt (omega arith)
      (after refl (omega arith) (expr_fits w.guard d (p + 1) d (p + 1 + expr_size e) e refl (omega arith))
      (anywhere (all_fit w.guard d (p + 1 + expr_size e) d q targets (omega arith) (omega arith))))))

  pub aug_assign_form : (place : Expr) (op : BinOp) (e : Expr) → KindFits units fs l (aug_assign place op e)
  aug_assign_form place op e w p q held at =
      let d = w.depth in
      only (calm (marks l) 0 0 d d d refl (omega arith) (omega arith) tt (omega arith)
      (anywhere (augment_fits w.guard d (p + 1) d q place op e (omega arith) (omega arith))))

  pub pass_form : KindFits units fs l pass
  pass_form w p q held at =
      let d = w.depth in
      only (calm (marks l) 0 0 d d d refl (omega arith) (omega arith) tt (omega arith) (finish at refl))

  pub break_form : KindFits units fs l break
  break_form w p q held at =
      let d = w.depth in
      only (calm (marks l) 0 0 d d d refl (omega arith) (omega arith) tt (omega arith)
      (exit_break w (p + 2) (omega arith) (omega arith) (finish (omega arith) refl) (λ l there h. elsewhere l there.0 (omega arith))))

  pub continue_form : KindFits units fs l continue
  continue_form w p q held at =
      let d = w.depth in
      only (calm (marks l) 0 0 d d d refl (omega arith) (omega arith) tt (omega arith)
      (exit_continue w (p + 2) (omega arith) (omega arith) (finish (omega arith) refl) (λ l there h. elsewhere l there.0 (omega arith))))

  pub return_form : (e : Option Expr) → KindFits units fs l (return e)
  return_form e w p q held at =
      let d = w.depth in
      resize (omega arith) (only (calm (marks l) 0 0 d d d refl (omega arith) (omega arith) tt (omega arith)
      (after refl (omega arith) (option_fits w.guard d (p + 1) d (p + 1 + option_size e) e refl (omega arith))
      (exit_return w (omega arith) (finish (omega arith) refl)))))

  pub raise_form : (e : Option Expr) → KindFits units fs l (raise e)
  raise_form e w p q held at =
      let d = w.depth in
      only (calm (marks l) 0 0 d d d refl (omega arith) (omega arith) tt (omega arith)
      (anywhere (raise_fits w.handled w (p + 1) q e held (omega arith))))

  pub assert_form : (test : Expr) (why : Option Expr) → KindFits units fs l (assert test why)
  assert_form test why w p q held at =
      let d = w.depth in
      let fails = p + 1 + expr_size test + 1 in
      let to = fails + assert_size why in
      let same : to ≡ q = omega arith in
      resize (omega arith) (only (calm (marks l) 0 0 d d d refl (omega arith) (omega arith) tt (omega arith)
      (after refl (omega arith) (expr_fits w.guard d (p + 1) d (p + 1 + expr_size test) test refl (omega arith))
      (fork (plain (IfTrue to)) 1 0 0 d (suc d) d d to false refl (omega arith) (omega arith) (omega arith) (omega arith) tt (omega arith) (omega arith)
      (anywhere (assert_fits w.guard d fails d q why same (omega arith))) (λ l there h. ap l.depth same ∙ h.ends)))))

  pub global_form : (xs : List Text) → KindFits units fs l (global xs)
  global_form xs w p q held at = finish (omega arith) refl

  pub import_form : (names : List Alias) → KindFits units fs l (import names)
  import_form names w p q held at =
      let d = w.depth in
      only (calm (marks l) 0 0 d d d refl (omega arith) (omega arith) tt (omega arith)
      (anywhere (import_fits w.guard d (p + 1) d q names (omega arith) (omega arith))))

  pub from_form : (m : Text) (names : List Alias) → KindFits units fs l (from m names)
  from_form m names w p q held at =
      let d = w.depth in
      resize (omega arith) (only (calm (marks l) 0 0 d d d refl (omega arith) (omega arith) tt (omega arith)
      (after refl (omega arith) (module_fits w.guard d (p + 1) d (p + 1 + 3) m refl (omega arith))
      (anywhere (take_fits w.guard d (p + 1 + 3) d q m names (omega arith) (omega arith))))))

  pub def_form : (x : Text) (params : List Text) (defaults : Exprs) (comma : Bool) (body : TreeSuite) → 0 < unit_at l fs → unit_at l fs < units → KindFits units fs l (def x params defaults comma body)
  def_form x params defaults comma body some small w p q held at =
      let d = w.depth in
      resize (omega arith) (only (calm (marks l) 0 0 d d d refl (omega arith) (omega arith) tt (omega arith)
      (after refl (omega arith) (function_fits w.guard d (p + 1) d (p + 1 + function_size defaults) (unit_at l fs) defaults some small refl (omega arith))
      (calm (store x) 1 0 d (suc d) d refl (omega arith) (omega arith) tt (omega arith) (finish (omega arith) refl)))))
