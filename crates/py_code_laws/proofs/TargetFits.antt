-- The places of the code of targets have one number of operands each, and each target takes the value on top.
use Rattle.std.proofs.Common.{◌≡◌, ℕ, suc, ◌+◌, ◌≤◌, true, false, Option, refl, arith}
use Rattle.py_syntax.specs.Tree.{Expr, name, int, str, fstr, none, bool, tuple, list, dict, paren, not', and, or, unary, binary, compare, cond, call, index, slice, attr, Exprs, no_exprs, exprs}
use Rattle.py_code.specs.declared.instr.Instr.TheVariants.{Pop, Copy, Index, StoreIndex, Unpack}
use Rattle.py_code.specs.declared.unit.Constant.TheVariants.{None as NoneConstant}
use Rattle.py_compile_expr.specs.Cells.{constant, store, plain, Guard}
use Rattle.py_compile_expr.specs.Expressions.{count, expr_size}
use Rattle.py_compile_expr.specs.Targets.{no_target_code, target_size, target_code, targets_size, targets_code, all_size, all_code}
use Rattle.py_code_laws.proofs.Blocks.{resize}
use Rattle.py_code_laws.proofs.Pieces.{step, finish, after, only, starts}
use Rattle.py_code_laws.proofs.ExpressionFits.{Fit, expr_fits}

-- what is no target
no_target : {units : ℕ} (g : Option Guard) (m p d q : ℕ) → p + 5 ≡ q → m ≤ d → Fit units g m p (suc d) q d 5 (no_target_code g)
no_target g m p d q at le =
    only (step (constant NoneConstant) 0 1 (suc d) (suc d) (suc (suc d)) false refl (omega arith) (omega arith) (omega arith) tt (omega arith)
    (step (constant NoneConstant) 0 1 (suc (suc d)) (suc (suc d)) (suc (suc (suc d))) false refl (omega arith) (omega arith) (omega arith) tt (omega arith)
    (step (plain Index) 2 1 (suc d) (suc (suc (suc d))) (suc (suc d)) true refl (omega arith) (omega arith) (omega arith) tt (omega arith)
    (step (plain Pop) 1 0 (suc d) (suc (suc d)) (suc d) false refl (omega arith) (omega arith) (omega arith) tt (omega arith)
    (step (plain Pop) 1 0 d (suc d) d false refl (omega arith) (omega arith) le tt (omega arith) (finish (omega arith) refl))))))

mutual
  pub target_fits : {units : ℕ} (g : Option Guard) (m p d q : ℕ) (t : Expr) → p + target_size t ≡ q → m ≤ d → Fit units g m p (suc d) q d (target_size t) (target_code g p t)
  target_fits g m p d q (name x) at le = only (step (store x) 1 0 d (suc d) d false refl (omega arith) (omega arith) le tt (omega arith) (finish (omega arith) refl))
  target_fits g m p d q (int n) at le = no_target g m p d q at le
  target_fits g m p d q (str ps) at le = no_target g m p d q at le
  target_fits g m p d q (fstr fs) at le = no_target g m p d q at le
  target_fits g m p d q none at le = no_target g m p d q at le
  target_fits g m p d q (bool b) at le = no_target g m p d q at le
  target_fits g m p d q (tuple ts c) at le =
      only (step (plain (Unpack (count ts))) 1 (count ts) d (suc d) (count ts + d) true refl (omega arith) refl le tt (omega arith) (targets_fit g m (p + 1) d q ts (omega arith) le))
  target_fits g m p d q (list ts c) at le =
      only (step (plain (Unpack (count ts))) 1 (count ts) d (suc d) (count ts + d) true refl (omega arith) refl le tt (omega arith) (targets_fit g m (p + 1) d q ts (omega arith) le))
  target_fits g m p d q (dict ps c) at le = no_target g m p d q at le
  target_fits g m p d q (paren t) at le = target_fits g m p d q t at le
  target_fits g m p d q (not' e) at le = no_target g m p d q at le
  target_fits g m p d q (and a b) at le = no_target g m p d q at le
  target_fits g m p d q (or a b) at le = no_target g m p d q at le
  target_fits g m p d q (unary s e) at le = no_target g m p d q at le
  target_fits g m p d q (binary op a b) at le = no_target g m p d q at le
  target_fits g m p d q (compare a ls) at le = no_target g m p d q at le
  target_fits g m p d q (cond b t o) at le = no_target g m p d q at le
  target_fits g m p d q (call f es c) at le = no_target g m p d q at le
  target_fits g m p d q (index of i) at le =
      resize (omega arith) (only (after refl (omega arith) (expr_fits g m p (suc d) (p + expr_size of) of refl (omega arith))
      (after refl (omega arith) (expr_fits g m (p + expr_size of) (suc (suc d)) (p + expr_size of + expr_size i) i refl (omega arith))
      (step (plain StoreIndex) 3 0 d (suc (suc (suc d))) d true refl (omega arith) (omega arith) le tt (omega arith) (finish (omega arith) refl)))))
  target_fits g m p d q (slice of low high) at le = no_target g m p d q at le
  target_fits g m p d q (attr of x) at le = no_target g m p d q at le

  -- the first value is on top
  targets_fit : {units : ℕ} (g : Option Guard) (m p d q : ℕ) (ts : Exprs) → p + targets_size ts ≡ q → m ≤ d → Fit units g m p (count ts + d) q d (targets_size ts) (targets_code g p ts)
  targets_fit g m p d q no_exprs at le = finish (omega arith) (omega arith)
  targets_fit g m p d q (exprs t ts) at le =
      starts (omega arith) (only (after refl (omega arith) (target_fits g m p (count ts + d) (p + target_size t) t refl (omega arith)) (targets_fit g m (p + target_size t) d q ts (omega arith) le)))

pub all_fit : {units : ℕ} (g : Option Guard) (m p d q : ℕ) (ts : Exprs) → p + all_size ts ≡ q → m ≤ d → Fit units g m p (suc d) q d (all_size ts) (all_code g p ts)
all_fit g m p d q no_exprs at le = only (step (plain Pop) 1 0 d (suc d) d false refl (omega arith) (omega arith) le tt (omega arith) (finish (omega arith) refl))
all_fit g m p d q (exprs t ts) at le =
    resize (omega arith) (only (step (plain (Copy 0)) 1 2 d (suc d) (suc (suc d)) false refl (omega arith) (omega arith) le tt (omega arith)
    (after refl (omega arith) (target_fits g m (p + 1) (suc d) (p + 1 + target_size t) t refl (omega arith)) (all_fit g m (p + 1 + target_size t) d q ts (omega arith) le))))
