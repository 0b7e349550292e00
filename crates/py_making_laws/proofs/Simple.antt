-- The code of simple statements, and of a `def`, makes functions as the units ask.
use Rattle.std.proofs.Common.{◌≡◌, ℕ, ◌+◌, Bool, List, length, Option, refl, arith}
use Rattle.std.specs.Prelude.{slice_get}
use Rattle.py_operator.specs.declared.operator.BinOp.{BinOp}
use Rattle.py_syntax.specs.Functions.{Function}
use Rattle.py_syntax.specs.Tree.{Text, Alias, Expr, Exprs, Suite as TreeSuite, expr, assign, aug_assign, pass, break, continue, return, raise, assert, global, import, from, def}
use Rattle.py_meaning.specs.Modules.{unit_at}
use Rattle.py_code.specs.declared.instr.Instr.TheVariants.{Pop, IfTrue}
use Rattle.py_code.specs.Units.{Code}
use Rattle.py_compile_expr.specs.Cells.{store, marks, plain, Guard}
use Rattle.py_compile_expr.specs.Expressions.{count, expr_size, expr_code}
use Rattle.py_compile_expr.specs.Targets.{all_code}
use Rattle.py_compile_expr.proofs.Places.{has_behind}
use Rattle.py_compile_expr.proofs.Sizes.{expr_length}
use Rattle.py_compile.specs.Statements.{option_size, option_code, module_code, take_code, assert_size, function_size, function_code}
use Rattle.py_code_laws.proofs.StatementFits.{option_fits}
use Rattle.py_world_laws.specs.Making.{defaults_in}
use Rattle.py_making_laws.proofs.Places.{Free, free_at, nothing, put_made, part_then}
use Rattle.py_making_laws.proofs.Lengths.{function_length}
use Rattle.py_making_laws.proofs.Leaves.{earlier}
use Rattle.py_making_laws.proofs.Parts.{expr_make, all_make, option_make, module_make, import_make, take_make, augment_make, assert_make, raise_make, function_make}
use Rattle.py_making_laws.proofs.Suites.{break_made, continue_made, return_made}
use Rattle.py_making_laws.proofs.Forms.{KindMakes}

option_length : (g : Option Guard) (p : ℕ) (e : Option Expr) → length (option_code g p e) ≡ option_size e
option_length g p e = (option_fits {units = 0} g 0 p 0 (p + option_size e) e refl (omega arith)).size

module _ (us : List Code) (u : Code) (fs : List Function) (l : ℕ) where
  pub expr_form : (e : Expr) → KindMakes us u fs l (expr e)
  expr_form e w p q at k has =
      let g = w.guard in
      let r = p + 1 + expr_size e in
      let h = has_behind u (p + 1) (expr_size e) (expr_code g (p + 1) e) _ (expr_length g (p + 1) e) has.1 in
      let end = nothing us u (r + 1) q (omega arith) k.after.ends in
      let last = put_made us u g r (plain Pop) end tt k.after.guard (λ f. (f, tt)) h.0 in
      let value = part_then us u (p + 1) (expr_size e) (expr_code g (p + 1) e) (expr_length g (p + 1) e) (λ free i. expr_make us u g (p + 1) r e refl (earlier u g r q (omega arith) free k.after) i) last has.1 in
      put_made us u g p (marks l) value tt k.after.guard (λ f. (f, tt)) has.0

  pub assign_form : (targets : Exprs) (e : Expr) → KindMakes us u fs l (assign targets e)
  assign_form targets e w p q at k has =
      let g = w.guard in
      let r = p + 1 + expr_size e in
      let h = has_behind u (p + 1) (expr_size e) (expr_code g (p + 1) e) (all_code g r targets) (expr_length g (p + 1) e) has.1 in
      let last = all_make us u g r q targets (omega arith) k.after h in
      let value = part_then us u (p + 1) (expr_size e) (expr_code g (p + 1) e) (expr_length g (p + 1) e) (λ free i. expr_make us u g (p + 1) r e refl (earlier u g r q (omega arith) free k.after) i) last has.1 in
      put_made us u g p (marks l) value tt k.after.guard (λ f. (f, tt)) has.0

  pub aug_assign_form : (place : Expr) (op : BinOp) (e : Expr) → KindMakes us u fs l (aug_assign place op e)
  aug_assign_form place op e w p q at k has =
      let value = augment_make us u w.guard (p + 1) q place op e (omega arith) k.after has.1 in
      put_made us u w.guard p (marks l) value tt k.after.guard (λ f. (f, tt)) has.0

  pub pass_form : KindMakes us u fs l pass
  pass_form w p q at k has = let end = nothing us u (p + 1) q (omega arith) k.after.ends in put_made us u w.guard p (marks l) end tt k.after.guard (λ f. (f, tt)) has.0

  pub break_form : KindMakes us u fs l break
  break_form w p q at k has =
      let end = nothing us u (p + 1 + 1) q (omega arith) k.after.ends in
      let last = break_made us u w.guard (p + 1) (p + 2) w.on_break end k.breaks (free_at u q (p + 2) (omega arith) k.after.ends) k.after.guard has.1 in
      put_made us u w.guard p (marks l) last tt k.after.guard (λ f. (f, tt)) has.0

  pub continue_form : KindMakes us u fs l continue
  continue_form w p q at k has =
      let end = nothing us u (p + 1 + 1) q (omega arith) k.after.ends in
      let last = continue_made us u w.guard (p + 1) (p + 2) w.on_continue end k.continues (free_at u q (p + 2) (omega arith) k.after.ends) k.after.guard has.1 in
      put_made us u w.guard p (marks l) last tt k.after.guard (λ f. (f, tt)) has.0

  pub return_form : (e : Option Expr) → KindMakes us u fs l (return e)
  return_form e w p q at k has =
      let g = w.guard in
      let r = p + 1 + option_size e in
      let h = has_behind u (p + 1) (option_size e) (option_code g (p + 1) e) _ (option_length g (p + 1) e) has.1 in
      let end = nothing us u (r + 1) q (omega arith) k.after.ends in
      let last = return_made us u g r w.on_return end k.returns k.after.guard h in
      let value = part_then us u (p + 1) (option_size e) (option_code g (p + 1) e) (option_length g (p + 1) e) (λ free i. option_make us u g (p + 1) r e refl (earlier u g r q (omega arith) free k.after) i) last has.1 in
      put_made us u g p (marks l) value tt k.after.guard (λ f. (f, tt)) has.0

  pub raise_form : (e : Option Expr) → KindMakes us u fs l (raise e)
  raise_form e w p q at k has =
      let value = raise_make us u w.handled w (p + 1) q e (omega arith) k.after has.1 in
      put_made us u w.guard p (marks l) value tt k.after.guard (λ f. (f, tt)) has.0

  pub assert_form : (test : Expr) (why : Option Expr) → KindMakes us u fs l (assert test why)
  assert_form test why w p q at k has =
      let g = w.guard in
      let r = p + 1 + expr_size test in
      let fails = r + 1 in
      let to = fails + assert_size why in
      let h = has_behind u (p + 1) (expr_size test) (expr_code g (p + 1) test) _ (expr_length g (p + 1) test) has.1 in
      let last = assert_make us u g fails q why (omega arith) k.after h.1 in
      let end : Free u to = free_at u q to (omega arith) k.after.ends in
      let fork = put_made us u g r (plain (IfTrue to)) last tt k.after.guard (λ f. (f, (end, tt))) h.0 in
      let value = part_then us u (p + 1) (expr_size test) (expr_code g (p + 1) test) (expr_length g (p + 1) test) (λ free i. expr_make us u g (p + 1) r test refl (earlier u g r q (omega arith) free k.after) i) fork has.1 in
      put_made us u g p (marks l) value tt k.after.guard (λ f. (f, tt)) has.0

  pub global_form : (xs : List Text) → KindMakes us u fs l (global xs)
  global_form xs w p q at k has = nothing us u p q (omega arith) k.after.ends

  pub import_form : (names : List Alias) → KindMakes us u fs l (import names)
  import_form names w p q at k has =
      let value = import_make us u w.guard (p + 1) q names (omega arith) k.after has.1 in
      put_made us u w.guard p (marks l) value tt k.after.guard (λ f. (f, tt)) has.0

  pub from_form : (m : Text) (names : List Alias) → KindMakes us u fs l (from m names)
  from_form m names w p q at k has =
      let g = w.guard in
      let r = p + 1 + 3 in
      let h = has_behind u (p + 1) 3 (module_code g m) (take_code g m names) refl has.1 in
      let last = take_make us u g r q m names (omega arith) k.after h in
      let value = part_then us u (p + 1) 3 (module_code g m) refl (λ free i. module_make us u g (p + 1) r m refl (earlier u g r q (omega arith) free k.after) i) last has.1 in
      put_made us u g p (marks l) value tt k.after.guard (λ f. (f, tt)) has.0

  -- the function has as many defaults as its unit
  pub def_form : (x : Text) (params : List Text) (defaults : Exprs) (comma : Bool) (body : TreeSuite) → defaults_in (slice_get us (unit_at l fs)) ≡ count defaults → KindMakes us u fs l (def x params defaults comma body)
  def_form x params defaults comma body known w p q at k has =
      let g = w.guard in
      let n = function_size defaults in
      let r = p + 1 + n in
      let xs = function_code g (p + 1) (unit_at l fs) defaults in
      let h = has_behind u (p + 1) n xs _ (function_length g (p + 1) (unit_at l fs) defaults) has.1 in
      let end = nothing us u (r + 1) q (omega arith) k.after.ends in
      let last = put_made us u g r (store x) end tt k.after.guard (λ f. (f, tt)) h.0 in
      let value = part_then us u (p + 1) n xs (function_length g (p + 1) (unit_at l fs) defaults) (λ free i. function_make us u g (p + 1) r (unit_at l fs) defaults known refl (earlier u g r q (omega arith) free k.after) i) last has.1 in
      put_made us u g p (marks l) value tt k.after.guard (λ f. (f, tt)) has.0
