-- The parts of statements make functions as the units ask: expressions and the like make none, and a
-- `def` makes one right after the list of its defaults.
use Rattle.std.proofs.Common.{◌≡◌, ℕ, suc, ◌+◌, ◌-◌, ◌<◌, ◌≤◌, Bool, true, false, List, [], ◌∷◌, ◌++◌, length, Option, Some, None, refl, sym, ap, ◌∙◌, subst, arith}
use Rattle.std.specs.Prelude.{nat_eq, slice_get, if◌then◌else◌}
use Rattle.py_operator.specs.declared.operator.BinOp.{BinOp}
use Rattle.py_syntax.specs.Tree.{Text, Alias, Expr, Exprs, no_exprs, exprs, Pattern}
use Rattle.py_code.specs.declared.instr.Instr.TheVariants.{List as MakeList, FunctionWith, Raise, Reraise}
use Rattle.py_code.specs.declared.unit.Constant.TheVariants.{None as NoneConstant}
use Rattle.py_code.specs.Units.{Code}
use Rattle.py_compile_expr.specs.Cells.{constant, plain, Guard, cell}
use Rattle.py_compile_expr.specs.Expressions.{count, expr_size, expr_code, each_size, each_code}
use Rattle.py_compile_expr.specs.Patterns.{captured, pattern_size, pattern_code, names_size, names_code}
use Rattle.py_compile_expr.specs.Stands.{HasAt}
use Rattle.py_compile_expr.specs.Targets.{target_size, target_code, all_size, all_code}
use Rattle.py_compile_expr.proofs.Places.{has_behind}
use Rattle.py_compile_expr.proofs.Sizes.{expr_length, each_length}
use Rattle.py_compile.specs.Proper.{ProperPattern}
use Rattle.py_compile.specs.Statements.{option_size, option_code, module_code, import_size, import_code, take_size, take_code, augment_size, augment_code, raise_size, raise_code, assert_size, assert_code, function_size, function_code, caught_size, caught_code, guard_size, guard_code}
use Rattle.py_compile.specs.Ways.{Ways, is_there}
use Rattle.py_code_laws.proofs.ExpressionFits.{expr_fits}
use Rattle.py_code_laws.proofs.PatternFits.{pattern_fits, names_fit}
use Rattle.py_code_laws.proofs.StatementFits.{option_fits, module_fits, import_fits, take_fits, augment_fits, assert_fits, caught_fits, guard_fits}
use Rattle.py_code_laws.proofs.TargetFits.{target_fits, all_fit}
use Rattle.py_world_laws.specs.Making.{made_with, defaults_in, IsHanded}
use Rattle.py_making_laws.proofs.Places.{Free, GuardFree, Made, free_at, nothing, put_made, part_then}
use Rattle.py_making_laws.proofs.Leaves.{own_number, other_number, same_number, leaf, below, Past, FreeAfter, earlier, here_if, not_made, where_free, LandsBy, even}

module _ (us : List Code) (u : Code) where
  -- ---- expressions, targets and the like

  pub expr_make : (g : Option Guard) (p q : ℕ) (e : Expr) → p + expr_size e ≡ q → FreeAfter u g q → HasAt u p (expr_code g p e) → Made us u p (expr_code g p e)
  expr_make g p q e at k has = even us u (expr_fits g (below g) p (below g) q e at (omega arith)) at (λ l out. tt) k has

  pub target_make : (g : Option Guard) (p q : ℕ) (t : Expr) → p + target_size t ≡ q → FreeAfter u g q → HasAt u p (target_code g p t) → Made us u p (target_code g p t)
  target_make g p q t at k has = even us u (target_fits g (below g) p (suc (below g)) q t at (omega arith)) at (λ l out. tt) k has

  pub all_make : (g : Option Guard) (p q : ℕ) (ts : Exprs) → p + all_size ts ≡ q → FreeAfter u g q → HasAt u p (all_code g p ts) → Made us u p (all_code g p ts)
  all_make g p q ts at k has = even us u (all_fit g (below g) p (suc (below g)) q ts at (omega arith)) at (λ l out. tt) k has

  pub option_make : (g : Option Guard) (p q : ℕ) (e : Option Expr) → p + option_size e ≡ q → FreeAfter u g q → HasAt u p (option_code g p e) → Made us u p (option_code g p e)
  option_make g p q e at k has = even us u (option_fits g (below g) p (below g) q e at (omega arith)) at (λ l out. tt) k has

  pub module_make : (g : Option Guard) (p q : ℕ) (x : Text) → p + 3 ≡ q → FreeAfter u g q → HasAt u p (module_code g x) → Made us u p (module_code g x)
  module_make g p q x at k has = even us u (module_fits g (below g) p (below g) q x at (omega arith)) at (λ l out. tt) k has

  pub import_make : (g : Option Guard) (p q : ℕ) (names : List Alias) → p + import_size names ≡ q → FreeAfter u g q → HasAt u p (import_code g names) → Made us u p (import_code g names)
  import_make g p q names at k has = even us u (import_fits g (below g) p (suc (below g)) q names at (omega arith)) at (λ l out. tt) k has

  pub take_make : (g : Option Guard) (p q : ℕ) (x : Text) (names : List Alias) → p + take_size names ≡ q → FreeAfter u g q → HasAt u p (take_code g x names) → Made us u p (take_code g x names)
  take_make g p q x names at k has = even us u (take_fits g (below g) p (suc (below g)) q x names at (omega arith)) at (λ l out. tt) k has

  pub augment_make : (g : Option Guard) (p q : ℕ) (place : Expr) (op : BinOp) (e : Expr) → p + augment_size place e ≡ q → FreeAfter u g q → HasAt u p (augment_code g p place op e) → Made us u p (augment_code g p place op e)
  augment_make g p q place op e at k has = even us u (augment_fits g (below g) p (suc (below g)) q place op e at (omega arith)) at (λ l out. tt) k has

  pub assert_make : (g : Option Guard) (p q : ℕ) (why : Option Expr) → p + assert_size why ≡ q → FreeAfter u g q → HasAt u p (assert_code g p why) → Made us u p (assert_code g p why)
  assert_make g p q why at k has = even us u (assert_fits g (below g) p (suc (below g)) q why at (omega arith)) at (λ l out. tt) k has

  pub names_make : (g : Option Guard) (p q : ℕ) (xs : List Text) → p + names_size xs ≡ q → FreeAfter u g q → HasAt u p (names_code g xs) → Made us u p (names_code g xs)
  names_make g p q xs at k has = even us u (names_fit g (below g) p (length xs + suc (below g)) q (suc (below g)) xs at refl (omega arith)) at (λ l out. tt) k has

  -- where the next one is tried, nothing is made
  pub caught_make : (g : Option Guard) (p q next : ℕ) (kind : Option Expr) → p + caught_size kind ≡ q → q ≤ next → Free u next → FreeAfter u g q → HasAt u p (caught_code g p next kind) → Made us u p (caught_code g p next kind)
  caught_make g p q next kind at ahead free k has = even us u (caught_fits g (below g) p (below g) q next kind at ahead (omega arith)) at (λ l out. out next ahead free) k has

  pub guard_make : (g : Option Guard) (p q next : ℕ) (guard : Option Expr) → p + guard_size guard ≡ q → q ≤ next → Free u next → FreeAfter u g q → HasAt u p (guard_code g p next guard) → Made us u p (guard_code g p next guard)
  guard_make g p q next guard at ahead free k has = even us u (guard_fits g (below g) p (suc (below g)) q next guard at ahead (omega arith)) at (λ l out. out next ahead free) k has

  -- ---- patterns, at whose end also the captured values stand

  abbrev ended : ℕ → ℕ → ℕ → ℕ → Option ℕ
  ended q f c r = if nat_eq r q then Some f else where_free u c r

  ended_at : (q f c : ℕ) → ended q f c q ≡ Some f
  ended_at q f c = ap (λ b. if b then Some f else where_free u c q) (own_number q)

  ended_else : (q f c r : ℕ) → q < r → Free u r → ended q f c r ≡ Some c
  ended_else q f c r lt free = ap (λ b. if b then Some f else where_free u c r) (other_number r q (λ e. absurd (omega (arith, lt, e)))) ∙ ap (here_if c) free

  ended_free : (q f c : ℕ) → Free u q → (r d : ℕ) → ended q f c r ≡ Some d → Free u r
  ended_free q f c free r d is = by_case (nat_eq r q) refl is
    where
      by_case : (b : Bool) → nat_eq r q ≡ b → (if b then Some f else where_free u c r) ≡ Some d → Free u r
      by_case true h k = free_at u q r (same_number r q h) free
      by_case false h k = not_made c d (made_with (slice_get u.instrs r)) k

  ended_lands : (g : Option Guard) (q f next : ℕ) → q < next → GuardFree u g → Past next g → LandsBy (ended q f (suc (below g))) g q (below g)
  ended_lands None q f next lt free past = tt
  ended_lands (Some g) q f next lt free past = (omega arith, ended_else q f (suc g.depth) g.target (omega (arith, lt, past)) free, omega (arith, lt, past))

  pub pattern_make : (g : Option Guard) (p q next : ℕ) (t : Pattern) → ProperPattern t → p + pattern_size t ≡ q → q < next → Free u q → FreeAfter u g next → HasAt u p (pattern_code (record { guard = g; waiting = 0; fail = next; extra = 0 }) p t)
      → Made us u p (pattern_code (record { guard = g; waiting = 0; fail = next; extra = 0 }) p t)
  pattern_make g p q next t ok at ahead free k has =
      let c = suc (below g) in
      let f = length (captured t) + (0 + c) in
      leaf us u (pattern_fits (record { guard = g; waiting = 0; fail = next; extra = 0 }) (below g) c p (suc (0 + c)) q f t ok at (omega (arith, ahead)) (omega arith) refl (omega arith) refl) at
      (ended q f c) (ended_free q f c free) (ended_at q f c) (ended_lands g q f next ahead k.guard k.past)
      (λ l out. out next (omega (arith, ahead)) ∙ ended_else q f c next ahead k.ends) has

  -- ---- values one after another

  pub each_make : (g : Option Guard) (p q : ℕ) (es : Exprs) → p + each_size es ≡ q → FreeAfter u g q → HasAt u p (each_code g p es) → Made us u p (each_code g p es)
  each_make g p q no_exprs at k has = nothing us u p q (omega arith) k.ends
  each_make g p q (exprs e es) at k has =
      let r = p + expr_size e in
      let rest = each_make g r q es (omega arith) k (has_behind u p (expr_size e) (expr_code g p e) _ (expr_length g p e) has) in
      part_then us u p (expr_size e) (expr_code g p e) (expr_length g p e) (λ free h. expr_make g p r e refl (earlier u g r q (omega arith) free k) h) rest has

  -- ---- `raise`

  raised : (g : Option Guard) (p q : ℕ) (e : Expr) → p + (expr_size e + 1) ≡ q → FreeAfter u g q → HasAt u p (expr_code g p e ++ cell g (plain Raise) ∷ []) → Made us u p (expr_code g p e ++ cell g (plain Raise) ∷ [])
  raised g p q e at k has =
      let r = p + expr_size e in
      let h = has_behind u p (expr_size e) (expr_code g p e) _ (expr_length g p e) has in
      part_then us u p (expr_size e) (expr_code g p e) (expr_length g p e) (λ free i. expr_make g p r e refl (earlier u g r q (omega arith) free k) i)
      (put_made us u g r (plain Raise) (nothing us u (r + 1) q (omega arith) k.ends) tt k.guard (λ f. tt) h.0) has

  pub raise_make : (handled : Option ℕ) (w : Ways) (p q : ℕ) (e : Option Expr) → p + raise_size (is_there handled) e ≡ q → FreeAfter u w.guard q → HasAt u p (raise_code handled w p e) → Made us u p (raise_code handled w p e)
  raise_make None w p q (Some e) at k has = raised w.guard p q e at k has
  raise_make (Some b) w p q (Some e) at k has = raised w.guard p q e at k has
  raise_make (Some b) w p q None at k has = put_made us u w.guard p (plain (Reraise (w.depth - b - 1))) (nothing us u (p + 1) q (omega arith) k.ends) tt k.guard (λ f. tt) has.0
  raise_make None w p q None at k has =
      let last = put_made us u w.guard (p + 1) (plain Raise) (nothing us u (p + 1 + 1) q (omega arith) k.ends) tt k.guard (λ f. tt) has.1.0 in
      put_made us u w.guard p (constant NoneConstant) last tt k.guard (λ f. (f, tt)) has.0

  -- ---- the function of a `def`

  handed_over : (n unit p : ℕ) → 0 < n → n ≡ defaults_in (slice_get us unit) → slice_get u.instrs (p + 1) ≡ Some (FunctionWith unit) → IsHanded us n (made_with (slice_get u.instrs (suc p)))
  handed_over n unit p some same is =
      let next : p + 1 ≡ suc p = omega arith in
      let there : slice_get u.instrs (suc p) ≡ Some (FunctionWith unit) = subst (λ r. slice_get u.instrs r ≡ Some (FunctionWith unit)) next is in
      subst (IsHanded us n) (sym (ap made_with there)) (some, same)

  -- of as many defaults as its unit has
  pub function_make : (g : Option Guard) (p q unit : ℕ) (es : Exprs) → defaults_in (slice_get us unit) ≡ count es → p + function_size es ≡ q → FreeAfter u g q → HasAt u p (function_code g p unit es) → Made us u p (function_code g p unit es)
  function_make g p q unit no_exprs known at k has =
      let end : Free u (suc p) = free_at u q (suc p) (omega arith) k.ends in
      record { free = ap made_with has.0.instr; all = (record { at = (known, (end, tt)); handler = k.guard }, tt) }
  function_make g p q unit (exprs e es) known at k has =
      let n = each_size (exprs e es) in
      let r = p + n in
      let h = has_behind u p n (each_code g p (exprs e es)) _ (each_length g p (exprs e es)) has in
      let end : Free u (suc (r + 1)) = free_at u q (suc (r + 1)) (omega arith) k.ends in
      let list : Made us u r (cell g (plain (MakeList (count (exprs e es)))) ∷ cell g (plain (FunctionWith unit)) ∷ []) = record {
        free = ap made_with h.0.instr;
        all = (
          record { at = handed_over (count (exprs e es)) unit r (omega arith) (sym known) h.1.0.instr; handler = k.guard },
          (record { at = (end, tt); handler = k.guard }, tt),
        );
      } in
      part_then us u p n (each_code g p (exprs e es)) (each_length g p (exprs e es)) (λ free i. each_make g p r (exprs e es) refl (earlier u g r q (omega arith) free k) i) list has
