-- What the code of targets does is what assignments to them mean.
use Rattle.std.proofs.Common.{◌≡◌, ℕ, suc, ◌+◌, ◌<◌, ◌≤◌, List, [], ◌∷◌, ◌++◌, length, map, take, Option, Some, Bool, true, false, refl, sym, ap, ◌∙◌, arith}
use Rattle.std.specs.Prelude.{slice_get, if◌then◌else◌, nat_eq, Result, Ok, Err}
use Rattle.std.proofs.lemmas.Bool.Decides.{nat_tests}
use Rattle.py_value.specs.declared.cause.Cause.TheVariants.{NotSubscriptable, WrongValueCount}
use Rattle.py_operator.specs.declared.operator.BinOp.{BinOp}
use Rattle.py_value.specs.Answers.{◌>>=◌}
use Rattle.py_value.specs.Causes.{raised_by}
use Rattle.py_text.specs.Comparison.{is_same_text}
use Rattle.py_value.specs.Operators.{in_place_of, index_of}
use Rattle.py_value.specs.Plain.{PlainValue, none_value, PlainRaised}
use Rattle.py_syntax.specs.Names.{is_among}
use Rattle.py_syntax.specs.Tree.{Text, Expr, name, int, str, fstr, none, bool, tuple, list, dict, paren, not', and, or, unary, binary, compare, cond, call, index, slice, attr, Exprs, no_exprs, exprs}
use Rattle.py_builtins.specs.Items.{items_in, unpacked}
use Rattle.py_builtins.specs.Making.{stored}
use Rattle.py_builtins.specs.World.{with_name, without_name, with_global, without_global}
use Rattle.py_meaning.specs.Assignments.{no_target, target_count, assign_to, assign_each, assign_all, augment}
use Rattle.py_meaning.specs.Calls.{Calls}
use Rattle.py_meaning.specs.Computations.{Setting, State, done, put, give, write, value, read, ask, work}
use Rattle.py_meaning.specs.Expressions.{gives}
use Rattle.py_meaning.specs.Modules.{LoadedModule}
use Rattle.py_meaning.specs.Places.{Place, fetched, bound, unbound}
use Rattle.py_meaning.proofs.Steady.{steady-ask}
use Rattle.py_meaning.proofs.SteadyExpressions.{steady-assign_to}
use Rattle.py_code.specs.declared.instr.Instr.TheVariants.{Pop, Copy, Sink, StoreLocal, StoreGlobal, UnsetLocal, UnsetGlobal, InPlace, Index, StoreIndex, Unpack}
use Rattle.py_code.specs.declared.unit.Constant.TheVariants.{None as NoneConstant}
use Rattle.py_code.specs.Configurations.{Operand, of_value}
use Rattle.py_code.specs.Machine.{falls, where_found, with_locals, on_world}
use Rattle.py_code.specs.Slots.{slot_name, name_or_none, locals_in}
use Rattle.py_code.specs.Units.{Code, Module, unit_at}
use Rattle.py_compile_expr.specs.Cells.{store, unset, plain, Guard, cell, put as put_cell, place_in, name_at}
use Rattle.py_compile_expr.specs.Expressions.{count, expr_size, expr_code}
use Rattle.py_compile_expr.specs.Runs.{Spot, conf, from as going, thrown, after, on_top, Fits, Matches, part_of, CallsRun}
use Rattle.py_compile_expr.specs.Stands.{tables_in, HasVariable, StandsAt, HasAt}
use Rattle.py_compile_expr.specs.Targets.{no_target_code, target_size, targets_size, target_code, targets_code, all_size, all_code}
use Rattle.py_compile_expr.proofs.InstructionRuns.{ends_at, then_value, unchanged, then_asks, then_works, constant_runs, name_runs}
use Rattle.py_compile_expr.proofs.PartRuns.{part_at}
use Rattle.py_compile_expr.proofs.ExpressionRuns.{eval_runs}
use Rattle.py_compile_expr.proofs.Places.{has_front, has_at}
use Rattle.py_compile_expr.proofs.Simulation.{fits_less, fits_more, Holds, Any, holds_any, at_most, thrown_over, runs_on, threw, asks, works}
use Rattle.py_compile_expr.proofs.Sizes.{expr_length, target_length}
use Rattle.py_compile.specs.Statements.{no_place_code, augment_size, augment_code}
use Rattle.py_compile.proofs.Flow.{dropping_runs, led_on}

-- nothing is left on the operands, or values with the first on top
abbrev pub gone : {A : Type 0} → A → List Operand → List Operand
gone a st = st

abbrev pub spread : List PlainValue → List Operand → List Operand
spread vs st = map of_value vs ++ st

same_count : (ts : Exprs) → count ts ≡ target_count ts
same_count no_exprs = refl
same_count (exprs t ts) = ap suc (same_count ts)

pub same_number : (a b : ℕ) → nat_eq a b ≡ true → a ≡ b
same_number a b h = grind (arith, nat_tests)

-- as many values as there are targets
unpack_counts : (m : ℕ) (v : PlainValue) (s : State) (n : ℕ) → Holds (λ vs. length vs ≡ m) (ask (λ z. unpacked m v z.world.heap) s n)
unfolding ask read give
unpack_counts m v s n = by_items (items_in v s.now.world.heap)
  where
    by_number : (b : Bool) (vs : List PlainValue) → nat_eq (length vs) m ≡ b → Holds (λ us. length us ≡ m) (done (if b then Ok vs else Err (raised_by WrongValueCount)) s n)
    by_number true vs e = same_number (length vs) m e
    by_number false vs e = tt

    by_items : (r : Result (List PlainValue) PlainRaised) → Holds (λ us. length us ≡ m) (done (r >>= λ vs. if nat_eq (length vs) m then Ok vs else Err (raised_by WrongValueCount)) s n)
    by_items (Ok vs) = by_number (nat_eq (length vs) m) vs refl
    by_items (Err e) = tt

module _ (cs : List Module) (ms : List LoadedModule) (matches : Matches cs ms) (c : Calls) (k : ℕ) (calls : CallsRun cs c k)
    (w : Spot) (u : Code) (is : unit_at cs w.code ≡ Some u) (handled : Option PlainRaised) where
  abbrev pl : Place
  pl = part_of ms u w.code handled

  slot_is : (x : Text) → slice_get u.locals (place_in is_same_text u.locals x) ≡ Some x → slot_name cs w.code (place_in is_same_text u.locals x) ≡ x
  slot_is x e = ap (λ o. name_or_none (slice_get (locals_in o) (place_in is_same_text u.locals x))) is ∙ ap name_or_none e

  -- a name is bound to the value on top
  pub store_runs : (x : Text) (v : PlainValue) (g : Option Guard) (p : ℕ) (st : List Operand) (s : State) (n : ℕ) → StandsAt u p (cell g (store x)) → going cs w p (of_value v ∷ st) s n ≡ going cs w (p + 1) st (put (bound pl.scope x v) s) n
  store_runs x v g p st s n at = by_scope (is_among u.locals x) at.instr at.knows
    where
      by_scope : (b : Bool) → slice_get u.instrs p ≡ Some (if b then StoreLocal (place_in is_same_text u.locals x) else StoreGlobal (name_at (tables_in u) x)) → HasVariable b (tables_in u) x
          → going cs w p (of_value v ∷ st) s n ≡ going cs w (p + 1) st (record s { now = if b then record s.now { locals = with_name x v s.now.locals } else record s.now { world = with_global w.code.module x v s.now.world } }) n
      by_scope true i e =
          let d = conf w p (of_value v ∷ st) s n in
          led_on cs w u is p _ (of_value v ∷ st) st s (record s { now = record s.now { locals = with_name x v s.now.locals } }) n i
          (ap (λ o. where_found o d (λ y. falls st (with_locals (with_name (slot_name cs w.code (place_in is_same_text u.locals x)) v s.now.locals) d))) e
          ∙ ap (λ y. falls st (with_locals (with_name y v s.now.locals) d)) (slot_is x e))
      by_scope false i e =
          let d = conf w p (of_value v ∷ st) s n in
          led_on cs w u is p _ (of_value v ∷ st) st s (record s { now = record s.now { world = with_global w.code.module x v s.now.world } }) n i
          (ap (λ o. where_found o d (λ y. falls st (on_world (with_global w.code.module y v) d))) e)

  -- a name is unset
  pub unset_runs : (x : Text) (g : Option Guard) (p : ℕ) (st : List Operand) (s : State) (n : ℕ) → StandsAt u p (cell g (unset x)) → going cs w p st s n ≡ going cs w (p + 1) st (put (unbound pl.scope x) s) n
  unset_runs x g p st s n at = by_scope (is_among u.locals x) at.instr at.knows
    where
      by_scope : (b : Bool) → slice_get u.instrs p ≡ Some (if b then UnsetLocal (place_in is_same_text u.locals x) else UnsetGlobal (name_at (tables_in u) x)) → HasVariable b (tables_in u) x
          → going cs w p st s n ≡ going cs w (p + 1) st (record s { now = if b then record s.now { locals = without_name x s.now.locals } else record s.now { world = without_global w.code.module x s.now.world } }) n
      by_scope true i e =
          let d = conf w p st s n in
          led_on cs w u is p _ st st s (record s { now = record s.now { locals = without_name x s.now.locals } }) n i
          (ap (λ o. where_found o d (λ y. falls st (with_locals (without_name (slot_name cs w.code (place_in is_same_text u.locals x)) s.now.locals) d))) e
          ∙ ap (λ y. falls st (with_locals (without_name y s.now.locals) d)) (slot_is x e))
      by_scope false i e =
          let d = conf w p st s n in
          led_on cs w u is p _ st st s (record s { now = record s.now { world = without_global w.code.module x s.now.world } }) n i
          (ap (λ o. where_found o d (λ y. falls st (on_world (without_global w.code.module y) d))) e)

  -- what is no place to assign to
  no_target_runs : (g : Option Guard) (p : ℕ) → HasAt u p (no_target_code g) → (v : PlainValue) (st : List Operand) → Fits g (p + 5) (length st) → (s : State) (n : ℕ) → going cs w p (of_value v ∷ st) s n ≡ after cs w gone g (p + 5) st (no_target s n)
  unfolding give
  no_target_runs g p has v st fits s n =
      let base : List Operand = of_value v ∷ st in
      constant_runs cs ms matches c k calls w u is handled NoneConstant g p base s n has.0
      ∙ (constant_runs cs ms matches c k calls w u is handled NoneConstant g (p + 1) (of_value none_value ∷ base) s n has.1.0
      ∙ (threw cs w u is g (p + 1 + 1) Index (of_value none_value ∷ of_value none_value ∷ base) base (raised_by NotSubscriptable) s s n has.1.1.0.instr has.1.1.0.guard
      (fits_more g (p + 1 + 1 + 1) (length st) (suc (length st)) (omega arith) (fits_less g (p + 5) (p + 1 + 1 + 1) (length st) (omega arith) fits)) refl
      ∙ thrown_over cs w g (p + 5) (of_value v) st fits (raised_by NotSubscriptable) s n))

  over_spread : (g : Option Guard) (end : ℕ) (vs : List PlainValue) (st : List Operand) → Fits g end (length st) → (x : PlainRaised) (t : State) (j : ℕ) → thrown cs w g (spread vs st) x t j ≡ thrown cs w g st x t j
  over_spread g end [] st f x t j = refl
  over_spread g end (v ∷ vs) st f x t j =
      thrown_over cs w g end (of_value v) (spread vs st) (fits_spread vs) x t j ∙ over_spread g end vs st f x t j
    where
      fits_spread : (us : List PlainValue) → Fits g end (length (spread us st))
      fits_spread [] = f
      fits_spread (y ∷ us) = fits_more g end (length (spread us st)) (suc (length (spread us st))) (omega arith) (fits_spread us)

  spread_fits : (g : Option Guard) (end : ℕ) (vs : List PlainValue) (st : List Operand) → Fits g end (length st) → Fits g end (length (spread vs st))
  spread_fits g end [] st f = f
  spread_fits g end (y ∷ us) st f = fits_more g end (length (spread us st)) (suc (length (spread us st))) (omega arith) (spread_fits g end us st f)

  abbrev TargetRuns : Expr → Type 0
  TargetRuns t = (v : PlainValue) (g : Option Guard) (p : ℕ) → HasAt u p (target_code g p t) → (st : List Operand) → Fits g (p + target_size t) (length st) → (s : State) (n : ℕ) → n < k
      → going cs w p (of_value v ∷ st) s n ≡ after cs w gone g (p + target_size t) st (assign_to c pl t v s n)

  abbrev EachRuns : Exprs → Type 0
  EachRuns ts = (vs : List PlainValue) (g : Option Guard) (p : ℕ) → length vs ≡ target_count ts → HasAt u p (targets_code g p ts) → (st : List Operand) → Fits g (p + targets_size ts) (length st) → (s : State) (n : ℕ) → n < k
      → going cs w p (spread vs st) s n ≡ after cs w gone g (p + targets_size ts) st (assign_each c pl ts vs s n)

  -- the items of a value to targets
  unpack_runs : (ts : Exprs) → EachRuns ts → (v : PlainValue) (g : Option Guard) (p : ℕ) → HasAt u p (target_code g p (tuple ts true)) → (st : List Operand) → Fits g (p + (1 + targets_size ts)) (length st) → (s : State) (n : ℕ) → n < k
      → going cs w p (of_value v ∷ st) s n ≡ after cs w gone g (p + (1 + targets_size ts)) st (value (ask (λ z. unpacked (target_count ts) v z.world.heap)) (λ vs. assign_each c pl ts vs) s n)
  unpack_runs ts each v g p has st fits s n lt =
      let end = p + (1 + targets_size ts) in
      let last = p + 1 + targets_size ts in
      let q = λ (z : Setting). unpacked (target_count ts) v z.world.heap in
      let at_same : slice_get u.instrs p ≡ Some (Unpack (target_count ts)) = has.0.instr ∙ ap (λ m. Some (Unpack m)) (same_count ts) in
      runs_on cs w spread gone (λ vs. length vs ≡ target_count ts) g (p + 1) end st st (ask q) _ (going cs w p (of_value v ∷ st) s n) s n
      (asks cs w u is spread g p (Unpack (target_count ts)) (of_value v ∷ st) st q s n at_same has.0.guard (fits_less g end (p + 1) (length st) (omega arith) fits) refl)
      (at_most (ask q) (steady-ask q) s n) (unpack_counts (target_count ts) v s n) (λ x t j. refl)
      (λ vs t j le long. ends_at cs ms matches c k calls w u is handled gone g last end st (assign_each c pl ts vs t j) _ (omega arith)
      (each vs g (p + 1) long has.1 st (fits_less g end last (length st) (omega arith) fits) t j (omega arith)))

  index_runs : (of at : Expr) → TargetRuns (index of at)
  unfolding assign_to
  index_runs of at v g p has st fits s n lt =
      let q = p + expr_size of in
      let r = q + expr_size at in
      let end = p + (expr_size of + expr_size at + 1) in
      let base : List Operand = of_value v ∷ st in
      let here : Fits g (r + 1) (length st) = fits_less g end (r + 1) (length st) (omega arith) fits in
      let more : Fits g (r + 1) (suc (length st)) = fits_more g (r + 1) (length st) (suc (length st)) (omega arith) here in
      let below : (x : PlainRaised) (t : State) (j : ℕ) → thrown cs w g base x t j ≡ thrown cs w g st x t j = thrown_over cs w g (r + 1) (of_value v) st here in
      let back = part_at cs ms matches c k calls w u is handled p (expr_size of) (expr_code g p of) _ (expr_length g p of) has in
      let last = part_at cs ms matches c k calls w u is handled q (expr_size at) (expr_code g q at) _ (expr_length g q at) back in
      then_value cs ms matches c k calls w u is handled gone g q end base st of _ (going cs w p base s n) s n
      (eval_runs cs ms matches c k calls w u is handled of g p (has_front u p (expr_code g p of) _ has) base (fits_less g (r + 1) q (suc (length st)) (omega arith) more) s n lt) below
      (λ o t j le. then_value cs ms matches c k calls w u is handled gone g r end (of_value o ∷ base) st at _ (going cs w q (of_value o ∷ base) t j) t j
      (eval_runs cs ms matches c k calls w u is handled at g q (has_front u q (expr_code g q at) _ back) (of_value o ∷ base) (fits_more g r (suc (length st)) (suc (suc (length st))) (omega arith) (fits_less g (r + 1) r (suc (length st)) (omega arith) more)) t j (omega arith))
      (λ x a b. thrown_over cs w g (r + 1) (of_value o) base more x a b ∙ below x a b)
      (λ i t' j' le'. ends_at cs ms matches c k calls w u is handled gone g (r + 1) end st (work (stored o i v) t' j') _ (omega arith)
      (works cs w u is gone g r StoreIndex (of_value i ∷ of_value o ∷ base) st (stored o i v) t' j' last.0.instr last.0.guard here refl)))

  name_target : (x : Text) (v : PlainValue) (g : Option Guard) (p : ℕ) → HasAt u p (target_code g p (name x)) → (st : List Operand) (s : State) (n : ℕ)
      → going cs w p (of_value v ∷ st) s n ≡ after cs w gone g (p + 1) st (write (bound pl.scope x v) (gives (tt {0})) s n)
  unfolding write give
  name_target x v g p has st s n = store_runs x v g p st s n has.0

  mutual
    unfolding assign_to assign_each give

    pub target_runs : (t : Expr) → TargetRuns t
    target_runs (name x) v g p has st fits s n lt = name_target x v g p has st s n
    target_runs (int a) v g p has st fits s n lt = no_target_runs g p has v st fits s n
    target_runs (str ps) v g p has st fits s n lt = no_target_runs g p has v st fits s n
    target_runs (fstr fs) v g p has st fits s n lt = no_target_runs g p has v st fits s n
    target_runs none v g p has st fits s n lt = no_target_runs g p has v st fits s n
    target_runs (bool b) v g p has st fits s n lt = no_target_runs g p has v st fits s n
    target_runs (tuple ts comma) v g p has st fits s n lt = unpack_runs ts (each_target_runs ts) v g p has st fits s n lt
    target_runs (list ts comma) v g p has st fits s n lt = unpack_runs ts (each_target_runs ts) v g p has st fits s n lt
    target_runs (dict ps comma) v g p has st fits s n lt = no_target_runs g p has v st fits s n
    target_runs (paren t) v g p has st fits s n lt = target_runs t v g p has st fits s n lt
    target_runs (not' e) v g p has st fits s n lt = no_target_runs g p has v st fits s n
    target_runs (and a b) v g p has st fits s n lt = no_target_runs g p has v st fits s n
    target_runs (or a b) v g p has st fits s n lt = no_target_runs g p has v st fits s n
    target_runs (unary o e) v g p has st fits s n lt = no_target_runs g p has v st fits s n
    target_runs (binary op a b) v g p has st fits s n lt = no_target_runs g p has v st fits s n
    target_runs (compare a ls) v g p has st fits s n lt = no_target_runs g p has v st fits s n
    target_runs (cond b t o) v g p has st fits s n lt = no_target_runs g p has v st fits s n
    target_runs (call f es comma) v g p has st fits s n lt = no_target_runs g p has v st fits s n
    target_runs (index of at) v g p has st fits s n lt = index_runs of at v g p has st fits s n lt
    target_runs (slice of low high) v g p has st fits s n lt = no_target_runs g p has v st fits s n
    target_runs (attr of x) v g p has st fits s n lt = no_target_runs g p has v st fits s n

    each_target_runs : (ts : Exprs) → EachRuns ts
    each_target_runs no_exprs [] g p long has st fits s n lt = ap (λ m. going cs w m st s n) (omega arith)
    each_target_runs no_exprs (v ∷ vs) g p long has st fits s n lt = absurd (omega arith)
    each_target_runs (exprs t ts) [] g p long has st fits s n lt = absurd (omega arith)
    each_target_runs (exprs t ts) (v ∷ vs) g p long has st fits s n lt =
        let q = p + target_size t in
        let end = p + (target_size t + targets_size ts) in
        let last = q + targets_size ts in
        let there = spread vs st in
        let back = part_at cs ms matches c k calls w u is handled p (target_size t) (target_code g p t) _ (target_length g p t) has in
        runs_on cs w gone gone Any g q end there st (assign_to c pl t v) _ (going cs w p (of_value v ∷ there) s n) s n
        (target_runs t v g p (has_front u p (target_code g p t) _ has) there (spread_fits g q vs st (fits_less g end q (length st) (omega arith) fits)) s n lt)
        (at_most (assign_to c pl t v) (steady-assign_to c calls.steady pl t v) s n) (holds_any _) (over_spread g end vs st fits)
        (λ nothing t' j le any. ends_at cs ms matches c k calls w u is handled gone g last end st (assign_each c pl ts vs t' j) _ (omega arith)
        (each_target_runs ts vs g q (omega arith) back st (fits_less g end last (length st) (omega arith) fits) t' j (omega arith)))

  -- one value to each
  pub all_runs : (ts : Exprs) (v : PlainValue) (g : Option Guard) (p : ℕ) → HasAt u p (all_code g p ts) → (st : List Operand) → Fits g (p + all_size ts) (length st) → (s : State) (n : ℕ) → n < k
      → going cs w p (of_value v ∷ st) s n ≡ after cs w gone g (p + all_size ts) st (assign_all c pl ts v s n)
  unfolding assign_all give
  all_runs no_exprs v g p has st fits s n lt = led_on cs w u is p Pop (of_value v ∷ st) st s s n has.0.instr refl
  all_runs (exprs t ts) v g p has st fits s n lt =
      let q = p + 1 + target_size t in
      let end = p + (1 + target_size t + all_size ts) in
      let last = q + all_size ts in
      let base : List Operand = of_value v ∷ st in
      let back = part_at cs ms matches c k calls w u is handled (p + 1) (target_size t) (target_code g (p + 1) t) _ (target_length g (p + 1) t) has.1 in
      led_on cs w u is p (Copy 0) base (of_value v ∷ base) s s n has.0.instr refl
      ∙ runs_on cs w gone gone Any g q end base st (assign_to c pl t v) _ (going cs w (p + 1) (of_value v ∷ base) s n) s n
      (target_runs t v g (p + 1) (has_front u (p + 1) (target_code g (p + 1) t) _ has.1) base (fits_more g q (length st) (suc (length st)) (omega arith) (fits_less g end q (length st) (omega arith) fits)) s n lt)
      (at_most (assign_to c pl t v) (steady-assign_to c calls.steady pl t v) s n) (holds_any _) (thrown_over cs w g end (of_value v) st fits)
      (λ nothing t' j le any. ends_at cs ms matches c k calls w u is handled gone g last end st (assign_all c pl ts v t' j) _ (omega arith)
      (all_runs ts v g q back st (fits_less g end last (length st) (omega arith) fits) t' j (omega arith)))

  -- what is no place to update
  no_place_runs : (g : Option Guard) (p : ℕ) → HasAt u p (no_place_code g) → (st : List Operand) → Fits g (p + 4) (length st) → (s : State) (n : ℕ) → going cs w p st s n ≡ after cs w gone g (p + 4) st (no_target s n)
  unfolding give
  no_place_runs g p has st fits s n =
      constant_runs cs ms matches c k calls w u is handled NoneConstant g p st s n has.0
      ∙ (constant_runs cs ms matches c k calls w u is handled NoneConstant g (p + 1) (of_value none_value ∷ st) s n has.1.0
      ∙ threw cs w u is g (p + 1 + 1) Index (of_value none_value ∷ of_value none_value ∷ st) st (raised_by NotSubscriptable) s s n has.1.1.0.instr has.1.1.0.guard (fits_less g (p + 4) (p + 1 + 1 + 1) (length st) (omega arith) fits) refl)

  abbrev AugmentRuns : Expr → BinOp → Expr → Type 0
  AugmentRuns t op e = (g : Option Guard) (p : ℕ) → HasAt u p (augment_code g p t op e) → (st : List Operand) → Fits g (p + augment_size t e) (length st) → (s : State) (n : ℕ) → n < k
      → going cs w p st s n ≡ after cs w gone g (p + augment_size t e) st (augment c pl t op e s n)

  bound_is : (x : Text) (a : PlainValue) (s : State) (n : ℕ) → write (bound pl.scope x a) (gives (tt {0})) s n ≡ done (Ok (tt {0})) (put (bound pl.scope x a) s) n
  unfolding write give
  bound_is x a s n = refl

  augment_name : (x : Text) (op : BinOp) (e : Expr) → AugmentRuns (name x) op e
  unfolding augment
  augment_name x op e g p has st fits s n lt =
      let q = p + 1 + expr_size e in
      let end = p + (1 + expr_size e + 2) in
      let here : Fits g (q + 1) (length st) = fits_less g end (q + 1) (length st) (omega arith) fits in
      let at = part_at cs ms matches c k calls w u is handled (p + 1) (expr_size e) (expr_code g (p + 1) e) _ (expr_length g (p + 1) e) has.1 in
      then_asks cs ms matches c k calls w u is handled on_top gone g (p + 1) end st st (fetched pl.scope x) _ (going cs w p st s n) s n (name_runs cs ms matches c k calls w u is handled x g p st s n has.0 (fits_less g end (p + 1) (length st) (omega arith) fits)) (unchanged cs ms matches c k calls w u is handled g st)
      (λ a t j le. then_value cs ms matches c k calls w u is handled gone g q end (of_value a ∷ st) st e _ (going cs w (p + 1) (of_value a ∷ st) t j) t j
      (eval_runs cs ms matches c k calls w u is handled e g (p + 1) (has_front u (p + 1) (expr_code g (p + 1) e) _ has.1) (of_value a ∷ st) (fits_more g q (length st) (suc (length st)) (omega arith) (fits_less g (q + 1) q (length st) (omega arith) here)) t j (omega arith))
      (thrown_over cs w g (q + 1) (of_value a) st here)
      (λ b t' j' le'. then_works cs ms matches c k calls w u is handled on_top gone g (q + 1) end st st (in_place_of op a b) _ (going cs w q (of_value b ∷ of_value a ∷ st) t' j') t' j'
      (works cs w u is on_top g q (InPlace op) (of_value b ∷ of_value a ∷ st) st (in_place_of op a b) t' j' at.0.instr at.0.guard here refl) (unchanged cs ms matches c k calls w u is handled g st)
      (λ r t2 j2 le2. store_runs x r g (q + 1) st t2 j2 at.1.0 ∙ (ap (λ m. going cs w m st (put (bound pl.scope x r) t2) j2) (omega arith) ∙ ap (after cs w gone g end st) (sym (bound_is x r t2 j2))))))

  augment_index : (of at : Expr) (op : BinOp) (e : Expr) → AugmentRuns (index of at) op e
  unfolding augment
  augment_index of at op e g p has st fits s n lt =
      let q = p + expr_size of in
      let r = q + expr_size at in
      let m = r + 3 in
      let z = m + expr_size e in
      let end = p + (expr_size of + expr_size at + 3 + expr_size e + 3) in
      let fits_at : (d last : ℕ) → last ≤ end → length st ≤ d → Fits g last d = λ d last le more. fits_more g last (length st) d more (fits_less g end last (length st) le fits) in
      let over : (x : Operand) (ys : List Operand) → length st ≤ length ys → ((y : PlainRaised) (t : State) (j : ℕ) → thrown cs w g ys y t j ≡ thrown cs w g st y t j) → (y : PlainRaised) (t : State) (j : ℕ) → thrown cs w g (x ∷ ys) y t j ≡ thrown cs w g st y t j
      = λ x ys le h y t j. thrown_over cs w g end x ys (fits_at (length ys) end (omega arith) le) y t j ∙ h y t j in
      let back = part_at cs ms matches c k calls w u is handled p (expr_size of) (expr_code g p of) _ (expr_length g p of) has in
      let last = part_at cs ms matches c k calls w u is handled q (expr_size at) (expr_code g q at) _ (expr_length g q at) back in
      let right : HasAt u m (expr_code g m e ++ put_cell g (plain (InPlace op)) (put_cell g (plain (Sink 2)) (put_cell g (plain StoreIndex) []))) = has_at u (r + 1 + 1 + 1) m _ (omega arith) last.1.1.1 in
      let at_end = part_at cs ms matches c k calls w u is handled m (expr_size e) (expr_code g m e) _ (expr_length g m e) right in
      then_value cs ms matches c k calls w u is handled gone g q end st st of _ (going cs w p st s n) s n (eval_runs cs ms matches c k calls w u is handled of g p (has_front u p (expr_code g p of) _ has) st (fits_at (length st) q (omega arith) (omega arith)) s n lt) (unchanged cs ms matches c k calls w u is handled g st)
      (λ o t1 j1 le1. then_value cs ms matches c k calls w u is handled gone g r end (of_value o ∷ st) st at _ (going cs w q (of_value o ∷ st) t1 j1) t1 j1
      (eval_runs cs ms matches c k calls w u is handled at g q (has_front u q (expr_code g q at) _ back) (of_value o ∷ st) (fits_at (suc (length st)) r (omega arith) (omega arith)) t1 j1 (omega arith))
      (over (of_value o) st (omega arith) (unchanged cs ms matches c k calls w u is handled g st))
      (λ i t2 j2 le2.
      let base : List Operand = of_value i ∷ of_value o ∷ st in
      let below = over (of_value i) (of_value o ∷ st) (omega arith) (over (of_value o) st (omega arith) (unchanged cs ms matches c k calls w u is handled g st)) in
      led_on cs w u is r (Copy 1) base (of_value o ∷ base) t2 t2 j2 last.0.instr refl
      ∙ (led_on cs w u is (r + 1) (Copy 1) (of_value o ∷ base) (of_value i ∷ of_value o ∷ base) t2 t2 j2 last.1.0.instr refl
      ∙ then_asks cs ms matches c k calls w u is handled on_top gone g (r + 1 + 1 + 1) end base st (λ y. index_of o i y.world.heap) _ (going cs w (r + 1 + 1) (of_value i ∷ of_value o ∷ base) t2 j2) t2 j2
      (asks cs w u is on_top g (r + 1 + 1) Index (of_value i ∷ of_value o ∷ base) base (λ y. index_of o i y.world.heap) t2 j2 last.1.1.0.instr last.1.1.0.guard (fits_at (suc (suc (length st))) (r + 1 + 1 + 1) (omega arith) (omega arith)) refl) below
      (λ a t3 j3 le3. ap (λ y. going cs w y (of_value a ∷ base) t3 j3) (omega arith)
      ∙ then_value cs ms matches c k calls w u is handled gone g z end (of_value a ∷ base) st e _ (going cs w m (of_value a ∷ base) t3 j3) t3 j3
      (eval_runs cs ms matches c k calls w u is handled e g m (has_front u m (expr_code g m e) _ right) (of_value a ∷ base) (fits_at (suc (suc (suc (length st)))) z (omega arith) (omega arith)) t3 j3 (omega arith))
      (over (of_value a) base (omega arith) below)
      (λ b t4 j4 le4. then_works cs ms matches c k calls w u is handled on_top gone g (z + 1) end base st (in_place_of op a b) _ (going cs w z (of_value b ∷ of_value a ∷ base) t4 j4) t4 j4
      (works cs w u is on_top g z (InPlace op) (of_value b ∷ of_value a ∷ base) base (in_place_of op a b) t4 j4 at_end.0.instr at_end.0.guard (fits_at (suc (suc (length st))) (z + 1) (omega arith) (omega arith)) refl) below
      (λ y t5 j5 le5. led_on cs w u is (z + 1) (Sink 2) (of_value y ∷ base) (of_value i ∷ of_value o ∷ of_value y ∷ st) t5 t5 j5 at_end.1.0.instr
      (dropping_runs 2 base (conf w (z + 1) (of_value y ∷ base) t5 j5) (λ zs. falls (take 2 base ++ of_value y ∷ zs) (conf w (z + 1) (of_value y ∷ base) t5 j5)) (omega arith))
      ∙ ends_at cs ms matches c k calls w u is handled gone g (z + 1 + 1 + 1) end st (work (stored o i y) t5 j5) _ (omega arith)
      (works cs w u is gone g (z + 1 + 1) StoreIndex (of_value i ∷ of_value o ∷ of_value y ∷ st) st (stored o i y) t5 j5 at_end.1.1.0.instr at_end.1.1.0.guard (fits_at (length st) (z + 1 + 1 + 1) (omega arith) (omega arith)) refl)))))))

  pub augment_runs : (t : Expr) (op : BinOp) (e : Expr) → AugmentRuns t op e
  unfolding augment
  augment_runs (name x) op e g p has st fits s n lt = augment_name x op e g p has st fits s n lt
  augment_runs (int a) op e g p has st fits s n lt = no_place_runs g p has st fits s n
  augment_runs (str ps) op e g p has st fits s n lt = no_place_runs g p has st fits s n
  augment_runs (fstr fs) op e g p has st fits s n lt = no_place_runs g p has st fits s n
  augment_runs none op e g p has st fits s n lt = no_place_runs g p has st fits s n
  augment_runs (bool b) op e g p has st fits s n lt = no_place_runs g p has st fits s n
  augment_runs (tuple ts comma) op e g p has st fits s n lt = no_place_runs g p has st fits s n
  augment_runs (list ts comma) op e g p has st fits s n lt = no_place_runs g p has st fits s n
  augment_runs (dict ps comma) op e g p has st fits s n lt = no_place_runs g p has st fits s n
  augment_runs (paren t) op e g p has st fits s n lt = no_place_runs g p has st fits s n
  augment_runs (not' a) op e g p has st fits s n lt = no_place_runs g p has st fits s n
  augment_runs (and a b) op e g p has st fits s n lt = no_place_runs g p has st fits s n
  augment_runs (or a b) op e g p has st fits s n lt = no_place_runs g p has st fits s n
  augment_runs (unary o a) op e g p has st fits s n lt = no_place_runs g p has st fits s n
  augment_runs (binary o a b) op e g p has st fits s n lt = no_place_runs g p has st fits s n
  augment_runs (compare a ls) op e g p has st fits s n lt = no_place_runs g p has st fits s n
  augment_runs (cond b t o) op e g p has st fits s n lt = no_place_runs g p has st fits s n
  augment_runs (call f es comma) op e g p has st fits s n lt = no_place_runs g p has st fits s n
  augment_runs (index of at) op e g p has st fits s n lt = augment_index of at op e g p has st fits s n lt
  augment_runs (slice of low high) op e g p has st fits s n lt = no_place_runs g p has st fits s n
  augment_runs (attr of x) op e g p has st fits s n lt = no_place_runs g p has st fits s n
