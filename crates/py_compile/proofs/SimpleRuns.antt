-- What the code of simple statements does is what they mean.
use Rattle.std.proofs.Common.{◌≡◌, ℕ, ◌+◌, ◌-◌, ◌<◌, List, ◌∷◌, length, Option, Some, None, Bool, true, false, refl, sym, ap, ◌∙◌, arith}
use Rattle.std.specs.Prelude.{slice_get, Ok, Err}
use Rattle.py_value.specs.declared.cause.Cause.TheVariants.{NotException}
use Rattle.py_value.specs.declared.exception.ExcKind.TheVariants.{AssertionError}
use Rattle.py_operator.specs.declared.operator.BinOp.{BinOp}
use Rattle.py_value.specs.Causes.{raised_by}
use Rattle.py_value.specs.Plain.{PlainValue, none_value, bool_value, int_value, str_value, tuple_value, list_at, dict_at, func_value, module_value, kind_value, exc_value, builtin_value, no_argument, PlainRaised}
use Rattle.py_syntax.specs.Tree.{Text, Expr, Exprs, no_exprs, exprs, Suite, StmtKind, expr, assign, aug_assign, pass, break, continue, return, raise, assert, global, def}
use Rattle.py_builtins.specs.Catching.{assertion_error}
use Rattle.py_builtins.specs.Methods.{new_list}
use Rattle.py_builtins.specs.Parameters.{address_of}
use Rattle.py_meaning.specs.Activations.{throw as throw_item}
use Rattle.py_meaning.specs.Assignments.{assign_all, augment}
use Rattle.py_meaning.specs.Calls.{Calls}
use Rattle.py_meaning.specs.Computations.{Setting, State, done, M, Ans, add, put, give, chain, note, write, value}
use Rattle.py_meaning.specs.Expressions.{eval, eval_each}
use Rattle.py_meaning.specs.Laws.{IsSteady}
use Rattle.py_meaning.specs.Modules.{LoadedModule, unit_at as unit_of_line}
use Rattle.py_meaning.specs.Places.{Place, bound}
use Rattle.py_meaning.specs.Statements.{normal, returns, throwing, on_answer, using, raise_value, reraise, failed_assertion, default_list, raised as raised_out, exec_kind}
use Rattle.py_meaning.proofs.Steady.{steady-give, steady-value, steady-work}
use Rattle.py_meaning.proofs.SteadyExpressions.{steady-eval, steady-each, steady-assign_all, steady-augment}
use Rattle.py_code.specs.declared.instr.Instr.TheVariants.{Pop, List as MakeList, IfTrue, Function as MakeFunction, FunctionWith, Raise, Reraise, Assertion, AssertionWith}
use Rattle.py_code.specs.declared.unit.Constant.TheVariants.{None as NoneConstant}
use Rattle.py_code.specs.Configurations.{Operand, of_value, Locals}
use Rattle.py_code.specs.Machine.{act, answers, falls, throw, escapes, raises as raising, where_found, on_heap}
use Rattle.py_code.specs.Operands.{exception_in}
use Rattle.py_code.specs.Slots.{by_names}
use Rattle.py_code.specs.Units.{Code, Module, unit_at}
use Rattle.py_builtins.specs.World.{Names}
use Rattle.py_compile_expr.specs.Cells.{plain, Guard, cell}
use Rattle.py_compile_expr.specs.Expressions.{count, expr_size, expr_code, each_size, each_code}
use Rattle.py_compile_expr.specs.Runs.{Spot, conf, from as going, after, on_top, Fits, Matches, part_of, CallsRun}
use Rattle.py_compile_expr.specs.Stands.{StandsAt, HasAt}
use Rattle.py_compile_expr.specs.Targets.{all_size}
use Rattle.py_compile_expr.proofs.InstructionRuns.{each_counts, ends_at, then_value, unchanged, then_works, constant_runs}
use Rattle.py_compile_expr.proofs.PartRuns.{part_at}
use Rattle.py_compile_expr.proofs.ExpressionRuns.{eval_runs, each_runs}
use Rattle.py_compile_expr.proofs.Places.{has_front}
use Rattle.py_compile_expr.proofs.Pushed.{pushed, many_pushed}
use Rattle.py_compile_expr.proofs.Simulation.{fits_less, at_most, runs_on, works}
use Rattle.py_compile_expr.proofs.Sizes.{expr_length, each_length}
use Rattle.py_compile.specs.StatementRuns.{raised, after_out, HandledFits}
use Rattle.py_compile.specs.Statements.{augment_size, raise_size, raise_code, assert_size, assert_code, function_size, function_code}
use Rattle.py_compile.specs.Ways.{Ways, in_hand, is_there}
use Rattle.py_compile.proofs.Flow.{route_less, uses, mark_runs, led_on, break_runs, continue_runs, return_runs, escaped_runs, threw_runs}
use Rattle.py_compile.proofs.Forms.{here, KindRuns, using_value, marked_uses, forks_back}
use Rattle.py_compile.proofs.Sizes.{function_length}
use Rattle.py_compile.proofs.TargetRuns.{gone, store_runs, all_runs, augment_runs}

given_is : (r : Ans PlainRaised) (t : State) (j : ℕ) → on_answer r throwing t j ≡ using (give r) throwing t j
unfolding using chain give
given_is r t j = refl

written : (b : Setting → Setting) (t : State) (j : ℕ) → write b (give normal) t j ≡ done normal (put b t) j
unfolding write give
written b t j = refl

module _ (cs : List Module) (ms : List LoadedModule) (matches : Matches cs ms) (c : Calls) (k : ℕ) (calls : CallsRun cs c k)
    (w : Spot) (u : Code) (is : unit_at cs w.code ≡ Some u) (handled : Option PlainRaised) where
  abbrev pl : Place
  pl = part_of ms u w.code handled

  abbrev N : Locals Names
  N = by_names cs

  abbrev Law : StmtKind → Type 0
  Law kind = KindRuns cs ms c k w u handled kind

  pub expr_runs : (e : Expr) → Law (expr e)
  unfolding exec_kind give
  expr_runs e l v p has st f s n lt =
      let q = p + 1 + expr_size e in
      let end = p + (1 + expr_size e + 1) in
      let at = part_at cs ms matches c k calls w u is handled (p + 1) (expr_size e) (expr_code v.guard (p + 1) e) _ (expr_length v.guard (p + 1) e) has.1 in
      marked_uses cs w u is l on_top v p q end st (eval c pl e) (λ a. give normal) s n has.0 (steady-eval c calls.steady pl e)
      (λ t j less. eval_runs cs ms matches c k calls w u is handled e v.guard (p + 1) (has_front u (p + 1) (expr_code v.guard (p + 1) e) _ has.1) st (fits_less v.guard end q (length st) (omega arith) f.guard) t j (omega arith))
      (λ a t j less. led_on cs w u is q Pop (of_value a ∷ st) st t t j at.0.instr refl ∙ ap (λ m. going cs w m st t j) (omega arith))

  pub assign_runs : (ts : Exprs) (e : Expr) → Law (assign ts e)
  unfolding exec_kind give
  assign_runs ts e l v p has st f s n lt =
      let q = p + 1 + expr_size e in
      let end = p + (1 + expr_size e + all_size ts) in
      let last = q + all_size ts in
      let at = part_at cs ms matches c k calls w u is handled (p + 1) (expr_size e) (expr_code v.guard (p + 1) e) _ (expr_length v.guard (p + 1) e) has.1 in
      let m : M (Ans (Unit {0})) = value (eval c pl e) (λ x. assign_all c pl ts x) in
      marked_uses cs w u is l gone v p end end st m (λ a. give normal) s n has.0
      (steady-value _ _ (steady-eval c calls.steady pl e) (λ x. steady-assign_all c calls.steady pl ts x))
      (λ t j less. then_value cs ms matches c k calls w u is handled gone v.guard q end st st e _ (going cs w (p + 1) st t j) t j
      (eval_runs cs ms matches c k calls w u is handled e v.guard (p + 1) (has_front u (p + 1) (expr_code v.guard (p + 1) e) _ has.1) st (fits_less v.guard end q (length st) (omega arith) f.guard) t j (omega arith)) (unchanged cs ms matches c k calls w u is handled v.guard st)
      (λ a t2 j2 le. ends_at cs ms matches c k calls w u is handled gone v.guard last end st (assign_all c pl ts a t2 j2) _ (omega arith)
      (all_runs cs ms matches c k calls w u is handled ts a v.guard q at st (fits_less v.guard end last (length st) (omega arith) f.guard) t2 j2 (omega arith))))
      (λ a t j less. refl)

  pub aug_assign_runs : (t : Expr) (op : BinOp) (e : Expr) → Law (aug_assign t op e)
  unfolding exec_kind give
  aug_assign_runs t op e l v p has st f s n lt =
      let end = p + (1 + augment_size t e) in
      let last = p + 1 + augment_size t e in
      marked_uses cs w u is l gone v p end end st (augment c pl t op e) (λ a. give normal) s n has.0 (steady-augment c calls.steady pl t op e)
      (λ x j less. ends_at cs ms matches c k calls w u is handled gone v.guard last end st (augment c pl t op e x j) _ (omega arith)
      (augment_runs cs ms matches c k calls w u is handled t op e v.guard (p + 1) has.1 st (fits_less v.guard end last (length st) (omega arith) f.guard) x j (omega arith)))
      (λ a x j less. refl)

  pub pass_runs : Law pass
  unfolding exec_kind give
  pass_runs l v p has st f s n lt = mark_runs cs w u is l v.guard v p (p + 1) st st (give normal) s n has.0 (λ t j less. refl)

  pub break_out_runs : Law break
  unfolding exec_kind give
  break_out_runs l v p has st f s n lt =
      mark_runs cs w u is l v.guard v p (p + 2) st st _ s n has.0 (λ t j less. break_runs cs w u is v.on_break (p + 1) (p + 2) st t j has.1.0.instr (route_less true v.on_break (p + 2) (p + 1 + 1) (length st) (omega arith) f.on_break))

  pub continue_out_runs : Law continue
  unfolding exec_kind give
  continue_out_runs l v p has st f s n lt =
      mark_runs cs w u is l v.guard v p (p + 2) st st _ s n has.0 (λ t j less. continue_runs cs w u is v.on_continue (p + 1) (p + 2) st t j has.1.0.instr (route_less true v.on_continue (p + 2) (p + 1 + 1) (length st) (omega arith) f.on_continue))

  pub return_out_runs : (e : Option Expr) → Law (return e)
  unfolding exec_kind give
  return_out_runs None l v p has st f s n lt =
      let end = p + (1 + 1 + 1) in
      mark_runs cs w u is l v.guard v p end st st _ s n has.0 (λ t j less. constant_runs cs ms matches c k calls w u is handled NoneConstant v.guard (p + 1) st t j has.1.0
      ∙ return_runs cs w u is v.on_return (p + 1 + 1) none_value st t j has.1.1.0.instr (route_less false v.on_return end (p + 1 + 1 + 1) (length st) (omega arith) f.on_return))
  return_out_runs (Some e) l v p has st f s n lt =
      let q = p + 1 + expr_size e in
      let end = p + (1 + expr_size e + 1) in
      let at = part_at cs ms matches c k calls w u is handled (p + 1) (expr_size e) (expr_code v.guard (p + 1) e) _ (expr_length v.guard (p + 1) e) has.1 in
      marked_uses cs w u is l on_top v p q end st (eval c pl e) (λ a. give (returns a)) s n has.0 (steady-eval c calls.steady pl e)
      (λ t j less. eval_runs cs ms matches c k calls w u is handled e v.guard (p + 1) (has_front u (p + 1) (expr_code v.guard (p + 1) e) _ has.1) st (fits_less v.guard end q (length st) (omega arith) f.guard) t j (omega arith))
      (λ a t j less. return_runs cs w u is v.on_return q a st t j at.0.instr (route_less false v.on_return end (q + 1) (length st) (omega arith) f.on_return))

  -- a value is raised
  raise_value_runs : (x : PlainValue) (v : Ways) (p end : ℕ) (st : List Operand) → StandsAt u p (cell v.guard (plain Raise)) → Fits v.guard (p + 1) (length st) → (s : State) (n : ℕ)
      → going cs w p (of_value x ∷ st) s n ≡ after_out cs w v end st (raise_value x s n)
  unfolding note give
  raise_value_runs x v p end st at f s n = by_value x refl
    where
      no : act N cs u Raise (of_value x ∷ st) (conf w p (of_value x ∷ st) s n) ≡ throw N cs (raised_by NotException) (conf w p st s n) → going cs w p (of_value x ∷ st) s n ≡ raised cs w v.guard st (raised_by NotException) true (add (throw_item (raised_by NotException).kind) s) n
      no e = threw_runs cs w u is v.guard p Raise (of_value x ∷ st) st (raised_by NotException) s s n at.instr at.guard f e

      by_value : (y : PlainValue) → act N cs u Raise (of_value x ∷ st) (conf w p (of_value x ∷ st) s n) ≡ raising N cs y (conf w p st s n) → going cs w p (of_value x ∷ st) s n ≡ after_out cs w v end st (raise_value y s n)
      by_value none_value e = no e
      by_value (bool_value b) e = no e
      by_value (int_value a) e = no e
      by_value (str_value a) e = no e
      by_value (tuple_value a) e = no e
      by_value (list_at a) e = no e
      by_value (dict_at a) e = no e
      by_value (func_value a b) e = no e
      by_value (module_value a) e = no e
      by_value (kind_value kind) e = escaped_runs cs w u is v.guard p Raise (of_value x ∷ st) st (record { kind = kind; arg = no_argument }) false s s n at.instr at.guard f e
      by_value (exc_value kind arg) e = escaped_runs cs w u is v.guard p Raise (of_value x ∷ st) st (record { kind = kind; arg = arg }) false s s n at.instr at.guard f e
      by_value (builtin_value a) e = no e

  raise_some : (e : Expr) (h : Option ℕ) (v : Ways) (p end : ℕ) → HasAt u p (raise_code h v p (Some e)) → p + expr_size e + 1 ≡ end → (st : List Operand) → Fits v.guard end (length st) → (s : State) (n : ℕ) → n < k
      → going cs w p st s n ≡ after_out cs w v end st (raised_out c pl (Some e) s n)
  raise_some e None v p end has same st f s n lt =
      let q = p + expr_size e in
      let at = part_at cs ms matches c k calls w u is handled p (expr_size e) (expr_code v.guard p e) _ (expr_length v.guard p e) has in
      uses cs w on_top v q end st st (eval c pl e) raise_value (going cs w p st s n) s n
      (eval_runs cs ms matches c k calls w u is handled e v.guard p (has_front u p (expr_code v.guard p e) _ has) st (fits_less v.guard end q (length st) (omega arith) f) s n lt) (at_most _ (steady-eval c calls.steady pl e) s n) (unchanged cs ms matches c k calls w u is handled v.guard st)
      (λ a t j le. raise_value_runs a v q end st at.0 (fits_less v.guard end (q + 1) (length st) (omega arith) f) t j)
  raise_some e (Some below) v p end has same st f s n lt =
      let q = p + expr_size e in
      let at = part_at cs ms matches c k calls w u is handled p (expr_size e) (expr_code v.guard p e) _ (expr_length v.guard p e) has in
      uses cs w on_top v q end st st (eval c pl e) raise_value (going cs w p st s n) s n
      (eval_runs cs ms matches c k calls w u is handled e v.guard p (has_front u p (expr_code v.guard p e) _ has) st (fits_less v.guard end q (length st) (omega arith) f) s n lt) (at_most _ (steady-eval c calls.steady pl e) s n) (unchanged cs ms matches c k calls w u is handled v.guard st)
      (λ a t j le. raise_value_runs a v q end st at.0 (fits_less v.guard end (q + 1) (length st) (omega arith) f) t j)

  -- the exception that is handled is raised again
  raise_none : (h : Option ℕ) (o : Option PlainRaised) (v : Ways) (p end : ℕ) → HasAt u p (raise_code h v p None) → p + raise_size (is_there h) None ≡ end → (st : List Operand) → Fits v.guard end (length st) → v.depth ≡ length st → HandledFits h o st → (s : State) (n : ℕ)
      → going cs w p st s n ≡ after_out cs w v end st (reraise o s n)
  unfolding note give
  raise_none None None v p end has same st f deep there s n =
      constant_runs cs ms matches c k calls w u is handled NoneConstant v.guard p st s n has.0
      ∙ raise_value_runs none_value v (p + 1) end st has.1.0 (fits_less v.guard end (p + 1 + 1) (length st) (omega arith) f) s n
  raise_none None (Some e) v p end has same st f deep there s n = absurd there
  raise_none (Some below) None v p end has same st f deep there s n = absurd there
  raise_none (Some below) (Some e) v p end has same st f deep there s n =
      let d = conf w p st s n in
      let found : slice_get st (v.depth - below - 1) ≡ Some there.1 = ap (λ m. slice_get st (m - below - 1)) deep ∙ there.2 in
      escaped_runs cs w u is v.guard p (Reraise (v.depth - below - 1)) st st e false s s n has.0.instr has.0.guard (fits_less v.guard end (p + 1) (length st) (omega arith) f)
      (ap (λ o. where_found o d (λ x. escapes N cs (exception_in x) false d)) found ∙ ap (λ x. escapes N cs x false d) there.3)

  pub raise_runs : (e : Option Expr) → Law (raise e)
  unfolding exec_kind
  raise_runs (Some e) l v p has st f s n lt =
      let end = p + (1 + raise_size (in_hand v) (Some e)) in
      mark_runs cs w u is l v.guard v p end st st _ s n has.0
      (λ t j less. raise_some e v.handled v (p + 1) end has.1 (some_size v.handled) st f.guard t j (omega arith))
    where
      some_size : (h : Option ℕ) → p + 1 + expr_size e + 1 ≡ p + (1 + raise_size (is_there h) (Some e))
      some_size None = omega arith
      some_size (Some b) = omega arith
  raise_runs None l v p has st f s n lt =
      let end = p + (1 + raise_size (in_hand v) None) in
      mark_runs cs w u is l v.guard v p end st st _ s n has.0
      (λ t j less. raise_none v.handled handled v (p + 1) end has.1 (omega arith) st f.guard f.depth f.handled t j)

  -- an assertion with a value
  assertion_runs : (x : PlainValue) (v : Ways) (p end : ℕ) (st : List Operand) → StandsAt u p (cell v.guard (plain AssertionWith)) → Fits v.guard (p + 1) (length st) → (s : State) (n : ℕ)
      → going cs w p (of_value x ∷ st) s n ≡ after_out cs w v end st (on_answer (assertion_error x) throwing s n)
  unfolding note give
  assertion_runs x v p end st at f s n = by_answer (assertion_error x) refl
    where
      by_answer : (r : Ans PlainRaised) → act N cs u AssertionWith (of_value x ∷ st) (conf w p (of_value x ∷ st) s n) ≡ answers N cs r st (conf w p (of_value x ∷ st) s n) (λ e. throw N cs e (conf w p st s n))
          → going cs w p (of_value x ∷ st) s n ≡ after_out cs w v end st (on_answer r throwing s n)
      by_answer (Ok e) h = threw_runs cs w u is v.guard p AssertionWith (of_value x ∷ st) st e s s n at.instr at.guard f h
      by_answer (Err e) h = threw_runs cs w u is v.guard p AssertionWith (of_value x ∷ st) st e s s n at.instr at.guard f h

  fails_runs : (why : Option Expr) (v : Ways) (p end : ℕ) → HasAt u p (assert_code v.guard p why) → p + assert_size why ≡ end → (st : List Operand) → Fits v.guard end (length st) → (s : State) (n : ℕ) → n < k
      → going cs w p st s n ≡ after_out cs w v end st (failed_assertion c pl why s n)
  unfolding note give
  fails_runs None v p end has same st f s n lt = threw_runs cs w u is v.guard p Assertion st st (record { kind = AssertionError; arg = no_argument }) s s n has.0.instr has.0.guard (fits_less v.guard end (p + 1) (length st) (omega arith) f) refl
  fails_runs (Some e) v p end has same st f s n lt =
      let q = p + expr_size e in
      let at = part_at cs ms matches c k calls w u is handled p (expr_size e) (expr_code v.guard p e) _ (expr_length v.guard p e) has in
      uses cs w on_top v q end st st (eval c pl e) (λ a. using (give (assertion_error a)) throwing) (going cs w p st s n) s n
      (eval_runs cs ms matches c k calls w u is handled e v.guard p (has_front u p (expr_code v.guard p e) _ has) st (fits_less v.guard end q (length st) (omega arith) f) s n lt) (at_most _ (steady-eval c calls.steady pl e) s n) (unchanged cs ms matches c k calls w u is handled v.guard st)
      (λ a t j le. assertion_runs a v q end st at.0 (fits_less v.guard end (q + 1) (length st) (omega arith) f) t j ∙ ap (after_out cs w v end st) (given_is (assertion_error a) t j))
      ∙ ap (after_out cs w v end st) (sym (using_value (eval c pl e) (λ a. give (assertion_error a)) throwing s n))

  pub assert_runs : (test : Expr) (why : Option Expr) → Law (assert test why)
  unfolding exec_kind give
  assert_runs test why l v p has st f s n lt =
      let q = p + 1 + expr_size test in
      let fails = q + 1 in
      let last = fails + assert_size why in
      let end = p + (1 + expr_size test + 1 + assert_size why) in
      let same : last ≡ end = omega arith in
      let at = part_at cs ms matches c k calls w u is handled (p + 1) (expr_size test) (expr_code v.guard (p + 1) test) _ (expr_length v.guard (p + 1) test) has.1 in
      marked_uses cs w u is l on_top v p q end st (eval c pl test) _ s n has.0 (steady-eval c calls.steady pl test)
      (λ t j less. eval_runs cs ms matches c k calls w u is handled test v.guard (p + 1) (has_front u (p + 1) (expr_code v.guard (p + 1) test) _ has.1) st (fits_less v.guard end q (length st) (omega arith) f.guard) t j (omega arith))
      (λ a t j less. forks_back cs w u is a (IfTrue last) v q last end (of_value a ∷ st) st st st (give normal) (failed_assertion c pl why) t j at.0.instr (omega arith) refl
      (ap (λ m. going cs w m st t j) same) (fails_runs why v fails end at.1 same st f.guard t j (omega arith)))

  pub global_runs : (xs : List Text) → Law (global xs)
  unfolding exec_kind give
  global_runs xs l v p has st f s n lt = ap (λ m. going cs w m st s n) (omega arith)

  -- a function with its defaults
  abbrev address_on : ℕ → Option ℕ → List Operand → List Operand
  address_on unit a st = of_value (func_value (record { «module» = w.code.module; unit = unit }) a) ∷ st

  defaults_run : (es : Exprs) (g : Option Guard) (p unit : ℕ) → HasAt u p (function_code g p unit es) → (st : List Operand) → Fits g (p + function_size es) (length st) → (s : State) (n : ℕ) → n < k
      → going cs w p st s n ≡ after cs w (address_on unit) g (p + function_size es) st (default_list c pl es s n)
  unfolding give
  defaults_run no_exprs g p unit has st f s n lt = led_on cs w u is p (MakeFunction unit) st (address_on unit None st) s s n has.0.instr refl
  defaults_run (exprs e es) g p unit has st f s n lt =
      let all : Exprs = exprs e es in
      let q = p + each_size all in
      let end = p + (each_size all + 2) in
      let at = part_at cs ms matches c k calls w u is handled p (each_size all) (each_code g p all) _ (each_length g p all) has in
      runs_on cs w pushed (address_on unit) (λ vs. length vs ≡ count all) g q end st st (eval_each c pl all) _ (going cs w p st s n) s n
      (each_runs cs ms matches c k calls w u is handled all g p (has_front u p (each_code g p all) _ has) st (fits_less g end q (length st) (omega arith) f) s n lt) (at_most _ (steady-each c calls.steady pl all) s n) (each_counts c pl all s n) (unchanged cs ms matches c k calls w u is handled g st)
      (λ vs t j le long. (
      let xs = pushed vs st in
      let d = conf w q xs t j in
      then_works cs ms matches c k calls w u is handled on_top (address_on unit) g (q + 1) end st st (new_list vs) _ (going cs w q xs t j) t j
      (works cs w u is on_top g q (MakeList (count all)) xs st (new_list vs) t j at.0.instr at.0.guard (fits_less g end (q + 1) (length st) (omega arith) f)
      (many_pushed (count all) vs st d (λ us ys. answers N cs (new_list us t.now.world.heap) ys d (λ r. falls (of_value r.0 ∷ ys) (on_heap r.1 d))) long)) (unchanged cs ms matches c k calls w u is handled g st)
      (λ a t2 j2 le2. led_on cs w u is (q + 1) (FunctionWith unit) (of_value a ∷ st) (address_on unit (address_of a) st) t2 t2 j2 at.1.0.instr refl ∙ ap (λ m. going cs w m (address_on unit (address_of a) st) t2 j2) (omega arith))))

  pub def_runs : (x : Text) (params : List Text) (es : Exprs) (comma : Bool) (body : Suite) → Law (def x params es comma body)
  unfolding exec_kind
  def_runs x params es comma body l v p has st f s n lt =
      let unit = unit_of_line l (here cs ms c k w u) in
      let q = p + 1 + function_size es in
      let end = p + (1 + function_size es + 1) in
      let at = part_at cs ms matches c k calls w u is handled (p + 1) (function_size es) (function_code v.guard (p + 1) unit es) _ (function_length v.guard (p + 1) unit es) has.1 in
      marked_uses cs w u is l (address_on unit) v p q end st (default_list c pl es) _ s n has.0 (steady_defaults es)
      (λ t j less. defaults_run es v.guard (p + 1) unit (has_front u (p + 1) (function_code v.guard (p + 1) unit es) _ has.1) st (fits_less v.guard end q (length st) (omega arith) f.guard) t j (omega arith))
      (λ a t j less.
      let x_is : PlainValue = func_value (record { «module» = w.code.module; unit = unit }) a in
      store_runs cs ms matches c k calls w u is handled x x_is v.guard q st t j at.0 ∙ (ap (λ m. going cs w m st (put (bound pl.scope x x_is) t) j) (omega arith) ∙ ap (after_out cs w v end st) (sym (written (bound pl.scope x x_is) t j))))
    where
      steady_defaults : (ds : Exprs) → IsSteady (default_list c pl ds)
      steady_defaults no_exprs = steady-give _
      steady_defaults (exprs e ds) = steady-value _ _ (steady-each c calls.steady pl (exprs e ds)) (λ vs. steady-value _ _ (steady-work _) (λ a. steady-give _))
