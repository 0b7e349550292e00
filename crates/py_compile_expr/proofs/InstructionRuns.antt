-- What single instructions and calls do, where the code of an expression has them.
use Rattle.std.proofs.Common.{◌≡◌, ℕ, zero, suc, ◌+◌, ◌<◌, ◌≤◌, List, ◌∷◌, ◌++◌, length, Option, Some, None, Bool, true, false, refl, ap, ◌∙◌, arith}
use Rattle.std.specs.Prelude.{slice_get, if◌then◌else◌, nat_lt, Ok, Err}
use Rattle.std.proofs.lemmas.Option.{slice_get_within}
use Rattle.cov_event.specs.declared.event.CodeId.{CodeId}
use Rattle.py_value.specs.declared.builtin.Builtin.{Builtin}
use Rattle.py_value.specs.declared.cause.Cause.TheVariants.{NotCallable, WrongArgumentCount, TooDeep}
use Rattle.py_operator.specs.declared.operator.CmpOp.TheVariants.{Eq as OpEq, Ne as OpNe, Lt as OpLt, Le as OpLe, Gt as OpGt, Ge as OpGe, In as OpIn, NotIn as OpNotIn}
use Rattle.py_value.specs.declared.value.FuncId.{FuncId}
use Rattle.py_value.specs.Causes.{raised_by}
use Rattle.py_text.specs.Comparison.{is_same_text}
use Rattle.py_value.specs.Operators.{truth_of}
use Rattle.py_value.specs.Plain.{PlainValue, none_value, bool_value, int_value, str_value, tuple_value, list_at, dict_at, func_value, module_value, kind_value, exc_value, builtin_value, PlainHeap, PlainRaised}
use Rattle.py_syntax.specs.declared.expr.Comparison.{Comparison}
use Rattle.py_syntax.specs.declared.expr.Comparison.TheVariants.{Op as ByOp, Is as ByIs, IsNot as ByIsNot}
use Rattle.py_syntax.specs.Functions.{Function}
use Rattle.py_syntax.specs.Names.{is_among}
use Rattle.py_syntax.specs.Tree.{Text, Expr, Exprs, no_exprs, exprs}
use Rattle.py_builtins.specs.Arguments.{Answer}
use Rattle.py_builtins.specs.Attributes.{or_raise}
use Rattle.py_builtins.specs.Builtins.{Done, builtin_of, exception_of}
use Rattle.py_builtins.specs.Callees.{Callee, a_value, a_method, or_builtin}
use Rattle.py_builtins.specs.Faults.{local_unset}
use Rattle.py_builtins.specs.Making.{extended}
use Rattle.py_builtins.specs.Methods.{method_of}
use Rattle.py_builtins.specs.Parameters.{most_frames, arguments, defaults_at}
use Rattle.py_builtins.specs.World.{Names, value_of, global_of}
use Rattle.py_meaning.specs.Asked.{asked as meant}
use Rattle.py_meaning.specs.Calls.{Calls, call_of, call_value, call_function, enter, enter_with, use_builtin, set_input, code_of}
use Rattle.py_meaning.specs.Computations.{Setting, State, Res, done, cut, M, Ans, bind, put, set_heap, give, chain, read, write, say, on_value, value, ask, worked, work, branch}
use Rattle.py_meaning.specs.Expressions.{eval, eval_each}
use Rattle.py_meaning.specs.Modules.{LoadedModule, function_found}
use Rattle.py_meaning.specs.Places.{Place, fetched}
use Rattle.py_meaning.proofs.Steady.{steady-give, steady-ask, steady-work}
use Rattle.py_meaning.proofs.SteadyExpressions.{steady-eval}
use Rattle.py_code.specs.declared.instr.Instr.{Instr}
use Rattle.py_code.specs.declared.instr.Instr.TheVariants.{LoadLocal, LoadGlobal, Extend, Call}
use Rattle.py_code.specs.declared.unit.Constant.{Constant}
use Rattle.py_code.specs.Configurations.{Operand, of_value, Locals, Configuration, End}
use Rattle.py_code.specs.Machine.{act, answers, falls, pushes, on_heap, where_found, stepping, begins, enter as entering, calls as calling, throw, follows, reach, reach_callee, to_function, with_arguments, by_answer, by_done, one}
use Rattle.py_code.specs.Operands.{callee_in as called_in, operand_of, asked}
use Rattle.py_code.specs.Run.{Goes, go}
use Rattle.py_code.specs.Slots.{by_names, slot_name, name_or_none, locals_in}
use Rattle.py_code.specs.Units.{Code, Module, unit_at, constant_value, handler_of}
use Rattle.py_compile_expr.specs.Cells.{constant, load, plain, Guard, cell, place_in, name_at}
use Rattle.py_compile_expr.specs.Expressions.{question, count}
use Rattle.py_compile_expr.specs.Runs.{Spot, conf, from, thrown, after, on_top, Fits, IsLike, Matches, part_of, CallsRun}
use Rattle.py_compile_expr.specs.Stands.{tables_in, HasVariable, StandsAt, Guards}
use Rattle.py_compile_expr.proofs.Pushed.{pushed, many_pushed}
use Rattle.py_compile_expr.proofs.Simulation.{Holds, Any, holds_any, at_most, text_on_top, runs_on, moves, led, threw, goes_on, answered, works}

-- a comparison asks the same in code
pub question_same : (op : Comparison) → asked (question op) ≡ meant op
question_same (ByOp OpEq) = refl
question_same (ByOp OpNe) = refl
question_same (ByOp OpLt) = refl
question_same (ByOp OpLe) = refl
question_same (ByOp OpGt) = refl
question_same (ByOp OpGe) = refl
question_same (ByOp OpIn) = refl
question_same (ByOp OpNotIn) = refl
question_same ByIs = refl
question_same ByIsNot = refl

callee_back : (f : Callee) → called_in (operand_of f) ≡ f
callee_back (a_value v) = refl
callee_back (a_method m v) = refl

-- ---- how many values a list of expressions gives

holds_value : {A B : Type 0} (R : A → Type 0) (Q : B → Type 0) (m : M (Ans A)) (k : A → M (Ans B)) (s : State) (n : ℕ) → Holds R (m s n)
    → ((a : A) (t : State) (j : ℕ) → R a → Holds Q (k a t j)) → Holds Q (value m k s n)
unfolding value chain give
holds_value {A} {B} R Q m k s n h next = by_result (m s n) h
  where
    by_answer : (a : Ans A) (t : State) (j : ℕ) → Holds R (done a t j) → Holds Q (on_value a k t j)
    by_answer (Ok a) t j q = next a t j q
    by_answer (Err x) t j q = tt

    by_result : (r : Res (Ans A)) → Holds R r → Holds Q (bind r (λ a. on_value a k))
    by_result (done a t j) q = by_answer a t j q
    by_result (cut t) q = tt

pub each_counts : (c : Calls) (p : Place) (es : Exprs) (s : State) (n : ℕ) → Holds (λ vs. length vs ≡ count es) (eval_each c p es s n)
unfolding eval_each give
each_counts c p no_exprs s n = refl
each_counts c p (exprs e es) s n =
    holds_value Any (λ vs. length vs ≡ suc (count es)) (eval c p e) _ s n (holds_any (eval c p e s n)) (λ v t j q.
    holds_value (λ vs. length vs ≡ count es) (λ vs. length vs ≡ suc (count es)) (eval_each c p es) _ t j (each_counts c p es t j) (λ vs r i k. ap suc k))

module _ (cs : List Module) (ms : List LoadedModule) (matches : Matches cs ms) (c : Calls) (k : ℕ) (calls : CallsRun cs c k)
    (w : Spot) (u : Code) (is : unit_at cs w.code ≡ Some u) (handled : Option PlainRaised) where
  abbrev pl : Place
  pl = part_of ms u w.code handled

  abbrev N : Locals Names
  N = by_names cs

  -- an end that is another number
  pub ends_at : {A : Type 0} (leaves : A → List Operand → List Operand) (g : Option Guard) (m n : ℕ) (st : List Operand) (r : Res (Ans A)) (x : End) → m ≡ n
      → x ≡ after cs w leaves g m st r → x ≡ after cs w leaves g n st r
  ends_at leaves g m n st r x e h = h ∙ ap (λ q. after cs w leaves g q st r) e

  -- the value of an expression, and what goes on with it
  pub then_value : {B : Type 0} (leaves : B → List Operand → List Operand) (g : Option Guard) (mid end : ℕ) (ys st : List Operand) (e : Expr) (next : PlainValue → M (Ans B)) (first : End) (s : State) (n : ℕ)
      → first ≡ after cs w on_top g mid ys (eval c pl e s n) → ((x : PlainRaised) (t : State) (j : ℕ) → thrown cs w g ys x t j ≡ thrown cs w g st x t j)
      → ((v : PlainValue) (t : State) (j : ℕ) → j ≤ n → from cs w mid (of_value v ∷ ys) t j ≡ after cs w leaves g end st (next v t j)) → first ≡ after cs w leaves g end st (value (eval c pl e) next s n)
  then_value leaves g mid end ys st e next first s n h same go =
      runs_on cs w on_top leaves Any g mid end ys st (eval c pl e) next first s n h (at_most (eval c pl e) (steady-eval c calls.steady pl e) s n) (holds_any (eval c pl e s n)) same (λ v t j le q. go v t j le)

  pub unchanged : (g : Option Guard) (st : List Operand) (x : PlainRaised) (t : State) (j : ℕ) → thrown cs w g st x t j ≡ thrown cs w g st x t j
  unchanged g st x t j = refl

  -- what the setting answers, and what goes on with it
  pub then_asks : {A B : Type 0} (f : A → List Operand → List Operand) (leaves : B → List Operand → List Operand) (g : Option Guard) (mid end : ℕ) (ys st : List Operand) (q : Setting → Ans A) (next : A → M (Ans B))
      (first : End) (s : State) (n : ℕ) → first ≡ after cs w f g mid ys (ask q s n) → ((x : PlainRaised) (t : State) (j : ℕ) → thrown cs w g ys x t j ≡ thrown cs w g st x t j)
      → ((a : A) (t : State) (j : ℕ) → j ≤ n → from cs w mid (f a ys) t j ≡ after cs w leaves g end st (next a t j)) → first ≡ after cs w leaves g end st (value (ask q) next s n)
  then_asks f leaves g mid end ys st q next first s n h same go =
      runs_on cs w f leaves Any g mid end ys st (ask q) next first s n h (at_most (ask q) (steady-ask q) s n) (holds_any (ask q s n)) same (λ a t j le x. go a t j le)

  pub then_works : {A B : Type 0} (f : A → List Operand → List Operand) (leaves : B → List Operand → List Operand) (g : Option Guard) (mid end : ℕ) (ys st : List Operand) (q : PlainHeap → Ans (A × PlainHeap))
      (next : A → M (Ans B)) (first : End) (s : State) (n : ℕ) → first ≡ after cs w f g mid ys (work q s n) → ((x : PlainRaised) (t : State) (j : ℕ) → thrown cs w g ys x t j ≡ thrown cs w g st x t j)
      → ((a : A) (t : State) (j : ℕ) → j ≤ n → from cs w mid (f a ys) t j ≡ after cs w leaves g end st (next a t j)) → first ≡ after cs w leaves g end st (value (work q) next s n)
  then_works f leaves g mid end ys st q next first s n h same go =
      runs_on cs w f leaves Any g mid end ys st (work q) next first s n h (at_most (work q) (steady-work q) s n) (holds_any (work q s n)) same (λ a t j le x. go a t j le)

  pub then_gives : {A B : Type 0} (f : A → List Operand → List Operand) (leaves : B → List Operand → List Operand) (g : Option Guard) (mid end : ℕ) (ys st : List Operand) (a : Ans A) (next : A → M (Ans B))
      (first : End) (s : State) (n : ℕ) → first ≡ after cs w f g mid ys (done a s n) → ((x : PlainRaised) (t : State) (j : ℕ) → thrown cs w g ys x t j ≡ thrown cs w g st x t j)
      → ((v : A) (t : State) (j : ℕ) → j ≤ n → from cs w mid (f v ys) t j ≡ after cs w leaves g end st (next v t j)) → first ≡ after cs w leaves g end st (value (give a) next s n)
  unfolding give
  then_gives f leaves g mid end ys st a next first s n h same go =
      runs_on cs w f leaves Any g mid end ys st (give a) next first s n h (at_most (give a) (steady-give a) s n) (holds_any (done a s n)) same (λ v t j le x. go v t j le)

  -- ---- single instructions

  pub constant_runs : (kk : Constant) (g : Option Guard) (p : ℕ) (st : List Operand) (s : State) (n : ℕ) → StandsAt u p (cell g (constant kk)) → from cs w p st s n ≡ from cs w (p + 1) (of_value (constant_value kk) ∷ st) s n
  constant_runs kk g p st s n at =
      let next : suc p ≡ p + 1 = omega arith in
      led cs w u is p (p + 1) _ st (of_value (constant_value kk) ∷ st) s s n at.instr (omega arith)
      (ap (λ o. where_found o (conf w p st s n) (λ x. pushes (constant_value x) st (conf w p st s n))) at.knows ∙ ap (λ q. Goes (conf w q (of_value (constant_value kk) ∷ st) s n)) next)

  pub name_runs : (x : Text) (g : Option Guard) (p : ℕ) (st : List Operand) (s : State) (n : ℕ) → StandsAt u p (cell g (load x)) → Fits g (p + 1) (length st)
      → from cs w p st s n ≡ after cs w on_top g (p + 1) st (ask (fetched pl.scope x) s n)
  unfolding ask read give
  name_runs x g p st s n at fits = by_scope (is_among u.locals x) at.instr at.knows
    where
      slot : slice_get u.locals (place_in is_same_text u.locals x) ≡ Some x → slot_name cs w.code (place_in is_same_text u.locals x) ≡ x
      slot e = ap (λ o. name_or_none (slice_get (locals_in o) (place_in is_same_text u.locals x))) is ∙ ap name_or_none e

      by_scope : (b : Bool) → slice_get u.instrs p ≡ Some (if b then LoadLocal (place_in is_same_text u.locals x) else LoadGlobal (name_at (tables_in u) x)) → HasVariable b (tables_in u) x
          → from cs w p st s n ≡ after cs w on_top g (p + 1) st (done (if b then or_raise (local_unset x) (value_of x s.now.locals) else or_builtin x (global_of w.code.module x s.now.world)) s n)
      by_scope true i e =
          answered cs w u is on_top g p _ st st (or_raise (local_unset x) (value_of x s.now.locals)) s n i at.guard fits
          (ap (λ o. where_found o (conf w p st s n) (λ y. answers N cs (or_raise (local_unset y) (value_of (slot_name cs w.code (place_in is_same_text u.locals x)) s.now.locals)) st (conf w p st s n) (λ v. pushes v st (conf w p st s n)))) e
          ∙ ap (λ y. answers N cs (or_raise (local_unset x) (value_of y s.now.locals)) st (conf w p st s n) (λ v. pushes v st (conf w p st s n))) (slot e))
      by_scope false i e =
          answered cs w u is on_top g p _ st st (or_builtin x (global_of w.code.module x s.now.world)) s n i at.guard fits
          (ap (λ o. where_found o (conf w p st s n) (λ y. answers N cs (or_builtin y (global_of w.code.module y s.now.world)) st (conf w p st s n) (λ v. pushes v st (conf w p st s n)))) e)

  pub extend_runs : (x y : Text) (g : Option Guard) (p : ℕ) (st : List Operand) (s : State) (n : ℕ) → StandsAt u p (cell g (plain Extend)) → Fits g (p + 1) (length st)
      → from cs w p (of_value (str_value y) ∷ of_value (str_value x) ∷ st) s n ≡ after cs w text_on_top g (p + 1) st (done (extended x y) s n)
  extend_runs x y g p st s n at fits = answered cs w u is text_on_top g p Extend (of_value (str_value y) ∷ of_value (str_value x) ∷ st) st (extended x y) s n at.instr at.guard fits refl

  -- ---- calls

  -- what a call leads to, on operands where those that it takes are gone
  module _ (g : Option Guard) (p : ℕ) (i : Instr) (xs st : List Operand) (at : slice_get u.instrs p ≡ Some i) (guard : Guards g (handler_of p u.handlers)) (fits : Fits g (p + 1) (length st))
      (s : State) (n : ℕ) (small : n < k) where
    raised_runs : (x : PlainRaised) (r : State) → act N cs u i xs (conf w p xs s n) ≡ throw N cs x (conf w p st r n) → from cs w p xs s n ≡ thrown cs w g st x r n
    raised_runs x r e = threw cs w u is g p i xs st x s r n at guard fits e

    steps_run : (f : CodeId) (vs : List PlainValue) (m : ℕ) → act N cs u i xs (conf w p xs s m) ≡ stepping m (conf w p xs s m) (λ j. begins N cs f vs (conf w p st s m).top (conf w p xs s m) j)
        → from cs w p xs s m ≡ follows N cs (stepping m (conf w p st s m) (λ j. begins N cs f vs (conf w p st s m).top (conf w p st s m) j))
    steps_run f vs zero h = goes_on cs w u is (conf w p xs s zero) _ (moves cs w u is p i xs s zero at ∙ h) tt
    steps_run f vs (suc m) h = goes_on cs w u is (conf w p xs s (suc m)) _ (moves cs w u is p i xs s (suc m) at ∙ h) refl

    pub frame_runs : (f : CodeId) (v : Code) → unit_at cs f ≡ Some v → (vs : List PlainValue) → act N cs u i xs (conf w p xs s n) ≡ entering N cs f vs st (conf w p xs s n)
        → from cs w p xs s n ≡ after cs w on_top g (p + 1) st (enter (c f.module f.unit vs) s n)
    unfolding enter read give
    frame_runs f v found vs e = by_depth (nat_lt s.now.frames most_frames) e
      where
        by_depth : (b : Bool) → act N cs u i xs (conf w p xs s n) ≡ (if b then stepping n (conf w p xs s n) (λ j. begins N cs f vs (conf w p st s n).top (conf w p xs s n) j) else throw N cs (raised_by TooDeep) (conf w p st s n))
            → from cs w p xs s n ≡ after cs w on_top g (p + 1) st ((if b then c f.module f.unit vs else give (Err (raised_by TooDeep))) s n)
        by_depth true h = steps_run f vs n h ∙ calls.runs w u is g p (slice_get_within u.instrs p i at) guard st fits f v found vs s n small
        by_depth false h = raised_runs (raised_by TooDeep) s h

    -- what a method answers
    answer_same : (r : Answer) (d : Configuration Names) → calling N cs (by_answer r d.effects) st d ≡ answers N cs r st d (λ q. falls (on_top q.0 st) (on_heap q.1 d))
    answer_same (Ok r) d = refl
    answer_same (Err x) d = refl

    method_runs : (f : PlainHeap → Answer) → act N cs u i xs (conf w p xs s n) ≡ calling N cs (by_answer (f s.now.world.heap) (conf w p xs s n).effects) st (conf w p xs s n)
        → from cs w p xs s n ≡ after cs w on_top g (p + 1) st (work f s n)
    method_runs f e = works cs w u is on_top g p i xs st f s n at guard fits (e ∙ answer_same (f s.now.world.heap) (conf w p xs s n))

    -- what a built-in function writes, reads and answers
    builtin_runs : (which : Builtin) (vs : List PlainValue) → act N cs u i xs (conf w p xs s n) ≡ calling N cs (by_done (builtin_of which vs s.now.world.heap s.now.input) (conf w p xs s n).effects) st (conf w p xs s n)
        → from cs w p xs s n ≡ after cs w on_top g (p + 1) st (use_builtin which vs s n)
    unfolding use_builtin read say write give
    builtin_runs which vs e = by_result d.answer e
      where
        d : Done
        d = builtin_of which vs s.now.world.heap s.now.input

        t : State
        t = put (set_input d.left) (record s { out = s.out ++ d.written })

        by_result : (r : Answer) → act N cs u i xs (conf w p xs s n) ≡ calling N cs (by_answer r (conf w p xs t n).effects) st (conf w p xs s n) → from cs w p xs s n ≡ after cs w on_top g (p + 1) st (worked r t n)
        by_result (Ok r) q =
            let next : suc p ≡ p + 1 = omega arith in
            led cs w u is p (p + 1) i xs (of_value r.0 ∷ st) s (put (set_heap r.1) t) n at (omega arith) (q ∙ ap (λ m. Goes (conf w m (of_value r.0 ∷ st) (put (set_heap r.1) t) n)) next)
        by_result (Err x) q = raised_runs x t q

    arguments_run : (f : FuncId) (v : Code) → unit_at cs (code_of f) ≡ Some v → (o : Option (List PlainValue)) → act N cs u i xs (conf w p xs s n) ≡ calling N cs (with_arguments f o (conf w p xs s n).effects) st (conf w p xs s n)
        → from cs w p xs s n ≡ after cs w on_top g (p + 1) st (enter_with c f o s n)
    unfolding give
    arguments_run f v found None e = raised_runs (raised_by WrongArgumentCount) s e
    arguments_run f v found (Some vs) e = frame_runs (code_of f) v found vs e

    function_runs : (f : FuncId) (a : Option ℕ) (vs : List PlainValue) (o : Option Code) (q : Option Function) → unit_at cs (code_of f) ≡ o → IsLike o q
        → act N cs u i xs (conf w p xs s n) ≡ calling N cs (to_function o f a vs (conf w p xs s n).effects) st (conf w p xs s n)
        → from cs w p xs s n ≡ after cs w on_top g (p + 1) st (call_function c q f a vs s.now s n)
    unfolding give
    function_runs f a vs None None found same e = raised_runs (raised_by NotCallable) s e
    function_runs f a vs None (Some x) found same e = absurd same
    function_runs f a vs (Some v) None found same e = absurd same
    function_runs f a vs (Some v) (Some x) found same e =
        arguments_run f v found (arguments x.params (defaults_at s.now.world.heap a) vs)
        (e ∙ ap (λ ps. calling N cs (with_arguments f (arguments ps (defaults_at s.now.world.heap a) vs) (conf w p xs s n).effects) st (conf w p xs s n)) same)

    value_runs : (v : PlainValue) (vs : List PlainValue) → act N cs u i xs (conf w p xs s n) ≡ calling N cs (reach cs v vs (conf w p xs s n).effects) st (conf w p xs s n)
        → from cs w p xs s n ≡ after cs w on_top g (p + 1) st (call_value c ms v vs s n)
    unfolding call_value give read
    value_runs none_value vs e = raised_runs (raised_by NotCallable) s e
    value_runs (bool_value b) vs e = raised_runs (raised_by NotCallable) s e
    value_runs (int_value m) vs e = raised_runs (raised_by NotCallable) s e
    value_runs (str_value x) vs e = raised_runs (raised_by NotCallable) s e
    value_runs (tuple_value items) vs e = raised_runs (raised_by NotCallable) s e
    value_runs (list_at a) vs e = raised_runs (raised_by NotCallable) s e
    value_runs (dict_at a) vs e = raised_runs (raised_by NotCallable) s e
    value_runs (func_value f a) vs e = function_runs f a vs (unit_at cs (code_of f)) (function_found ms (code_of f)) refl (matches (code_of f)) e
    value_runs (module_value m) vs e = raised_runs (raised_by NotCallable) s e
    value_runs (kind_value kind) vs e = answered cs w u is on_top g p i xs st (exception_of kind vs) s n at guard fits e
    value_runs (exc_value kind arg) vs e = raised_runs (raised_by NotCallable) s e
    value_runs (builtin_value which) vs e = builtin_runs which vs e

    callee_runs : (f : Callee) (vs : List PlainValue) → act N cs u i xs (conf w p xs s n) ≡ calling N cs (reach_callee cs f vs (conf w p xs s n).effects) st (conf w p xs s n)
        → from cs w p xs s n ≡ after cs w on_top g (p + 1) st (call_of c ms f vs s n)
    unfolding call_of
    callee_runs (a_value v) vs e = value_runs v vs e
    callee_runs (a_method m v) vs e = method_runs (method_of m v vs) e

  -- the values of a call and what is called stand on the operands
  pub call_runs : (f : Callee) (m : ℕ) (vs : List PlainValue) (g : Option Guard) (p : ℕ) (st : List Operand) (s : State) (n : ℕ) → StandsAt u p (cell g (plain (Call m))) → Fits g (p + 1) (length st) → n < k
      → length vs ≡ m → from cs w p (pushed vs (operand_of f ∷ st)) s n ≡ after cs w on_top g (p + 1) st (call_of c ms f vs s n)
  call_runs f m vs g p st s n at fits small e =
      let xs = pushed vs (operand_of f ∷ st) in
      let d = conf w p xs s n in
      callee_runs g p (Call m) xs st at.instr at.guard fits s n small f vs
      (many_pushed m vs (operand_of f ∷ st) d (λ ws ys. one ys d (λ x zs. calling N cs (reach_callee cs (called_in x) ws d.effects) zs d)) e
      ∙ ap (λ x. calling N cs (reach_callee cs x vs d.effects) st d) (callee_back f))

  -- ---- by the truth of a value

  pub branch_is : {A : Type 0} (v : PlainValue) (m l : M A) (s : State) (n : ℕ) → branch v m l s n ≡ (if truth_of v s.now.world.heap then m s n else l s n)
  unfolding branch read
  branch_is v m l s n = by_case (truth_of v s.now.world.heap)
    where
      by_case : (b : Bool) → (if b then m else l) s n ≡ (if b then m s n else l s n)
      by_case true = refl
      by_case false = refl
