-- What a machine does with the code of units, in frames of their own, is what calls mean.
use Rattle.std.proofs.Common.{◌≡◌, ℕ, zero, suc, ◌+◌, ◌-◌, ◌<◌, List, [], ◌∷◌, ◌++◌, length, map, drop, Option, Some, None, true, false, refl, sym, ap, ◌∙◌, subst, arith}
use Rattle.std.specs.Prelude.{slice_get, if◌then◌else◌, Ok, Err}
use Rattle.cov_event.specs.declared.event.CodeId.{CodeId}
use Rattle.cov_event.specs.declared.event.Event.TheVariants.{Call as Called}
use Rattle.py_value.specs.Plain.{PlainValue, none_value, PlainRaised}
use Rattle.py_syntax.specs.Functions.{Function, functions, without_docstring}
use Rattle.py_syntax.specs.Tree.{Text, Stmts}
use Rattle.py_builtins.specs.Parameters.{parameters}
use Rattle.py_builtins.specs.World.{Names, first_names, with_begun}
use Rattle.py_meaning.specs.Activations.{no_items, more, sub, activation, throw as throw_item}
use Rattle.py_meaning.specs.Computations.{State, Res, done, cut, M, Ans, bind, add, put, give, chain, tick, write}
use Rattle.py_meaning.specs.Events.{told}
use Rattle.py_meaning.specs.Frames.{in_frame, back_in, left_by, framed, own_names, place_of, exec_unit, begun, not_begun, ended, in_unit, unit_call, calls}
use Rattle.py_meaning.specs.Laws.{IsAtMost, IsSteady, AreSteady}
use Rattle.py_meaning.specs.Modules.{LoadedModule, body_of, module_body, module_name, unit_in, unit_of, function_in, function_found, function_or, number_from}
use Rattle.py_meaning.specs.Statements.{Out, normal, breaks, continues, returns as returned, raises, exec}
use Rattle.py_meaning.proofs.Steady.{steady-give, steady-stop, steady-chain, steady-tick, steady-write}
use Rattle.py_meaning.proofs.SteadyStatements.{steady_law}
use Rattle.py_code.specs.declared.instr.Instr.TheVariants.{Return}
use Rattle.py_code.specs.declared.unit.Constant.TheVariants.{None as NoneConstant}
use Rattle.py_code.specs.declared.unit.Handler.{Handler}
use Rattle.py_code.specs.Configurations.{Operand, of_value, of_way, by_raise, Locals, spent, End}
use Rattle.py_code.specs.Machine.{told as tells, entered, name_at, land, leave, begins, stepping, machine, follows}
use Rattle.py_code.specs.Run.{go}
use Rattle.py_code.specs.Slots.{by_names, params_in}
use Rattle.py_code.specs.Units.{Code, Module, unit_at, units_of, handlers_in, handler_of, handler_at, number_from as numbered_from}
use Rattle.py_text.specs.Comparison.{is_same_text}
use Rattle.py_compile_expr.specs.Cells.{constant, plain, Guard, put as put_cell}
use Rattle.py_compile_expr.specs.Runs.{Spot, effects_of, conf, from as going, thrown, after, on_top, IsLike, Matches, part_of, CallsRun}
use Rattle.py_compile_expr.specs.Stands.{HasAt, Guards}
use Rattle.py_compile_expr.proofs.InstructionRuns.{constant_runs}
use Rattle.py_compile_expr.proofs.Places.{has_front, has_behind, has_at}
use Rattle.py_compile.specs.Definitions.{Definition, function_of, definitions}
use Rattle.py_compile.specs.Faithful.{IsFaithful}
use Rattle.py_compile.specs.ProgramRuns.{HasFunctions, HasUnits, AreFaithful, AreProperFunctions, AreProperModules}
use Rattle.py_compile.specs.Proper.{AreProper}
use Rattle.py_compile.specs.StatementRuns.{ends_with, raised, after_out, FitsWays, NamesMatch}
use Rattle.py_compile.specs.Statements.{stmts_size, stmts_code}
use Rattle.py_compile.specs.Ways.{outermost}
use Rattle.py_compile.proofs.DefinitionLaw.{all_functions}
use Rattle.py_compile.proofs.Flow.{gives_runs}
use Rattle.py_compile.proofs.Sizes.{stmts_length}
use Rattle.py_compile.proofs.StatementLaw.{statements_run}

-- ---- code and text, unit by unit

-- with as many defaults as the text has
abbrev pub IsCodeOf : Stmts → ℕ → Function → Code → Type 0
IsCodeOf b k f u = (defaults : ℕ) × IsFaithful (functions b) f defaults (own_names k f) u

abbrev pub IsUnit : Stmts → ℕ → Option Code → Option Function → Type 0
IsUnit b k None None = Unit {0}
IsUnit b k None (Some f) = ⊥
IsUnit b k (Some u) None = ⊥
IsUnit b k (Some u) (Some f) = IsCodeOf b k f u

functions_pair : (b : Stmts) (ds : List Definition) (us : List Code) → HasFunctions (functions b) ds us → (k : ℕ) → IsUnit b (suc k) (slice_get us k) (slice_get (map function_of ds) k)
functions_pair b [] [] h k = tt
functions_pair b [] (u ∷ us) h k = absurd h
functions_pair b (d ∷ ds) [] h k = absurd h
functions_pair b (d ∷ ds) (u ∷ us) h zero = (d.defaults, h.0)
functions_pair b (d ∷ ds) (u ∷ us) h (suc k) = next (functions_pair b ds us h.1 k)
  where
    next : IsUnit b (suc k) (slice_get us k) (slice_get (map function_of ds) k) → IsUnit b (suc (suc k)) (slice_get us k) (slice_get (map function_of ds) k)
    next r = r

units_pair : (l : LoadedModule) (us : List Code) → HasUnits l.body us → (k : ℕ) → IsUnit l.body k (slice_get us k) (function_in (Some l) k)
units_pair l [] h k = absurd h
units_pair l (u ∷ us) h zero = (0, h.0)
units_pair l (u ∷ us) h (suc k) = subst (λ fs. IsUnit l.body (suc k) (slice_get us k) (slice_get fs k)) (all_functions l.body) (functions_pair l.body (definitions l.body) us h.1 k)

pub modules_pair : (cs : List Module) (ms : List LoadedModule) → AreFaithful cs ms → (m k : ℕ) → IsUnit (module_body (slice_get ms m)) k (slice_get (units_of (slice_get cs m)) k) (function_in (slice_get ms m) k)
modules_pair [] [] h m k = tt
modules_pair [] (l ∷ ls) h m k = absurd h
modules_pair (c ∷ cs) [] h m k = absurd h
modules_pair (c ∷ cs) (l ∷ ls) h zero k = units_pair l c.units h.1 k
modules_pair (c ∷ cs) (l ∷ ls) h (suc m) k = modules_pair cs ls h.2 m k

pub names_pair : (cs : List Module) (ms : List LoadedModule) → AreFaithful cs ms → (m : ℕ) → name_at (slice_get cs m) ≡ module_name (slice_get ms m)
names_pair [] [] h m = refl
names_pair [] (l ∷ ls) h m = absurd h
names_pair (c ∷ cs) [] h m = absurd h
names_pair (c ∷ cs) (l ∷ ls) h zero = h.0
names_pair (c ∷ cs) (l ∷ ls) h (suc m) = names_pair cs ls h.2 m

numbers_pair : (cs : List Module) (ms : List LoadedModule) → AreFaithful cs ms → (n : ℕ) (x : Text) → numbered_from n cs x ≡ number_from n ms x
unfolding numbered_from number_from
numbers_pair [] [] h n x = refl
numbers_pair [] (l ∷ ls) h n x = absurd h
numbers_pair (c ∷ cs) [] h n x = absurd h
numbers_pair (c ∷ cs) (l ∷ ls) h n x =
    ap (λ y. if is_same_text x y then Some n else numbered_from (suc n) cs x) h.0 ∙ ap (λ o. if is_same_text x l.name then Some n else o) (numbers_pair cs ls h.2 (suc n) x)

pub names_match : (cs : List Module) (ms : List LoadedModule) → AreFaithful cs ms → NamesMatch cs ms
names_match [] [] h x = refl
names_match [] (l ∷ ls) h x = absurd h
names_match (c ∷ cs) [] h x = absurd h
names_match (c ∷ cs) (l ∷ ls) h x = numbers_pair cs ls h.2 1 x

like : (b : Stmts) (k : ℕ) (o : Option Code) (q : Option Function) → IsUnit b k o q → IsLike o q
like b k None None h = tt
like b k None (Some f) h = h
like b k (Some u) None h = h
like b k (Some u) (Some f) h = h.1.params

pub units_match : (cs : List Module) (ms : List LoadedModule) → AreFaithful cs ms → Matches cs ms
units_match cs ms h code = like (body_of ms code.module) code.unit (unit_at cs code) (function_found ms code) (modules_pair cs ms h code.module code.unit)

proper_function : (fs : List Function) → AreProperFunctions fs → (k : ℕ) (f : Function) → slice_get fs k ≡ Some f → AreProper (without_docstring f.body)
proper_function [] h k f e = absurd cc
proper_function (g ∷ fs) h zero f e = let same : g ≡ f = cc in subst (λ y. AreProper (without_docstring y.body)) same h.0
proper_function (g ∷ fs) h (suc k) f e = proper_function fs h.1 k f e

proper_unit : (ms : List LoadedModule) → AreProperModules ms → (m k : ℕ) (f : Function) → function_in (slice_get ms m) k ≡ Some f → AreProper (without_docstring f.body)
proper_unit [] h m k f e = absurd cc
proper_unit (l ∷ ls) h zero zero f e = let same : function_or l.body None ≡ f = cc in subst (λ y. AreProper (without_docstring y.body)) same h.0
proper_unit (l ∷ ls) h zero (suc k) f e = proper_function (functions l.body) h.1 k f e
proper_unit (l ∷ ls) h (suc m) k f e = proper_unit ls h.2 m k f e

unit_is : (o : Option LoadedModule) (k : ℕ) (f : Function) → function_in o k ≡ Some f → unit_in (module_body o) k ≡ f
unit_is None k f e = absurd cc
unit_is (Some l) zero f e = cc
unit_is (Some l) (suc k) f e = ap (function_or l.body) e

-- ---- steps never rise

steady_framed : (code : CodeId) (names : Names) (m : M Out) → IsSteady m → IsSteady (framed code names m)
unfolding IsSteady framed
steady_framed code names m h s n = by_result (m (record { now = in_frame names s.now; out = s.out; items = no_items }) n) (h (record { now = in_frame names s.now; out = s.out; items = no_items }) n)
  where
    by_result : (r : Res Out) → IsAtMost n r → IsAtMost n (left_by code s r)
    by_result (done o t j) le = le
    by_result (cut t) le = tt

steady_in_unit : (ms : List LoadedModule) (m u : ℕ) (body : M (Ans PlainValue)) → IsSteady body → IsSteady (in_unit ms m u body)
unfolding in_unit
steady_in_unit ms m zero body h = steady-write _ _ (steady-chain _ _ h ends)
  where
    ends : (a : Ans PlainValue) → IsSteady (ended m a)
    ends (Ok v) = steady-give _
    ends (Err e) = steady-write _ _ (steady-give _)
steady_in_unit ms m (suc u) body h = h

pub steady_calls : (ms : List LoadedModule) (k : ℕ) → AreSteady (calls ms k)
unfolding calls
steady_calls ms zero m u vs = steady-stop _
steady_calls ms (suc k) m u vs =
    let code : CodeId = record { «module» = m; unit = u } in
    steady-tick _ (steady_in_unit ms m u _ (steady_framed code _ _ (steady_law (calls ms k) (steady_calls ms k) (place_of ms code) (without_docstring (unit_of ms code).body))))

-- ---- the body of a unit

outer_fits : (end : ℕ) → FitsWays (outermost end) None end []
outer_fits end = record { on_break = (omega arith, omega arith); on_continue = (omega arith, omega arith); on_return = tt; guard = tt; depth = refl; handled = tt }

-- what follows the body of a frame
abbrev pub body_end : List Module → Spot → Res Out → End
body_end cs w (done normal s n) = ends_with cs w none_value s n
body_end cs w (done breaks s n) = ends_with cs w none_value s n
body_end cs w (done continues s n) = ends_with cs w none_value s n
body_end cs w (done (returned x) s n) = ends_with cs w x s n
body_end cs w (done (raises e t) s n) = raised cs w None [] e t s n
body_end cs w (cut s) = record { how = spent; steps = 0; effects = effects_of w.before s }

module _ (cs : List Module) (ms : List LoadedModule) (faithful : AreFaithful cs ms) (proper : AreProperModules ms) where
  abbrev N : Locals Names
  N = by_names cs

  -- the code of a unit, from its first place on
  pub body_runs : (k : ℕ) → CallsRun cs (calls ms k) k → (w : Spot) (u : Code) → unit_at cs w.code ≡ Some u → (f : Function) → function_found ms w.code ≡ Some f → IsCodeOf (body_of ms w.code.module) w.code.unit f u
      → (s : State) (n : ℕ) → n < k → going cs w 0 [] s n ≡ body_end cs w (exec_unit (calls ms k) ms w.code s n)
  body_runs k run w u is f found fact s n lt =
      statements_run cs ms matches names (calls ms k) k run w u is None body (proper_unit ms proper w.code.module w.code.unit f found) (outermost size) 0 (has_front u 0 (stmts_code fs (outermost size) 0 body) _ fact.1.has) []
      (subst (λ m. FitsWays (outermost size) None m []) (sym same) (outer_fits size)) s n lt
      ∙ (ap (λ m. after_out cs w (outermost size) m [] (exec (calls ms k) (part_of ms u w.code None) body s n)) same
      ∙ (ends (exec (calls ms k) (part_of ms u w.code None) body s n)
      ∙ (ap (λ own. body_end cs w (exec (calls ms k) (record { modules = ms; scope = record { number = w.code.module; own = own }; handled = None }) body s n)) fact.1.locals
      ∙ ap (λ g. body_end cs w (exec (calls ms k) (record { modules = ms; scope = record { number = w.code.module; own = own_names w.code.unit g }; handled = None }) (without_docstring g.body) s n)) (sym (unit_is (slice_get ms w.code.module) w.code.unit f found)))))
    where
      matches : Matches cs ms
      matches = units_match cs ms faithful

      names : NamesMatch cs ms
      names = names_match cs ms faithful

      fs : List Function
      fs = functions (body_of ms w.code.module)

      body : Stmts
      body = without_docstring f.body

      size : ℕ
      size = stmts_size false body

      same : 0 + size ≡ size
      same = omega arith

      tail : HasAt u size (put_cell None (constant NoneConstant) (put_cell None (plain Return) []))
      tail =
          let last = put_cell None (constant NoneConstant) (put_cell None (plain Return) []) in
          has_at u (0 + size) size last same (has_behind u 0 size (stmts_code fs (outermost size) 0 body) last (stmts_length fs (outermost size) 0 body) fact.1.has)

      none : (t : State) (j : ℕ) → going cs w size [] t j ≡ ends_with cs w none_value t j
      none t j =
          constant_runs cs ms matches (calls ms k) k run w u is None NoneConstant None size [] t j tail.0
          ∙ gives_runs cs w u is (size + 1) Return (of_value none_value ∷ []) none_value t j tail.1.0.instr refl

      ends : (r : Res Out) → after_out cs w (outermost size) size [] r ≡ body_end cs w r
      ends (done normal t j) = none t j
      ends (done breaks t j) = none t j
      ends (done continues t j) = none t j
      ends (done (returned x) t j) = refl
      ends (done (raises e b) t j) = refl
      ends (cut t) = refl

  -- ---- back in the frame that waits

  -- the frame that waits, and the one that it waits for
  abbrev inside : Spot → ℕ → List Operand → CodeId → State → ℕ → Spot
  inside w p st f s n = record { code = f; callers = (conf w p st s n).top ∷ w.callers; before = told w.before s.items ++ Called f ∷ [] }

  -- an exception comes back
  lands_back : (w : Spot) (u : Code) → unit_at cs w.code ≡ Some u → (g : Option Guard) (p : ℕ) → Guards g (handler_of p u.handlers) → (st : List Operand) (e : PlainRaised) (s : State) (n : ℕ)
      → follows N cs (land N cs (handler_at cs w.code p) (leave N cs e w.code w.callers n (effects_of w.before (add (throw_item e.kind) s))) e true (conf w p st (add (throw_item e.kind) s) n)) ≡ thrown cs w g st e s n
  lands_back w u is g p guards st e s n =
      ap (λ o. follows N cs (land N cs (handler_of p (handlers_in o)) (leave N cs e w.code w.callers n (effects_of w.before (add (throw_item e.kind) s))) e true (conf w p st (add (throw_item e.kind) s) n))) is
      ∙ by_handler g (handler_of p u.handlers) guards
    where
      by_handler : (h : Option Guard) (o : Option Handler) → Guards h o
          → follows N cs (land N cs o (leave N cs e w.code w.callers n (effects_of w.before (add (throw_item e.kind) s))) e true (conf w p st (add (throw_item e.kind) s) n)) ≡ thrown cs w h st e s n
      by_handler None None q = refl
      by_handler None (Some h) q = absurd q
      by_handler (Some h) None q = absurd q
      by_handler (Some h) (Some o) q =
          ap (λ x. going cs w x (of_way (by_raise e true) ∷ drop (length st - o.depth) st) (add (throw_item e.kind) s) n) q.0
          ∙ ap (λ x. going cs w h.target (of_way (by_raise e true) ∷ drop (length st - x) st) (add (throw_item e.kind) s) n) q.1

  abbrev left_state : CodeId → State → State → State
  left_state f s t = record { now = back_in s.now t.now; out = t.out; items = more s.items (sub (activation f t.items true)) }

  -- a function's body, and what it leaves to its caller
  function_back : (w : Spot) (u : Code) → unit_at cs w.code ≡ Some u → (g : Option Guard) (p : ℕ) → Guards g (handler_of p u.handlers) → (st : List Operand) (m j : ℕ) (s : State) (n : ℕ) (r : Res Out)
      → body_end cs (inside w p st (record { «module» = m; unit = suc j }) s n) r ≡ after cs w on_top g (p + 1) st (left_by (record { «module» = m; unit = suc j }) s r)
  unfolding told
  function_back w u is g p guards st m j s n (done normal t i) = ap (λ q. going cs w q (of_value none_value ∷ st) (left_state (record { «module» = m; unit = suc j }) s t) i) (omega arith)
  function_back w u is g p guards st m j s n (done breaks t i) = ap (λ q. going cs w q (of_value none_value ∷ st) (left_state (record { «module» = m; unit = suc j }) s t) i) (omega arith)
  function_back w u is g p guards st m j s n (done continues t i) = ap (λ q. going cs w q (of_value none_value ∷ st) (left_state (record { «module» = m; unit = suc j }) s t) i) (omega arith)
  function_back w u is g p guards st m j s n (done (returned x) t i) = ap (λ q. going cs w q (of_value x ∷ st) (left_state (record { «module» = m; unit = suc j }) s t) i) (omega arith)
  function_back w u is g p guards st m j s n (done (raises e b) t i) =
      lands_back w u is g p guards st e (record { now = back_in s.now t.now; out = t.out; items = more s.items (sub (activation (record { «module» = m; unit = suc j }) t.items true)) }) i
  function_back w u is g p guards st m j s n (cut t) = refl

  -- a module's body, which counts as not begun where it raises
  module_back : (w : Spot) (u : Code) → unit_at cs w.code ≡ Some u → (g : Option Guard) (p : ℕ) → Guards g (handler_of p u.handlers) → (st : List Operand) (m : ℕ) (s : State) (n : ℕ) (r : Res Out)
      → body_end cs (inside w p st (record { «module» = m; unit = 0 }) s n) r ≡ after cs w on_top g (p + 1) st (bind (left_by (record { «module» = m; unit = 0 }) (put (begun ms m) s) r) (ended m))
  unfolding told give write
  module_back w u is g p guards st m s n (done normal t i) = ap (λ q. going cs w q (of_value none_value ∷ st) (left_state (record { «module» = m; unit = 0 }) s t) i) (omega arith)
  module_back w u is g p guards st m s n (done breaks t i) = ap (λ q. going cs w q (of_value none_value ∷ st) (left_state (record { «module» = m; unit = 0 }) s t) i) (omega arith)
  module_back w u is g p guards st m s n (done continues t i) = ap (λ q. going cs w q (of_value none_value ∷ st) (left_state (record { «module» = m; unit = 0 }) s t) i) (omega arith)
  module_back w u is g p guards st m s n (done (returned x) t i) = ap (λ q. going cs w q (of_value x ∷ st) (left_state (record { «module» = m; unit = 0 }) s t) i) (omega arith)
  module_back w u is g p guards st m s n (done (raises e b) t i) =
      lands_back w u is g p guards st e (put (not_begun m) (record { now = back_in s.now t.now; out = t.out; items = more s.items (sub (activation (record { «module» = m; unit = 0 }) t.items true)) })) i
  module_back w u is g p guards st m s n (cut t) = refl

  -- ---- calls

  pub record UnitFound (b : Stmts) (k : ℕ) (u : Code) (q : Option Function) : Type 0 where
    pub text : Function
    pub found : q ≡ Some text
    pub fact : IsCodeOf b k text u

  pub unit_found : (b : Stmts) (k : ℕ) (u : Code) (o : Option Code) (q : Option Function) → IsUnit b k o q → o ≡ Some u → UnitFound b k u q
  unit_found b k u None q h e = absurd cc
  unit_found b k u (Some v) None h e = absurd h
  unit_found b k u (Some v) (Some f) h e = let same : v ≡ u = cc in record { text = f; found = refl; fact = subst (λ x. IsCodeOf b k f x) same h }

  pub params_same : (f : CodeId) (v : Code) → unit_at cs f ≡ Some v → params_in (unit_at cs f) ≡ (unit_of ms f).params
  params_same f v is =
      let r = unit_found (body_of ms f.module) f.unit v (unit_at cs f) (function_found ms f) (modules_pair cs ms faithful f.module f.unit) is in
      ap params_in is ∙ (r.fact.1.params ∙ ap (λ g. g.params) (sym (unit_is (slice_get ms f.module) f.unit r.text r.found)))

  call_runs : (k : ℕ) → CallsRun cs (calls ms k) k → (w : Spot) (u : Code) → unit_at cs w.code ≡ Some u → (g : Option Guard) (p : ℕ) → Guards g (handler_of p u.handlers) → (st : List Operand) (m un : ℕ) (v : Code)
      → unit_at cs (record { «module» = m; unit = un }) ≡ Some v → (vs : List PlainValue) (s : State) (n : ℕ) → n < suc k
      → follows N cs (stepping n (conf w p st s n) (λ j. begins N cs (record { «module» = m; unit = un }) vs (conf w p st s n).top (conf w p st s n) j))
      ≡ after cs w on_top g (p + 1) st (unit_call (calls ms k) ms m un vs s n)
  unfolding tick in_unit framed chain write told
  call_runs k run w u is g p guards st m un v there vs s zero lt = refl
  call_runs k run w u is g p guards st m (suc i) v there vs s (suc j) lt =
      let f : CodeId = record { «module» = m; unit = suc i } in
      let r = unit_found (body_of ms m) (suc i) v (unit_at cs f) (function_found ms f) (modules_pair cs ms faithful m (suc i)) there in
      let spot = inside w p st f s (suc j) in
      let begin : State = record { now = in_frame (parameters (unit_of ms f).params vs) s.now; out = s.out; items = no_items } in
      ap (λ ps. go (machine N cs) (record {
        top = record { code = f; place = 0; operands = []; locals = parameters ps vs; line = 0; depth = suc s.now.frames };
        callers = (conf w p st s (suc j)).top ∷ w.callers;
        steps = j;
        effects = entered cs f (effects_of w.before s);
      })) (params_same f v there)
      ∙ (body_runs k run spot v there r.text r.found r.fact begin j (omega arith)
      ∙ function_back w u is g p guards st m i s (suc j) (exec_unit (calls ms k) ms f begin j))
  call_runs k run w u is g p guards st m zero v there vs s (suc j) lt =
      let f : CodeId = record { «module» = m; unit = 0 } in
      let r = unit_found (body_of ms m) 0 v (unit_at cs f) (function_found ms f) (modules_pair cs ms faithful m 0) there in
      let spot = inside w p st f s (suc j) in
      let begin : State = record { now = in_frame (parameters (unit_of ms f).params vs) (begun ms m s.now); out = s.out; items = no_items } in
      ap (λ ps. go (machine N cs) (record {
        top = record { code = f; place = 0; operands = []; locals = parameters ps vs; line = 0; depth = suc s.now.frames };
        callers = (conf w p st s (suc j)).top ∷ w.callers;
        steps = j;
        effects = entered cs f (effects_of w.before s);
      })) (params_same f v there)
      ∙ (ap (λ x. go (machine N cs) (record {
        top = record { code = f; place = 0; operands = []; locals = parameters (unit_of ms f).params vs; line = 0; depth = suc s.now.frames };
        callers = (conf w p st s (suc j)).top ∷ w.callers;
        steps = j;
        effects = tells (Called f) (record { world = with_begun m (first_names x) s.now.world; input = s.now.input; out = s.out; events = told w.before s.items });
      })) (names_pair cs ms faithful m)
      ∙ (body_runs k run spot v there r.text r.found r.fact begin j (omega arith)
      ∙ module_back w u is g p guards st m s (suc j) (exec_unit (calls ms k) ms f begin j)))

  once_more : (k m un : ℕ) (vs : List PlainValue) (s : State) (n : ℕ) → unit_call (calls ms k) ms m un vs s n ≡ calls ms (suc k) m un vs s n
  unfolding calls
  once_more k m un vs s n = refl

  pub calls_run : (k : ℕ) → CallsRun cs (calls ms k) k
  calls_run zero = record { steady = steady_calls ms zero; runs = λ w u is g p lt guards st fits f v there vs s n less. absurd (omega arith) }
  calls_run (suc k) = record {
    steady = steady_calls ms (suc k);
    runs = λ w u is g p lt guards st fits f v there vs s n less.
        call_runs k (calls_run k) w u is g p guards st f.module f.unit v there vs s n less ∙ ap (after cs w on_top g (p + 1) st) (once_more k f.module f.unit vs s n);
  }
