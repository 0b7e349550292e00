-- What a machine does with faithful code of modules is what these mean.
use Rattle.std.proofs.Common.{◌≡◌, ℕ, zero, suc, ◌-◌, ◌<◌, List, [], ◌∷◌, ◌++◌, length, map, Option, Some, None, refl, ap, ◌∙◌, arith, ◌≢◌, ◌≤◌, sym, subst}
use Rattle.std.specs.Prelude.{slice_get, Result, Ok, Err}
use Rattle.cov_event.specs.declared.event.CodeId.{CodeId}
use Rattle.cov_event.specs.declared.event.Event.TheVariants.{Call as Called}
use Rattle.py_value.specs.declared.value.FuncId.{FuncId}
use Rattle.py_value.specs.Plain.{PlainValue, none_value, bool_value, int_value, str_value, tuple_value, list_at, dict_at, func_value, module_value, kind_value, exc_value, builtin_value, PlainRaised}
use Rattle.py_syntax.specs.Functions.{Function, functions}
use Rattle.py_syntax.specs.Tree.{Text, Stmts}
use Rattle.py_builtins.specs.Arguments.{Answer}
use Rattle.py_builtins.specs.Attributes.{or_raise}
use Rattle.py_builtins.specs.Builtins.{Done, builtin_of, exception_of}
use Rattle.py_builtins.specs.Faults.{name_unknown}
use Rattle.py_builtins.specs.Outcomes as outcomes
use Rattle.py_builtins.specs.Parameters.{parameters, arguments, defaults_at}
use Rattle.py_builtins.specs.Returns as returned_values
use Rattle.py_builtins.specs.World.{World, Names, with_begun, first_names, global_of}
use Rattle.py_meaning.specs.Activations.{no_items}
use Rattle.py_meaning.specs.Calls.{enter, enter_with, call_value, call_function, use_builtin, set_input, code_of}
use Rattle.py_meaning.specs.Computations.{State, Res, done, cut, Ans, put, give, chain, tick, read, write, say, bind, on_value, value, ask, worked}
use Rattle.py_meaning.specs.Events.{told}
use Rattle.py_meaning.specs.Frames.{in_frame, left_by, framed, exec_unit, begun, ended, in_unit, unit_call, calls}
use Rattle.py_meaning.specs.Modules.{LoadedModule, body_of, unit_of, function_found}
use Rattle.py_meaning.specs.Program as meant
use Rattle.py_meaning.specs.Statements.{Out, normal, breaks, continues, returns as returned, raises}
use Rattle.py_code.specs.Configurations.{Locals, Effects, gave, failed, spent, End}
use Rattle.py_code.specs.Machine.{told as tells, entered, follows, outermost, outer_call, at_once, reach, to_function, with_arguments, by_answer, machine as machine_of}
use Rattle.py_code.specs.Programs as machine
use Rattle.py_code.specs.Run.{go}
use Rattle.py_code.specs.Slots.{by_names, by_slots, AreNamed}
use Rattle.py_code.specs.Units.{Code, Module, unit_at}
use Rattle.py_code.proofs.OneMachine.{one_machine}
use Rattle.py_compile_expr.specs.Runs.{Spot, effects_of, IsLike}
use Rattle.py_meaning.proofs.ProgramLaws.{modules_budget}
use Rattle.py_compile.specs.Definitions.{Definition, definitions}
use Rattle.py_compile.specs.ProgramRuns.{HasFunctions, HasUnits, AreFaithful, AreProperModules, as_run, as_reply, as_request, Settles, ProgramsRun}
use Rattle.py_compile.specs.Units.{function_code, compiled}
use Rattle.py_compile.proofs.SlotNames.{are_named}
use Rattle.py_compile.proofs.Standing.{units_faithful}
use Rattle.py_compile.proofs.CallRuns.{units_match, modules_pair, names_pair, unit_found, params_same, body_end, body_runs, calls_run}

no_globals : (cs : List Module) (ms : List LoadedModule) → AreFaithful cs ms → map machine.no_names cs ≡ map meant.no_names ms
no_globals [] [] h = refl
no_globals [] (l ∷ ls) h = absurd h
no_globals (c ∷ cs) [] h = absurd h
no_globals (c ∷ cs) (l ∷ ls) h = ap (λ gs. [] ∷ gs) (no_globals cs ls h.2)

script_there : (cs : List Module) (ms : List LoadedModule) → AreFaithful cs ms → 0 < length ms → (v : Code) × (unit_at cs machine.script ≡ Some v)
script_there cs [] h lt = absurd (omega arith)
script_there [] (l ∷ ls) h lt = absurd h
script_there (c ∷ cs) (l ∷ ls) h lt = first c.units h.1
  where
    first : (us : List Code) → HasUnits l.body us → (v : Code) × (slice_get us 0 ≡ Some v)
    first [] g = absurd g
    first (u ∷ us) g = (u, refl)

-- how a computation that nothing waits for ends a machine
abbrev result_end : Res (Ans PlainValue) → End
result_end (done (Ok x) s n) = record { how = gave x; steps = n; effects = effects_of [] s }
result_end (done (Err e) s n) = record { how = failed e; steps = n; effects = effects_of [] s }
result_end (cut s) = record { how = spent; steps = 0; effects = effects_of [] s }

all_taken : (budget : ℕ) → budget - 0 ≡ budget
all_taken budget = omega arith

is_run : (budget : ℕ) (r : Res (Ans PlainValue)) → machine.run_by budget (result_end r) ≡ as_run (meant.run_of budget r)
is_run budget (done (Ok x) s n) = refl
is_run budget (done (Err e) s n) = refl
is_run budget (cut s) = ap (λ m. as_run (meant.run_with outcomes.cut s m)) (all_taken budget)

is_reply : (budget : ℕ) (r : Res (Ans PlainValue)) → machine.reply_by budget (result_end r) ≡ as_reply (meant.answer_in budget r)
is_reply budget (done (Ok x) s n) = refl
is_reply budget (done (Err e) s n) = refl
is_reply budget (cut s) = ap (λ m. as_reply (meant.answer_with returned_values.cut s m)) (all_taken budget)

module _ (cs : List Module) (ms : List LoadedModule) (faithful : AreFaithful cs ms) (proper : AreProperModules ms) where
  abbrev N : Locals Names
  N = by_names cs

  module _ (world : World) (input : List ℕ) where
    abbrev rest : State
    rest = meant.at_rest world input

    abbrev still : Effects
    still = machine.at_rest world input

    abbrev spot : CodeId → Spot
    spot f = record { code = f; callers = []; before = Called f ∷ [] }

    function_ends : (m j : ℕ) (r : Res Out) → body_end cs (spot (record { «module» = m; unit = suc j })) r ≡ result_end (left_by (record { «module» = m; unit = suc j }) rest r)
    unfolding told
    function_ends m j (done normal t i) = refl
    function_ends m j (done breaks t i) = refl
    function_ends m j (done continues t i) = refl
    function_ends m j (done (returned x) t i) = refl
    function_ends m j (done (raises e b) t i) = refl
    function_ends m j (cut t) = refl

    module_ends : (m : ℕ) (r : Res Out) → body_end cs (spot (record { «module» = m; unit = 0 })) r ≡ result_end (bind (left_by (record { «module» = m; unit = 0 }) (put (begun ms m) rest) r) (ended m))
    unfolding told give write
    module_ends m (done normal t i) = refl
    module_ends m (done breaks t i) = refl
    module_ends m (done continues t i) = refl
    module_ends m (done (returned x) t i) = refl
    module_ends m (done (raises e b) t i) = refl
    module_ends m (cut t) = refl

    -- a unit that nothing waits for
    unit_ends : (m un : ℕ) (v : Code) → unit_at cs (record { «module» = m; unit = un }) ≡ Some v → (vs : List PlainValue) (budget : ℕ)
        → follows N cs (outermost N cs (record { «module» = m; unit = un }) vs budget still) ≡ result_end (unit_call (calls ms budget) ms m un vs rest budget)
    unfolding tick in_unit framed chain write told
    unit_ends m un v there vs zero = refl
    unit_ends m (suc i) v there vs (suc n) =
        let f : CodeId = record { «module» = m; unit = suc i } in
        let r = unit_found cs ms faithful proper (body_of ms m) (suc i) v (unit_at cs f) (function_found ms f) (modules_pair cs ms faithful m (suc i)) there in
        let begin : State = record { now = in_frame (parameters (unit_of ms f).params vs) rest.now; out = []; items = no_items } in
        ap (λ ps. go (machine_of N cs) (record {
          top = record { code = f; place = 0; operands = []; locals = parameters ps vs; line = 0; depth = 1 };
          callers = [];
          steps = n;
          effects = entered cs f still;
        })) (params_same cs ms faithful proper f v there)
        ∙ (body_runs cs ms faithful proper (suc n) (calls_run cs ms faithful proper (suc n)) (spot f) v there r.text r.found r.fact begin n (omega arith)
        ∙ function_ends m i (exec_unit (calls ms (suc n)) ms f begin n))
    unit_ends m zero v there vs (suc n) =
        let f : CodeId = record { «module» = m; unit = 0 } in
        let r = unit_found cs ms faithful proper (body_of ms m) 0 v (unit_at cs f) (function_found ms f) (modules_pair cs ms faithful m 0) there in
        let begin : State = record { now = in_frame (parameters (unit_of ms f).params vs) (begun ms m rest.now); out = []; items = no_items } in
        ap (λ ps. go (machine_of N cs) (record {
          top = record { code = f; place = 0; operands = []; locals = parameters ps vs; line = 0; depth = 1 };
          callers = [];
          steps = n;
          effects = entered cs f still;
        })) (params_same cs ms faithful proper f v there)
        ∙ (ap (λ x. go (machine_of N cs) (record {
          top = record { code = f; place = 0; operands = []; locals = parameters (unit_of ms f).params vs; line = 0; depth = 1 };
          callers = [];
          steps = n;
          effects = tells (Called f) (record { world = with_begun m (first_names x) world; input = input; out = []; events = [] });
        })) (names_pair cs ms faithful m)
        ∙ (body_runs cs ms faithful proper (suc n) (calls_run cs ms faithful proper (suc n)) (spot f) v there r.text r.found r.fact begin n (omega arith)
        ∙ module_ends m (exec_unit (calls ms (suc n)) ms f begin n)))

    -- entered, where no frame stands below
    entered_is : (m un : ℕ) (vs : List PlainValue) (budget : ℕ) → result_end (unit_call (calls ms budget) ms m un vs rest budget) ≡ result_end (enter (calls ms (suc budget) m un vs) rest budget)
    unfolding enter read calls
    entered_is m un vs budget = refl

    script_ends : 0 < length ms → (budget : ℕ) → machine.end_of_run N cs world input budget ≡ result_end (meant.script_body ms budget rest budget)
    unfolding machine.end_of_run
    script_ends some budget =
        let v = script_there cs ms faithful some in
        unit_ends 0 0 v.0 v.1 [] budget ∙ entered_is 0 0 [] budget

    -- ---- a call

    answer_ends : (r : Answer) (s : State) (budget : ℕ) → follows N cs (outer_call N cs (by_answer r (effects_of [] s)) budget still) ≡ result_end (worked r s budget)
    unfolding write give
    answer_ends (Ok r) s budget = refl
    answer_ends (Err e) s budget = refl

    exception_ends : (r : Result PlainValue PlainRaised) (budget : ℕ) → follows N cs (outer_call N cs (at_once r still) budget still) ≡ result_end (give r rest budget)
    unfolding give told
    exception_ends (Ok x) budget = refl
    exception_ends (Err e) budget = refl

    arguments_end : (f : FuncId) (v : Code) → unit_at cs (code_of f) ≡ Some v → (o : Option (List PlainValue)) (budget : ℕ) → follows N cs (outer_call N cs (with_arguments f o still) budget still) ≡ result_end (enter_with (calls ms (suc budget)) f o rest budget)
    unfolding give told
    arguments_end f v there None budget = refl
    arguments_end f v there (Some vs) budget = unit_ends f.module f.unit v there vs budget ∙ entered_is f.module f.unit vs budget

    function_called : (f : FuncId) (a : Option ℕ) (vs : List PlainValue) (o : Option Code) (q : Option Function) → unit_at cs (code_of f) ≡ o → IsLike o q → (budget : ℕ)
        → follows N cs (outer_call N cs (to_function o f a vs still) budget still) ≡ result_end (call_function (calls ms (suc budget)) q f a vs rest.now rest budget)
    unfolding give told
    function_called f a vs None None there same budget = refl
    function_called f a vs None (Some x) there same budget = absurd same
    function_called f a vs (Some v) None there same budget = absurd same
    function_called f a vs (Some v) (Some x) there same budget =
        ap (λ ps. follows N cs (outer_call N cs (with_arguments f (arguments ps (defaults_at world.heap a) vs) still) budget still)) same
        ∙ arguments_end f v there (arguments x.params (defaults_at world.heap a) vs) budget

    value_called : (x : PlainValue) (vs : List PlainValue) (budget : ℕ) → follows N cs (outer_call N cs (reach cs x vs still) budget still) ≡ result_end (call_value (calls ms (suc budget)) ms x vs rest budget)
    unfolding call_value give read use_builtin say write told
    value_called none_value vs budget = refl
    value_called (bool_value b) vs budget = refl
    value_called (int_value a) vs budget = refl
    value_called (str_value a) vs budget = refl
    value_called (tuple_value a) vs budget = refl
    value_called (list_at a) vs budget = refl
    value_called (dict_at a) vs budget = refl
    value_called (func_value f a) vs budget = function_called f a vs (unit_at cs (code_of f)) (function_found ms (code_of f)) refl (units_match cs ms faithful (code_of f)) budget
    value_called (module_value a) vs budget = refl
    value_called (kind_value kind) vs budget = exception_ends (exception_of kind vs) budget
    value_called (exc_value kind arg) vs budget = refl
    value_called (builtin_value which) vs budget =
        let d : Done = builtin_of which vs world.heap input in
        answer_ends d.answer (put (set_input d.left) (record rest { out = [] ++ d.written })) budget

    global_called : (g : Ans PlainValue) (vs : List PlainValue) (budget : ℕ) → follows N cs (outer_call N cs (machine.reach_global cs g vs still) budget still) ≡ result_end (on_value g (λ f. call_value (calls ms (suc budget)) ms f vs) rest budget)
    unfolding give told
    global_called (Ok x) vs budget = value_called x vs budget
    global_called (Err e) vs budget = refl

    call_ends : (q : meant.Request) (budget : ℕ) → machine.end_of_call N cs world input (as_request q) budget ≡ result_end (meant.call_global ms q budget rest budget)
    unfolding machine.end_of_call value chain ask read give
    call_ends q budget = global_called (or_raise (name_unknown q.name) (global_of q.number q.name world)) q.values budget

  -- ---- programs, and calls

  worlds_same : (words : List Text) → machine.first_world cs words ≡ meant.first_world ms words
  worlds_same words = ap (λ gs. record { globals = gs; begun = []; heap = (meant.first_world ms words).heap; words = 0 }) (no_globals cs ms faithful)

  names_law : 0 < length ms → (words : List Text) (input : List ℕ) (budget : ℕ) → machine.run N cs (machine.first_world cs words) input budget ≡ as_run (meant.run_modules ms words input budget)
  unfolding machine.run meant.run_modules
  names_law some words input budget =
      let first = meant.first_world ms words in
      ap (λ x. machine.run_by budget (machine.end_of_run N cs x input budget)) (worlds_same words)
      ∙ (ap (machine.run_by budget) (script_ends first input some budget) ∙ is_run budget (meant.script_body ms budget (meant.at_rest first input) budget))

  slots_law : AreNamed cs → 0 < length ms → (words : List Text) (input : List ℕ) (budget : ℕ) → machine.run (by_slots cs) cs (machine.first_world cs words) input budget ≡ as_run (meant.run_modules ms words input budget)
  unfolding machine.run
  slots_law named some words input budget = ap (machine.run_by budget) (one_machine.run cs named (machine.first_world cs words) input budget) ∙ names_law some words input budget

  call_law : (world : World) (input : List ℕ) (q : meant.Request) (budget : ℕ) → machine.called N cs world input (as_request q) budget ≡ as_reply (meant.called ms world input q budget)
  unfolding machine.called meant.called
  call_law world input q budget = ap (machine.reply_by budget) (call_ends world input q budget) ∙ is_reply budget (meant.call_global ms q budget (meant.at_rest world input) budget)

  call_slots_law : AreNamed cs → (world : World) (input : List ℕ) (q : meant.Request) (budget : ℕ) → machine.called (by_slots cs) cs world input (as_request q) budget ≡ as_reply (meant.called ms world input q budget)
  unfolding machine.called
  call_slots_law named world input q budget = ap (machine.reply_by budget) (one_machine.call cs named world input (as_request q) budget) ∙ call_law world input q budget

  settles_law : 0 < length ms → (words : List Text) (input : List ℕ) (budget other : ℕ) → (machine.run N cs (machine.first_world cs words) input budget).outcome ≢ outcomes.cut
      → Settles (machine.run N cs (machine.first_world cs words) input budget) other (machine.run N cs (machine.first_world cs words) input other)
  settles_law some words input budget other uncut =
      let here = names_law some words input budget in
      let there = names_law some words input other in
      let meant_law = modules_budget ms words input budget other (λ e. uncut (ap (λ r. r.outcome) here ∙ e)) in (
        λ le. there ∙ (ap as_run (meant_law.0 (subst (λ r. r.steps ≤ other) here le)) ∙ sym here),
        λ lt. ap (λ r. r.outcome) there ∙ meant_law.1 (subst (λ r. other < r.steps) here lt),
      )

-- ---- the code of modules

functions_have : (b : Stmts) (ds : List Definition) → HasFunctions (functions b) ds (map (function_code (functions b)) ds)
functions_have b [] = tt
functions_have b (d ∷ ds) = (units_faithful.function b d, functions_have b ds)

compiles : (ms : List LoadedModule) → AreFaithful (map compiled ms) ms
compiles [] = tt
compiles (l ∷ ls) = (refl, (units_faithful.body l.body, functions_have l.body (definitions l.body)), compiles ls)

pub programs_run : ProgramsRun
programs_run = record {
  compiles = compiles;
  runs_by_names = λ cs ms faithful proper some words input budget. names_law cs ms faithful proper some words input budget;
  runs_by_slots = λ cs ms faithful proper own some words input budget. slots_law cs ms faithful proper (are_named cs ms faithful own) some words input budget;
  settles = λ cs ms faithful proper some words input budget other uncut. settles_law cs ms faithful proper some words input budget other uncut;
  calls_by_names = λ cs ms faithful proper world input q budget. call_law cs ms faithful proper world input q budget;
  calls_by_slots = λ cs ms faithful proper own world input q budget. call_slots_law cs ms faithful proper (are_named cs ms faithful own) world input q budget;
}
