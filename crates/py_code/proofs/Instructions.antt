-- Each instruction of a valid unit leads on.
use Rattle.std.proofs.Common.{◌≡◌, ℕ, suc, ◌+◌, ◌-◌, ◌<◌, ◌≤◌, List, [], ◌∷◌, ◌++◌, length, map, take, drop, Option, Some, None, Bool, true, false, refl, ap, ◌∙◌, subst, arith, inl}
use Rattle.std.specs.Prelude.{slice_get, nat_eq, nat_lt, nat_le, ◌&&◌, if◌then◌else◌, Result, Ok, Err, codes}
use Rattle.std.proofs.lemmas.Bool.Decides.{nat_tests}
use Rattle.std.proofs.lemmas.List.{length-drop, length-take-le, length-append, length-map}
use Rattle.std.proofs.lemmas.List.Edits.{length-remove}
use Rattle.cov_event.specs.declared.event.CodeId.{CodeId}
use Rattle.cov_event.specs.declared.event.Event.TheVariants.{Throw}
use Rattle.py_value.specs.declared.cause.Cause.TheVariants.{TooDeep, WrongValueCount}
use Rattle.py_value.specs.declared.value.FuncId.{FuncId}
use Rattle.py_value.specs.Answers.{◌>>=◌}
use Rattle.py_value.specs.Causes.{raised_by}
use Rattle.py_text.specs.Comparison.{is_same_text}
use Rattle.py_value.specs.Plain.{PlainValue, none_value, bool_value, int_value, str_value, tuple_value, list_at, dict_at, func_value, module_value, kind_value, exc_value, builtin_value, PlainHeap, PlainRaised}
use Rattle.py_builtins.specs.Arguments.{Answer}
use Rattle.py_builtins.specs.Builtins.{builtin_of}
use Rattle.py_builtins.specs.Items.{items_in, unpacked, sequence_items, of_length}
use Rattle.py_builtins.specs.Making.{new_tuple}
use Rattle.py_builtins.specs.Methods.{new_list, method_of}
use Rattle.py_builtins.specs.Parameters.{most_frames, arguments, defaults_at}
use Rattle.py_builtins.specs.World.{is_begun}
use Rattle.py_code.specs.declared.instr.Bounds.TheVariants.{Neither, From, To, Both}
use Rattle.py_code.specs.declared.instr.Instr.{Instr}
use Rattle.py_code.specs.declared.instr.Instr.TheVariants.{Constant, Pop, Copy, Sink, Roll, LoadLocal, StoreLocal, UnsetLocal, LoadGlobal, StoreGlobal, UnsetGlobal, Text, Extend, Tuple, List as MakeList, Dict, AddPair, Not, Binary, InPlace, Compare, Index, Slice, Attribute, StoreIndex, Unpack}
use Rattle.py_code.specs.declared.instr.Instr.TheVariants.{Goto, IfFalse, IfTrue, And, Or, Link, Unless, Sequence, Mark, Again, Walk, Next as NextItem, Method, Call, Return, Function, FunctionWith, Import, Module as LoadModule, Take}
use Rattle.py_code.specs.declared.instr.Instr.TheVariants.{Raise, Reraise, Assertion, AssertionWith, Catches, Caught, Uncaught, Leave, Ending, Breaking, Continuing, Returning, Settle, Release}
use Rattle.py_code.specs.Configurations.{Way, on, by_break, by_continue, by_return, by_raise, Operand, of_value, of_walk, of_way, Locals, Frame, Effects, Configuration, Next}
use Rattle.py_code.specs.Machine.{told, with_effects, with_operands, answers, pushes_answer, pushes_text, pushes_truth, makes, stores, falls, jumps, one, give, enter, calls, Reach, at_once, in_frame, code_of, to_function, with_arguments, by_answer, reach, reach_callee, runs_module, imports, looks_in, spreads, pushes, stepping, dropping, begins, turns, raises, marks, resumes, links, act, heap_of, escapes, throw, callers_rank}
use Rattle.py_code.specs.Operands.{operand_of, walk_in, callee_in, value_in}
use Rattle.py_code.specs.Run.{Goes}
use Rattle.py_code.specs.Units.{Code, Module, units_of, unit_at, places_of, handler_of, number_from, imported_number}
use Rattle.py_code.specs.Valid.{Leads, LandsAt, FitsAt, AreValid}
use Rattle.py_code.proofs.Standing.{Fine, AllWait, goes_to, rises}
use Rattle.py_code.proofs.Forms.{found_at, on_one, on_two, on_three, on_dropped, on_many, on_number, on_truth, on_step, on_answer}
use Rattle.py_builtins.specs.Callees.{Callee, a_value, a_method}

-- a frame that a call leads to has a unit
abbrev pub Inside : List Module → Reach → Type 0
Inside ms (at_once r e) = Unit {0}
Inside ms (in_frame code vs) = (u : Code) × (unit_at ms code ≡ Some u) × (length vs ≤ length u.params)

-- as many values as there are parameters
arguments_fit : (params : List (List ℕ)) (defaults vs ws : List PlainValue) → arguments params defaults vs ≡ Some ws → length ws ≤ length params
arguments_fit params defaults vs ws e = by_case (nat_le (length params) (length vs + length defaults)) (nat_le (length vs) (length params)) refl refl e
  where
    by_case : (a b : Bool) → nat_le (length params) (length vs + length defaults) ≡ a → nat_le (length vs) (length params) ≡ b
        → (if a && b then Some (vs ++ drop (length vs + length defaults - length params) defaults) else None) ≡ Some ws → length ws ≤ length params
    by_case true true f g h =
        let both = length-append vs (drop (length vs + length defaults - length params) defaults) in
        let cut = length-drop (length vs + length defaults - length params) defaults in
        let same : length ws ≡ length (vs ++ drop (length vs + length defaults - length params) defaults) = cc in
        grind (arith, nat_tests)
    by_case true false f g h = absurd cc
    by_case false b f g h = absurd cc

arguments_inside : (ms : List Module) (f : FuncId) (u : Code) → unit_at ms (code_of f) ≡ Some u → (o : Option (List PlainValue)) (e : Effects)
    → ((ws : List PlainValue) → o ≡ Some ws → length ws ≤ length u.params) → Inside ms (with_arguments f o e)
arguments_inside ms f u is None e h = tt
arguments_inside ms f u is (Some vs) e h = (u, is, h vs refl)

function_inside : (ms : List Module) (o : Option Code) (f : FuncId) (a : Option ℕ) (vs : List PlainValue) (e : Effects) → unit_at ms (code_of f) ≡ o → Inside ms (to_function o f a vs e)
function_inside ms None f a vs e is = tt
function_inside ms (Some u) f a vs e is =
    arguments_inside ms f u is (arguments u.params (defaults_at e.world.heap a) vs) e (λ ws h. arguments_fit u.params (defaults_at e.world.heap a) vs ws h)

answer_inside : (ms : List Module) (r : Answer) (e : Effects) → Inside ms (by_answer r e)
answer_inside ms (Ok r) e = tt
answer_inside ms (Err raised) e = tt

pub reach_inside : (ms : List Module) (v : PlainValue) (vs : List PlainValue) (e : Effects) → Inside ms (reach ms v vs e)
reach_inside ms none_value vs e = tt
reach_inside ms (bool_value b) vs e = tt
reach_inside ms (int_value n) vs e = tt
reach_inside ms (str_value s) vs e = tt
reach_inside ms (tuple_value items) vs e = tt
reach_inside ms (list_at a) vs e = tt
reach_inside ms (dict_at a) vs e = tt
reach_inside ms (func_value f a) vs e = function_inside ms (unit_at ms (code_of f)) f a vs e refl
reach_inside ms (module_value m) vs e = tt
reach_inside ms (kind_value kind) vs e = tt
reach_inside ms (exc_value kind arg) vs e = tt
reach_inside ms (builtin_value which) vs e =
    let d = builtin_of which vs e.world.heap e.input in answer_inside ms d.answer (record e { input = d.left; out = e.out ++ d.written })

pub callee_inside : (ms : List Module) (f : Callee) (vs : List PlainValue) (e : Effects) → Inside ms (reach_callee ms f vs e)
callee_inside ms (a_value v) vs e = reach_inside ms v vs e
callee_inside ms (a_method m v) vs e = answer_inside ms (method_of m v vs e.world.heap) e

-- the number of a module that was found
first_inside : (b : Bool) (n m l : ℕ) (o : Option ℕ) → (o ≡ Some m → m < suc n + l) → (if b then Some n else o) ≡ Some m → m < n + suc l
first_inside true n m l o h e = let same : n ≡ m = cc in omega arith
first_inside false n m l o h e = let le = h e in omega arith

number_inside : (n : ℕ) (ms : List Module) (x : List ℕ) (m : ℕ) → number_from n ms x ≡ Some m → m < n + length ms
unfolding number_from
number_inside n [] x m e = cc
number_inside n (k ∷ ms) x m e = first_inside (is_same_text x k.name) n m (length ms) (number_from (suc n) ms x) (number_inside (suc n) ms x m) e

imported_inside : (ms : List Module) (x : List ℕ) (m : ℕ) → imported_number ms x ≡ Some m → m < length ms
imported_inside [] x m e = cc
imported_inside (k ∷ ms) x m e = let le = number_inside 1 ms x m e in omega arith

module _ {L : Type 0} (locals : Locals L) (ms : List Module) (depths : CodeId → List ℕ) (valid : AreValid ms depths) (c : Configuration L)
    (u : Code) (is : unit_at ms c.top.code ≡ Some u) (here : c.top.place < length (places_of ms c.top.code)) (waiting : AllWait locals ms depths valid c.callers) where
  abbrev Goal : Next L → Type 0
  Goal n = Fine locals ms depths valid c n

  abbrev LandsWith : ℕ → Type 0
  LandsWith rest = LandsAt (depths c.top.code) c.top.place rest (handler_of c.top.place u.handlers)

  lands_as : (m n : ℕ) → m ≡ n → LandsWith m → LandsWith n
  lands_as m n e k = subst LandsWith e k

  go : {to : ℕ} {xs : List Operand} {l : L} {e : Effects} {n : ℕ} → Leads u (depths c.top.code) c.top.place to n → n ≡ length xs
      → Goal (Goes (record {
        top = record { code = c.top.code; place = to; operands = xs; locals = l; line = c.top.line; depth = c.top.depth };
        callers = c.callers;
        steps = c.steps;
        effects = e;
      }))
  go {to} {xs} {l} {e} {n} leads same = goes_to locals ms depths valid c u is here waiting to xs l e n leads same

  rise : (e : PlainRaised) (t : Bool) (xs : List Operand) (w : Effects) (rest : ℕ) → LandsWith rest → rest ≤ length xs → Goal (escapes locals ms e t (with_effects w (with_operands xs c)))
  rise e t xs w rest k le = rises locals ms depths valid c u is here waiting e t xs c.top.locals w rest k le

  fling : (e : PlainRaised) (xs : List Operand) (rest : ℕ) → LandsWith rest → rest ≤ length xs → Goal (throw locals ms e (with_operands xs c))
  fling e xs rest k le = rise e true xs (told (Throw e.kind) c.effects) rest k le

  ans : {A : Type 0} (r : Result A PlainRaised) (xs : List Operand) (e : Effects) (k : A → Next L) (rest : ℕ) → LandsWith rest → rest ≤ length xs → ((a : A) → Goal (k a)) → Goal (answers locals ms r xs (with_effects e c) k)
  ans r xs e k rest lands le h = on_answer locals ms depths valid c u is here waiting r xs c.top.locals e k rest lands le h

  -- what waits for a value goes on with it
  gives : (v : PlainValue) (fs : List (Frame L)) (e : Effects) → AllWait locals ms depths valid fs → callers_rank locals ms fs ≤ callers_rank locals ms c.callers → Goal (give locals ms v fs c.steps e)
  gives v [] e all le = record { holds = tt }
  gives v (f ∷ fs) e all le = record { holds = (record { top = record { unit = all.0.unit; is = all.0.is; stands = all.0.back }; callers = all.1 }, refl, inl (omega arith)) }

  enters : (code : CodeId) (vs : List PlainValue) (xs : List Operand) → ((v : Code) × (unit_at ms code ≡ Some v))
      → slice_get (depths c.top.code) (suc c.top.place) ≡ Some (suc (length xs)) → LandsWith (length xs) → Goal (enter locals ms code vs xs c)
  enters code vs xs found back lands = by_case (nat_lt c.top.depth most_frames)
    where
      by_case : (b : Bool)
          → Goal (if b then stepping c.steps c (λ n. begins locals ms code vs (record c.top { operands = xs }) c n) else throw locals ms (raised_by TooDeep) (with_operands xs c))
      by_case true =
          on_step locals ms depths valid c c.steps _ refl (λ m e. record {
            holds = (
              record {
                top = record { unit = found.0; is = found.1; stands = (valid.units code found.0 found.1).begins };
                callers = (record { unit = u; is = is; back = back; lands = lands }, waiting);
              },
              e,
              omega arith,
            );
          })
      by_case false = fling (raised_by TooDeep) xs (length xs) lands (omega arith)

  called : (r : Reach) (xs : List Operand) → Inside ms r → Leads u (depths c.top.code) c.top.place (suc c.top.place) (suc (length xs)) → LandsWith (length xs) → Goal (calls locals ms r xs c)
  called (at_once r e) xs h leads lands = ans r xs e _ (length xs) lands (omega arith) (λ v. go leads refl)
  called (in_frame code vs) xs h leads lands = enters code vs xs (h.0, h.1) leads.stands lands

  raised : (v : PlainValue) (xs : List Operand) → LandsWith (length xs) → Goal (raises locals ms v (with_operands xs c))
  raised none_value xs k = fling _ xs (length xs) k (omega arith)
  raised (bool_value b) xs k = fling _ xs (length xs) k (omega arith)
  raised (int_value n) xs k = fling _ xs (length xs) k (omega arith)
  raised (str_value s) xs k = fling _ xs (length xs) k (omega arith)
  raised (tuple_value items) xs k = fling _ xs (length xs) k (omega arith)
  raised (list_at a) xs k = fling _ xs (length xs) k (omega arith)
  raised (dict_at a) xs k = fling _ xs (length xs) k (omega arith)
  raised (func_value f a) xs k = fling _ xs (length xs) k (omega arith)
  raised (module_value m) xs k = fling _ xs (length xs) k (omega arith)
  raised (kind_value kind) xs k = rise _ false xs c.effects (length xs) k (omega arith)
  raised (exc_value kind arg) xs k = rise _ false xs c.effects (length xs) k (omega arith)
  raised (builtin_value which) xs k = fling _ xs (length xs) k (omega arith)

  -- an import
  module_runs : (x : List ℕ) (o : Option ℕ) → imported_number ms x ≡ o → Leads u (depths c.top.code) c.top.place (suc c.top.place) (suc (length c.top.operands)) → LandsWith (length c.top.operands)
      → Goal (runs_module locals ms x o c)
  module_runs x None e leads lands = fling _ c.top.operands (length c.top.operands) lands (omega arith)
  module_runs x (Some m) e leads lands = by_case (is_begun m c.effects.world)
    where
      found : (k : Module) × (slice_get ms m ≡ Some k)
      found = found_at ms m (imported_inside ms x m e)

      body : (v : Code) × (slice_get found.0.units 0 ≡ Some v)
      body = found_at found.0.units 0 (valid.bodies m found.0 found.1)

      by_case : (b : Bool) → Goal (if b then pushes none_value c.top.operands c else enter locals ms (record { «module» = m; unit = 0 }) [] c.top.operands c)
      by_case true = go leads refl
      by_case false = enters (record { «module» = m; unit = 0 }) [] c.top.operands (body.0, ap (λ o. slice_get (units_of o) 0) found.1 ∙ body.1) leads.stands lands

  imported : (x : List ℕ) → Leads u (depths c.top.code) c.top.place (suc c.top.place) (suc (length c.top.operands)) → LandsWith (length c.top.operands) → Goal (imports locals ms x c)
  imported x leads lands = by_case (is_same_text x (codes "sys"))
    where
      by_case : (b : Bool) → Goal (if b then pushes none_value c.top.operands c else runs_module locals ms x (imported_number ms x) c)
      by_case true = go leads refl
      by_case false = module_runs x (imported_number ms x) refl leads lands

  -- the way out on top
  resumed : (settled : Bool) (w : Way) (xs : List Operand) → Leads u (depths c.top.code) c.top.place (4 + c.top.place) (length xs)
      → Leads u (depths c.top.code) c.top.place (1 + c.top.place) (length xs) → Leads u (depths c.top.code) c.top.place (2 + c.top.place) (length xs)
      → Leads u (depths c.top.code) c.top.place (3 + c.top.place) (suc (length xs)) → LandsWith (length xs) → Goal (resumes locals ms settled w xs c)
  resumed settled on xs h j k l lands = go h refl
  resumed settled by_break xs h j k l lands = go j refl
  resumed settled by_continue xs h j k l lands = go k refl
  resumed settled (by_return v) xs h j k l lands = go l refl
  resumed settled (by_raise e t) xs h j k l lands = by_case (settled && t)
    where
      by_case : (b : Bool) → Goal (if b then throw locals ms e (with_operands xs c) else escapes locals ms e t (with_operands xs c))
      by_case true = fling e xs (length xs) lands (omega arith)
      by_case false = rise e t xs c.effects (length xs) lands (omega arith)

  looked : (o : Option (List PlainValue)) (k n to : ℕ) (xs : List Operand) → n ≤ length xs → Leads u (depths c.top.code) c.top.place (suc c.top.place) (k + length xs)
      → Leads u (depths c.top.code) c.top.place to (length xs - n) → Goal (looks_in locals ms (of_length k o) n to xs c)
  looked None k n to xs le h j = on_dropped locals ms depths valid c n xs (λ ys. jumps to ys c) le (λ ys e. go {xs = ys} j (omega arith))
  looked (Some vs) k n to xs le h j = by_case (nat_eq (length vs) k) refl
    where
      by_case : (b : Bool) → nat_eq (length vs) k ≡ b → Goal (looks_in locals ms (if b then Some vs else None) n to xs c)
      by_case true e = let long = length-map vs of_value in let both = length-append (map of_value vs) xs in go {xs = map of_value vs ++ xs} h (grind (arith, nat_tests))
      by_case false e = on_dropped locals ms depths valid c n xs (λ ys. jumps to ys c) le (λ ys e. go {xs = ys} j (omega arith))

  turned : (o : Option PlainValue) (v : PlainValue) (n i to : ℕ) (xs : List Operand) → Leads u (depths c.top.code) c.top.place (suc c.top.place) (suc (suc (length xs)))
      → Leads u (depths c.top.code) c.top.place to (length xs) → Goal (turns locals ms o v n i to xs c)
  turned None v n i to xs h j = go j refl
  turned (Some x) v n i to xs h j = go h refl

  linked : (b : Bool) (w : Operand) (to : ℕ) (xs : List Operand) → Leads u (depths c.top.code) c.top.place (suc c.top.place) (suc (length xs))
      → Leads u (depths c.top.code) c.top.place to (suc (length xs)) → Goal (links locals ms b w to xs c)
  linked true w to xs h j = go h refl
  linked false w to xs h j = go j refl

  marked : (l : ℕ) (e : Effects) → Leads u (depths c.top.code) c.top.place (suc c.top.place) (length c.top.operands) → Goal (marks locals ms l e c)
  marked l e leads =
      on_step locals ms depths valid c c.steps _ refl (λ m s. record { holds = (record { top = record { unit = u; is = is; stands = leads.stands }; callers = waiting }, s, omega arith) })

  leads_as : {to m n : ℕ} → Leads u (depths c.top.code) c.top.place to m → m ≡ n → Leads u (depths c.top.code) c.top.place to n
  leads_as {to} {m} {n} k e = subst (λ d. Leads u (depths c.top.code) c.top.place to d) e k

  values : (r : Result PlainValue PlainRaised) (xs : List Operand) (rest : ℕ) → LandsWith rest → rest ≤ length xs
      → Leads u (depths c.top.code) c.top.place (suc c.top.place) (suc (length xs)) → Goal (pushes_answer locals ms r xs c)
  values (Ok v) xs rest lands le leads = go leads refl
  values (Err e) xs rest lands le leads = fling e xs rest lands le

  texts : (r : Result (List ℕ) PlainRaised) (xs : List Operand) (rest : ℕ) → LandsWith rest → rest ≤ length xs
      → Leads u (depths c.top.code) c.top.place (suc c.top.place) (suc (length xs)) → Goal (pushes_text locals ms r xs c)
  texts (Ok x) xs rest lands le leads = go leads refl
  texts (Err e) xs rest lands le leads = fling e xs rest lands le

  truths : (r : Result Bool PlainRaised) (xs : List Operand) (rest : ℕ) → LandsWith rest → rest ≤ length xs
      → Leads u (depths c.top.code) c.top.place (suc c.top.place) (suc (length xs)) → Goal (pushes_truth locals ms r xs c)
  truths (Ok b) xs rest lands le leads = go leads refl
  truths (Err e) xs rest lands le leads = fling e xs rest lands le

  made : (r : Answer) (xs : List Operand) (rest : ℕ) → LandsWith rest → rest ≤ length xs
      → Leads u (depths c.top.code) c.top.place (suc c.top.place) (suc (length xs)) → Goal (makes locals ms r xs c)
  made (Ok p) xs rest lands le leads = go leads refl
  made (Err e) xs rest lands le leads = fling e xs rest lands le

  put : (r : Result (Unit {0} × PlainHeap) PlainRaised) (xs ys : List Operand) (rest : ℕ) → LandsWith rest → rest ≤ length xs
      → Leads u (depths c.top.code) c.top.place (suc c.top.place) (length ys) → Goal (stores locals ms r xs ys c)
  put (Ok p) xs ys rest lands le leads = go leads refl
  put (Err e) xs ys rest lands le leads = fling e xs rest lands le

  begun : (r : Result ℕ PlainRaised) (v : PlainValue) (xs : List Operand) (rest : ℕ) → LandsWith rest → rest ≤ length xs
      → Leads u (depths c.top.code) c.top.place (suc c.top.place) (suc (length xs)) → Goal (answers locals ms r xs c (λ n. falls (of_walk v n 0 ∷ xs) c))
  begun (Ok n) v xs rest lands le leads = go leads refl
  begun (Err e) v xs rest lands le leads = fling e xs rest lands le

  taken_on : (r : Result Callee PlainRaised) (xs : List Operand) (rest : ℕ) → LandsWith rest → rest ≤ length xs
      → Leads u (depths c.top.code) c.top.place (suc c.top.place) (suc (length xs)) → Goal (answers locals ms r xs c (λ f. falls (operand_of f ∷ xs) c))
  taken_on (Ok f) xs rest lands le leads = go leads refl
  taken_on (Err e) xs rest lands le leads = fling e xs rest lands le

  next_turn : (r : Result (Option PlainValue) PlainRaised) (w : PlainValue × ℕ × ℕ) (to : ℕ) (xs : List Operand) (rest : ℕ) → LandsWith rest → rest ≤ length xs
      → Leads u (depths c.top.code) c.top.place (suc c.top.place) (suc (suc (length xs))) → Leads u (depths c.top.code) c.top.place to (length xs)
      → Goal (answers locals ms r xs c (λ x. turns locals ms x w.0 w.1 w.2 to xs c))
  next_turn (Ok o) w to xs rest lands le h j = turned o w.0 w.1 w.2 to xs h j
  next_turn (Err e) w to xs rest lands le h j = fling e xs rest lands le

  next_link : (r : Result Bool PlainRaised) (y : Operand) (to : ℕ) (xs : List Operand) (rest : ℕ) → LandsWith rest → rest ≤ length xs
      → Leads u (depths c.top.code) c.top.place (suc c.top.place) (suc (length xs)) → Leads u (depths c.top.code) c.top.place to (suc (length xs))
      → Goal (answers locals ms r xs c (λ b. links locals ms b y to xs c))
  next_link (Ok b) y to xs rest lands le h j = linked b y to xs h j
  next_link (Err e) y to xs rest lands le h j = fling e xs rest lands le

  asserted : (r : Result PlainRaised PlainRaised) (xs : List Operand) (rest : ℕ) → LandsWith rest → rest ≤ length xs → Goal (answers locals ms r xs c (λ e. throw locals ms e (with_operands xs c)))
  asserted (Ok e) xs rest lands le = fling e xs rest lands le
  asserted (Err e) xs rest lands le = fling e xs rest lands le

  spread : (n : ℕ) (v : PlainValue) (xs : List Operand) (rest : ℕ) → LandsWith rest → rest ≤ length xs → Leads u (depths c.top.code) c.top.place (suc c.top.place) (n + length xs)
      → Goal (answers locals ms (unpacked n v (heap_of c)) xs c (λ vs. spreads locals ms vs xs c))
  spread n v xs rest lands le leads = by_items (items_in v (heap_of c))
    where
      by_case : (vs : List PlainValue) (b : Bool) → nat_eq (length vs) n ≡ b
          → Goal (answers locals ms (if b then Ok vs else Err (raised_by WrongValueCount)) xs c (λ ws. spreads locals ms ws xs c))
      by_case vs true e = let long = length-map vs of_value in let both = length-append (map of_value vs) xs in go {xs = map of_value vs ++ xs} leads (grind (arith, nat_tests))
      by_case vs false e = fling _ xs rest lands le

      by_items : (r : Result (List PlainValue) PlainRaised)
          → Goal (answers locals ms (r >>= λ vs. if nat_eq (length vs) n then Ok vs else Err (raised_by WrongValueCount)) xs c (λ ws. spreads locals ms ws xs c))
      by_items (Ok vs) = by_case vs (nat_eq (length vs) n) refl
      by_items (Err e) = fling e xs rest lands le

  -- an instruction, on the operands that are there
  pub fine : (i : Instr) (units : ℕ) (xs : List Operand) → c.top.operands ≡ xs → FitsAt u units (depths c.top.code) c.top.place (length xs) i → Goal (act locals ms u i xs c)
  fine (Constant n) units xs s f = on_number locals ms depths valid c u.constants n _ f.numbers (λ k. go f.leads.0 (omega arith))
  fine Pop units xs s f = on_one locals ms depths valid c xs _ f.enough (λ x ys e. go f.leads.0 (omega arith))
  fine (Copy n) units xs s f = on_number locals ms depths valid c xs n _ f.enough (λ x. let le = f.enough in go f.leads.0 (omega arith))
  fine (Sink n) units xs s f =
      on_one locals ms depths valid c xs _ (let le = f.enough in omega arith) (λ x ys e. let le = f.enough in
      on_dropped locals ms depths valid c n ys (λ zs. falls (take n ys ++ x ∷ zs) c) (omega arith) (λ zs d.
      let front = length-take-le n ys (omega arith) in let both = length-append (take n ys) (x ∷ zs) in go {xs = take n ys ++ x ∷ zs} f.leads.0 (omega arith)))
  fine (Roll n) units xs s f =
      on_number locals ms depths valid c xs n _ f.enough (λ x. let le = f.enough in let rest = length-remove xs n le in go f.leads.0 (omega arith))
  fine (LoadLocal n) units xs s f = on_number locals ms depths valid c u.locals n _ f.numbers (λ x. values _ xs (length xs - 0) f.lands (omega arith) (leads_as f.leads.0 (omega arith)))
  fine (StoreLocal n) units xs s f =
      on_number locals ms depths valid c u.locals n _ f.numbers (λ name. on_one locals ms depths valid c xs _ f.enough (λ x ys e. go f.leads.0 (omega arith)))
  fine (UnsetLocal n) units xs s f = on_number locals ms depths valid c u.locals n _ f.numbers (λ name. go f.leads.0 (omega arith))
  fine (LoadGlobal n) units xs s f = on_number locals ms depths valid c u.names n _ f.numbers (λ x. values _ xs (length xs - 0) f.lands (omega arith) (leads_as f.leads.0 (omega arith)))
  fine (StoreGlobal n) units xs s f =
      on_number locals ms depths valid c u.names n _ f.numbers (λ name. on_one locals ms depths valid c xs _ f.enough (λ x ys e. go f.leads.0 (omega arith)))
  fine (UnsetGlobal n) units xs s f = on_number locals ms depths valid c u.names n _ f.numbers (λ name. go f.leads.0 (omega arith))
  fine Text units xs s f = on_one locals ms depths valid c xs _ f.enough (λ x ys e. texts _ ys (length xs - 1) f.lands (omega arith) (leads_as f.leads.0 (omega arith)))
  fine Extend units xs s f = on_two locals ms depths valid c xs _ f.enough (λ x y ys e. texts _ ys (length xs - 2) f.lands (omega arith) (leads_as f.leads.0 (omega arith)))
  fine (Tuple n) units xs s f =
      on_many locals ms depths valid c n xs (λ vs ys. pushes_answer locals ms (new_tuple vs) ys c) f.enough (λ vs ys e. values (new_tuple vs) ys (length xs - n) f.lands (omega arith) (leads_as f.leads.0 (omega arith)))
  fine (MakeList n) units xs s f =
      on_many locals ms depths valid c n xs (λ vs ys. makes locals ms (new_list vs (heap_of c)) ys c) f.enough (λ vs ys e. made (new_list vs (heap_of c)) ys (length xs - n) f.lands (omega arith) (leads_as f.leads.0 (omega arith)))
  fine Dict units xs s f = go f.leads.0 (omega arith)
  fine AddPair units xs s f = on_three locals ms depths valid c xs _ f.enough (λ d k v ys e. put _ ys (d ∷ ys) (length xs - 3) f.lands (omega arith) (leads_as f.leads.0 (omega arith)))
  fine Not units xs s f = on_one locals ms depths valid c xs _ f.enough (λ x ys e. on_truth locals ms depths valid c (value_in x) (pushes (bool_value false) ys c) (pushes (bool_value true) ys c) (go f.leads.0 (omega arith)) (go f.leads.0 (omega arith)))
  fine (Binary op) units xs s f = on_two locals ms depths valid c xs _ f.enough (λ x y ys e. made _ ys (length xs - 2) f.lands (omega arith) (leads_as f.leads.0 (omega arith)))
  fine (InPlace op) units xs s f = on_two locals ms depths valid c xs _ f.enough (λ x y ys e. made _ ys (length xs - 2) f.lands (omega arith) (leads_as f.leads.0 (omega arith)))
  fine (Compare q) units xs s f = on_two locals ms depths valid c xs _ f.enough (λ x y ys e. truths _ ys (length xs - 2) f.lands (omega arith) (leads_as f.leads.0 (omega arith)))
  fine Index units xs s f = on_two locals ms depths valid c xs _ f.enough (λ x y ys e. values _ ys (length xs - 2) f.lands (omega arith) (leads_as f.leads.0 (omega arith)))
  fine (Slice Neither) units xs s f = on_one locals ms depths valid c xs _ f.enough (λ x ys e. made _ ys (length xs - 1) f.lands (omega arith) (leads_as f.leads.0 (omega arith)))
  fine (Slice From) units xs s f = on_two locals ms depths valid c xs _ f.enough (λ x y ys e. made _ ys (length xs - 2) f.lands (omega arith) (leads_as f.leads.0 (omega arith)))
  fine (Slice To) units xs s f = on_two locals ms depths valid c xs _ f.enough (λ x y ys e. made _ ys (length xs - 2) f.lands (omega arith) (leads_as f.leads.0 (omega arith)))
  fine (Slice Both) units xs s f = on_three locals ms depths valid c xs _ f.enough (λ x y z ys e. made _ ys (length xs - 3) f.lands (omega arith) (leads_as f.leads.0 (omega arith)))
  fine (Attribute n) units xs s f =
      on_number locals ms depths valid c u.names n _ f.numbers (λ name.
      on_one locals ms depths valid c xs _ f.enough (λ x ys e. values _ ys (length xs - 1) f.lands (omega arith) (leads_as f.leads.0 (omega arith))))
  fine StoreIndex units xs s f = on_three locals ms depths valid c xs _ f.enough (λ x y z ys e. put _ ys ys (length xs - 3) f.lands (omega arith) (leads_as f.leads.0 (omega arith)))
  fine (Unpack n) units xs s f = on_one locals ms depths valid c xs _ f.enough (λ x ys e. spread n (value_in x) ys (length xs - 1) f.lands (omega arith) (leads_as f.leads.0 (omega arith)))
  fine (Goto to) units xs s f = go f.leads.0 (omega arith)
  fine (IfFalse to) units xs s f =
      on_one locals ms depths valid c xs _ f.enough (λ x ys e. on_truth locals ms depths valid c (value_in x) (falls ys c) (jumps to ys c) (go f.leads.0 (omega arith)) (go f.leads.1.0 (omega arith)))
  fine (IfTrue to) units xs s f =
      on_one locals ms depths valid c xs _ f.enough (λ x ys e. on_truth locals ms depths valid c (value_in x) (jumps to ys c) (falls ys c) (go f.leads.1.0 (omega arith)) (go f.leads.0 (omega arith)))
  fine (And to) units xs s f =
      on_one locals ms depths valid c xs _ f.enough (λ x ys e. on_truth locals ms depths valid c (value_in x) (falls ys c) (jumps to xs c) (go f.leads.0 (omega arith)) (go f.leads.1.0 (omega arith)))
  fine (Or to) units xs s f =
      on_one locals ms depths valid c xs _ f.enough (λ x ys e. on_truth locals ms depths valid c (value_in x) (jumps to xs c) (falls ys c) (go f.leads.1.0 (omega arith)) (go f.leads.0 (omega arith)))
  fine (Link q to) units xs s f =
      on_two locals ms depths valid c xs _ f.enough (λ x y ys e. next_link _ y to ys (length xs - 2) f.lands (omega arith)
      (leads_as f.leads.0 (omega arith)) (leads_as f.leads.1.0 (omega arith)))
  fine (Unless n to) units xs s f =
      on_one locals ms depths valid c xs _ (let le = f.enough in omega arith) (λ x ys e. let le = f.enough in
      on_truth locals ms depths valid c (value_in x) (falls ys c) (dropping n ys c (λ zs. jumps to zs c)) (go f.leads.0 (omega arith)) (on_dropped locals ms depths valid c n ys (λ zs. jumps to zs c) (omega arith) (λ zs d. go f.leads.1.0 (omega arith))))
  fine (Sequence k n to) units xs s f =
      on_one locals ms depths valid c xs _ (let le = f.enough in omega arith) (λ x ys e. let le = f.enough in
      looked (sequence_items (value_in x) (heap_of c)) k n to ys (omega arith) (leads_as f.leads.0 (omega arith)) (leads_as f.leads.1.0 (omega arith)))
  fine (Mark n) units xs s f =
      let long = ap length s in on_number locals ms depths valid c u.lines n _ f.numbers (λ l. marked l _ (leads_as f.leads.0 (omega arith)))
  fine (Again n) units xs s f =
      let long = ap length s in on_number locals ms depths valid c u.lines n _ f.numbers (λ l. marked l _ (leads_as f.leads.0 (omega arith)))
  fine Walk units xs s f = on_one locals ms depths valid c xs _ f.enough (λ x ys e. begun _ _ ys (length xs - 1) f.lands (omega arith) (leads_as f.leads.0 (omega arith)))
  fine (NextItem to) units xs s f =
      on_one locals ms depths valid c xs _ f.enough (λ x ys e. next_turn _ (walk_in x) to ys (length xs - 1) f.lands (omega arith)
      (leads_as f.leads.0 (omega arith)) (leads_as f.leads.1.0 (omega arith)))
  fine (Method n) units xs s f =
      on_number locals ms depths valid c u.names n _ f.numbers (λ name.
      on_one locals ms depths valid c xs _ f.enough (λ x ys e. taken_on _ ys (length xs - 1) f.lands (omega arith) (leads_as f.leads.0 (omega arith))))
  fine (Call n) units xs s f =
      let le = f.enough in
      on_many locals ms depths valid c n xs (λ vs ys. one ys c (λ x zs. calls locals ms (reach_callee ms (callee_in x) vs c.effects) zs c)) (omega arith) (λ vs ys e.
      on_one locals ms depths valid c ys (λ x zs. calls locals ms (reach_callee ms (callee_in x) vs c.effects) zs c) (omega arith) (λ x zs d.
      called (reach_callee ms (callee_in x) vs c.effects) zs (callee_inside ms (callee_in x) vs c.effects) (leads_as f.leads.0 (omega arith)) (lands_as (length xs - suc n) (length zs) (omega arith) f.lands)))
  fine Return units xs s f = on_one locals ms depths valid c xs _ f.enough (λ x ys e. gives _ c.callers c.effects waiting (omega arith))
  fine (Function k) units xs s f = go f.leads.0 (omega arith)
  fine (FunctionWith k) units xs s f = on_one locals ms depths valid c xs _ f.enough (λ x ys e. go f.leads.0 (omega arith))
  fine (Import n) units xs s f =
      let long = ap length s in
      on_number locals ms depths valid c u.names n _ f.numbers (λ name.
      imported name (leads_as f.leads.0 (omega arith)) (lands_as (length xs - 0) (length c.top.operands) (omega arith) f.lands))
  fine (LoadModule n) units xs s f = on_number locals ms depths valid c u.names n _ f.numbers (λ name. values _ xs (length xs - 0) f.lands (omega arith) (leads_as f.leads.0 (omega arith)))
  fine (Take m n) units xs s f =
      on_number locals ms depths valid c u.names m _ f.numbers.0 (λ from.
      on_number locals ms depths valid c u.names n _ f.numbers.1 (λ name.
      on_one locals ms depths valid c xs _ f.enough (λ x ys e. values _ xs (length xs - 1) f.lands (omega arith) (leads_as f.leads.0 (omega arith)))))
  fine Raise units xs s f = on_one locals ms depths valid c xs _ f.enough (λ x ys e. raised (value_in x) ys (lands_as (length xs - 1) (length ys) (omega arith) f.lands))
  fine (Reraise n) units xs s f =
      let long = ap length s in
      on_number locals ms depths valid c xs n _ f.enough (λ x. rise _ false c.top.operands c.effects (length xs - 0) f.lands (omega arith))
  fine Assertion units xs s f = let long = ap length s in fling _ c.top.operands (length xs - 0) f.lands (omega arith)
  fine AssertionWith units xs s f =
      on_one locals ms depths valid c xs _ f.enough (λ x ys e. asserted _ ys (length xs - 1) f.lands (omega arith))
  fine Catches units xs s f = on_two locals ms depths valid c xs _ f.enough (λ x y ys e. truths _ (x ∷ ys) (length xs - 2) f.lands (omega arith) (leads_as f.leads.0 (omega arith)))
  fine Caught units xs s f = on_one locals ms depths valid c xs _ f.enough (λ x ys e. go f.leads.0 (omega arith))
  fine Uncaught units xs s f = on_one locals ms depths valid c xs _ f.enough (λ x ys e. fling _ ys (length xs - 1) f.lands (omega arith))
  fine (Leave n to) units xs s f = on_dropped locals ms depths valid c n xs (λ ys. jumps to ys c) f.enough (λ ys e. go {xs = ys} f.leads.0 (omega arith))
  fine Ending units xs s f = go f.leads.0 (omega arith)
  fine (Breaking n to) units xs s f = on_dropped locals ms depths valid c n xs (λ ys. jumps to (of_way by_break ∷ ys) c) f.enough (λ ys e. go {xs = of_way by_break ∷ ys} f.leads.0 (omega arith))
  fine (Continuing n to) units xs s f = on_dropped locals ms depths valid c n xs (λ ys. jumps to (of_way by_continue ∷ ys) c) f.enough (λ ys e. go {xs = of_way by_continue ∷ ys} f.leads.0 (omega arith))
  fine (Returning n to) units xs s f =
      on_one locals ms depths valid c xs _ (let le = f.enough in omega arith) (λ x ys e. let le = f.enough in
      on_dropped locals ms depths valid c n ys (λ zs. jumps to (of_way (by_return (value_in x)) ∷ zs) c) (omega arith) (λ zs d. go {xs = of_way (by_return (value_in x)) ∷ zs} f.leads.0 (omega arith)))
  fine Settle units xs s f = on_one locals ms depths valid c xs _ f.enough (λ x ys e. resumed true _ ys
      (leads_as f.leads.0 (omega arith)) (leads_as f.leads.1.0 (omega arith)) (leads_as f.leads.1.1.0 (omega arith)) (leads_as f.leads.1.1.1.0 (omega arith))
      (lands_as (length xs - 1) (length ys) (omega arith) f.lands))
  fine Release units xs s f = on_one locals ms depths valid c xs _ f.enough (λ x ys e. resumed false _ ys
      (leads_as f.leads.0 (omega arith)) (leads_as f.leads.1.0 (omega arith)) (leads_as f.leads.1.1.0 (omega arith)) (leads_as f.leads.1.1.1.0 (omega arith))
      (lands_as (length xs - 1) (length ys) (omega arith) f.lands))
