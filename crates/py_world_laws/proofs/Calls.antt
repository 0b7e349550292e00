-- Calls and imports: frames that begin, and answers at once.
use Rattle.std.proofs.Common.{◌≡◌, ℕ, zero, suc, ◌+◌, ◌-◌, ◌≤◌, List, [], ◌∷◌, ◌++◌, length, drop, Option, Some, None, refl, arith}
use Rattle.std.specs.Prelude.{slice_get, nat_lt, nat_le, ◌&&◌, Result, Ok, Err, codes}
use Rattle.cov_event.specs.declared.event.CodeId.{CodeId}
use Rattle.py_value.specs.declared.cause.Cause.TheVariants.{TooDeep}
use Rattle.py_value.specs.declared.value.FuncId.{FuncId}
use Rattle.py_value.specs.Causes.{raised_by}
use Rattle.py_text.specs.Comparison.{is_same_text}
use Rattle.py_value.specs.Plain.{PlainValue, none_value, bool_value, int_value, str_value, tuple_value, list_at, dict_at, func_value, module_value, kind_value, exc_value, builtin_value, PlainRaised}
use Rattle.py_builtins.specs.Arguments.{Answer}
use Rattle.py_builtins.specs.Builtins.{builtin_of, exception_of}
use Rattle.py_builtins.specs.Callees.{Callee, a_value, a_method}
use Rattle.py_builtins.specs.Methods.{method_of}
use Rattle.py_builtins.specs.Parameters.{most_frames, arguments, defaults_at}
use Rattle.py_builtins.specs.World.{World, is_begun, first_names}
use Rattle.py_code.specs.declared.instr.Instr.{Instr}
use Rattle.py_code.specs.declared.instr.Instr.TheVariants.{FunctionWith}
use Rattle.py_code.specs.Configurations.{Operand, Effects, Configuration}
use Rattle.py_code.specs.Footprints.{footprint}
use Rattle.py_code.specs.Machine.{with_operands, with_effects, entered, begun_by, name_at, Reach, at_once, in_frame, code_of, with_arguments, to_function, by_answer, reach, reach_callee, begins, enter, calls, runs_module, imports}
use Rattle.py_code.specs.Slots.{by_slots, locals_in}
use Rattle.py_code.specs.Units.{Code, Module, units_of, unit_at, places_in, imported_number}
use Rattle.py_code.specs.Valid.{IsValid, AreCodes}
use Rattle.py_world_laws.specs.Making.{made_with, AreMakers}
use Rattle.py_world_laws.specs.Suits.{Environment, Suits, Suit, SuitAll, WorldSuits, Widens}
use Rattle.py_world_laws.specs.Frames.{Slots, OperandsSuit, SlotsSuit, made_at}
use Rattle.py_world_laws.proofs.Values.{either, all_append, all_drop}
use Rattle.py_world_laws.proofs.Heaps.{widens_same, wider_globals, wider_other}
use Rattle.py_world_laws.proofs.Objects.{list_suits}
use Rattle.py_world_laws.proofs.Methods.{method_suits}
use Rattle.py_world_laws.proofs.Builtins.{builtin_suits, exception_suits}
use Rattle.py_world_laws.proofs.Names.{CalleeSuits, names_changed}
use Rattle.py_world_laws.proofs.Operands.{slots_fresh, wider_operands, wider_slots, wider_frames}
use Rattle.py_world_laws.proofs.Results.{ResultSuits, AnswerSuits}
use Rattle.py_world_laws.proofs.Exceptions.{Keeps, Calm, ready_else, fling}
use Rattle.py_world_laws.proofs.Forms.{on_step, answer_pushed, pushed}

-- the unit is valid with some numbers of operands
pub valid_unit : (ms : List Module) → AreCodes ms → (m k : ℕ) (u : Code) → slice_get (units_of (slice_get ms m)) k ≡ Some u → (depths : List ℕ) × IsValid u (length (units_of (slice_get ms m))) depths
valid_unit [] h m k u e = absurd cc
valid_unit (x ∷ xs) h zero k u e = (h.0.0 k, h.0.1.units k u e)
valid_unit (x ∷ xs) h (suc m) k u e = valid_unit xs h.1 m k u e

-- where a frame begins there is no operand, so no list of defaults
not_first : (i : Instr) → (footprint 0 i).needs ≤ 0 → made_with (Some i) ≡ None
not_first (FunctionWith k) le = absurd (omega arith)
not_first other le = refl

first_in : (u : Code) (units : ℕ) (depths : List ℕ) → IsValid u units depths → (o : Option Instr) → slice_get u.instrs 0 ≡ o → made_with o ≡ None
first_in u units depths valid None h = refl
first_in u units depths valid (Some i) h = not_first i (valid.fits 0 0 i valid.begins h).enough

module _ (ms : List Module) (codes_are : AreCodes ms) where
  first_of_unit : (code : CodeId) (o : Option Code) → unit_at ms code ≡ o → made_with (slice_get (places_in o) 0) ≡ None
  first_of_unit code None is = refl
  first_of_unit code (Some u) is = let v = valid_unit ms codes_are code.module code.unit u is in first_in u (length (units_of (slice_get ms code.module))) v.0 v.1 (slice_get u.instrs 0) refl

  pub first_free : (code : CodeId) → made_at ms code 0 ≡ None
  first_free code = first_of_unit code (unit_at ms code) refl

-- an answer at once, with what it has changed
pub record AtOnce (ms : List Module) (e : Environment) (r : Result PlainValue PlainRaised) (w : Effects) : Type 0 where
  pub env : Environment
  pub widens : Widens e env
  pub world : WorldSuits ms env w.world
  pub answer : ResultSuits ms env (Suit ms env) r

abbrev pub Reaches : List Module → Environment → Reach → Type 0
Reaches ms e (at_once r w) = AtOnce ms e r w
Reaches ms e (in_frame code vs) = SuitAll ms e vs

module _ (ms : List Module) (e : Environment) where
  pub at_once_suits : (r : Result PlainValue PlainRaised) (w : Effects) → WorldSuits ms e w.world → ResultSuits ms e (Suit ms e) r → AtOnce ms e r w
  at_once_suits r w g k = record { env = e; widens = widens_same e; world = g; answer = k }

  answer_reached : (r : Answer) (w : Effects) → WorldSuits ms e w.world → AnswerSuits ms e r → Reaches ms e (by_answer r w)
  answer_reached (Ok p) w g k = record {
    env = k.env;
    widens = k.widens;
    world = record { globals = wider_globals ms e k.env k.widens w.world.globals g.globals; heap = k.heap; words = wider_other ms e k.env k.widens w.world.words g.words };
    answer = k.value;
  }
  answer_reached (Err raised) w g k = at_once_suits (Err raised) w g k

  abbrev FilledSuit : Option (List PlainValue) → Type 0
  FilledSuit None = Unit {0}
  FilledSuit (Some vs) = SuitAll ms e vs

  arguments_suit : (params : List (List ℕ)) (defaults vs : List PlainValue) → SuitAll ms e defaults → SuitAll ms e vs → FilledSuit (arguments params defaults vs)
  arguments_suit params defaults vs h k =
      either FilledSuit (nat_le (length params) (length vs + length defaults) && nat_le (length vs) (length params)) (Some (vs ++ drop (length vs + length defaults - length params) defaults)) None
      (all_append (Suits ms e) vs (drop (length vs + length defaults - length params) defaults) k (all_drop (Suits ms e) (length vs + length defaults - length params) defaults h)) tt

  filled_reached : (f : FuncId) (o : Option (List PlainValue)) (w : Effects) → WorldSuits ms e w.world → FilledSuit o → Reaches ms e (with_arguments f o w)
  filled_reached f None w g k = at_once_suits _ w g tt
  filled_reached f (Some vs) w g k = k

  defaults_suit : (a : Option ℕ) (w : World) → WorldSuits ms e w → SuitAll ms e (defaults_at w.heap a)
  defaults_suit None w g = tt
  defaults_suit (Some a) w g = list_suits ms e w.heap g.heap a

  function_reached : (o : Option Code) (f : FuncId) (a : Option ℕ) (vs : List PlainValue) (w : Effects) → WorldSuits ms e w.world → SuitAll ms e vs → Reaches ms e (to_function o f a vs w)
  function_reached None f a vs w g k = at_once_suits _ w g tt
  function_reached (Some u) f a vs w g k =
      filled_reached f (arguments u.params (defaults_at w.world.heap a) vs) w g (arguments_suit u.params (defaults_at w.world.heap a) vs (defaults_suit a w.world g) k)

  pub reached : (v : PlainValue) (vs : List PlainValue) (w : Effects) → WorldSuits ms e w.world → SuitAll ms e vs → Reaches ms e (reach ms v vs w)
  reached none_value vs w g k = at_once_suits _ w g tt
  reached (bool_value b) vs w g k = at_once_suits _ w g tt
  reached (int_value n) vs w g k = at_once_suits _ w g tt
  reached (str_value s) vs w g k = at_once_suits _ w g tt
  reached (tuple_value items) vs w g k = at_once_suits _ w g tt
  reached (list_at a) vs w g k = at_once_suits _ w g tt
  reached (dict_at a) vs w g k = at_once_suits _ w g tt
  reached (func_value f a) vs w g k = function_reached (unit_at ms (code_of f)) f a vs w g k
  reached (module_value m) vs w g k = at_once_suits _ w g tt
  reached (kind_value kind) vs w g k = at_once_suits (exception_of kind vs) w g (exception_suits ms e kind vs k)
  reached (exc_value kind arg) vs w g k = at_once_suits _ w g tt
  reached (builtin_value which) vs w g k =
      let d = builtin_of which vs w.world.heap w.input in
      answer_reached d.answer (record w { input = d.left; out = w.out ++ d.written }) g (builtin_suits ms e w.world.heap g.heap which vs w.input k)

  pub callee_reached : (f : Callee) (vs : List PlainValue) (w : Effects) → WorldSuits ms e w.world → CalleeSuits ms e f → SuitAll ms e vs → Reaches ms e (reach_callee ms f vs w)
  callee_reached (a_value v) vs w g i k = reached v vs w g k
  callee_reached (a_method m v) vs w g i k = answer_reached (method_of m v vs w.world.heap) w g (method_suits ms e w.world.heap g.heap m v vs i k)

  begun_suits : (code : CodeId) (k : ℕ) (w : World) → WorldSuits ms e w → WorldSuits ms e (begun_by ms code k w)
  begun_suits code zero w g =
      record { globals = names_changed ms e code.module (λ ns. first_names (name_at (slice_get ms code.module))) w.globals (λ ns h. (tt, tt)) g.globals; heap = g.heap; words = g.words }
  begun_suits code (suc k) w g = g

  pub entered_suits : (code : CodeId) (w : Effects) → WorldSuits ms e w.world → WorldSuits ms e (entered ms code w).world
  entered_suits code w g = begun_suits code code.unit w.world g

  pub fresh_suits : (code : CodeId) (vs : List PlainValue) → SuitAll ms e vs → SlotsSuit ms e ((by_slots ms).fresh code vs)
  fresh_suits code vs k = slots_fresh ms e vs (length (locals_in (unit_at ms code)) - length vs) k

module _ (ms : List Module) (codes_are : AreCodes ms) (makers : AreMakers ms) (e : Environment) where
  pub enters : (code : CodeId) (vs : List PlainValue) (xs : List Operand) (c : Configuration Slots) → made_at ms c.top.code (suc c.top.place) ≡ None → Calm ms e c → OperandsSuit ms e xs → SuitAll ms e vs
      → Keeps ms (enter (by_slots ms) ms code vs xs c)
  enters code vs xs c n g i k =
      either (Keeps ms) (nat_lt c.top.depth most_frames) _ _
      (on_step ms makers e c.steps c (λ m. begins (by_slots ms) ms code vs (record c.top { operands = xs }) c m) g (λ m. record {
        holds = record {
          env = e;
          world = entered_suits ms e code c.effects g.0;
          operands = ready_else ms e code 0 [] (first_free ms codes_are code) tt;
          locals = fresh_suits ms e code vs k;
          callers = (record { operands = i; locals = g.1; inside = g.3; next = n }, g.2);
        };
      }))
      (fling ms makers e (raised_by TooDeep) (with_operands xs c) g i tt)

  pub called : (r : Reach) (xs : List Operand) (c : Configuration Slots) → made_at ms c.top.code (suc c.top.place) ≡ None → Calm ms e c → OperandsSuit ms e xs → Reaches ms e r
      → Keeps ms (calls (by_slots ms) ms r xs c)
  called (at_once r w) xs c n g i k =
      answer_pushed ms makers k.env r xs (with_effects w c) k.answer n (k.world, wider_slots ms e k.env k.widens c.top.locals g.1, wider_frames ms e k.env k.widens c.callers g.2, g.3)
      (wider_operands ms e k.env k.widens xs i)
  called (in_frame code vs) xs c n g i k = enters code vs xs c n g i k

  module_runs : (x : List ℕ) (o : Option ℕ) (c : Configuration Slots) → made_at ms c.top.code (suc c.top.place) ≡ None → Calm ms e c → OperandsSuit ms e c.top.operands
      → Keeps ms (runs_module (by_slots ms) ms x o c)
  module_runs x None c n g i = fling ms makers e _ c g i tt
  module_runs x (Some m) c n g i =
      either (Keeps ms) (is_begun m c.effects.world) _ _ (pushed ms makers e none_value c.top.operands c n g i tt) (enters (record { «module» = m; unit = 0 }) [] c.top.operands c n g i tt)

  pub imports_keep : (x : List ℕ) (c : Configuration Slots) → made_at ms c.top.code (suc c.top.place) ≡ None → Calm ms e c → OperandsSuit ms e c.top.operands → Keeps ms (imports (by_slots ms) ms x c)
  imports_keep x c n g i = either (Keeps ms) (is_same_text x (codes "sys")) _ _ (pushed ms makers e none_value c.top.operands c n g i tt) (module_runs x (imported_number ms x) c n g i)
