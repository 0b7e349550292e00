-- The events of a run, and the bytes that it wrote, only grow.
use Rattle.std.proofs.Common.{◌≡◌, ℕ, zero, suc, List, [], ◌∷◌, ◌++◌, length, map, take, drop, reverse, Option, Some, None, Bool, true, false, refl, sym, ap, ◌∙◌, subst, append_assoc, append-nil}
use Rattle.std.specs.Prelude.{◌==◌, slice_get, nat_le, nat_lt, ◌&&◌, if◌then◌else◌, Result, Ok, Err, codes}
use Rattle.cov_event.specs.declared.event.CodeId.{CodeId}
use Rattle.cov_event.specs.declared.event.Event.{Event}
use Rattle.cov_event.specs.declared.event.Event.TheVariants.{Line, Throw, Call as Called, Return as Returned}
use Rattle.cov_outside.specs.Prefixes.{IsPrefix}
use Rattle.py_value.specs.declared.cause.Cause.TheVariants.{TooDeep}
use Rattle.py_value.specs.Causes.{raised_by}
use Rattle.py_text.specs.Comparison.{is_same_text}
use Rattle.py_value.specs.Compared.{compared}
use Rattle.py_value.specs.Operators.{binary_of, in_place_of, index_of, truth_of}
use Rattle.py_value.specs.Plain.{PlainValue, none_value, bool_value, int_value, str_value, tuple_value, list_at, dict_at, func_value, module_value, kind_value, exc_value, builtin_value, PlainRaised}
use Rattle.py_builtins.specs.Arguments.{Answer}
use Rattle.py_builtins.specs.Builtins.{builtin_of}
use Rattle.py_builtins.specs.Attributes.{or_raise, attribute}
use Rattle.py_builtins.specs.Callees.{Callee, a_value, a_method, callee_of, taken, or_builtin}
use Rattle.py_builtins.specs.Catching.{catches, assertion_error}
use Rattle.py_builtins.specs.Faults.{local_unset}
use Rattle.py_builtins.specs.Items.{unpacked, walk_length, item_of, sequence_items, of_length}
use Rattle.py_builtins.specs.Making.{extended, new_tuple, stored, sliced}
use Rattle.py_builtins.specs.Methods.{new_list, method_of}
use Rattle.py_builtins.specs.Parameters.{most_frames, arguments, defaults_at}
use Rattle.py_builtins.specs.Texts.{str_text}
use Rattle.py_builtins.specs.World.{global_of, is_begun}
use Rattle.py_value.specs.declared.value.FuncId.{FuncId}
use Rattle.py_code.specs.declared.instr.Bounds.TheVariants.{Neither, From, To, Both}
use Rattle.py_code.specs.declared.instr.Instr.{Instr}
use Rattle.py_code.specs.declared.instr.Instr.TheVariants.{Constant, Pop, Copy, Sink, Roll, LoadLocal, StoreLocal, UnsetLocal, LoadGlobal, StoreGlobal, UnsetGlobal, Text, Extend, Tuple, List as MakeList, Dict, AddPair, Not, Binary, InPlace, Compare, Index, Slice, Attribute, StoreIndex, Unpack}
use Rattle.py_code.specs.declared.instr.Instr.TheVariants.{Goto, IfFalse, IfTrue, And, Or, Link, Unless, Sequence, Mark, Again, Walk, Next as NextItem, Method, Call, Return, Function, FunctionWith, Import, Module as LoadModule, Take}
use Rattle.py_code.specs.declared.instr.Instr.TheVariants.{Raise, Reraise, Assertion, AssertionWith, Catches, Caught, Uncaught, Leave, Ending, Breaking, Continuing, Returning, Settle, Release}
use Rattle.py_code.specs.declared.unit.Handler.{Handler}
use Rattle.py_code.specs.Configurations.{Way, on, by_break, by_continue, by_return, by_raise, Operand, of_way, Locals, Frame, Effects, Configuration, Ended, End, Next}
use Rattle.py_code.specs.Machine.{told, told_line, escaped, land, leave, escapes, throw, answers, give, enter, begins, calls, Reach, at_once, in_frame, to_function, with_arguments, code_of, by_answer, reach, reach_callee, runs_module, outermost, outer_call, links, looks_in, turns, raises, imported, puts_way, resumes, one, two, three, many, dropping, where_found, stepping, halted, jumps, falls, pushes_answer, makes, with_operands, heap_of, act, acts, move_in, move, machine, follows}
use Rattle.py_code.specs.Programs.{reach_global}
use Rattle.py_code.specs.Operands.{value_in, callee_in, walk_in, way_in, exception_in, text_in, asked}
use Rattle.py_code.specs.Run.{Goes, Ticks, Ends, go}
use Rattle.py_code.specs.Units.{Code, Module, unit_at, handler_at, imported_number}
use Rattle.py_code.specs.Valid.{AreValid}
use Rattle.py_code.proofs.Ahead.{goes_on, ticks_on}
use Rattle.py_code.proofs.Standing.{Stands}
use Rattle.py_code.proofs.Steps.{at_go, ends}
use Rattle.py_machine.specs.Told.{Grown, Grows}

same_prefix : {A : Type 0} (a : List A) → IsPrefix a a
same_prefix a = record { rest = []; is = sym (append-nil a) }

pub prefix_then : {A : Type 0} (a b c : List A) → IsPrefix a b → IsPrefix b c → IsPrefix a c
prefix_then a b c p q = record { rest = p.rest ++ q.rest; is = q.is ∙ ap (λ z. z ++ q.rest) p.is ∙ append_assoc a p.rest q.rest }

pub longer : {A : Type 0} (a b c : List A) → IsPrefix a b → IsPrefix a (b ++ c)
longer a b c p = prefix_then a b (b ++ c) p (record { rest = c; is = refl })

pub grown_same : (e : Effects) → Grown e e
grown_same e = (same_prefix e.events, same_prefix e.out)

pub grown_then : (e f g : Effects) → Grown e f → Grown f g → Grown e g
grown_then e f g h k = (prefix_then e.events f.events g.events h.0 k.0, prefix_then e.out f.out g.out h.1 k.1)

pub told_on : (e f : Effects) (event : Event) → Grown e f → Grown e (told event f)
told_on e f event g = (longer e.events f.events (event ∷ []) g.0, g.1)

line_told : (e : Effects) (kept l : ℕ) (f : Effects) → Grown e f → Grown e (told_line kept l f)
line_told e kept l f g = by_case (l == kept)
  where
    by_case : (b : Bool) → Grown e (if b then f else told (Line l) f)
    by_case true = g
    by_case false = told_on e f (Line l) g

module _ {L : Type 0} (locals : Locals L) (ms : List Module) (e : Effects) where
  lands : (o : Option Handler) (out : Next L) (raised : PlainRaised) (t : Bool) (c : Configuration L) → Grows e out → Grown e c.effects → Grows e (land locals ms o out raised t c)
  lands None out raised t c h g = h
  lands (Some k) out raised t c h g = record { holds = g }

  pub leaves : (raised : PlainRaised) (code : CodeId) (fs : List (Frame L)) (n : ℕ) (w : Effects) → Grown e w → Grows e (leave locals ms raised code fs n w)
  leaves raised code [] n w g = record { holds = told_on e w Returned g }
  leaves raised code (f ∷ fs) n w g =
      let h = told_on e (escaped code w) (Throw raised.kind) (told_on e w Returned g) in
      lands (handler_at ms f.code f.place) _ raised true _ (leaves raised f.code fs n (told (Throw raised.kind) (escaped code w)) h) h

  -- from after a frame, and from where the exception was thrown once more
  pub thrown_by : (raised : PlainRaised) (code : CodeId) (f : Frame L) (fs : List (Frame L)) (n : ℕ) (w : Effects) → Grown e (told (Throw raised.kind) (escaped code w)) → Grows e (leave locals ms raised code (f ∷ fs) n w)
  thrown_by raised code f fs n w h = lands (handler_at ms f.code f.place) _ raised true _ (leaves raised f.code fs n (told (Throw raised.kind) (escaped code w)) h) h

  left_by : (raised : PlainRaised) (code : CodeId) (f : Frame L) (fs : List (Frame L)) (n : ℕ) (w : Effects) → Grown e (escaped code w) → Grows e (leave locals ms raised code (f ∷ fs) n w)
  left_by raised code f fs n w h = thrown_by raised code f fs n w (told_on e (escaped code w) (Throw raised.kind) h)

  -- from after the frame, whether another waits or not
  pub left_first : (raised : PlainRaised) (code : CodeId) (fs : List (Frame L)) (n : ℕ) (w : Effects) → Grown e (told Returned w) → Grows e (leave locals ms raised code fs n w)
  left_first raised code [] n w h = record { holds = h }
  left_first raised code (f ∷ fs) n w h = left_by raised code f fs n w h

  pub escape : (raised : PlainRaised) (t : Bool) (c : Configuration L) → Grown e c.effects → Grows e (escapes locals ms raised t c)
  escape raised t c g = lands (handler_at ms c.top.code c.top.place) _ raised t c (leaves raised c.top.code c.callers c.steps c.effects g) g

  -- from where the exception was thrown
  pub flung : (raised : PlainRaised) (c : Configuration L) → Grown e (told (Throw raised.kind) c.effects) → Grows e (throw locals ms raised c)
  flung raised c h = escape raised true (record c { effects = told (Throw raised.kind) c.effects }) h

  pub fling : (raised : PlainRaised) (c : Configuration L) → Grown e c.effects → Grows e (throw locals ms raised c)
  fling raised c g = flung raised c (told_on e c.effects (Throw raised.kind) g)

  pub gives : (v : PlainValue) (fs : List (Frame L)) (n : ℕ) (w : Effects) → Grown e w → Grows e (give locals ms v fs n w)
  gives v [] n w g = record { holds = told_on e w Returned g }
  gives v (f ∷ fs) n w g = record { holds = told_on e w Returned g }

  -- from after the frame
  pub gives_from : (v : PlainValue) (fs : List (Frame L)) (n : ℕ) (w : Effects) → Grown e (told Returned w) → Grows e (give locals ms v fs n w)
  gives_from v [] n w h = record { holds = h }
  gives_from v (f ∷ fs) n w h = record { holds = h }

  ans : {A : Type 0} (r : Result A PlainRaised) (xs : List Operand) (c : Configuration L) (k : A → Next L) → Grown e c.effects → ((a : A) → Grows e (k a)) → Grows e (answers locals ms r xs c k)
  ans (Ok a) xs c k g h = h a
  ans (Err raised) xs c k g h = fling raised (with_operands xs c) g

  found : {A : Type 0} (o : Option A) (c : Configuration L) (k : A → Next L) → Grown e c.effects → ((x : A) → Grows e (k x)) → Grows e (where_found o c k)
  found None c k g h = record { holds = g }
  found (Some x) c k g h = h x

  on_one : (xs : List Operand) (c : Configuration L) (k : Operand → List Operand → Next L) → Grown e c.effects → ((x : Operand) (ys : List Operand) → Grows e (k x ys)) → Grows e (one xs c k)
  on_one [] c k g h = record { holds = g }
  on_one (x ∷ xs) c k g h = h x xs

  on_two : (xs : List Operand) (c : Configuration L) (k : Operand → Operand → List Operand → Next L) → Grown e c.effects → ((x y : Operand) (ys : List Operand) → Grows e (k x y ys)) → Grows e (two xs c k)
  on_two [] c k g h = record { holds = g }
  on_two (y ∷ []) c k g h = record { holds = g }
  on_two (y ∷ (x ∷ zs)) c k g h = h x y zs

  on_three : (xs : List Operand) (c : Configuration L) (k : Operand → Operand → Operand → List Operand → Next L) → Grown e c.effects → ((x y z : Operand) (ys : List Operand) → Grows e (k x y z ys)) → Grows e (three xs c k)
  on_three [] c k g h = record { holds = g }
  on_three (z ∷ []) c k g h = record { holds = g }
  on_three (z ∷ (y ∷ [])) c k g h = record { holds = g }
  on_three (z ∷ (y ∷ (x ∷ ws))) c k g h = h x y z ws

  either : (b : Bool) (m n : Next L) → Grows e m → Grows e n → Grows e (if b then m else n)
  either true m n h k = h
  either false m n h k = k

  dropped : (n : ℕ) (xs : List Operand) (c : Configuration L) (k : List Operand → Next L) → Grown e c.effects → ((ys : List Operand) → Grows e (k ys)) → Grows e (dropping n xs c k)
  dropped n xs c k g h = either (nat_le n (length xs)) (k (drop n xs)) (halted Ended.stuck c) (h (drop n xs)) (record { holds = g })

  on_many : (n : ℕ) (xs : List Operand) (c : Configuration L) (k : List PlainValue → List Operand → Next L) → Grown e c.effects → ((vs : List PlainValue) (ys : List Operand) → Grows e (k vs ys)) → Grows e (many n xs c k)
  on_many n xs c k g h = dropped n xs c (λ ys. k (map value_in (reverse (take n xs))) ys) g (λ ys. h (map value_in (reverse (take n xs))) ys)

  on_step : (n : ℕ) (c : Configuration L) (k : ℕ → Next L) → Grown e c.effects → ((m : ℕ) → Grows e (k m)) → Grows e (stepping n c k)
  on_step zero c k g h = record { holds = g }
  on_step (suc n) c k g h = h n

  enters : (code : CodeId) (vs : List PlainValue) (xs : List Operand) (c : Configuration L) → Grown e c.effects → Grows e (enter locals ms code vs xs c)
  enters code vs xs c g =
      either (nat_lt c.top.depth most_frames) _ _ (on_step c.steps c (λ n. begins locals ms code vs (record c.top { operands = xs }) c n) g (λ m. record { holds = told_on e c.effects (Called code) g }))
      (fling (raised_by TooDeep) (with_operands xs c) g)

  -- what a call has changed before a frame begins
  abbrev pub Reached : Reach → Type 0
  Reached (at_once r f) = Grown e f
  Reached (in_frame code vs) = Unit {0}

  pub answer_reached : (r : Answer) (f : Effects) → Grown e f → Reached (by_answer r f)
  answer_reached (Ok p) f g = g
  answer_reached (Err raised) f g = g

  filled_reached : (f : FuncId) (o : Option (List PlainValue)) (w : Effects) → Grown e w → Reached (with_arguments f o w)
  filled_reached f None w g = g
  filled_reached f (Some vs) w g = tt

  function_reached : (o : Option Code) (f : FuncId) (a : Option ℕ) (vs : List PlainValue) (w : Effects) → Grown e w → Reached (to_function o f a vs w)
  function_reached None f a vs w g = g
  function_reached (Some u) f a vs w g = filled_reached f (arguments u.params (defaults_at w.world.heap a) vs) w g

  pub reached : (v : PlainValue) (vs : List PlainValue) (w : Effects) → Grown e w → Reached (reach ms v vs w)
  reached none_value vs w g = g
  reached (bool_value b) vs w g = g
  reached (int_value n) vs w g = g
  reached (str_value s) vs w g = g
  reached (tuple_value items) vs w g = g
  reached (list_at a) vs w g = g
  reached (dict_at a) vs w g = g
  reached (func_value f a) vs w g = function_reached (unit_at ms (code_of f)) f a vs w g
  reached (module_value m) vs w g = g
  reached (kind_value kind) vs w g = g
  reached (exc_value kind arg) vs w g = g
  reached (builtin_value which) vs w g =
      let d = builtin_of which vs w.world.heap w.input in answer_reached d.answer (record w { input = d.left; out = w.out ++ d.written }) (g.0, longer e.out w.out d.written g.1)

  callee_reached : (f : Callee) (vs : List PlainValue) (w : Effects) → Grown e w → Reached (reach_callee ms f vs w)
  callee_reached (a_value v) vs w g = reached v vs w g
  callee_reached (a_method m v) vs w g = answer_reached (method_of m v vs w.world.heap) w g

  pub called_at_once : (r : Result PlainValue PlainRaised) (f : Effects) (xs : List Operand) (c : Configuration L) → Grown e f → Grows e (calls locals ms (at_once r f) xs c)
  called_at_once r f xs c h = ans r xs (record c { effects = f }) _ h (λ v. record { holds = h })

  called : (r : Reach) (xs : List Operand) (c : Configuration L) → Grown e c.effects → Reached r → Grows e (calls locals ms r xs c)
  called (at_once r f) xs c g h = called_at_once r f xs c h
  called (in_frame code vs) xs c g h = enters code vs xs c g

  module_runs : (x : List ℕ) (o : Option ℕ) (c : Configuration L) → Grown e c.effects → Grows e (runs_module locals ms x o c)
  module_runs x None c g = fling _ c g
  module_runs x (Some m) c g = either (is_begun m c.effects.world) _ _ (record { holds = g }) (enters (record { «module» = m; unit = 0 }) [] c.top.operands c g)

  raised_on : (v : PlainValue) (c : Configuration L) → Grown e c.effects → Grows e (raises locals ms v c)
  raised_on none_value c g = fling _ c g
  raised_on (bool_value b) c g = fling _ c g
  raised_on (int_value n) c g = fling _ c g
  raised_on (str_value s) c g = fling _ c g
  raised_on (tuple_value items) c g = fling _ c g
  raised_on (list_at a) c g = fling _ c g
  raised_on (dict_at a) c g = fling _ c g
  raised_on (func_value f a) c g = fling _ c g
  raised_on (module_value m) c g = fling _ c g
  raised_on (kind_value kind) c g = escape _ false c g
  raised_on (exc_value kind arg) c g = escape _ false c g
  raised_on (builtin_value which) c g = fling _ c g

  resumed : (settled : Bool) (w : Way) (xs : List Operand) (c : Configuration L) → Grown e c.effects → Grows e (resumes locals ms settled w xs c)
  resumed settled on xs c g = record { holds = g }
  resumed settled by_break xs c g = record { holds = g }
  resumed settled by_continue xs c g = record { holds = g }
  resumed settled (by_return v) xs c g = record { holds = g }
  resumed settled (by_raise raised t) xs c g = either (settled && t) _ _ (fling raised (with_operands xs c) g) (escape raised t (with_operands xs c) g)

  linked : (b : Bool) (w : Operand) (to : ℕ) (xs : List Operand) (c : Configuration L) → Grown e c.effects → Grows e (links locals ms b w to xs c)
  linked true w to xs c g = record { holds = g }
  linked false w to xs c g = record { holds = g }

  looked : (o : Option (List PlainValue)) (n to : ℕ) (xs : List Operand) (c : Configuration L) → Grown e c.effects → Grows e (looks_in locals ms o n to xs c)
  looked None n to xs c g = dropped n xs c (λ ys. jumps to ys c) g (λ ys. record { holds = g })
  looked (Some vs) n to xs c g = record { holds = g }

  turned : (o : Option PlainValue) (v : PlainValue) (n i to : ℕ) (xs : List Operand) (c : Configuration L) → Grown e c.effects → Grows e (turns locals ms o v n i to xs c)
  turned None v n i to xs c g = record { holds = g }
  turned (Some x) v n i to xs c g = record { holds = g }

  puts : (n : ℕ) (w : Way) (to : ℕ) (xs : List Operand) (c : Configuration L) → Grown e c.effects → Grows e (puts_way locals ms n w to xs c)
  puts n w to xs c g = dropped n xs c (λ ys. jumps to (of_way w ∷ ys) c) g (λ ys. record { holds = g })

  -- a frame that nothing waits for begins
  pub outermost_grows : (code : CodeId) (vs : List PlainValue) (n : ℕ) (w : Effects) → Grown e w → Grows e (outermost locals ms code vs n w)
  outermost_grows code vs zero w g = record { holds = g }
  outermost_grows code vs (suc n) w g = record { holds = told_on e w (Called code) g }

  pub outer_grows : (r : Reach) (n : ℕ) (w : Effects) → Grown e w → Reached r → Grows e (outer_call locals ms r n w)
  outer_grows (at_once r f) n w g h = record { holds = h }
  outer_grows (in_frame code vs) n w g h = outermost_grows code vs n w g

  pub global_reached : (r : Result PlainValue PlainRaised) (vs : List PlainValue) (w : Effects) → Grown e w → Reached (reach_global ms r vs w)
  global_reached (Ok f) vs w g = reached f vs w g
  global_reached (Err raised) vs w g = g

  grows : (u : Code) (i : Instr) (xs : List Operand) (c : Configuration L) → Grown e c.effects → Grows e (act locals ms u i xs c)
  grows u (Constant n) xs c g = found (slice_get u.constants n) c _ g (λ k. record { holds = g })
  grows u Pop xs c g = on_one xs c _ g (λ x ys. record { holds = g })
  grows u (Copy n) xs c g = found (slice_get xs n) c _ g (λ x. record { holds = g })
  grows u (Sink n) xs c g = on_one xs c _ g (λ x ys. dropped n ys c (λ zs. falls (take n ys ++ x ∷ zs) c) g (λ zs. record { holds = g }))
  grows u (Roll n) xs c g = found (slice_get xs n) c _ g (λ x. record { holds = g })
  grows u (LoadLocal n) xs c g = found (slice_get u.locals n) c _ g (λ x. ans (or_raise (local_unset x) (locals.look c.top.code c.top.locals n)) xs c _ g (λ v. record { holds = g }))
  grows u (StoreLocal n) xs c g = found (slice_get u.locals n) c _ g (λ x. on_one xs c _ g (λ y ys. record { holds = g }))
  grows u (UnsetLocal n) xs c g = found (slice_get u.locals n) c _ g (λ x. record { holds = g })
  grows u (LoadGlobal n) xs c g = found (slice_get u.names n) c _ g (λ x. ans (or_builtin x (global_of c.top.code.module x c.effects.world)) xs c _ g (λ v. record { holds = g }))
  grows u (StoreGlobal n) xs c g = found (slice_get u.names n) c _ g (λ x. on_one xs c _ g (λ y ys. record { holds = g }))
  grows u (UnsetGlobal n) xs c g = found (slice_get u.names n) c _ g (λ x. record { holds = g })
  grows u Text xs c g = on_one xs c _ g (λ x ys. ans (str_text (value_in x) (heap_of c)) ys c _ g (λ t. record { holds = g }))
  grows u Extend xs c g = on_two xs c _ g (λ x y ys. ans (extended (text_in x) (text_in y)) ys c _ g (λ t. record { holds = g }))
  grows u (Tuple n) xs c g = on_many n xs c (λ vs ys. pushes_answer locals ms (new_tuple vs) ys c) g (λ vs ys. ans (new_tuple vs) ys c _ g (λ v. record { holds = g }))
  grows u (MakeList n) xs c g = on_many n xs c (λ vs ys. makes locals ms (new_list vs (heap_of c)) ys c) g (λ vs ys. ans (new_list vs (heap_of c)) ys c _ g (λ p. record { holds = g }))
  grows u Dict xs c g = record { holds = g }
  grows u AddPair xs c g = on_three xs c _ g (λ d k v ys. ans (stored (value_in d) (value_in k) (value_in v) (heap_of c)) ys c _ g (λ p. record { holds = g }))
  grows u Not xs c g = on_one xs c _ g (λ x ys. either (truth_of (value_in x) (heap_of c)) _ _ (record { holds = g }) (record { holds = g }))
  grows u (Binary op) xs c g = on_two xs c _ g (λ x y ys. ans (binary_of op (value_in x) (value_in y) (heap_of c)) ys c _ g (λ p. record { holds = g }))
  grows u (InPlace op) xs c g = on_two xs c _ g (λ x y ys. ans (in_place_of op (value_in x) (value_in y) (heap_of c)) ys c _ g (λ p. record { holds = g }))
  grows u (Compare q) xs c g = on_two xs c _ g (λ x y ys. ans (compared (asked q) (value_in x) (value_in y) (heap_of c)) ys c _ g (λ b. record { holds = g }))
  grows u Index xs c g = on_two xs c _ g (λ x i ys. ans (index_of (value_in x) (value_in i) (heap_of c)) ys c _ g (λ v. record { holds = g }))
  grows u (Slice Neither) xs c g = on_one xs c _ g (λ x ys. ans (sliced (value_in x) None None (heap_of c)) ys c _ g (λ p. record { holds = g }))
  grows u (Slice From) xs c g = on_two xs c _ g (λ x a ys. ans (sliced (value_in x) (Some (value_in a)) None (heap_of c)) ys c _ g (λ p. record { holds = g }))
  grows u (Slice To) xs c g = on_two xs c _ g (λ x b ys. ans (sliced (value_in x) None (Some (value_in b)) (heap_of c)) ys c _ g (λ p. record { holds = g }))
  grows u (Slice Both) xs c g = on_three xs c _ g (λ x a b ys. ans (sliced (value_in x) (Some (value_in a)) (Some (value_in b)) (heap_of c)) ys c _ g (λ p. record { holds = g }))
  grows u (Attribute n) xs c g = found (slice_get u.names n) c _ g (λ name. on_one xs c _ g (λ x ys. ans (attribute (value_in x) name c.effects.world) ys c _ g (λ v. record { holds = g })))
  grows u StoreIndex xs c g = on_three xs c _ g (λ v x i ys. ans (stored (value_in x) (value_in i) (value_in v) (heap_of c)) ys c _ g (λ p. record { holds = g }))
  grows u (Unpack n) xs c g = on_one xs c _ g (λ x ys. ans (unpacked n (value_in x) (heap_of c)) ys c _ g (λ vs. record { holds = g }))
  grows u (Goto to) xs c g = record { holds = g }
  grows u (IfFalse to) xs c g = on_one xs c _ g (λ x ys. either (truth_of (value_in x) (heap_of c)) _ _ (record { holds = g }) (record { holds = g }))
  grows u (IfTrue to) xs c g = on_one xs c _ g (λ x ys. either (truth_of (value_in x) (heap_of c)) _ _ (record { holds = g }) (record { holds = g }))
  grows u (And to) xs c g = on_one xs c _ g (λ x ys. either (truth_of (value_in x) (heap_of c)) _ _ (record { holds = g }) (record { holds = g }))
  grows u (Or to) xs c g = on_one xs c _ g (λ x ys. either (truth_of (value_in x) (heap_of c)) _ _ (record { holds = g }) (record { holds = g }))
  grows u (Link q to) xs c g = on_two xs c _ g (λ x y ys. ans (compared (asked q) (value_in x) (value_in y) (heap_of c)) ys c _ g (λ b. linked b y to ys c g))
  grows u (Unless n to) xs c g =
      on_one xs c _ g (λ x ys. either (truth_of (value_in x) (heap_of c)) _ _ (record { holds = g }) (dropped n ys c (λ zs. jumps to zs c) g (λ zs. record { holds = g })))
  grows u (Sequence k n to) xs c g = on_one xs c _ g (λ x ys. looked (of_length k (sequence_items (value_in x) (heap_of c))) n to ys c g)
  grows u (Mark n) xs c g = found (slice_get u.lines n) c _ g (λ l. on_step c.steps c _ g (λ m. record { holds = line_told e c.top.line l c.effects g }))
  grows u (Again n) xs c g = found (slice_get u.lines n) c _ g (λ l. on_step c.steps c _ g (λ m. record { holds = told_on e c.effects (Line l) g }))
  grows u Walk xs c g = on_one xs c _ g (λ x ys. ans (walk_length (value_in x) (heap_of c)) ys c _ g (λ n. record { holds = g }))
  grows u (NextItem to) xs c g =
      on_one xs c _ g (λ x ys. ans (item_of (walk_in x).0 (walk_in x).1 (walk_in x).2 (heap_of c)) ys c _ g (λ o. turned o (walk_in x).0 (walk_in x).1 (walk_in x).2 to ys c g))
  grows u (Method n) xs c g = found (slice_get u.names n) c _ g (λ name. on_one xs c _ g (λ x ys. ans (callee_of (value_in x) name c.effects.world) ys c _ g (λ f. record { holds = g })))
  grows u (Call n) xs c g =
      on_many n xs c (λ vs ys. one ys c (λ f zs. calls locals ms (reach_callee ms (callee_in f) vs c.effects) zs c)) g (λ vs ys. on_one ys c _ g (λ f zs. called (reach_callee ms (callee_in f) vs c.effects) zs c g (callee_reached (callee_in f) vs c.effects g)))
  grows u Return xs c g = on_one xs c _ g (λ x ys. gives (value_in x) c.callers c.steps c.effects g)
  grows u (Function k) xs c g = record { holds = g }
  grows u (FunctionWith k) xs c g = on_one xs c _ g (λ x ys. record { holds = g })
  grows u (Import n) xs c g =
      found (slice_get u.names n) c _ g (λ name. either (is_same_text name (codes "sys")) _ _ (record { holds = g }) (module_runs name (imported_number ms name) c g))
  grows u (LoadModule n) xs c g = found (slice_get u.names n) c _ g (λ name. ans (imported ms name) xs c _ g (λ v. record { holds = g }))
  grows u (Take m n) xs c g = found (slice_get u.names m) c _ g (λ from. found (slice_get u.names n) c _ g (λ name. on_one xs c _ g (λ x ys. ans (taken from (value_in x) name c.effects.world) xs c _ g (λ v. record { holds = g }))))
  grows u Raise xs c g = on_one xs c _ g (λ x ys. raised_on (value_in x) (with_operands ys c) g)
  grows u (Reraise n) xs c g = found (slice_get xs n) c _ g (λ x. escape _ false c g)
  grows u Assertion xs c g = fling _ c g
  grows u AssertionWith xs c g = on_one xs c _ g (λ x ys. ans (assertion_error (value_in x)) ys c _ g (λ raised. fling raised (with_operands ys c) g))
  grows u Catches xs c g = on_two xs c _ g (λ w x ys. ans (catches (value_in x) (exception_in w).kind) (w ∷ ys) c _ g (λ b. record { holds = g }))
  grows u Caught xs c g = on_one xs c _ g (λ w ys. record { holds = g })
  grows u Uncaught xs c g = on_one xs c _ g (λ w ys. fling _ (with_operands ys c) g)
  grows u (Leave n to) xs c g = dropped n xs c (λ ys. jumps to ys c) g (λ ys. record { holds = g })
  grows u Ending xs c g = record { holds = g }
  grows u (Breaking n to) xs c g = puts n by_break to xs c g
  grows u (Continuing n to) xs c g = puts n by_continue to xs c g
  grows u (Returning n to) xs c g = on_one xs c _ g (λ x ys. puts n (by_return (value_in x)) to ys c g)
  grows u Settle xs c g = on_one xs c _ g (λ w ys. resumed true (way_in w) ys c g)
  grows u Release xs c g = on_one xs c _ g (λ w ys. resumed false (way_in w) ys c g)

  grows_at : (u : Code) (o : Option Instr) (c : Configuration L) → Grown e c.effects → Grows e (acts locals ms u o c)
  grows_at u None c g = record { holds = g }
  grows_at u (Some i) c g = grows u i c.top.operands c g

  grows_in : (o : Option Code) (c : Configuration L) → Grown e c.effects → Grows e (move_in locals ms o c)
  grows_in None c g = record { holds = g }
  grows_in (Some u) c g = grows_at u (slice_get u.instrs c.top.place) c g

  moves : (c : Configuration L) → Grown e c.effects → Grows e (move locals ms c)
  moves c g = grows_in (unit_at ms c.top.code) c g

module _ {L : Type 0} (locals : Locals L) (ms : List Module) where
  grown_to : (c : Configuration L) (n : Next L) → move locals ms c ≡ n → Grows c.effects n
  grown_to c n h = subst (λ x. Grows c.effects x) h (moves locals ms c.effects c (grown_same c.effects))

  pub moves_grow : (c : Configuration L) → Grows c.effects (move locals ms c)
  moves_grow c = moves locals ms c.effects c (grown_same c.effects)

  -- a run from a configuration
  pub runs_grow : (c : Configuration L) → Grown c.effects (go (machine locals ms) c).effects
  runs_grow c =
      at_go (machine locals ms) (λ d r. Grown d.effects r.effects) (λ d. grown_same d.effects) (λ d. grown_same d.effects)
      (λ d r h. (grown_to d (Ends r) h).holds)
      (λ d f r h k. grown_then d.effects f.effects r.effects (grown_to d (Goes f) h).holds k)
      (λ d f r h k. grown_then d.effects f.effects r.effects (grown_to d (Ticks f) h).holds k)
      c

  -- a run from a move
  pub follows_grow : (e : Effects) (n : Next L) → Grows e n → Grown e (follows locals ms n).effects
  follows_grow e (Goes c) h = grown_then e c.effects (go (machine locals ms) c).effects h.holds (runs_grow c)
  follows_grow e (Ticks c) h = grown_then e c.effects (go (machine locals ms) c).effects h.holds (runs_grow c)
  follows_grow e (Ends r) h = h.holds

  -- a run from where all frames stand, that begins with what its first move begins with
  pub goes_grow : (depths : CodeId → List ℕ) (valid : AreValid ms depths) (e : Effects) (c : Configuration L) → Stands locals ms depths valid c → Grows e (move locals ms c) → Grown e (go (machine locals ms) c).effects
  goes_grow depths valid e c s h = by_move (move locals ms c) refl h
    where
      then_run : (d : Configuration L) → go (machine locals ms) c ≡ go (machine locals ms) d → Grown e d.effects → Grown e (go (machine locals ms) c).effects
      then_run d is g = subst (λ (r : End). Grown e r.effects) (sym is) (grown_then e d.effects (go (machine locals ms) d).effects g (runs_grow d))

      by_move : (n : Next L) → move locals ms c ≡ n → Grows e n → Grown e (go (machine locals ms) c).effects
      by_move (Goes d) f g = then_run d (goes_on locals ms depths valid c d s f).same g.holds
      by_move (Ticks d) f g = then_run d (ticks_on locals ms depths valid c d s f).same g.holds
      by_move (Ends r) f g = subst (λ (x : End). Grown e x.effects) (sym (ends (machine locals ms) c r f)) g.holds
