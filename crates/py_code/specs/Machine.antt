-- What a machine does with an instruction, and how it goes on from a configuration.
--     throw, escapes, leave          exceptions, to their handlers and out of frames
--     answers .. chooses             what follows an answer
--     give, enter, calls             frames end and begin
--     links .. resumes               what some instructions have in common
--     act, move                      an instruction
--     rank, machine, follows         all that follows
--     outermost, outer_call          a frame or a call that nothing waits for
use Rattle.std.specs.Prelude.{ℕ, zero, suc, ◌+◌, ◌-◌, nat_lt, Bool, true, false, ◌&&◌, if◌then◌else◌, List, [], ◌∷◌, ◌++◌, length, map, take, drop, remove, Option, Some, None, Result, Ok, Err, slice_get, codes}
use Rattle.cov_event.specs.declared.event.CodeId.{CodeId}
use Rattle.cov_event.specs.declared.event.Event.TheVariants.{Line, Throw, Return as Returned}
use Rattle.py_value.specs.declared.cause.Cause.TheVariants.{NotException, TooDeep}
use Rattle.py_value.specs.declared.exception.ExcKind.TheVariants.{AssertionError}
use Rattle.py_value.specs.Causes.{raised_by}
use Rattle.py_text.specs.Comparison.{is_same_text}
use Rattle.py_value.specs.Operators.{binary_of, in_place_of, index_of, truth_of}
use Rattle.py_value.specs.Plain.{PlainValue, none_value, bool_value, int_value, str_value, tuple_value, list_at, dict_at, func_value, module_value, kind_value, exc_value, builtin_value, no_argument, PlainHeap, PlainRaised}
use Rattle.py_builtins.specs.Arguments.{Answer}
use Rattle.py_builtins.specs.Attributes.{or_raise, attribute}
use Rattle.py_builtins.specs.Catching.{catches, assertion_error}
use Rattle.py_builtins.specs.Items.{unpacked, walk_length, item_of, sequence_items, of_length}
use Rattle.py_builtins.specs.Making.{extended, new_tuple, new_dict, stored, sliced}
use Rattle.py_builtins.specs.Methods.{new_list}
use Rattle.py_builtins.specs.Parameters.{most_frames, address_of}
use Rattle.py_builtins.specs.Texts.{str_text}
use Rattle.py_builtins.specs.World.{with_global, without_global, global_of, is_begun}
use Rattle.py_code.specs.declared.instr.Bounds.TheVariants.{Neither, From, To, Both}
use Rattle.py_code.specs.declared.instr.Instr.{Instr}
use Rattle.py_code.specs.declared.instr.Instr.TheVariants.{Constant, Pop, Copy, Sink, Roll, LoadLocal, StoreLocal, UnsetLocal, LoadGlobal, StoreGlobal, UnsetGlobal, Text, Extend, Tuple, List as MakeList, Dict, AddPair, Not, Binary, InPlace, Compare, Index, Slice, Attribute, StoreIndex, Unpack}
use Rattle.py_code.specs.declared.instr.Instr.TheVariants.{Goto, IfFalse, IfTrue, And, Or, Link, Unless, Sequence, Mark, Again, Walk, Next as NextItem, Method, Call, Return, Function, FunctionWith, Import, Module as LoadModule, Take}
use Rattle.py_code.specs.declared.instr.Instr.TheVariants.{Raise, Reraise, Assertion, AssertionWith, Catches, Caught, Uncaught, Leave, Ending, Breaking, Continuing, Returning, Settle, Release}
use Rattle.py_code.specs.declared.unit.Handler.{Handler}
use Rattle.py_code.specs.Configurations.{Way, on, by_break, by_continue, by_return, by_raise, Operand, of_value, of_walk, of_way, Locals, Frame, Effects, Configuration, Ended, gave, failed, spent, stuck, End, Next}
use Rattle.py_code.specs.Run.{Goes, Ticks, Ends, Machine, go}
use Rattle.py_code.specs.Units.{Code, Module, unit_at, places_of, constant_value, handler_at, imported_number}
use Rattle.py_value.specs.Compared.{compared}
use Rattle.py_builtins.specs.Callees.{callee_of, taken, or_builtin}
use Rattle.py_builtins.specs.Faults.{local_unset, no_module}
use Rattle.py_code.specs.Operands.{value_in, callee_in, operand_of, walk_in, way_in, exception_in, text_in, asked}
pub use Rattle.py_code.specs.Changes.{told, in_world, told_line, name_at, begun_by, failed_by, entered, escaped, with_operands, with_locals, with_effects, on_world, on_heap, heap_of, halted, jumps, falls, pushes, dropping, one, two, three, many, where_found, numbered, stepping}
pub use Rattle.py_code.specs.Reaching.{Reach, code_of, raises_at_once, with_arguments, to_function, by_answer, by_done, reach, reach_callee, module_of, imported, at_once, in_frame}

module _ {L : Type 0} (locals : Locals L) (ms : List Module) where
  -- ---- exceptions

  -- an exception in a frame, at the handler of its place, or else what follows outside
  abbrev pub land : Option Handler → Next L → PlainRaised → Bool → Configuration L → Next L
  land None out e t c = out
  land (Some h) out e t c =
      jumps h.target
      (of_way (by_raise e t) ∷ drop (length c.top.operands - h.depth) c.top.operands) c

  -- an exception leaves the frame of this code, and is thrown in the one that waits for it
  abbrev pub leave : PlainRaised → CodeId → List (Frame L) → ℕ → Effects → Next L
  leave e code [] n w = Ends (record { how = failed e; steps = n; effects = escaped code w })
  leave e code (f ∷ fs) n w =
      land (handler_at ms f.code f.place)
      (leave e f.code fs n (told (Throw e.kind) (escaped code w))) e true
      (record { top = f; callers = fs; steps = n; effects = told (Throw e.kind) (escaped code w) })

  -- an exception is on its way, with whether it was thrown in the frame
  abbrev pub escapes : PlainRaised → Bool → Configuration L → Next L
  escapes e t c =
      land (handler_at ms c.top.code c.top.place)
      (leave e c.top.code c.callers c.steps c.effects) e t c

  -- an exception is thrown in the top frame, which is told
  abbrev pub throw : PlainRaised → Configuration L → Next L
  throw e c = escapes e true (with_effects (told (Throw e.kind) c.effects) c)

  -- ---- answers

  -- what follows an answer, or its exception is thrown
  abbrev pub answers : {A : Type 0} → Result A PlainRaised → List Operand → Configuration L
      → (A → Next L) → Next L
  answers (Ok a) xs c k = k a
  answers (Err e) xs c k = throw e (with_operands xs c)

  -- the value of an answer is put on top
  abbrev pub pushes_answer : Result PlainValue PlainRaised → List Operand → Configuration L → Next L
  pushes_answer r xs c = answers r xs c (λ v. pushes v xs c)

  -- the text of an answer is put on top
  abbrev pub pushes_text : Result (List ℕ) PlainRaised → List Operand → Configuration L → Next L
  pushes_text r xs c = answers r xs c (λ x. pushes (str_value x) xs c)

  -- the truth value of an answer is put on top
  abbrev pub pushes_truth : Result Bool PlainRaised → List Operand → Configuration L → Next L
  pushes_truth r xs c = answers r xs c (λ b. pushes (bool_value b) xs c)

  -- a value, and another heap
  abbrev pub makes : Answer → List Operand → Configuration L → Next L
  makes r xs c = answers r xs c (λ p. pushes p.0 xs (on_heap p.1 c))

  -- nothing but another heap
  abbrev pub stores : Result (Unit {0} × PlainHeap) PlainRaised → List Operand → List Operand
      → Configuration L → Next L
  stores r xs ys c = answers r xs c (λ p. falls ys (on_heap p.1 c))

  -- by the truth of a value
  abbrev pub chooses : PlainValue → Configuration L → Next L → Next L → Next L
  chooses v c m k = if truth_of v (heap_of c) then m else k

  -- ---- frames

  -- the innermost frame ends with a value
  abbrev pub give : PlainValue → List (Frame L) → ℕ → Effects → Next L
  give v [] n w = Ends (record { how = gave v; steps = n; effects = told Returned w })
  give v (f ∷ fs) n w = Goes (record {
    top = record f { place = suc f.place; operands = of_value v ∷ f.operands };
    callers = fs;
    steps = n;
    effects = told Returned w;
  })

  -- a frame at its begin, with the values of its parameters
  abbrev pub new_frame : CodeId → List PlainValue → ℕ → Frame L
  new_frame code vs depth =
      record {
        code = code;
        place = 0;
        operands = [];
        locals = locals.fresh code vs;
        line = 0;
        depth =
            depth;
      }

  -- a frame begins above that of its caller
  abbrev pub begins : CodeId → List PlainValue → Frame L → Configuration L → ℕ → Next L
  begins code vs caller c n = Ticks (record {
    top = new_frame code vs (suc c.top.depth);
    callers = caller ∷ c.callers;
    steps = n;
    effects = entered ms code c.effects;
  })

  -- a frame begins, where there may be one more, for a caller with these operands; that is a step
  abbrev pub enter : CodeId → List PlainValue → List Operand → Configuration L → Next L
  enter code vs xs c =
      if nat_lt c.top.depth most_frames then stepping c.steps c
      (λ n. begins code vs (record c.top { operands = xs }) c n) else throw (raised_by TooDeep)
      (with_operands xs c)

  -- what a call leads to is done
  abbrev pub calls : Reach → List Operand → Configuration L → Next L
  calls (at_once r e) xs c = pushes_answer r xs (with_effects e c)
  calls (in_frame code vs) xs c = enter code vs xs c

  -- the body of a module that isn't begun
  abbrev pub runs_module : List ℕ → Option ℕ → Configuration L → Next L
  runs_module x None c = throw (no_module x) c
  runs_module x (Some m) c =
      if is_begun m c.effects.world then pushes none_value c.top.operands c else enter
      (record { «module» = m; unit = 0 }) [] c.top.operands c

  -- the body of the module of a name runs, unless that is begun; `sys` has none
  abbrev pub imports : List ℕ → Configuration L → Next L
  imports x c =
      if is_same_text x (codes "sys") then pushes none_value c.top.operands c else runs_module x
      (imported_number ms x) c

  -- ---- forms

  -- a chain of comparisons goes on with its right operand, or ends as false
  abbrev pub links : Bool → Operand → ℕ → List Operand → Configuration L → Next L
  links true w to xs c = falls (w ∷ xs) c
  links false w to xs c = jumps to (of_value (bool_value false) ∷ xs) c

  -- values are put on top, the first one topmost
  abbrev pub spreads : List PlainValue → List Operand → Configuration L → Next L
  spreads vs xs c = falls (map of_value vs ++ xs) c

  -- the items that a pattern found are put on top, or the next case is tried
  abbrev pub looks_in : Option (List PlainValue) → ℕ → ℕ → List Operand → Configuration L → Next L
  looks_in None n to xs c = dropping n xs c (λ ys. jumps to ys c)
  looks_in (Some vs) n to xs c = spreads vs xs c

  -- the turn with an item, or the end
  abbrev pub turns : Option PlainValue → PlainValue → ℕ → ℕ → ℕ → List Operand → Configuration L
      → Next L
  turns None v n i to xs c = jumps to xs c
  turns (Some x) v n i to xs c = falls (of_value x ∷ of_walk v n (suc i) ∷ xs) c

  -- the next turn of a walk
  abbrev pub walks : PlainValue × ℕ × ℕ → ℕ → List Operand → Configuration L → Next L
  walks w to xs c =
      answers (item_of w.0 w.1 w.2 (heap_of c)) xs c (λ x. turns x w.0 w.1 w.2 to xs c)

  -- an exception is raised by itself, and a kind without an argument
  abbrev pub raises : PlainValue → Configuration L → Next L
  raises none_value c = throw (raised_by NotException) c
  raises (bool_value b) c = throw (raised_by NotException) c
  raises (int_value n) c = throw (raised_by NotException) c
  raises (str_value s) c = throw (raised_by NotException) c
  raises (tuple_value items) c = throw (raised_by NotException) c
  raises (list_at a) c = throw (raised_by NotException) c
  raises (dict_at a) c = throw (raised_by NotException) c
  raises (func_value f a) c = throw (raised_by NotException) c
  raises (module_value m) c = throw (raised_by NotException) c
  raises (kind_value kind) c = escapes (record { kind = kind; arg = no_argument }) false c
  raises (exc_value kind arg) c = escapes (record { kind = kind; arg = arg }) false c
  raises (builtin_value which) c = throw (raised_by NotException) c

  -- a line is marked, and a step taken
  abbrev pub marks : ℕ → Effects → Configuration L → Next L
  marks l e c =
      stepping c.steps c
      (λ n. Ticks
      (record {
        top = record c.top
            { place = suc c.top.place; line = l };
        callers = c.callers;
        steps = n;
        effects = e;
      }))

  -- so many operands are taken away, and the way out is put on top
  abbrev pub puts_way : ℕ → Way → ℕ → List Operand → Configuration L → Next L
  puts_way n w to xs c = dropping n xs c (λ ys. jumps to (of_way w ∷ ys) c)

  -- goes on in a way out, and throws what was thrown once more if it is to be settled
  abbrev pub resumes : Bool → Way → List Operand → Configuration L → Next L
  resumes settled on xs c = jumps (4 + c.top.place) xs c
  resumes settled by_break xs c = jumps (1 + c.top.place) xs c
  resumes settled by_continue xs c = jumps (2 + c.top.place) xs c
  resumes settled (by_return v) xs c = jumps (3 + c.top.place) (of_value v ∷ xs) c
  resumes settled (by_raise e t) xs c =
      if settled && t then throw e (with_operands xs c) else escapes e t (with_operands xs c)

  -- ---- instructions, of a unit, on these operands

  -- what an instruction of a unit does on these operands
  abbrev pub act : Code → Instr → List Operand → Configuration L → Next L
  act u (Constant n) xs c = numbered u.constants n c (λ k. pushes (constant_value k) xs c)
  act u Pop xs c = one xs c (λ x ys. falls ys c)
  act u (Copy n) xs c = numbered xs n c (λ x. falls (x ∷ xs) c)
  act u (Sink n) xs c = one xs c (λ x ys. dropping n ys c (λ zs. falls (take n ys ++ x ∷ zs) c))
  act u (Roll n) xs c = numbered xs n c (λ x. falls (x ∷ remove xs n) c)
  act u (LoadLocal n) xs c =
      numbered u.locals n c
      (λ x. pushes_answer (or_raise (local_unset x) (locals.look c.top.code c.top.locals n)) xs c)
  act u (StoreLocal n) xs c =
      numbered u.locals n c
      (λ x. one xs c
      (λ y ys. falls ys (with_locals (locals.set c.top.code c.top.locals n (value_in y)) c)))
  act u (UnsetLocal n) xs c =
      numbered u.locals n c (λ x. falls xs (with_locals (locals.unset c.top.code c.top.locals n) c))
  act u (LoadGlobal n) xs c =
      numbered u.names n c
      (λ x. pushes_answer (or_builtin x (global_of c.top.code.module x c.effects.world)) xs c)
  act u (StoreGlobal n) xs c =
      numbered u.names n c
      (λ x. one xs c (λ y ys. falls ys (on_world (with_global c.top.code.module x (value_in y)) c)))
  act u (UnsetGlobal n) xs c =
      numbered u.names n c (λ x. falls xs (on_world (without_global c.top.code.module x) c))
  act u Text xs c = one xs c (λ x ys. pushes_text (str_text (value_in x) (heap_of c)) ys c)
  act u Extend xs c = two xs c (λ x y ys. pushes_text (extended (text_in x) (text_in y)) ys c)
  act u (Tuple n) xs c = many n xs c (λ vs ys. pushes_answer (new_tuple vs) ys c)
  act u (MakeList n) xs c = many n xs c (λ vs ys. makes (new_list vs (heap_of c)) ys c)
  act u Dict xs c = makes (new_dict (heap_of c)) xs c
  act u AddPair xs c =
      three xs c
      (λ d k v ys. stores (stored (value_in d) (value_in k) (value_in v) (heap_of c)) ys (d ∷ ys) c)
  act u Not xs c =
      one xs c
      (λ x ys. chooses (value_in x) c (pushes (bool_value false) ys c)
      (pushes (bool_value true) ys c))
  act u (Binary op) xs c =
      two xs c (λ x y ys. makes (binary_of op (value_in x) (value_in y) (heap_of c)) ys c)
  act u (InPlace op) xs c =
      two xs c (λ x y ys. makes (in_place_of op (value_in x) (value_in y) (heap_of c)) ys c)
  act u (Compare q) xs c =
      two xs c
      (λ x y ys. pushes_truth (compared (asked q) (value_in x) (value_in y) (heap_of c)) ys c)
  act u Index xs c =
      two xs c (λ x i ys. pushes_answer (index_of (value_in x) (value_in i) (heap_of c)) ys c)
  act u (Slice Neither) xs c =
      one xs c (λ x ys. makes (sliced (value_in x) None None (heap_of c)) ys c)
  act u (Slice From) xs c =
      two xs c (λ x a ys. makes (sliced (value_in x) (Some (value_in a)) None (heap_of c)) ys c)
  act u (Slice To) xs c =
      two xs c (λ x b ys. makes (sliced (value_in x) None (Some (value_in b)) (heap_of c)) ys c)
  act u (Slice Both) xs c =
      three xs c
      (λ x a b ys. makes
      (sliced (value_in x) (Some (value_in a)) (Some (value_in b)) (heap_of c)) ys c)
  act u (Attribute n) xs c =
      numbered u.names n c
      (λ name. one xs c (λ x ys. pushes_answer (attribute (value_in x) name c.effects.world) ys c))
  act u StoreIndex xs c =
      three xs c
      (λ v x i ys. stores (stored (value_in x) (value_in i) (value_in v) (heap_of c)) ys ys c)
  act u (Unpack n) xs c =
      one xs c (λ x ys. answers (unpacked n (value_in x) (heap_of c)) ys c (λ vs. spreads vs ys c))
  act u (Goto to) xs c = jumps to xs c
  act u (IfFalse to) xs c = one xs c (λ x ys. chooses (value_in x) c (falls ys c) (jumps to ys c))
  act u (IfTrue to) xs c = one xs c (λ x ys. chooses (value_in x) c (jumps to ys c) (falls ys c))
  act u (And to) xs c = one xs c (λ x ys. chooses (value_in x) c (falls ys c) (jumps to xs c))
  act u (Or to) xs c = one xs c (λ x ys. chooses (value_in x) c (jumps to xs c) (falls ys c))
  act u (Link q to) xs c =
      two xs c
      (λ x y ys. answers (compared (asked q) (value_in x) (value_in y) (heap_of c)) ys c
      (λ b. links b y to ys c))
  act u (Unless n to) xs c =
      one xs c (λ x ys. chooses (value_in x) c (falls ys c) (dropping n ys c (λ zs. jumps to zs c)))
  act u (Sequence k n to) xs c =
      one xs c (λ x ys. looks_in (of_length k (sequence_items (value_in x) (heap_of c))) n to ys c)
  act u (Mark n) xs c = numbered u.lines n c (λ l. marks l (told_line c.top.line l c.effects) c)
  act u (Again n) xs c = numbered u.lines n c (λ l. marks l (told (Line l) c.effects) c)
  act u Walk xs c =
      one xs c
      (λ x ys. answers (walk_length (value_in x) (heap_of c)) ys c
      (λ n. falls (of_walk (value_in x) n 0 ∷ ys) c))
  act u (NextItem to) xs c = one xs c (λ x ys. walks (walk_in x) to ys c)
  act u (Method n) xs c =
      numbered u.names n c
      (λ name. one xs c
      (λ x ys. answers (callee_of (value_in x) name c.effects.world) ys c
      (λ f. falls (operand_of f ∷ ys) c)))
  act u (Call n) xs c =
      many n xs c
      (λ vs ys. one ys c (λ f zs. calls (reach_callee ms (callee_in f) vs c.effects) zs c))
  act u Return xs c = one xs c (λ x ys. give (value_in x) c.callers c.steps c.effects)
  act u (Function k) xs c =
      pushes (func_value (record { «module» = c.top.code.module; unit = k }) None) xs c
  act u (FunctionWith k) xs c =
      one xs c
      (λ x ys. pushes
      (func_value (record { «module» = c.top.code.module; unit = k })
      (address_of (value_in x))) ys c)
  act u (Import n) xs c = numbered u.names n c (λ name. imports name c)
  act u (LoadModule n) xs c = numbered u.names n c (λ name. pushes_answer (imported ms name) xs c)
  act u (Take m n) xs c =
      numbered u.names m c
      (λ from. numbered u.names n c
      (λ name. one xs c
      (λ x ys. pushes_answer (taken from (value_in x) name c.effects.world) xs c)))
  act u Raise xs c = one xs c (λ x ys. raises (value_in x) (with_operands ys c))
  act u (Reraise n) xs c = numbered xs n c (λ x. escapes (exception_in x) false c)
  act u Assertion xs c = throw (record { kind = AssertionError; arg = no_argument }) c
  act u AssertionWith xs c =
      one xs c
      (λ x ys. answers (assertion_error (value_in x)) ys c (λ e. throw e (with_operands ys c)))
  act u Catches xs c =
      two xs c (λ w x ys. pushes_truth (catches (value_in x) (exception_in w).kind) (w ∷ ys) c)
  act u Caught xs c =
      one xs c (λ w ys. pushes (exc_value (exception_in w).kind (exception_in w).arg) xs c)
  act u Uncaught xs c = one xs c (λ w ys. throw (exception_in w) (with_operands ys c))
  act u (Leave n to) xs c = dropping n xs c (λ ys. jumps to ys c)
  act u Ending xs c = falls (of_way on ∷ xs) c
  act u (Breaking n to) xs c = puts_way n by_break to xs c
  act u (Continuing n to) xs c = puts_way n by_continue to xs c
  act u (Returning n to) xs c = one xs c (λ x ys. puts_way n (by_return (value_in x)) to ys c)
  act u Settle xs c = one xs c (λ w ys. resumes true (way_in w) ys c)
  act u Release xs c = one xs c (λ w ys. resumes false (way_in w) ys c)

  -- the instruction of a place, if there is one
  abbrev pub acts : Code → Option Instr → Configuration L → Next L
  acts u None c = halted stuck c
  acts u (Some i) c = act u i c.top.operands c

  -- the instruction at the present place of a unit, if there is one
  abbrev pub move_in : Option Code → Configuration L → Next L
  move_in None c = halted stuck c
  move_in (Some u) c = acts u (slice_get u.instrs c.top.place) c

  -- one instruction
  abbrev pub move : Configuration L → Next L
  move c = move_in (unit_at ms c.top.code) c

  -- ---- how far it is to the end, but for steps

  -- how many places the waiting frames have, and one more for each
  abbrev pub callers_rank : List (Frame L) → ℕ
  callers_rank [] = 0
  callers_rank (f ∷ fs) = suc (length (places_of ms f.code)) + callers_rank fs

  -- the same with the places that are left in the top frame
  abbrev pub rank : Configuration L → ℕ
  rank c = suc (length (places_of ms c.top.code) - c.top.place) + callers_rank c.callers

  -- the machine: its moves, how far it is from its end, and how it ends where no move is left
  abbrev pub machine : Machine (Configuration L) End
  machine = record {
    move = move;
    rank = rank;
    left = λ c. c.steps;
    stuck = λ c. record { how = stuck; steps = c.steps; effects = c.effects };
    cut = λ c. record { how = spent; steps = c.steps; effects = c.effects };
  }

  -- what follows a move
  abbrev pub follows : Next L → End
  follows (Goes c) = go machine c
  follows (Ticks c) = go machine c
  follows (Ends r) = r

  -- a frame that nothing waits for
  abbrev pub outermost : CodeId → List PlainValue → ℕ → Effects → Next L
  outermost code vs zero e = Ends (record { how = spent; steps = 0; effects = e })
  outermost code vs (suc n) e =
      Ticks
      (record { top = new_frame code vs 1; callers = []; steps = n; effects = entered ms code e })

  -- an answer as the end of a run
  abbrev pub ended_by : Result PlainValue PlainRaised → Ended
  ended_by (Ok v) = gave v
  ended_by (Err e) = failed e

  -- a call that nothing waits for
  abbrev pub outer_call : Reach → ℕ → Effects → Next L
  outer_call (at_once r e) n before = Ends (record { how = ended_by r; steps = n; effects = e })
  outer_call (in_frame code vs) n before = outermost code vs n before
