-- A machine that keeps local names by slots does what one does that keeps them by names.
use Rattle.std.proofs.Common.{◌≡◌, ℕ, zero, suc, ◌-◌, ◌≤◌, List, [], ◌∷◌, ◌++◌, length, map, take, drop, Option, Some, None, Bool, true, false, refl, sym, ap, ◌∙◌, subst, arith}
use Rattle.std.specs.Prelude.{slice_get, slice_set, replicate, reverse, nat_le, nat_lt, ◌&&◌, if◌then◌else◌, Result, Ok, Err, codes}
use Rattle.cov_event.specs.declared.event.CodeId.{CodeId}
use Rattle.cov_event.specs.declared.event.Event.TheVariants.{Throw}
use Rattle.py_value.specs.declared.cause.Cause.TheVariants.{TooDeep}
use Rattle.py_value.specs.Causes.{raised_by}
use Rattle.py_text.specs.Comparison.{is_same_text}
use Rattle.py_value.specs.Operators.{truth_of}
use Rattle.py_value.specs.Plain.{PlainValue, none_value, bool_value, int_value, str_value, tuple_value, list_at, dict_at, func_value, module_value, kind_value, exc_value, builtin_value, PlainHeap, PlainRaised}
use Rattle.py_builtins.specs.Arguments.{Answer}
use Rattle.py_builtins.specs.Attributes.{or_raise}
use Rattle.py_builtins.specs.Items.{unpacked, walk_length, sequence_items, of_length}
use Rattle.py_builtins.specs.Making.{new_tuple}
use Rattle.py_builtins.specs.Methods.{new_list}
use Rattle.py_builtins.specs.Parameters.{most_frames, parameters}
use Rattle.py_builtins.specs.World.{World, global_of, Names, value_of, is_begun}
use Rattle.py_code.specs.declared.instr.Bounds.TheVariants.{Neither, From, To, Both}
use Rattle.py_code.specs.declared.instr.Instr.{Instr}
use Rattle.py_code.specs.declared.instr.Instr.TheVariants.{Constant, Pop, Copy, Sink, Roll, LoadLocal, StoreLocal, UnsetLocal, LoadGlobal, StoreGlobal, UnsetGlobal, Text, Extend, Tuple, List as MakeList, Dict, AddPair, Not, Binary, InPlace, Compare, Index, Slice, Attribute, StoreIndex, Unpack}
use Rattle.py_code.specs.declared.instr.Instr.TheVariants.{Goto, IfFalse, IfTrue, And, Or, Link, Unless, Sequence, Mark, Again, Walk, Next as NextItem, Method, Call, Return, Function, FunctionWith, Import, Module as LoadModule, Take}
use Rattle.py_code.specs.declared.instr.Instr.TheVariants.{Raise, Reraise, Assertion, AssertionWith, Catches, Caught, Uncaught, Leave, Ending, Breaking, Continuing, Returning, Settle, Release}
use Rattle.py_code.specs.declared.unit.Handler.{Handler}
use Rattle.py_code.specs.Configurations.{Way, on, by_break, by_continue, by_return, by_raise, Operand, of_walk, of_way, Locals, Frame, Effects, Configuration, stuck, End, Next}
use Rattle.py_code.specs.Laws.{OneMachine}
use Rattle.py_code.specs.Programs.{Request, script, at_rest, reach_global, end_of_run, end_of_call}
use Rattle.py_code.specs.Machine.{told, with_locals, escaped, entered, with_operands, with_effects, heap_of, halted, jumps, falls, pushes, dropping, one, two, three, many, where_found, stepping, Reach, at_once, in_frame, land, leave, escapes, throw, answers, pushes_answer, pushes_text, pushes_truth, makes, stores, give, begins, enter, calls, runs_module, imports, links, spreads, looks_in, turns, raises, marks, puts_way, resumes, act, acts, move_in, move, callers_rank, rank, machine, new_frame, outermost, outer_call, follows, reach_callee}
use Rattle.py_code.specs.Operands.{value_in, callee_in, operand_of}
use Rattle.py_code.specs.Run.{Goes, Ticks, Ends, lands, follow, walk, run, go}
use Rattle.py_code.specs.Slots.{locals_in, params_in, slot_name, name_or_none, by_names, by_slots, AreNamed, IsDistinct}
use Rattle.py_code.specs.Units.{Code, Module, unit_at, handler_at, imported_number}
use Rattle.py_code.proofs.Codes.{global_inside}
use Rattle.py_code.proofs.Instructions.{Inside, callee_inside}
use Rattle.py_code.proofs.SlotLaws.{slots, looked_up, changed, begun}
use Rattle.py_builtins.specs.Callees.{callee_of}
use Rattle.py_builtins.specs.Faults.{name_unknown, local_unset}
use Rattle.py_builtins.proofs.NameLaws.{value-with, value-without}

abbrev pub Slots : Type 0
Slots = List (Option PlainValue)

module _ (ms : List Module) (named : AreNamed ms) where
  -- a frame by names seen by slots
  abbrev pub frame_of : Frame Names → Frame Slots
  frame_of f = record { code = f.code; place = f.place; operands = f.operands; locals = slots (locals_in (unit_at ms f.code)) f.locals; line = f.line; depth = f.depth }

  abbrev pub seen : Configuration Names → Configuration Slots
  seen c = record { top = frame_of c.top; callers = map frame_of c.callers; steps = c.steps; effects = c.effects }

  abbrev pub next_seen : Next Names → Next Slots
  next_seen (Goes c) = Goes (seen c)
  next_seen (Ticks c) = Ticks (seen c)
  next_seen (Ends r) = Ends r

  abbrev S : Locals Slots
  S = by_slots ms

  abbrev N : Locals Names
  N = by_names ms

  -- ---- what instructions find

  same_one : (xs : List Operand) (c : Configuration Names) (k : Operand → List Operand → Next Slots) (j : Operand → List Operand → Next Names)
      → ((x : Operand) (ys : List Operand) → k x ys ≡ next_seen (j x ys)) → one xs (seen c) k ≡ next_seen (one xs c j)
  same_one [] c k j h = refl
  same_one (x ∷ xs) c k j h = h x xs

  same_two : (xs : List Operand) (c : Configuration Names) (k : Operand → Operand → List Operand → Next Slots) (j : Operand → Operand → List Operand → Next Names)
      → ((x y : Operand) (ys : List Operand) → k x y ys ≡ next_seen (j x y ys)) → two xs (seen c) k ≡ next_seen (two xs c j)
  same_two [] c k j h = refl
  same_two (y ∷ []) c k j h = refl
  same_two (y ∷ (x ∷ xs)) c k j h = h x y xs

  same_three : (xs : List Operand) (c : Configuration Names) (k : Operand → Operand → Operand → List Operand → Next Slots) (j : Operand → Operand → Operand → List Operand → Next Names)
      → ((x y z : Operand) (ys : List Operand) → k x y z ys ≡ next_seen (j x y z ys)) → three xs (seen c) k ≡ next_seen (three xs c j)
  same_three [] c k j h = refl
  same_three (z ∷ []) c k j h = refl
  same_three (z ∷ (y ∷ [])) c k j h = refl
  same_three (z ∷ (y ∷ (x ∷ xs))) c k j h = h x y z xs

  same_choice : (b : Bool) (m n : Next Slots) (p q : Next Names) → m ≡ next_seen p → n ≡ next_seen q → (if b then m else n) ≡ next_seen (if b then p else q)
  same_choice true m n p q h k = h
  same_choice false m n p q h k = k

  same_dropped : (n : ℕ) (xs : List Operand) (c : Configuration Names) (k : List Operand → Next Slots) (j : List Operand → Next Names)
      → ((ys : List Operand) → k ys ≡ next_seen (j ys)) → dropping n xs (seen c) k ≡ next_seen (dropping n xs c j)
  same_dropped n xs c k j h = same_choice (nat_le n (length xs)) (k (drop n xs)) (halted stuck (seen c)) (j (drop n xs)) (halted stuck c) (h (drop n xs)) refl

  same_many : (n : ℕ) (xs : List Operand) (c : Configuration Names) (k : List PlainValue → List Operand → Next Slots) (j : List PlainValue → List Operand → Next Names)
      → ((vs : List PlainValue) (ys : List Operand) → k vs ys ≡ next_seen (j vs ys)) → many n xs (seen c) k ≡ next_seen (many n xs c j)
  same_many n xs c k j h =
      same_dropped n xs c (λ ys. k (map value_in (reverse (take n xs))) ys) (λ ys. j (map value_in (reverse (take n xs))) ys) (λ ys. h (map value_in (reverse (take n xs))) ys)

  same_found : {A : Type 0} (o : Option A) (c : Configuration Names) (k : A → Next Slots) (j : A → Next Names) → ((x : A) → o ≡ Some x → k x ≡ next_seen (j x))
      → where_found o (seen c) k ≡ next_seen (where_found o c j)
  same_found None c k j h = refl
  same_found (Some x) c k j h = h x refl

  same_step : (n : ℕ) (c : Configuration Names) (k : ℕ → Next Slots) (j : ℕ → Next Names) → ((m : ℕ) → k m ≡ next_seen (j m)) → stepping n (seen c) k ≡ next_seen (stepping n c j)
  same_step zero c k j h = refl
  same_step (suc n) c k j h = h n

  -- ---- exceptions

  same_land : (o : Option Handler) (m : Next Slots) (n : Next Names) (e : PlainRaised) (t : Bool) (c : Configuration Names) → m ≡ next_seen n → land S ms o m e t (seen c) ≡ next_seen (land N ms o n e t c)
  same_land None m n e t c h = h
  same_land (Some k) m n e t c h = refl

  same_leave : (e : PlainRaised) (code : CodeId) (fs : List (Frame Names)) (n : ℕ) (w : Effects) → leave S ms e code (map frame_of fs) n w ≡ next_seen (leave N ms e code fs n w)
  same_leave e code [] n w = refl
  same_leave e code (f ∷ fs) n w =
      let v = told (Throw e.kind) (escaped code w) in
      same_land (handler_at ms f.code f.place) (leave S ms e f.code (map frame_of fs) n v) (leave N ms e f.code fs n v) e true (record { top = f; callers = fs; steps = n; effects = v }) (same_leave e f.code fs n v)

  same_escape : (e : PlainRaised) (t : Bool) (c : Configuration Names) → escapes S ms e t (seen c) ≡ next_seen (escapes N ms e t c)
  same_escape e t c =
      same_land (handler_at ms c.top.code c.top.place) (leave S ms e c.top.code (map frame_of c.callers) c.steps c.effects) (leave N ms e c.top.code c.callers c.steps c.effects) e t c
      (same_leave e c.top.code c.callers c.steps c.effects)

  same_throw : (e : PlainRaised) (c : Configuration Names) → throw S ms e (seen c) ≡ next_seen (throw N ms e c)
  same_throw e c = same_escape e true (with_effects (told (Throw e.kind) c.effects) c)

  -- ---- answers

  same_answer : {A : Type 0} (r : Result A PlainRaised) (xs : List Operand) (c : Configuration Names) (k : A → Next Slots) (j : A → Next Names) → ((a : A) → k a ≡ next_seen (j a))
      → answers S ms r xs (seen c) k ≡ next_seen (answers N ms r xs c j)
  same_answer (Ok a) xs c k j h = h a
  same_answer (Err e) xs c k j h = same_throw e (with_operands xs c)

  same_value : (r : Result PlainValue PlainRaised) (xs : List Operand) (c : Configuration Names) → pushes_answer S ms r xs (seen c) ≡ next_seen (pushes_answer N ms r xs c)
  same_value (Ok v) xs c = refl
  same_value (Err e) xs c = same_throw e (with_operands xs c)

  same_text : (r : Result (List ℕ) PlainRaised) (xs : List Operand) (c : Configuration Names) → pushes_text S ms r xs (seen c) ≡ next_seen (pushes_text N ms r xs c)
  same_text (Ok x) xs c = refl
  same_text (Err e) xs c = same_throw e (with_operands xs c)

  same_truth : (r : Result Bool PlainRaised) (xs : List Operand) (c : Configuration Names) → pushes_truth S ms r xs (seen c) ≡ next_seen (pushes_truth N ms r xs c)
  same_truth (Ok b) xs c = refl
  same_truth (Err e) xs c = same_throw e (with_operands xs c)

  same_made : (r : Answer) (xs : List Operand) (c : Configuration Names) → makes S ms r xs (seen c) ≡ next_seen (makes N ms r xs c)
  same_made (Ok p) xs c = refl
  same_made (Err e) xs c = same_throw e (with_operands xs c)

  same_stored : (r : Result (Unit {0} × PlainHeap) PlainRaised) (xs ys : List Operand) (c : Configuration Names) → stores S ms r xs ys (seen c) ≡ next_seen (stores N ms r xs ys c)
  same_stored (Ok p) xs ys c = refl
  same_stored (Err e) xs ys c = same_throw e (with_operands xs c)

  -- ---- frames

  same_give : (v : PlainValue) (fs : List (Frame Names)) (n : ℕ) (w : Effects) → give S ms v (map frame_of fs) n w ≡ next_seen (give N ms v fs n w)
  same_give v [] n w = refl
  same_give v (f ∷ fs) n w = refl

  -- the local names of a new frame
  same_fresh : (o : Option Code) (code : CodeId) (vs : List PlainValue) → unit_at ms code ≡ o → ((u : Code) → o ≡ Some u → length vs ≤ length u.params) → (o ≡ None → vs ≡ [])
      → S.fresh code vs ≡ slots (locals_in (unit_at ms code)) (N.fresh code vs)
  same_fresh None code vs is h k =
      ap (λ o. map Some vs ++ replicate (length (locals_in o) - length vs) None) is ∙ (ap (λ ws. map Some ws ++ replicate (0 - length ws) None) (k refl) ∙ sym (ap (λ o. slots (locals_in o) (parameters (params_in o) vs)) is))
  same_fresh (Some u) code vs is h k =
      let first = named.first code u is in
      let distinct : IsDistinct (u.params ++ first.0) = subst IsDistinct first.1 (named.distinct code u is) in
      ap (λ o. map Some vs ++ replicate (length (locals_in o) - length vs) None) is
      ∙ (ap (λ xs. map Some vs ++ replicate (length xs - length vs) None) first.1
      ∙ (begun u.params first.0 vs distinct (h u refl)
      ∙ (ap (λ xs. slots xs (parameters u.params vs)) (sym first.1) ∙ sym (ap (λ o. slots (locals_in o) (parameters (params_in o) vs)) is))))

  same_frame : (code : CodeId) (vs : List PlainValue) (depth : ℕ) → S.fresh code vs ≡ slots (locals_in (unit_at ms code)) (N.fresh code vs)
      → new_frame S ms code vs depth ≡ frame_of (new_frame N ms code vs depth)
  same_frame code vs depth e = ap (λ l. record { code = code; place = 0; operands = []; locals = l; line = 0; depth = depth }) e

  same_enter : (code : CodeId) (vs : List PlainValue) (xs : List Operand) (c : Configuration Names) → S.fresh code vs ≡ slots (locals_in (unit_at ms code)) (N.fresh code vs)
      → enter S ms code vs xs (seen c) ≡ next_seen (enter N ms code vs xs c)
  same_enter code vs xs c e =
      same_choice (nat_lt c.top.depth most_frames) (stepping c.steps (seen c) (λ n. begins S ms code vs (record (seen c).top { operands = xs }) (seen c) n)) (throw S ms (raised_by TooDeep) (with_operands xs (seen c)))
      (stepping c.steps c (λ n. begins N ms code vs (record c.top { operands = xs }) c n)) (throw N ms (raised_by TooDeep) (with_operands xs c))
      (same_step c.steps c _ _ (λ n. ap (λ f. Ticks (record { top = f; callers = frame_of (record c.top { operands = xs }) ∷ map frame_of c.callers; steps = n; effects = entered ms code c.effects })) (same_frame code vs (suc c.top.depth) e)))
      (same_throw (raised_by TooDeep) (with_operands xs c))

  same_call : (r : Reach) (xs : List Operand) (c : Configuration Names) → Inside ms r → calls S ms r xs (seen c) ≡ next_seen (calls N ms r xs c)
  same_call (at_once r e) xs c i = same_value r xs (with_effects e c)
  same_call (in_frame code vs) xs c i =
      same_enter code vs xs c (same_fresh (Some i.0) code vs i.1 (λ u h. let same : i.0 ≡ u = cc in subst (λ w. length vs ≤ length w.params) same i.2) (λ h. absurd cc))

  -- the body of a module has no parameters
  same_body : (code : CodeId) → S.fresh code [] ≡ slots (locals_in (unit_at ms code)) (N.fresh code [])
  same_body code = same_fresh (unit_at ms code) code [] refl (λ u h. omega arith) (λ h. refl)

  same_run_module : (x : List ℕ) (o : Option ℕ) (c : Configuration Names) → runs_module S ms x o (seen c) ≡ next_seen (runs_module N ms x o c)
  same_run_module x None c = same_throw _ c
  same_run_module x (Some m) c =
      same_choice (is_begun m c.effects.world) (pushes none_value c.top.operands (seen c)) (enter S ms (record { «module» = m; unit = 0 }) [] c.top.operands (seen c))
      (pushes none_value c.top.operands c) (enter N ms (record { «module» = m; unit = 0 }) [] c.top.operands c) refl (same_enter _ [] c.top.operands c (same_body (record { «module» = m; unit = 0 })))

  same_import : (x : List ℕ) (c : Configuration Names) → imports S ms x (seen c) ≡ next_seen (imports N ms x c)
  same_import x c =
      same_choice (is_same_text x (codes "sys")) (pushes none_value c.top.operands (seen c)) (runs_module S ms x (imported_number ms x) (seen c))
      (pushes none_value c.top.operands c) (runs_module N ms x (imported_number ms x) c) refl (same_run_module x (imported_number ms x) c)

  -- ---- forms

  same_link : (b : Bool) (y : Operand) (to : ℕ) (xs : List Operand) (c : Configuration Names) → links S ms b y to xs (seen c) ≡ next_seen (links N ms b y to xs c)
  same_link true y to xs c = refl
  same_link false y to xs c = refl

  same_look : (o : Option (List PlainValue)) (n to : ℕ) (xs : List Operand) (c : Configuration Names) → looks_in S ms o n to xs (seen c) ≡ next_seen (looks_in N ms o n to xs c)
  same_look None n to xs c = same_dropped n xs c (λ ys. jumps to ys (seen c)) (λ ys. jumps to ys c) (λ ys. refl)
  same_look (Some vs) n to xs c = refl

  same_turn : (o : Option PlainValue) (v : PlainValue) (n i to : ℕ) (xs : List Operand) (c : Configuration Names) → turns S ms o v n i to xs (seen c) ≡ next_seen (turns N ms o v n i to xs c)
  same_turn None v n i to xs c = refl
  same_turn (Some x) v n i to xs c = refl

  same_raise : (v : PlainValue) (c : Configuration Names) → raises S ms v (seen c) ≡ next_seen (raises N ms v c)
  same_raise none_value c = same_throw _ c
  same_raise (bool_value b) c = same_throw _ c
  same_raise (int_value n) c = same_throw _ c
  same_raise (str_value s) c = same_throw _ c
  same_raise (tuple_value items) c = same_throw _ c
  same_raise (list_at a) c = same_throw _ c
  same_raise (dict_at a) c = same_throw _ c
  same_raise (func_value f a) c = same_throw _ c
  same_raise (module_value m) c = same_throw _ c
  same_raise (kind_value kind) c = same_escape _ false c
  same_raise (exc_value kind arg) c = same_escape _ false c
  same_raise (builtin_value which) c = same_throw _ c

  same_mark : (l : ℕ) (e : Effects) (c : Configuration Names) → marks S ms l e (seen c) ≡ next_seen (marks N ms l e c)
  same_mark l e c = same_step c.steps c _ _ (λ n. refl)

  same_way : (n : ℕ) (w : Way) (to : ℕ) (xs : List Operand) (c : Configuration Names) → puts_way S ms n w to xs (seen c) ≡ next_seen (puts_way N ms n w to xs c)
  same_way n w to xs c = same_dropped n xs c (λ ys. jumps to (of_way w ∷ ys) (seen c)) (λ ys. jumps to (of_way w ∷ ys) c) (λ ys. refl)

  same_resume : (settled : Bool) (w : Way) (xs : List Operand) (c : Configuration Names) → resumes S ms settled w xs (seen c) ≡ next_seen (resumes N ms settled w xs c)
  same_resume settled on xs c = refl
  same_resume settled by_break xs c = refl
  same_resume settled by_continue xs c = refl
  same_resume settled (by_return v) xs c = refl
  same_resume settled (by_raise e t) xs c =
      same_choice (settled && t) (throw S ms e (with_operands xs (seen c))) (escapes S ms e t (with_operands xs (seen c))) (throw N ms e (with_operands xs c)) (escapes N ms e t (with_operands xs c))
      (same_throw e (with_operands xs c)) (same_escape e t (with_operands xs c))

  -- ---- local names

  same_look_up : (u : Code) (c : Configuration Names) (n : ℕ) (x : List ℕ) → unit_at ms c.top.code ≡ Some u → slice_get u.locals n ≡ Some x
      → S.look c.top.code (slots (locals_in (unit_at ms c.top.code)) c.top.locals) n ≡ N.look c.top.code c.top.locals n
  same_look_up u c n x is e =
      looked_up c.top.locals (locals_in (unit_at ms c.top.code)) n x (ap (λ o. slice_get (locals_in o) n) is ∙ e)
      ∙ ap (λ z. value_of z c.top.locals) (sym (ap (λ o. name_or_none (slice_get (locals_in o) n)) is ∙ ap name_or_none e))

  same_change : (u : Code) (c : Configuration Names) (n : ℕ) (x : List ℕ) (w : Option PlainValue) (ns : Names) → unit_at ms c.top.code ≡ Some u → slice_get u.locals n ≡ Some x
      → ((y : List ℕ) → value_of y ns ≡ (if is_same_text y x then w else value_of y c.top.locals))
      → slice_set (slots (locals_in (unit_at ms c.top.code)) c.top.locals) n w ≡ slots (locals_in (unit_at ms c.top.code)) ns
  same_change u c n x w ns is e h =
      changed c.top.locals ns w (locals_in (unit_at ms c.top.code)) n x (subst (λ o. IsDistinct (locals_in o)) (sym is) (named.distinct c.top.code u is)) (ap (λ o. slice_get (locals_in o) n) is ∙ e) h

  slot_is : (u : Code) (c : Configuration Names) (n : ℕ) (x : List ℕ) → unit_at ms c.top.code ≡ Some u → slice_get u.locals n ≡ Some x → slot_name ms c.top.code n ≡ x
  slot_is u c n x is e = ap (λ o. name_or_none (slice_get (locals_in o) n)) is ∙ ap name_or_none e

  same_set : (u : Code) (c : Configuration Names) (n : ℕ) (x : List ℕ) (v : PlainValue) → unit_at ms c.top.code ≡ Some u → slice_get u.locals n ≡ Some x
      → S.set c.top.code (slots (locals_in (unit_at ms c.top.code)) c.top.locals) n v ≡ slots (locals_in (unit_at ms c.top.code)) (N.set c.top.code c.top.locals n v)
  same_set u c n x v is e =
      same_change u c n x (Some v) (N.set c.top.code c.top.locals n v) is e
      (λ y. value-with (slot_name ms c.top.code n) y v c.top.locals ∙ ap (λ z. if is_same_text y z then Some v else value_of y c.top.locals) (slot_is u c n x is e))

  same_unset : (u : Code) (c : Configuration Names) (n : ℕ) (x : List ℕ) → unit_at ms c.top.code ≡ Some u → slice_get u.locals n ≡ Some x
      → S.unset c.top.code (slots (locals_in (unit_at ms c.top.code)) c.top.locals) n ≡ slots (locals_in (unit_at ms c.top.code)) (N.unset c.top.code c.top.locals n)
  same_unset u c n x is e =
      same_change u c n x None (N.unset c.top.code c.top.locals n) is e
      (λ y. value-without (slot_name ms c.top.code n) y c.top.locals ∙ ap (λ z. if is_same_text y z then None else value_of y c.top.locals) (slot_is u c n x is e))

  -- ---- instructions

  same_act : (u : Code) (i : Instr) (xs : List Operand) (c : Configuration Names) → unit_at ms c.top.code ≡ Some u → act S ms u i xs (seen c) ≡ next_seen (act N ms u i xs c)
  same_act u (Constant n) xs c is = same_found (slice_get u.constants n) c _ _ (λ k e. refl)
  same_act u Pop xs c is = same_one xs c _ _ (λ x ys. refl)
  same_act u (Copy n) xs c is = same_found (slice_get xs n) c _ _ (λ k e. refl)
  same_act u (Sink n) xs c is = same_one xs c _ _ (λ x ys. same_dropped n ys c (λ zs. falls (take n ys ++ x ∷ zs) (seen c)) (λ zs. falls (take n ys ++ x ∷ zs) c) (λ zs. refl))
  same_act u (Roll n) xs c is = same_found (slice_get xs n) c _ _ (λ k e. refl)
  same_act u (LoadLocal n) xs c is =
      same_found (slice_get u.locals n) c _ _ (λ x e. ap (λ v. pushes_answer S ms (or_raise (local_unset x) v) xs (seen c)) (same_look_up u c n x is e) ∙ same_value _ xs c)
  same_act u (StoreLocal n) xs c is =
      same_found (slice_get u.locals n) c _ _ (λ x e. same_one xs c _ _ (λ y ys. ap (λ l. falls ys (with_locals l (seen c))) (same_set u c n x (value_in y) is e)))
  same_act u (UnsetLocal n) xs c is = same_found (slice_get u.locals n) c _ _ (λ x e. ap (λ l. falls xs (with_locals l (seen c))) (same_unset u c n x is e))
  same_act u (LoadGlobal n) xs c is = same_found (slice_get u.names n) c _ _ (λ k e. same_value _ xs c)
  same_act u (StoreGlobal n) xs c is = same_found (slice_get u.names n) c _ _ (λ k e. same_one xs c _ _ (λ x ys. refl))
  same_act u (UnsetGlobal n) xs c is = same_found (slice_get u.names n) c _ _ (λ k e. refl)
  same_act u Text xs c is = same_one xs c _ _ (λ x ys. same_text _ ys c)
  same_act u Extend xs c is = same_two xs c _ _ (λ x y ys. same_text _ ys c)
  same_act u (Tuple n) xs c is = same_many n xs c (λ vs ys. pushes_answer S ms (new_tuple vs) ys (seen c)) (λ vs ys. pushes_answer N ms (new_tuple vs) ys c) (λ vs ys. same_value (new_tuple vs) ys c)
  same_act u (MakeList n) xs c is =
      same_many n xs c (λ vs ys. makes S ms (new_list vs (heap_of c)) ys (seen c)) (λ vs ys. makes N ms (new_list vs (heap_of c)) ys c) (λ vs ys. same_made (new_list vs (heap_of c)) ys c)
  same_act u Dict xs c is = refl
  same_act u AddPair xs c is = same_three xs c _ _ (λ x y z ys. same_stored _ ys (x ∷ ys) c)
  same_act u Not xs c is = same_one xs c _ _ (λ x ys. same_choice (truth_of (value_in x) (heap_of c)) (pushes (bool_value false) ys (seen c)) (pushes (bool_value true) ys (seen c)) (pushes (bool_value false) ys c) (pushes (bool_value true) ys c) refl refl)
  same_act u (Binary op) xs c is = same_two xs c _ _ (λ x y ys. same_made _ ys c)
  same_act u (InPlace op) xs c is = same_two xs c _ _ (λ x y ys. same_made _ ys c)
  same_act u (Compare q) xs c is = same_two xs c _ _ (λ x y ys. same_truth _ ys c)
  same_act u Index xs c is = same_two xs c _ _ (λ x y ys. same_value _ ys c)
  same_act u (Slice Neither) xs c is = same_one xs c _ _ (λ x ys. same_made _ ys c)
  same_act u (Slice From) xs c is = same_two xs c _ _ (λ x y ys. same_made _ ys c)
  same_act u (Slice To) xs c is = same_two xs c _ _ (λ x y ys. same_made _ ys c)
  same_act u (Slice Both) xs c is = same_three xs c _ _ (λ x y z ys. same_made _ ys c)
  same_act u (Attribute n) xs c is = same_found (slice_get u.names n) c _ _ (λ k e. same_one xs c _ _ (λ x ys. same_value _ ys c))
  same_act u StoreIndex xs c is = same_three xs c _ _ (λ x y z ys. same_stored _ ys ys c)
  same_act u (Unpack n) xs c is =
      same_one xs c _ _ (λ x ys. same_answer (unpacked n (value_in x) (heap_of c)) ys c (λ vs. spreads S ms vs ys (seen c)) (λ vs. spreads N ms vs ys c) (λ vs. refl))
  same_act u (Goto to) xs c is = refl
  same_act u (IfFalse to) xs c is = same_one xs c _ _ (λ x ys. same_choice (truth_of (value_in x) (heap_of c)) (falls ys (seen c)) (jumps to ys (seen c)) (falls ys c) (jumps to ys c) refl refl)
  same_act u (IfTrue to) xs c is = same_one xs c _ _ (λ x ys. same_choice (truth_of (value_in x) (heap_of c)) (jumps to ys (seen c)) (falls ys (seen c)) (jumps to ys c) (falls ys c) refl refl)
  same_act u (And to) xs c is = same_one xs c _ _ (λ x ys. same_choice (truth_of (value_in x) (heap_of c)) (falls ys (seen c)) (jumps to xs (seen c)) (falls ys c) (jumps to xs c) refl refl)
  same_act u (Or to) xs c is = same_one xs c _ _ (λ x ys. same_choice (truth_of (value_in x) (heap_of c)) (jumps to xs (seen c)) (falls ys (seen c)) (jumps to xs c) (falls ys c) refl refl)
  same_act u (Link q to) xs c is = same_two xs c _ _ (λ x y ys. same_answer _ ys c _ _ (λ b. same_link b y to ys c))
  same_act u (Unless n to) xs c is =
      same_one xs c _ _ (λ x ys. same_choice (truth_of (value_in x) (heap_of c)) (falls ys (seen c)) (dropping n ys (seen c) (λ zs. jumps to zs (seen c))) (falls ys c) (dropping n ys c (λ zs. jumps to zs c)) refl
      (same_dropped n ys c (λ zs. jumps to zs (seen c)) (λ zs. jumps to zs c) (λ zs. refl)))
  same_act u (Sequence k n to) xs c is = same_one xs c _ _ (λ x ys. same_look (of_length k (sequence_items (value_in x) (heap_of c))) n to ys c)
  same_act u (Mark n) xs c is = same_found (slice_get u.lines n) c _ _ (λ k e. same_mark k _ c)
  same_act u (Again n) xs c is = same_found (slice_get u.lines n) c _ _ (λ k e. same_mark k _ c)
  same_act u Walk xs c is =
      same_one xs c _ _ (λ x ys. same_answer (walk_length (value_in x) (heap_of c)) ys c (λ n. falls (of_walk (value_in x) n 0 ∷ ys) (seen c)) (λ n. falls (of_walk (value_in x) n 0 ∷ ys) c) (λ n. refl))
  same_act u (NextItem to) xs c is = same_one xs c _ _ (λ x ys. same_answer _ ys c _ _ (λ o. same_turn o _ _ _ to ys c))
  same_act u (Method n) xs c is = same_found (slice_get u.names n) c _ _ (λ k e. same_one xs c _ _ (λ x ys.
      same_answer (callee_of (value_in x) k c.effects.world) ys c (λ f. falls (operand_of f ∷ ys) (seen c)) (λ f. falls (operand_of f ∷ ys) c) (λ f. refl)))
  same_act u (Call n) xs c is =
      same_many n xs c (λ vs ys. one ys (seen c) (λ x zs. calls S ms (reach_callee ms (callee_in x) vs c.effects) zs (seen c))) (λ vs ys. one ys c (λ x zs. calls N ms (reach_callee ms (callee_in x) vs c.effects) zs c))
      (λ vs ys. same_one ys c _ _ (λ x zs. same_call (reach_callee ms (callee_in x) vs c.effects) zs c (callee_inside ms (callee_in x) vs c.effects)))
  same_act u Return xs c is = same_one xs c _ _ (λ x ys. same_give _ c.callers c.steps c.effects)
  same_act u (Function k) xs c is = refl
  same_act u (FunctionWith k) xs c is = same_one xs c _ _ (λ x ys. refl)
  same_act u (Import n) xs c is = same_found (slice_get u.names n) c _ _ (λ k e. same_import k c)
  same_act u (LoadModule n) xs c is = same_found (slice_get u.names n) c _ _ (λ k e. same_value _ xs c)
  same_act u (Take m n) xs c is = same_found (slice_get u.names m) c _ _ (λ j d. same_found (slice_get u.names n) c _ _ (λ k e. same_one xs c _ _ (λ x ys. same_value _ xs c)))
  same_act u Raise xs c is = same_one xs c _ _ (λ x ys. same_raise (value_in x) (with_operands ys c))
  same_act u (Reraise n) xs c is = same_found (slice_get xs n) c _ _ (λ k e. same_escape _ false c)
  same_act u Assertion xs c is = same_throw _ c
  same_act u AssertionWith xs c is = same_one xs c _ _ (λ x ys. same_answer _ ys c _ _ (λ e. same_throw e (with_operands ys c)))
  same_act u Catches xs c is = same_two xs c _ _ (λ x y ys. same_truth _ (x ∷ ys) c)
  same_act u Caught xs c is = same_one xs c _ _ (λ x ys. refl)
  same_act u Uncaught xs c is = same_one xs c _ _ (λ x ys. same_throw _ (with_operands ys c))
  same_act u (Leave n to) xs c is = same_dropped n xs c (λ ys. jumps to ys (seen c)) (λ ys. jumps to ys c) (λ ys. refl)
  same_act u Ending xs c is = refl
  same_act u (Breaking n to) xs c is = same_way n by_break to xs c
  same_act u (Continuing n to) xs c is = same_way n by_continue to xs c
  same_act u (Returning n to) xs c is = same_one xs c _ _ (λ x ys. same_way n (by_return (value_in x)) to ys c)
  same_act u Settle xs c is = same_one xs c _ _ (λ x ys. same_resume true _ ys c)
  same_act u Release xs c is = same_one xs c _ _ (λ x ys. same_resume false _ ys c)

  same_at : (u : Code) (o : Option Instr) (c : Configuration Names) → unit_at ms c.top.code ≡ Some u → acts S ms u o (seen c) ≡ next_seen (acts N ms u o c)
  same_at u None c is = refl
  same_at u (Some i) c is = same_act u i c.top.operands c is

  same_in : (o : Option Code) (c : Configuration Names) → unit_at ms c.top.code ≡ o → move_in S ms o (seen c) ≡ next_seen (move_in N ms o c)
  same_in None c is = refl
  same_in (Some u) c is = same_at u (slice_get u.instrs c.top.place) c is

  -- one instruction
  pub same_move : (c : Configuration Names) → move S ms (seen c) ≡ next_seen (move N ms c)
  same_move c = same_in (unit_at ms c.top.code) c refl

  same_callers : (fs : List (Frame Names)) → callers_rank S ms (map frame_of fs) ≡ callers_rank N ms fs
  same_callers [] = refl
  same_callers (f ∷ fs) = let rest = same_callers fs in omega arith

  same_rank : (c : Configuration Names) → rank S ms (seen c) ≡ rank N ms c
  same_rank c = let rest = same_callers c.callers in omega arith

  -- ---- all that follow

  module _ (tick : Configuration Slots → End) (tock : Configuration Names → End) (ticks : (c : Configuration Names) → tick (seen c) ≡ tock c) where
    same_lands : (d : Configuration Names) (v : Next Names) → lands (machine S ms) tick (seen d) (next_seen v) ≡ lands (machine N ms) tock d v
    same_lands d (Goes c) = refl
    same_lands d (Ticks c) = ticks c
    same_lands d (Ends r) = refl

    same_follow : (f : Configuration Slots → End) (g : Configuration Names → End) → ((c : Configuration Names) → f (seen c) ≡ g c) → (n : ℕ) (v : Next Names)
        → follow (machine S ms) tick f n (next_seen v) ≡ follow (machine N ms) tock g n v
    same_follow f g h n (Goes d) =
        ap (λ r. if nat_lt r n then f (seen d) else lands (machine S ms) tick (seen d) (move S ms (seen d))) (same_rank d)
        ∙ by_case (nat_lt (rank N ms d) n)
      where
        by_case : (b : Bool) → (if b then f (seen d) else lands (machine S ms) tick (seen d) (move S ms (seen d))) ≡ (if b then g d else lands (machine N ms) tock d (move N ms d))
        by_case true = h d
        by_case false = ap (lands (machine S ms) tick (seen d)) (same_move d) ∙ same_lands d (move N ms d)
    same_follow f g h n (Ticks c) = ticks c
    same_follow f g h n (Ends r) = refl

    same_walk : (n : ℕ) (c : Configuration Names) → walk (machine S ms) tick n (seen c) ≡ walk (machine N ms) tock n c
    same_walk zero c = refl
    same_walk (suc n) c =
        ap (λ r. follow (machine S ms) tick (walk (machine S ms) tick n) r (move S ms (seen c))) (same_rank c)
        ∙ (ap (follow (machine S ms) tick (walk (machine S ms) tick n) (rank N ms c)) (same_move c)
        ∙ same_follow (walk (machine S ms) tick n) (walk (machine N ms) tock n) (same_walk n) (rank N ms c) (move N ms c))

  same_run : (n : ℕ) (c : Configuration Names) → run (machine S ms) n (seen c) ≡ run (machine N ms) n c
  same_run zero c =
      ap (λ r. walk (machine S ms) (machine S ms).cut (suc r) (seen c)) (same_rank c) ∙ same_walk (machine S ms).cut (machine N ms).cut (λ d. refl) (suc (rank N ms c)) c
  same_run (suc n) c =
      ap (λ r. walk (machine S ms) (run (machine S ms) n) (suc r) (seen c)) (same_rank c) ∙ same_walk (run (machine S ms) n) (run (machine N ms) n) (same_run n) (suc (rank N ms c)) c

  pub same_go : (c : Configuration Names) → go (machine S ms) (seen c) ≡ go (machine N ms) c
  same_go c = same_run c.steps c

  same_follows : (v : Next Names) → follows S ms (next_seen v) ≡ follows N ms v
  same_follows (Goes c) = same_go c
  same_follows (Ticks c) = same_go c
  same_follows (Ends r) = refl

  same_outermost : (code : CodeId) (vs : List PlainValue) (n : ℕ) (e : Effects) → S.fresh code vs ≡ slots (locals_in (unit_at ms code)) (N.fresh code vs)
      → outermost S ms code vs n e ≡ next_seen (outermost N ms code vs n e)
  same_outermost code vs zero e h = refl
  same_outermost code vs (suc n) e h = ap (λ f. Ticks (record { top = f; callers = []; steps = n; effects = entered ms code e })) (same_frame code vs 1 h)

  same_outer : (r : Reach) (n : ℕ) (e : Effects) → Inside ms r → outer_call S ms r n e ≡ next_seen (outer_call N ms r n e)
  same_outer (at_once (Ok v) w) n e i = refl
  same_outer (at_once (Err x) w) n e i = refl
  same_outer (in_frame code vs) n e i =
      same_outermost code vs n e (same_fresh (Some i.0) code vs i.1 (λ u h. let same : i.0 ≡ u = cc in subst (λ w. length vs ≤ length w.params) same i.2) (λ h. absurd cc))

  same_end : (w : World) (input : List ℕ) (budget : ℕ) → end_of_run S ms w input budget ≡ end_of_run N ms w input budget
  unfolding end_of_run
  same_end w input budget =
      ap (follows S ms) (same_outermost script [] budget (at_rest w input) (same_body script)) ∙ same_follows (outermost N ms script [] budget (at_rest w input))

  same_end_of_call : (w : World) (input : List ℕ) (r : Request) (budget : ℕ) → end_of_call S ms w input r budget ≡ end_of_call N ms w input r budget
  unfolding end_of_call
  same_end_of_call w input r budget =
      let first = at_rest w input in
      let found = or_raise (name_unknown r.name) (global_of r.number r.name w) in
      let reached = reach_global ms found r.values first in
      ap (follows S ms) (same_outer reached budget first (global_inside ms found r.values first)) ∙ same_follows (outer_call N ms reached budget first)

pub one_machine : OneMachine
one_machine = record { run = λ ms named w input budget. same_end ms named w input budget; call = λ ms named w input r budget. same_end_of_call ms named w input r budget }
