-- Each instruction keeps what suits.
use Rattle.std.proofs.Common.{◌≡◌, ℕ, zero, suc, ◌<◌, List, [], ◌∷◌, ◌++◌, length, take, Some, None, true, false, refl, ap, ◌∙◌, subst, arith}
use Rattle.std.specs.Prelude.{slice_get, slice_set, remove}
use Rattle.cov_event.specs.declared.event.Event.TheVariants.{Line}
use Rattle.py_value.specs.declared.exception.ExcKind.TheVariants.{AssertionError}
use Rattle.py_value.specs.Compared.{compared}
use Rattle.py_value.specs.Operators.{binary_of, in_place_of, index_of}
use Rattle.py_value.specs.Plain.{PlainValue, no_argument}
use Rattle.py_builtins.specs.Attributes.{or_raise, attribute}
use Rattle.py_builtins.specs.Callees.{callee_of, taken, or_builtin}
use Rattle.py_builtins.specs.Catching.{catches, assertion_error}
use Rattle.py_builtins.specs.Faults.{local_unset}
use Rattle.py_builtins.specs.Items.{unpacked, walk_length, item_of, sequence_items, of_length}
use Rattle.py_builtins.specs.Making.{extended, new_tuple, new_dict, stored, sliced}
use Rattle.py_builtins.specs.Texts.{str_text}
use Rattle.py_builtins.specs.World.{global_of, with_name, without_name, with_global, without_global}
use Rattle.py_code.specs.declared.instr.Bounds.TheVariants.{Neither, From, To, Both}
use Rattle.py_code.specs.declared.instr.Instr.{Instr}
use Rattle.py_code.specs.declared.instr.Instr.TheVariants.{Constant, Pop, Copy, Sink, Roll, LoadLocal, StoreLocal, UnsetLocal, LoadGlobal, StoreGlobal, UnsetGlobal, Text, Extend, Tuple, List as MakeList, Dict, AddPair, Not, Binary, InPlace, Compare, Index, Slice, Attribute, StoreIndex, Unpack}
use Rattle.py_code.specs.declared.instr.Instr.TheVariants.{Goto, IfFalse, IfTrue, And, Or, Link, Unless, Sequence, Mark, Again, Walk, Next as NextItem, Method, Call, Return, Function, FunctionWith, Import, Module as LoadModule, Take}
use Rattle.py_code.specs.declared.instr.Instr.TheVariants.{Raise, Reraise, Assertion, AssertionWith, Catches, Caught, Uncaught, Leave, Ending, Breaking, Continuing, Returning, Settle, Release}
use Rattle.py_code.specs.declared.unit.Constant.{Constant as TheConstant}
use Rattle.py_code.specs.declared.unit.Constant.TheVariants.{None as NoneConstant, Bool as BoolConstant, Int as IntConstant, Str as StrConstant}
use Rattle.py_code.specs.Configurations.{on, by_break, by_continue, by_return, Operand, of_value, of_walk, of_way, Configuration}
use Rattle.py_code.specs.Machine.{told, on_world, with_operands, with_locals, heap_of, jumps, falls, reach_callee, imported, act}
use Rattle.py_code.specs.Operands.{value_in, callee_in, operand_of, walk_in, way_in, exception_in, text_in, asked}
use Rattle.py_code.specs.Slots.{by_slots, held}
use Rattle.py_code.specs.Units.{Code, Module, units_of, unit_at, places_in, constant_value}
use Rattle.py_code.specs.Valid.{HasNumbers, AreCodes}
use Rattle.py_world_laws.specs.Making.{made_with, MakesAt, AreMakers}
use Rattle.py_world_laws.specs.Suits.{Environment, Suit, SuitsRaised}
use Rattle.py_world_laws.specs.Frames.{Slots, SuitsOperand, OperandsSuit, made_at, Ready}
use Rattle.py_world_laws.proofs.Operators.{binary_suits, in_place_suits, index_suits}
use Rattle.py_world_laws.proofs.Builtins.{text_plainly, extended_plainly, compared_plainly, catches_plainly, assertion_suits, tuple_made, stored_suits, sliced_suits, unpacked_suit, length_plainly, item_suits, sequence_suits, of_length_suits}
use Rattle.py_world_laws.proofs.Names.{name_set, name_unset, names_changed, or_raise_suits, predefined_suits, CalleeSuits, global_suits, attribute_suits, taken_suits, callee_suits, imported_suits}
use Rattle.py_world_laws.proofs.Operands.{value_taken, callee_taken, callee_operand, walk_taken, way_taken, exception_taken, operands_append, operands_take, operands_remove, OperandFound, operand_found, slot_found, slot_set}
use Rattle.py_world_laws.proofs.Results.{makes_dict}
use Rattle.py_world_laws.proofs.Exceptions.{Keeps, Calm, goes_to, escape, fling, ans, gives}
use Rattle.py_world_laws.proofs.Forms.{found, on_one, on_two, on_three, dropped, on_many, pushed, answer_pushed, plainly, made, stored_in, chosen, linked, spread, looked, turned, raised_on, marked, marked_once, puts, resumed}
use Rattle.py_world_laws.proofs.Calls.{callee_reached, called, imports_keep}
use Rattle.py_world_laws.proofs.Functions.{plain_function, makes_function, makes_list}

pub some_at : {A : Type 0} (xs : List A) (n : ℕ) → n < length xs → (x : A) × (slice_get xs n ≡ Some x)
some_at [] n lt = absurd (omega arith)
some_at (x ∷ xs) zero lt = (x, refl)
some_at (x ∷ xs) (suc n) lt = some_at xs n (omega arith)

module _ (ms : List Module) (e : Environment) where
  constant_suits : (k : TheConstant) → Suit ms e (constant_value k)
  constant_suits NoneConstant = tt
  constant_suits (BoolConstant b) = tt
  constant_suits (IntConstant n) = tt
  constant_suits (StrConstant x) = tt

  pub here : (xs : List Operand) (n : ℕ) (x : Operand) → OperandsSuit ms e xs → slice_get xs n ≡ Some x → SuitsOperand ms e x
  here xs n x k is = subst (OperandFound ms e) is (operand_found ms e n xs k)

module _ (ms : List Module) (codes_are : AreCodes ms) (makers : AreMakers ms) (e : Environment) (u : Code) (c : Configuration Slots) (is : unit_at ms c.top.code ≡ Some u) (g : Calm ms e c) where
  -- the code of the frame says where functions are made
  free : (p : ℕ) → made_with (slice_get u.instrs p) ≡ None → made_at ms c.top.code p ≡ None
  free p h = ap (λ o. made_with (slice_get (places_in o) p)) is ∙ h

  to : (p : ℕ) (xs : List Operand) → made_with (slice_get u.instrs p) ≡ None → OperandsSuit ms e xs → Keeps ms (jumps p xs c)
  to p xs h k = goes_to ms makers e p xs c (free p h) g k

  push : (v : PlainValue) (xs : List Operand) → made_with (slice_get u.instrs (suc c.top.place)) ≡ None → OperandsSuit ms e xs → Suit ms e v → Keeps ms (falls (of_value v ∷ xs) c)
  push v xs h k i = pushed ms makers e v xs c (free (suc c.top.place) h) g k i

  pub keeps : (i : Instr) (xs : List Operand) → HasNumbers u (length (units_of (slice_get ms c.top.code.module))) i → MakesAt (units_of (slice_get ms c.top.code.module)) u c.top.place i
      → Ready ms e c.top.code (made_with (Some i)) xs → Ready ms e c.top.code (made_with (Some i)) c.top.operands → Keeps ms (act (by_slots ms) ms u i xs c)
  keeps (Constant n) xs m h k l = found ms makers e (slice_get u.constants n) c _ g (λ x j. push _ xs h.0 k (constant_suits ms e x))
  keeps Pop xs m h k l = on_one ms makers e xs c _ g k (λ x ys i j. to _ ys h.0 j)
  keeps (Copy n) xs m h k l = found ms makers e (slice_get xs n) c _ g (λ x j. to _ (x ∷ xs) h.0 (here ms e xs n x k j, k))
  keeps (Sink n) xs m h k l =
      on_one ms makers e xs c _ g k (λ x ys i j. dropped ms makers e n ys c (λ zs. falls (take n ys ++ x ∷ zs) c) g j (λ zs r. to _ (take n ys ++ x ∷ zs) h.0 (operands_append ms e (take n ys) (x ∷ zs) (operands_take ms e n ys j) (i, r))))
  keeps (Roll n) xs m h k l = found ms makers e (slice_get xs n) c _ g (λ x j. to _ (x ∷ remove xs n) h.0 (here ms e xs n x k j, operands_remove ms e n xs k))
  keeps (LoadLocal n) xs m h k l =
      found ms makers e (slice_get u.locals n) c _ g
      (λ x j. answer_pushed ms makers e (or_raise (local_unset x) (held (slice_get c.top.locals n))) xs c (or_raise_suits ms e _ (held (slice_get c.top.locals n)) tt (slot_found ms e n c.top.locals g.1)) (free _ h.0) g k)
  keeps (StoreLocal n) xs m h k l =
      found ms makers e (slice_get u.locals n) c _ g
      (λ x j. on_one ms makers e xs c _ g k (λ y ys i r. goes_to ms makers e _ ys (with_locals (slice_set c.top.locals n (Some (value_in y))) c) (free _ h.0) (g.0, (slot_set ms e n (Some (value_in y)) c.top.locals (value_taken ms e y i) g.1), g.2, g.3) r))
  keeps (UnsetLocal n) xs m h k l =
      found ms makers e (slice_get u.locals n) c _ g (λ x j. goes_to ms makers e _ xs (with_locals (slice_set c.top.locals n None) c) (free _ h.0) (g.0, (slot_set ms e n None c.top.locals tt g.1), g.2, g.3) k)
  keeps (LoadGlobal n) xs m h k l =
      found ms makers e (slice_get u.names n) c _ g
      (λ x j. answer_pushed ms makers e (or_builtin x (global_of c.top.code.module x c.effects.world)) xs c
      (predefined_suits ms e x (global_of c.top.code.module x c.effects.world) (global_suits ms e c.effects.world g.0 c.top.code.module x)) (free _ h.0) g k)
  keeps (StoreGlobal n) xs m h k l =
      found ms makers e (slice_get u.names n) c _ g
      (λ x j. on_one ms makers e xs c _ g k (λ y ys i r. goes_to ms makers e _ ys (on_world (with_global c.top.code.module x (value_in y)) c) (free _ h.0)
      (record { globals = names_changed ms e c.top.code.module (with_name x (value_in y)) c.effects.world.globals (λ ns q. name_set ms e x (value_in y) ns (value_taken ms e y i) q) g.0.globals; heap = g.0.heap; words = g.0.words }, g.1, g.2, g.3) r))
  keeps (UnsetGlobal n) xs m h k l =
      found ms makers e (slice_get u.names n) c _ g
      (λ x j. goes_to ms makers e _ xs (on_world (without_global c.top.code.module x) c) (free _ h.0)
      (record { globals = names_changed ms e c.top.code.module (without_name x) c.effects.world.globals (λ ns q. name_unset ms e x ns q) g.0.globals; heap = g.0.heap; words = g.0.words }, g.1, g.2, g.3) k)
  keeps Text xs m h k l = on_one ms makers e xs c _ g k (λ x ys i j. plainly ms makers e (str_text (value_in x) (heap_of c)) ys c _ (text_plainly ms e (value_in x) (heap_of c)) g j (λ t. push _ ys h.0 j tt))
  keeps Extend xs m h k l = on_two ms makers e xs c _ g k (λ x y ys i j r. plainly ms makers e (extended (text_in x) (text_in y)) ys c _ (extended_plainly ms e (text_in x) (text_in y)) g r (λ t. push _ ys h.0 r tt))
  keeps (Tuple n) xs m h k l = on_many ms makers e n xs c _ g k (λ vs ys i j. answer_pushed ms makers e (new_tuple vs) ys c (tuple_made ms e vs i) (free _ h.0) g j)
  keeps (MakeList n) xs m h k l = makes_list ms makers e u n (made_with (slice_get u.instrs (suc c.top.place))) xs c (ap (λ o. made_with (slice_get (places_in o) (suc c.top.place))) is) h g k
  keeps Dict xs m h k l = made ms makers e (new_dict (heap_of c)) xs c (makes_dict ms e (heap_of c) g.0.heap) (free _ h.0) g k
  keeps AddPair xs m h k l =
      on_three ms makers e xs c _ g k
      (λ d a v ys i j q r. stored_in ms makers e (stored (value_in d) (value_in a) (value_in v) (heap_of c)) ys (d ∷ ys) c
      (stored_suits ms e (heap_of c) g.0.heap (value_in d) (value_in a) (value_in v) (value_taken ms e d i) (value_taken ms e a j) (value_taken ms e v q)) (free _ h.0) g r (i, r))
  keeps Not xs m h k l = on_one ms makers e xs c _ g k (λ x ys i j. chosen ms makers e (value_in x) c _ _ (push _ ys h.0 j tt) (push _ ys h.0 j tt))
  keeps (Binary op) xs m h k l =
      on_two ms makers e xs c _ g k
      (λ x y ys i j r. made ms makers e (binary_of op (value_in x) (value_in y) (heap_of c)) ys c (binary_suits ms e (heap_of c) g.0.heap op (value_in x) (value_in y) (value_taken ms e x i) (value_taken ms e y j)) (free _ h.0) g r)
  keeps (InPlace op) xs m h k l =
      on_two ms makers e xs c _ g k
      (λ x y ys i j r. made ms makers e (in_place_of op (value_in x) (value_in y) (heap_of c)) ys c (in_place_suits ms e (heap_of c) g.0.heap op (value_in x) (value_in y) (value_taken ms e x i) (value_taken ms e y j)) (free _ h.0) g r)
  keeps (Compare q) xs m h k l =
      on_two ms makers e xs c _ g k
      (λ x y ys i j r. plainly ms makers e (compared (asked q) (value_in x) (value_in y) (heap_of c)) ys c _ (compared_plainly ms e (asked q) (value_in x) (value_in y) (heap_of c)) g r (λ b. push _ ys h.0 r tt))
  keeps Index xs m h k l =
      on_two ms makers e xs c _ g k
      (λ x a ys i j r. answer_pushed ms makers e (index_of (value_in x) (value_in a) (heap_of c)) ys c (index_suits ms e (heap_of c) g.0.heap (value_in x) (value_in a) (value_taken ms e x i) (value_taken ms e a j)) (free _ h.0) g r)
  keeps (Slice Neither) xs m h k l =
      on_one ms makers e xs c _ g k (λ x ys i j. made ms makers e (sliced (value_in x) None None (heap_of c)) ys c (sliced_suits ms e (heap_of c) g.0.heap (value_in x) None None (value_taken ms e x i)) (free _ h.0) g j)
  keeps (Slice From) xs m h k l =
      on_two ms makers e xs c _ g k
      (λ x a ys i j r. made ms makers e (sliced (value_in x) (Some (value_in a)) None (heap_of c)) ys c (sliced_suits ms e (heap_of c) g.0.heap (value_in x) (Some (value_in a)) None (value_taken ms e x i)) (free _ h.0) g r)
  keeps (Slice To) xs m h k l =
      on_two ms makers e xs c _ g k
      (λ x b ys i j r. made ms makers e (sliced (value_in x) None (Some (value_in b)) (heap_of c)) ys c (sliced_suits ms e (heap_of c) g.0.heap (value_in x) None (Some (value_in b)) (value_taken ms e x i)) (free _ h.0) g r)
  keeps (Slice Both) xs m h k l =
      on_three ms makers e xs c _ g k
      (λ x a b ys i j q r. made ms makers e (sliced (value_in x) (Some (value_in a)) (Some (value_in b)) (heap_of c)) ys c
      (sliced_suits ms e (heap_of c) g.0.heap (value_in x) (Some (value_in a)) (Some (value_in b)) (value_taken ms e x i)) (free _ h.0) g r)
  keeps (Attribute n) xs m h k l =
      found ms makers e (slice_get u.names n) c _ g
      (λ name z. on_one ms makers e xs c _ g k (λ x ys i j. answer_pushed ms makers e (attribute (value_in x) name c.effects.world) ys c (attribute_suits ms e c.effects.world g.0 (value_in x) name) (free _ h.0) g j))
  keeps StoreIndex xs m h k l =
      on_three ms makers e xs c _ g k
      (λ v x a ys i j q r. stored_in ms makers e (stored (value_in x) (value_in a) (value_in v) (heap_of c)) ys ys c
      (stored_suits ms e (heap_of c) g.0.heap (value_in x) (value_in a) (value_in v) (value_taken ms e x j) (value_taken ms e a q) (value_taken ms e v i)) (free _ h.0) g r r)
  keeps (Unpack n) xs m h k l =
      on_one ms makers e xs c _ g k
      (λ x ys i j. ans ms makers e _ (unpacked n (value_in x) (heap_of c)) ys c _ (unpacked_suit ms e (heap_of c) g.0.heap n (value_in x) (value_taken ms e x i)) g j (λ vs r. spread ms makers e vs ys c (free _ h.0) g r j))
  keeps (Goto p) xs m h k l = to p xs h.0 k
  keeps (IfFalse p) xs m h k l = on_one ms makers e xs c _ g k (λ x ys i j. chosen ms makers e (value_in x) c _ _ (to _ ys h.0 j) (to p ys h.1.0 j))
  keeps (IfTrue p) xs m h k l = on_one ms makers e xs c _ g k (λ x ys i j. chosen ms makers e (value_in x) c _ _ (to p ys h.1.0 j) (to _ ys h.0 j))
  keeps (And p) xs m h k l = on_one ms makers e xs c _ g k (λ x ys i j. chosen ms makers e (value_in x) c _ _ (to _ ys h.0 j) (to p xs h.1.0 k))
  keeps (Or p) xs m h k l = on_one ms makers e xs c _ g k (λ x ys i j. chosen ms makers e (value_in x) c _ _ (to p xs h.1.0 k) (to _ ys h.0 j))
  keeps (Link q p) xs m h k l =
      on_two ms makers e xs c _ g k
      (λ x y ys i j r. plainly ms makers e (compared (asked q) (value_in x) (value_in y) (heap_of c)) ys c _ (compared_plainly ms e (asked q) (value_in x) (value_in y) (heap_of c)) g r (λ b. linked ms makers e b y p ys c (free _ h.0) (free p h.1.0) g j r))
  keeps (Unless n p) xs m h k l =
      on_one ms makers e xs c _ g k (λ x ys i j. chosen ms makers e (value_in x) c _ _ (to _ ys h.0 j) (dropped ms makers e n ys c (λ zs. jumps p zs c) g j (λ zs r. to p zs h.1.0 r)))
  keeps (Sequence n d p) xs m h k l =
      on_one ms makers e xs c _ g k
      (λ x ys i j. looked ms makers e (of_length n (sequence_items (value_in x) (heap_of c))) d p ys c (free _ h.0) (free p h.1.0) g
      (of_length_suits ms e (heap_of c) g.0.heap n (sequence_items (value_in x) (heap_of c)) (sequence_suits ms e (heap_of c) g.0.heap (value_in x) (value_taken ms e x i))) j)
  keeps (Mark n) xs m h k l = found ms makers e (slice_get u.lines n) c _ g (λ line j. marked_once ms makers e line c (free _ h.0) g l)
  keeps (Again n) xs m h k l = found ms makers e (slice_get u.lines n) c _ g (λ line j. marked ms makers e line (told (Line line) c.effects) c (free _ h.0) g g.0 l)
  keeps Walk xs m h k l =
      on_one ms makers e xs c _ g k
      (λ x ys i j. plainly ms makers e (walk_length (value_in x) (heap_of c)) ys c _ (length_plainly ms e (heap_of c) g.0.heap (value_in x) (value_taken ms e x i)) g j (λ n. to _ (of_walk (value_in x) n 0 ∷ ys) h.0 (value_taken ms e x i, j)))
  keeps (NextItem p) xs m h k l =
      on_one ms makers e xs c _ g k
      (λ x ys i j. ans ms makers e _ (item_of (walk_in x).0 (walk_in x).1 (walk_in x).2 (heap_of c)) ys c _ (item_suits ms e (heap_of c) g.0.heap (walk_in x).0 (walk_in x).1 (walk_in x).2 (walk_taken ms e x i)) g j
      (λ o r. turned ms makers e o (walk_in x).0 (walk_in x).1 (walk_in x).2 p ys c (free _ h.0) (free p h.1.0) g r (walk_taken ms e x i) j))
  keeps (Method n) xs m h k l =
      found ms makers e (slice_get u.names n) c _ g
      (λ name z. on_one ms makers e xs c _ g k
      (λ x ys i j. ans ms makers e (CalleeSuits ms e) (callee_of (value_in x) name c.effects.world) ys c _ (callee_suits ms e c.effects.world g.0 (value_in x) name (value_taken ms e x i)) g j
      (λ f r. to _ (operand_of f ∷ ys) h.0 (callee_operand ms e f r, j))))
  keeps (Call n) xs m h k l =
      on_many ms makers e n xs c _ g k
      (λ vs ys i j. on_one ms makers e ys c _ g j
      (λ f zs r q. called ms codes_are makers e (reach_callee ms (callee_in f) vs c.effects) zs c (free _ h.0) g q (callee_reached ms e (callee_in f) vs c.effects g.0 (callee_taken ms e f r) i)))
  keeps Return xs m h k l = on_one ms makers e xs c _ g k (λ x ys i j. gives ms makers e (value_in x) c.callers c.steps c.effects g.0 g.2 (value_taken ms e x i))
  keeps (Function n) xs m h k l =
      let there = some_at (units_of (slice_get ms c.top.code.module)) n m.1 in
      push _ xs h.1.0 k (plain_function e (slice_get (units_of (slice_get ms c.top.code.module)) n) there.0 there.1 h.0)
  keeps (FunctionWith n) xs m h k l = makes_function ms makers e u n xs c (free _ h.0) g k
  keeps (Import n) xs m h k l = found ms makers e (slice_get u.names n) c _ g (λ name j. imports_keep ms codes_are makers e name c (free _ h.0) g l)
  keeps (LoadModule n) xs m h k l =
      found ms makers e (slice_get u.names n) c _ g (λ name j. answer_pushed ms makers e (imported ms name) xs c (imported_suits ms e name) (free _ h.0) g k)
  keeps (Take d n) xs m h k l =
      found ms makers e (slice_get u.names d) c _ g
      (λ from z. found ms makers e (slice_get u.names n) c _ g
      (λ name q. on_one ms makers e xs c _ g k (λ x ys i j. answer_pushed ms makers e (taken from (value_in x) name c.effects.world) xs c (taken_suits ms e c.effects.world g.0 from (value_in x) name) (free _ h.0) g k)))
  keeps Raise xs m h k l = on_one ms makers e xs c _ g k (λ x ys i j. raised_on ms makers e (value_in x) (with_operands ys c) g j (value_taken ms e x i))
  keeps (Reraise n) xs m h k l = found ms makers e (slice_get xs n) c _ g (λ x j. escape ms makers e (exception_in x) false c g l (exception_taken ms e x (here ms e xs n x k j)))
  keeps Assertion xs m h k l = fling ms makers e (record { kind = AssertionError; arg = no_argument }) c g l tt
  keeps AssertionWith xs m h k l =
      on_one ms makers e xs c _ g k
      (λ x ys i j. ans ms makers e (SuitsRaised ms e) (assertion_error (value_in x)) ys c _ (assertion_suits ms e (value_in x) (value_taken ms e x i)) g j (λ raised r. fling ms makers e raised (with_operands ys c) g j r))
  keeps Catches xs m h k l =
      on_two ms makers e xs c _ g k
      (λ w x ys i j r. plainly ms makers e (catches (value_in x) (exception_in w).kind) (w ∷ ys) c _ (catches_plainly ms e (value_in x) (exception_in w).kind) g (i, r) (λ b. push _ (w ∷ ys) h.0 (i, r) tt))
  keeps Caught xs m h k l = on_one ms makers e xs c _ g k (λ w ys i j. push _ xs h.0 k (tt, exception_taken ms e w i))
  keeps Uncaught xs m h k l = on_one ms makers e xs c _ g k (λ w ys i j. fling ms makers e (exception_in w) (with_operands ys c) g j (exception_taken ms e w i))
  keeps (Leave n p) xs m h k l = dropped ms makers e n xs c (λ ys. jumps p ys c) g k (λ ys j. to p ys h.0 j)
  keeps Ending xs m h k l = to _ (of_way on ∷ xs) h.0 (tt, k)
  keeps (Breaking n p) xs m h k l = puts ms makers e n by_break p xs c (free p h.0) g tt k
  keeps (Continuing n p) xs m h k l = puts ms makers e n by_continue p xs c (free p h.0) g tt k
  keeps (Returning n p) xs m h k l = on_one ms makers e xs c _ g k (λ x ys i j. puts ms makers e n (by_return (value_in x)) p ys c (free p h.0) g (value_taken ms e x i) j)
  keeps Settle xs m h k l =
      on_one ms makers e xs c _ g k (λ w ys i j. resumed ms makers e true (way_in w) ys c (free _ h.0) (free _ h.1.0) (free _ h.1.1.0) (free _ h.1.1.1.0) g (way_taken ms e w i) j)
  keeps Release xs m h k l =
      on_one ms makers e xs c _ g k (λ w ys i j. resumed ms makers e false (way_in w) ys c (free _ h.0) (free _ h.1.0) (free _ h.1.1.0) (free _ h.1.1.1.0) g (way_taken ms e w i) j)
