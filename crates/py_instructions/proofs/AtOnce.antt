-- Instructions that are done at once.
use Rattle.std.proofs.Common.{◌≡◌, ℕ, suc, ℤ, Bool, true, false, List, [], ◌∷◌, Some, Ok, refl, sym, ap, ◌∙◌, subst}
use Rattle.std.specs.Prelude.{slice_get, if◌then◌else◌, not}
use Rattle.py_operator.specs.declared.operator.BinOp.{BinOp}
use Rattle.py_operator.specs.declared.operator.BinOp.TheVariants.{Add, Sub, Mul, Floor, Mod}
use Rattle.py_value.specs.Answers.{◌>>=◌, in_words}
use Rattle.py_value.specs.Causes.{raised_by}
use Rattle.py_value.specs.Compared.{compared}
use Rattle.py_value.specs.Numbers.{arithmetic}
use Rattle.py_value.specs.Operators.{gives, binary_of, in_place_of}
use Rattle.py_value.specs.Plain.{PlainValue, PlainHeap, int_value, bool_value}
use Rattle.py_value.specs.declared.value.Value.{Value}
use Rattle.py_value.specs.View.{plain}
use Rattle.py_builtins.specs.Attributes.{or_raise}
use Rattle.py_builtins.specs.Callees.{or_builtin}
use Rattle.py_builtins.specs.Faults.{local_unset}
use Rattle.py_builtins.specs.World.{global_of}
use Rattle.py_code.specs.declared.instr.Instr.{Instr}
use Rattle.py_code.specs.declared.instr.Instr.TheVariants.{Constant as Const, LoadLocal, LoadGlobal, Binary, InPlace, Compare, IfFalse, IfTrue}
use Rattle.py_code.specs.declared.instr.Question.{Question}
use Rattle.py_code.specs.declared.unit.Constant.{Constant}
use Rattle.py_code.specs.declared.unit.Unit.{Unit as RawUnit}
use Rattle.py_code.specs.Changes.{falls, jumps, heap_of, pushes, numbered, where_found, one, two}
use Rattle.py_code.specs.Configurations.{Operand, Configuration, Next, of_value}
use Rattle.py_code.specs.Machine.{act, chooses, makes, pushes_answer, pushes_truth}
use Rattle.py_code.specs.Operands.{value_in, asked}
use Rattle.py_code.specs.Run.{Goes}
use Rattle.py_code.specs.Slots.{by_slots, held}
use Rattle.py_code.specs.Units.{Module, plain_unit, constant_value}
use Rattle.py_world.specs.declared.store.Store.{Store}
use Rattle.py_world.specs.Stores.{world_of}
use Rattle.py_instructions.specs.declared.frame.State.{State}
use Rattle.py_instructions.specs.declared.operand.Operand.{Operand as RawOperand}
use Rattle.py_instructions.specs.declared.operand.Operand.TheVariants.{Value as OfValue}
use Rattle.py_instructions.specs.AtOnce.{DoneAtOnce, PushedAtOnce, WentOn}
use Rattle.py_instructions.specs.Locals.{slots_of}
use Rattle.py_instructions.specs.Operands.{plain_operand}
use Rattle.py_instructions.specs.View.{Slots, Outside, plain_operands, effects_of, seen}

-- what has a number
pub found : {A : Type 0} (xs : List A) (n : ℕ) (x : A) (c : Configuration Slots) (k : A → Next Slots) → slice_get xs n ≡ Some x → numbered xs n c k ≡ k x
found xs n x c k e = ap (λ r. where_found r c k) e

-- an operand in place of two
pub put_under : (old new : List RawOperand) (v : Value) (y x : Operand) (rest : List Operand) → plain_operands old ≡ y ∷ x ∷ rest → ((a b : RawOperand) (zs : List RawOperand) → old ≡ a ∷ b ∷ zs → new ≡ OfValue v ∷ zs) → plain_operands new ≡ of_value (plain v) ∷ rest
put_under [] new v y x rest e f = absurd cc
put_under (a ∷ []) new v y x rest e f = absurd cc
put_under (a ∷ b ∷ zs) new v y x rest e f = let t : plain_operands zs ≡ rest = cc in ap plain_operands (f a b zs refl) ∙ ap (λ ys. of_value (plain v) ∷ ys) t

-- an operand in place of one
pub put_over : (old new : List RawOperand) (v : Value) (x : Operand) (rest : List Operand) → plain_operands old ≡ x ∷ rest → ((a : RawOperand) (zs : List RawOperand) → old ≡ a ∷ zs → new ≡ OfValue v ∷ zs) → plain_operands new ≡ of_value (plain v) ∷ rest
put_over [] new v x rest e f = absurd cc
put_over (a ∷ zs) new v x rest e f = let t : plain_operands zs ≡ rest = cc in ap plain_operands (f a zs refl) ∙ ap (λ ys. of_value (plain v) ∷ ys) t

module _ (u : RawUnit) (m m2 : State) (s : Store) where
  -- the same of another instruction that is this one
  pub done_as : (b : Bool) (i j : Instr) → i ≡ j → DoneAtOnce b u j m s m2 → DoneAtOnce b u i m s m2
  done_as b i j e d = subst (λ k. DoneAtOnce b u k m s m2) (sym e) d

  -- ---- a value on top

  abbrev Pushes : Instr → PlainValue → Type 0
  Pushes i v = (ms : List Module) (o : Outside) → act (by_slots ms) ms (plain_unit u) i (plain_operands m.top.operands) (seen m s o) ≡ pushes v (plain_operands m.top.operands) (seen m s o)

  pushed : (b : Bool) (i : Instr) (v : PlainValue) → Pushes i v → PushedAtOnce b v m m2 → DoneAtOnce b u i m s m2
  pushed true i v is h = (h.0, λ ms o. is ms o ∙ h.1 ms (effects_of s o))
  pushed false i v is h = h

  pub constant_pushed : (b : Bool) (n : ℕ) (k j : Constant) → slice_get u.constants.items n ≡ Some k → k ≡ j → PushedAtOnce b (constant_value j) m m2 → DoneAtOnce b u (Const n) m s m2
  constant_pushed b n k j e f =
      pushed b (Const n) (constant_value j) (λ ms o.
      found u.constants.items n k (seen m s o) (λ x. pushes (constant_value x) (plain_operands m.top.operands) (seen m s o)) e
      ∙ ap (λ x. pushes (constant_value x) (plain_operands m.top.operands) (seen m s o)) f)

  pub local_pushed : (b : Bool) (n : ℕ) (x : List ℕ) (v w : PlainValue) → slice_get u.locals.items n ≡ Some x → held (slice_get (slots_of m.top.slots) n) ≡ Some v → w ≡ v → PushedAtOnce b w m m2 → DoneAtOnce b u (LoadLocal n) m s m2
  local_pushed b n x v w e f g =
      pushed b (LoadLocal n) w (λ ms o.
      found u.locals.items n x (seen m s o) (λ y. pushes_answer (by_slots ms) ms (or_raise (local_unset y) (held (slice_get (slots_of m.top.slots) n))) (plain_operands m.top.operands) (seen m s o)) e
      ∙ ap (λ r. pushes_answer (by_slots ms) ms (or_raise (local_unset x) r) (plain_operands m.top.operands) (seen m s o)) (f ∙ ap Some (sym g)))

  pub global_pushed : (b : Bool) (n : ℕ) (x : List ℕ) (v w : PlainValue) → slice_get u.names.items n ≡ Some x → global_of m.top.code.module x (world_of s) ≡ Some v → w ≡ v → PushedAtOnce b w m m2 → DoneAtOnce b u (LoadGlobal n) m s m2
  global_pushed b n x v w e f g =
      pushed b (LoadGlobal n) w (λ ms o.
      found u.names.items n x (seen m s o) (λ y. pushes_answer (by_slots ms) ms (or_builtin y (global_of m.top.code.module y (world_of s))) (plain_operands m.top.operands) (seen m s o)) e
      ∙ ap (λ r. pushes_answer (by_slots ms) ms (or_builtin x r) (plain_operands m.top.operands) (seen m s o)) (f ∙ ap Some (sym g)))

-- ---- two whole numbers

pub in-binary : (op : BinOp) (x y n : ℤ) (h : PlainHeap) → arithmetic op x y ≡ Ok n → binary_of op (int_value x) (int_value y) h ≡ Ok (int_value n, h)
in-binary Add x y n h e = ap (λ r. in_words raised_by (r >>= λ k. gives h (int_value k))) e
in-binary Sub x y n h e = ap (λ r. in_words raised_by (r >>= λ k. gives h (int_value k))) e
in-binary Mul x y n h e = ap (λ r. in_words raised_by (r >>= λ k. gives h (int_value k))) e
in-binary Floor x y n h e = ap (λ r. in_words raised_by (r >>= λ k. gives h (int_value k))) e
in-binary Mod x y n h e = ap (λ r. in_words raised_by (r >>= λ k. gives h (int_value k))) e

pub in-place : (op : BinOp) (x y n : ℤ) (h : PlainHeap) → arithmetic op x y ≡ Ok n → in_place_of op (int_value x) (int_value y) h ≡ Ok (int_value n, h)
in-place Add x y n h e = ap (λ r. in_words raised_by (r >>= λ k. gives h (int_value k))) e
in-place Sub x y n h e = ap (λ r. in_words raised_by (r >>= λ k. gives h (int_value k))) e
in-place Mul x y n h e = ap (λ r. in_words raised_by (r >>= λ k. gives h (int_value k))) e
in-place Floor x y n h e = ap (λ r. in_words raised_by (r >>= λ k. gives h (int_value k))) e
in-place Mod x y n h e = ap (λ r. in_words raised_by (r >>= λ k. gives h (int_value k))) e

-- the two on top
both : (xs : List Operand) (a b : Operand) → slice_get xs 0 ≡ Some a → slice_get xs 1 ≡ Some b → (rest : List Operand) × (xs ≡ a ∷ b ∷ rest)
both [] a b e f = absurd cc
both (x ∷ []) a b e f = absurd cc
both (x ∷ y ∷ zs) a b e f = let g : x ≡ a = cc in let h : y ≡ b = cc in (zs, ap (λ k. k ∷ y ∷ zs) g ∙ ap (λ k. a ∷ k ∷ zs) h)

module _ (u : RawUnit) (m : State) (s : Store) (p : ℕ) (next : p ≡ suc m.top.place) (new : List RawOperand) (x y : ℤ) (top : slice_get (plain_operands m.top.operands) 0 ≡ Some (of_value (int_value y))) (below : slice_get (plain_operands m.top.operands) 1 ≡ Some (of_value (int_value x))) where
  -- the operands under these two
  abbrev rest : List Operand
  rest = (both (plain_operands m.top.operands) (of_value (int_value y)) (of_value (int_value x)) top below).0

  is : plain_operands m.top.operands ≡ of_value (int_value y) ∷ of_value (int_value x) ∷ rest
  is = (both (plain_operands m.top.operands) (of_value (int_value y)) (of_value (int_value x)) top below).1

  -- a value in place of two operands, at the next place
  abbrev after : State
  after = record m { top = record m.top { place = p; operands = new } }

  abbrev Puts : PlainValue → Type 0
  Puts v = (a b : Operand) (zs : List Operand) → plain_operands m.top.operands ≡ a ∷ b ∷ zs → plain_operands new ≡ of_value v ∷ zs

  there : (v : PlainValue) → Puts v → (o : Outside) → falls (of_value v ∷ rest) (seen m s o) ≡ Goes (seen after s o)
  there v puts o =
      ap (λ xs. falls xs (seen m s o)) (sym (puts (of_value (int_value y)) (of_value (int_value x)) rest is))
      ∙ ap (λ q. jumps q (plain_operands new) (seen m s o)) (sym next)

  pub binary_done : (op : BinOp) (n : ℤ) → arithmetic op x y ≡ Ok n → Puts (int_value n) → DoneAtOnce true u (Binary op) m s after
  binary_done op n e puts = (
    refl,
    λ ms o.
        ap (λ xs. two xs (seen m s o) (λ a b ys. makes (by_slots ms) ms (binary_of op (value_in a) (value_in b) (heap_of (seen m s o))) ys (seen m s o))) is
        ∙ ap (λ r. makes (by_slots ms) ms r rest (seen m s o)) (in-binary op x y n (heap_of (seen m s o)) e)
        ∙ there (int_value n) puts o,
  )

  pub in_place_done : (op : BinOp) (n : ℤ) → arithmetic op x y ≡ Ok n → Puts (int_value n) → DoneAtOnce true u (InPlace op) m s after
  in_place_done op n e puts = (
    refl,
    λ ms o.
        ap (λ xs. two xs (seen m s o) (λ a b ys. makes (by_slots ms) ms (in_place_of op (value_in a) (value_in b) (heap_of (seen m s o))) ys (seen m s o))) is
        ∙ ap (λ r. makes (by_slots ms) ms r rest (seen m s o)) (in-place op x y n (heap_of (seen m s o)) e)
        ∙ there (int_value n) puts o,
  )

  pub compare_done : (q : Question) (holds : Bool) → ((h : PlainHeap) → compared (asked q) (int_value x) (int_value y) h ≡ Ok holds) → Puts (bool_value holds) → DoneAtOnce true u (Compare q) m s after
  compare_done q holds e puts = (
    refl,
    λ ms o.
        ap (λ xs. two xs (seen m s o) (λ a b ys. pushes_truth (by_slots ms) ms (compared (asked q) (value_in a) (value_in b) (heap_of (seen m s o))) ys (seen m s o))) is
        ∙ ap (λ r. pushes_truth (by_slots ms) ms r rest (seen m s o)) (e (heap_of (seen m s o)))
        ∙ there (bool_value holds) puts o,
  )

-- ---- jumps

module _ (u : RawUnit) (m m2 : State) (s : Store) (to : ℕ) (holds : Bool) (is : slice_get (plain_operands m.top.operands) 0 ≡ Some (of_value (bool_value holds))) where
  top_is : (x : RawOperand) (xs : List RawOperand) → m.top.operands ≡ x ∷ xs → plain_operand x ≡ of_value (bool_value holds)
  top_is x xs e = let f : Some (plain_operand x) ≡ Some (of_value (bool_value holds)) = ap (λ ys. slice_get (plain_operands ys) 0) (sym e) ∙ is in cc

  -- by the truth on top
  chosen : (b : Bool) (c : Configuration Slots) (xs : List Operand) → holds ≡ b → (ms : List Module) → chooses (by_slots ms) ms (value_in (of_value (bool_value holds))) c (falls xs c) (jumps to xs c) ≡ jumps (if not b then to else suc c.top.place) xs c
  chosen true c xs e ms = ap (λ h. chooses (by_slots ms) ms (bool_value h) c (falls xs c) (jumps to xs c)) e
  chosen false c xs e ms = ap (λ h. chooses (by_slots ms) ms (bool_value h) c (falls xs c) (jumps to xs c)) e

  chosen_not : (b : Bool) (c : Configuration Slots) (xs : List Operand) → holds ≡ b → (ms : List Module) → chooses (by_slots ms) ms (value_in (of_value (bool_value holds))) c (jumps to xs c) (falls xs c) ≡ jumps (if b then to else suc c.top.place) xs c
  chosen_not true c xs e ms = ap (λ h. chooses (by_slots ms) ms (bool_value h) c (jumps to xs c) (falls xs c)) e
  chosen_not false c xs e ms = ap (λ h. chooses (by_slots ms) ms (bool_value h) c (jumps to xs c) (falls xs c)) e

  pub if_false_done : (b : Bool) → WentOn b (not holds) to m m2 → DoneAtOnce b u (IfFalse to) m s m2
  if_false_done false h = h
  if_false_done true (x, xs, e, f) = (
    ap (λ (n : State). n.top.code) f,
    λ ms o.
        ap (λ ys. one (plain_operands ys) (seen m s o) (λ y zs. chooses (by_slots ms) ms (value_in y) (seen m s o) (falls zs (seen m s o)) (jumps to zs (seen m s o)))) e
        ∙ ap (λ y. chooses (by_slots ms) ms (value_in y) (seen m s o) (falls (plain_operands xs) (seen m s o)) (jumps to (plain_operands xs) (seen m s o))) (top_is x xs e)
        ∙ chosen holds (seen m s o) (plain_operands xs) refl ms
        ∙ ap (λ (n : State). let g : Next Slots = Goes (seen n s o) in g) (sym f),
  )

  pub if_true_done : (b : Bool) → WentOn b holds to m m2 → DoneAtOnce b u (IfTrue to) m s m2
  if_true_done false h = h
  if_true_done true (x, xs, e, f) = (
    ap (λ (n : State). n.top.code) f,
    λ ms o.
        ap (λ ys. one (plain_operands ys) (seen m s o) (λ y zs. chooses (by_slots ms) ms (value_in y) (seen m s o) (jumps to zs (seen m s o)) (falls zs (seen m s o)))) e
        ∙ ap (λ y. chooses (by_slots ms) ms (value_in y) (seen m s o) (jumps to (plain_operands xs) (seen m s o)) (falls (plain_operands xs) (seen m s o))) (top_is x xs e)
        ∙ chosen_not holds (seen m s o) (plain_operands xs) refl ms
        ∙ ap (λ (n : State). let g : Next Slots = Goes (seen n s o) in g) (sym f),
  )
