-- Operands, slots and frames that suit.
use Rattle.std.proofs.Common.{ℕ, zero, suc, List, [], ◌∷◌, ◌++◌, map, take, drop, replicate, Option, Some, None, subst, sym}
use Rattle.std.specs.Prelude.{slice_get, slice_set, remove, reverse}
use Rattle.std.proofs.lemmas.List.{reverse-append}
use Rattle.py_value.specs.Plain.{PlainValue}
use Rattle.py_builtins.specs.Callees.{Callee, a_value, a_method}
use Rattle.py_code.specs.Configurations.{Way, on, by_break, by_continue, by_return, by_raise, Operand, of_value, of_method, of_walk, of_way, Frame}
use Rattle.py_code.specs.Operands.{value_in, callee_in, operand_of, walk_in, way_in, exception_in, exception_of_way}
use Rattle.py_code.specs.Slots.{held}
use Rattle.py_code.specs.Units.{Module}
use Rattle.py_world_laws.specs.Suits.{Environment, Suits, Suit, SuitAll, SuitsRaised, Widens}
use Rattle.py_world_laws.specs.Frames.{Slots, SuitsWay, SuitsOperand, OperandsSuit, SuitsSlot, SlotsSuit, AllWait}
use Rattle.py_world_laws.proofs.Values.{ThroughOption}
use Rattle.py_world_laws.proofs.Heaps.{wider, wider_argument}
use Rattle.py_world_laws.proofs.Names.{CalleeSuits}

module _ (ms : List Module) (e : Environment) where
  -- ---- one operand

  pub value_taken : (x : Operand) → SuitsOperand ms e x → Suit ms e (value_in x)
  value_taken (of_value v) k = k
  value_taken (of_method m v) k = k
  value_taken (of_walk v n i) k = k
  value_taken (of_way w) k = tt

  pub callee_taken : (x : Operand) → SuitsOperand ms e x → CalleeSuits ms e (callee_in x)
  callee_taken (of_value v) k = k
  callee_taken (of_method m v) k = k
  callee_taken (of_walk v n i) k = k
  callee_taken (of_way w) k = tt

  pub callee_operand : (f : Callee) → CalleeSuits ms e f → SuitsOperand ms e (operand_of f)
  callee_operand (a_value v) k = k
  callee_operand (a_method m v) k = k

  pub walk_taken : (x : Operand) → SuitsOperand ms e x → Suit ms e (walk_in x).0
  walk_taken (of_value v) k = k
  walk_taken (of_method m v) k = k
  walk_taken (of_walk v n i) k = k
  walk_taken (of_way w) k = tt

  pub way_taken : (x : Operand) → SuitsOperand ms e x → SuitsWay ms e (way_in x)
  way_taken (of_value v) k = tt
  way_taken (of_method m v) k = tt
  way_taken (of_walk v n i) k = tt
  way_taken (of_way w) k = k

  way_raises : (w : Way) → SuitsWay ms e w → SuitsRaised ms e (exception_of_way w)
  way_raises on k = tt
  way_raises by_break k = tt
  way_raises by_continue k = tt
  way_raises (by_return v) k = tt
  way_raises (by_raise raised t) k = k

  pub exception_taken : (x : Operand) → SuitsOperand ms e x → SuitsRaised ms e (exception_in x)
  exception_taken x k = way_raises (way_in x) (way_taken x k)

  -- ---- several

  pub operands_append : (xs ys : List Operand) → OperandsSuit ms e xs → OperandsSuit ms e ys → OperandsSuit ms e (xs ++ ys)
  operands_append [] ys h k = k
  operands_append (x ∷ xs) ys h k = (h.0, operands_append xs ys h.1 k)

  pub operands_take : (n : ℕ) (xs : List Operand) → OperandsSuit ms e xs → OperandsSuit ms e (take n xs)
  operands_take zero xs h = tt
  operands_take (suc n) [] h = tt
  operands_take (suc n) (x ∷ xs) h = (h.0, operands_take n xs h.1)

  pub operands_drop : (n : ℕ) (xs : List Operand) → OperandsSuit ms e xs → OperandsSuit ms e (drop n xs)
  operands_drop zero xs h = h
  operands_drop (suc n) [] h = tt
  operands_drop (suc n) (x ∷ xs) h = operands_drop n xs h.1

  pub operands_remove : (n : ℕ) (xs : List Operand) → OperandsSuit ms e xs → OperandsSuit ms e (remove xs n)
  operands_remove n xs h = operands_append (take n xs) (drop (suc n) xs) (operands_take n xs h) (operands_drop (suc n) xs h)

  abbrev pub OperandFound : Option Operand → Type 0
  OperandFound None = Unit {0}
  OperandFound (Some x) = SuitsOperand ms e x

  pub operand_found : (n : ℕ) (xs : List Operand) → OperandsSuit ms e xs → OperandFound (slice_get xs n)
  operand_found n [] h = tt
  operand_found zero (x ∷ xs) h = h.0
  operand_found (suc n) (x ∷ xs) h = operand_found n xs h.1

  operands_reversed : (xs : List Operand) → OperandsSuit ms e xs → OperandsSuit ms e (reverse xs)
  operands_reversed [] h = tt
  operands_reversed (x ∷ xs) h = subst (OperandsSuit ms e) (sym (reverse-append (x ∷ []) xs)) (operands_append (reverse xs) (x ∷ []) (operands_reversed xs h.1) (h.0, tt))

  values_taken : (xs : List Operand) → OperandsSuit ms e xs → SuitAll ms e (map value_in xs)
  values_taken [] h = tt
  values_taken (x ∷ xs) h = (value_taken x h.0, values_taken xs h.1)

  pub many_taken : (n : ℕ) (xs : List Operand) → OperandsSuit ms e xs → SuitAll ms e (map value_in (reverse (take n xs)))
  many_taken n xs h = values_taken (reverse (take n xs)) (operands_reversed (take n xs) (operands_take n xs h))

  pub values_spread : (vs : List PlainValue) (xs : List Operand) → SuitAll ms e vs → OperandsSuit ms e xs → OperandsSuit ms e (map of_value vs ++ xs)
  values_spread [] xs h k = k
  values_spread (v ∷ vs) xs h k = (h.0, values_spread vs xs h.1 k)

  -- ---- slots

  pub slot_found : (n : ℕ) (ss : Slots) → SlotsSuit ms e ss → ThroughOption (Suits ms e) (held (slice_get ss n))
  slot_found n [] h = tt
  slot_found zero (None ∷ ss) h = tt
  slot_found zero (Some v ∷ ss) h = h.0
  slot_found (suc n) (s ∷ ss) h = slot_found n ss h.1

  pub slot_set : (n : ℕ) (s : Option PlainValue) (ss : Slots) → SuitsSlot ms e s → SlotsSuit ms e ss → SlotsSuit ms e (slice_set ss n s)
  slot_set n s [] k h = tt
  slot_set zero s (t ∷ ss) k h = (k, h.1)
  slot_set (suc n) s (t ∷ ss) k h = (h.0, slot_set n s ss k h.1)

  slots_empty : (n : ℕ) → SlotsSuit ms e (replicate n None)
  slots_empty zero = tt
  slots_empty (suc n) = (tt, slots_empty n)

  pub slots_fresh : (vs : List PlainValue) (n : ℕ) → SuitAll ms e vs → SlotsSuit ms e (map Some vs ++ replicate n None)
  slots_fresh [] n h = slots_empty n
  slots_fresh (v ∷ vs) n h = (h.0, slots_fresh vs n h.1)

-- ---- with more objects

module _ (ms : List Module) (e f : Environment) (w : Widens e f) where
  wider_way : (x : Way) → SuitsWay ms e x → SuitsWay ms f x
  wider_way on k = tt
  wider_way by_break k = tt
  wider_way by_continue k = tt
  wider_way (by_return v) k = wider ms e f w v k
  wider_way (by_raise raised t) k = wider_argument ms e f w raised.arg k

  wider_operand : (x : Operand) → SuitsOperand ms e x → SuitsOperand ms f x
  wider_operand (of_value v) k = wider ms e f w v k
  wider_operand (of_method m v) k = wider ms e f w v k
  wider_operand (of_walk v n i) k = wider ms e f w v k
  wider_operand (of_way x) k = wider_way x k

  pub wider_operands : (xs : List Operand) → OperandsSuit ms e xs → OperandsSuit ms f xs
  wider_operands [] h = tt
  wider_operands (x ∷ xs) h = (wider_operand x h.0, wider_operands xs h.1)

  wider_slot : (s : Option PlainValue) → SuitsSlot ms e s → SuitsSlot ms f s
  wider_slot None k = tt
  wider_slot (Some v) k = wider ms e f w v k

  pub wider_slots : (ss : Slots) → SlotsSuit ms e ss → SlotsSuit ms f ss
  wider_slots [] h = tt
  wider_slots (s ∷ ss) h = (wider_slot s h.0, wider_slots ss h.1)

  pub wider_frames : (fs : List (Frame Slots)) → AllWait ms e fs → AllWait ms f fs
  wider_frames [] h = tt
  wider_frames (x ∷ fs) h = (record { operands = wider_operands x.operands h.0.operands; locals = wider_slots x.locals h.0.locals; inside = h.0.inside; next = h.0.next }, wider_frames fs h.1)
