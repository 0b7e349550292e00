-- Whole numbers that don't stand on the operands yet.
use Rattle.std.proofs.Common.{◌≡◌, inl, inr, ℕ, zero, suc, ◌+◌, ℤ, Bool, true, false, List, [], ◌∷◌, ◌++◌, Some, Ok, refl, sym, ap, ◌∙◌, subst, length, ◌<◌, arith}
use Rattle.std.specs.Prelude.{slice_get, slice_set, Option, None, IfSome, IfOk, Result, Err, MatchOption}
use Rattle.py_operator.specs.declared.operator.BinOp.{BinOp}
use Rattle.py_value.specs.Compared.{compared}
use Rattle.py_value.specs.Numbers.{arithmetic}
use Rattle.py_value.specs.Plain.{PlainValue, PlainHeap, int_value}
use Rattle.py_builtins.specs.Attributes.{or_raise}
use Rattle.py_builtins.specs.Callees.{or_builtin}
use Rattle.py_builtins.specs.Faults.{local_unset}
use Rattle.py_builtins.specs.World.{with_global, global_of}
use Rattle.py_code.specs.declared.instr.Instr.{Instr}
use Rattle.py_code.specs.declared.instr.Instr.TheVariants.{Constant as Const, Pop, Copy, LoadLocal, StoreLocal, LoadGlobal, StoreGlobal, Binary, InPlace, Compare}
use Rattle.py_code.specs.declared.instr.Question.{Question}
use Rattle.py_code.specs.declared.unit.Constant.{Constant}
use Rattle.py_code.specs.declared.unit.Unit.{Unit as RawUnit}
use Rattle.py_code.specs.Changes.{falls, jumps, heap_of, pushes, on_world, with_locals}
use Rattle.py_code.specs.Configurations.{Operand, Configuration, Next}
use Rattle.py_code.specs.Machine.{act, move, move_in, acts, makes, pushes_answer, pushes_truth}
use Rattle.py_code.specs.Operands.{asked}
use Rattle.py_code.specs.Run.{Goes}
use Rattle.py_code.specs.Slots.{by_slots, held}
use Rattle.py_code.specs.Units.{Module, plain_unit, unit_at, constant_value}
use Rattle.py_world.specs.declared.store.Store.{Store}
use Rattle.py_world.specs.Stores.{world_of}
use Rattle.py_instructions.specs.declared.frame.State.{State}
use Rattle.py_instructions.specs.declared.operand.Operand.{Operand as RawOperand}
use Rattle.py_instructions.specs.declared.turn.Turn.{Turn}
use Rattle.py_instructions.specs.Operands.{plain_operand}
use Rattle.py_instructions.specs.AtOnce.{DoneAtOnce, GoesOn, HasGoneOn, IsNextTurn}
use Rattle.py_instructions.specs.Locals.{slots_of}
use Rattle.py_instructions.specs.View.{Slots, Outside, plain_operands, seen, turned, Acts}
use Rattle.py_instructions.specs.Carried.{whole, truth, placed, PutsWhole, Leads, LeadsTo, GoneOn, IsStored, IsOperatorAt, KeepsCopy}
use Rattle.py_instructions.proofs.AtOnce.{found, in-binary, in-place}

-- ---- moves, and more of them

goes_then : (ms : List Module) (n k : ℕ) (c d e : Configuration Slots) → GoesOn ms n c d → GoesOn ms k d e → HasGoneOn ms c e
goes_then ms zero k c d e h g = (k, subst (λ x. GoesOn ms k x e) h g)
goes_then ms (suc n) k c d e h g = let r = goes_then ms n k h.0 d e h.2 g in (suc r.0, (h.0, h.1, r.1))

pub leads_then : (u : RawUnit) (c d e : Configuration Slots) → d.top.code ≡ c.top.code → Leads u c d → Leads u d e → Leads u c e
leads_then u c d e same h g ms unit =
    let a = h ms unit in
    let b = g ms (ap (unit_at ms) same ∙ unit) in
    goes_then ms a.0 b.0 c d e a.1 b.1

-- the move of an instruction
pub moved : (ms : List Module) (u : RawUnit) (i : Instr) (c : Configuration Slots) → unit_at ms c.top.code ≡ Some (plain_unit u) → slice_get u.instrs.items c.top.place ≡ Some i → move (by_slots ms) ms c ≡ act (by_slots ms) ms (plain_unit u) i c.top.operands c
moved ms u i c unit at = ap (λ q. move_in (by_slots ms) ms q c) unit ∙ ap (λ q. acts (by_slots ms) ms (plain_unit u) q c) at

pub leads_by : (u : RawUnit) (i : Instr) (c d : Configuration Slots) → slice_get u.instrs.items c.top.place ≡ Some i → ((ms : List Module) → act (by_slots ms) ms (plain_unit u) i c.top.operands c ≡ Goes d) → Leads u c d
leads_by u i c d at does ms unit = (suc zero, (d, moved ms u i c unit at ∙ does ms, refl))

-- ---- what is put on top

module _ (u : RawUnit) (m : State) (s : Store) where
  pub constant_whole : (n : ℕ) (c : Constant) (k : ℤ) → slice_get u.constants.items n ≡ Some c → constant_value c ≡ int_value k → PutsWhole u (Const n) m s k
  constant_whole n c k e f ms o p xs =
      found u.constants.items n c (placed p xs (seen m s o)) (λ x. pushes (constant_value x) xs (placed p xs (seen m s o))) e
      ∙ ap (λ v. pushes v xs (placed p xs (seen m s o))) f

  pub local_whole : (n : ℕ) (x : List ℕ) (v : PlainValue) (k : ℤ) → slice_get u.locals.items n ≡ Some x → held (slice_get (slots_of m.top.slots) n) ≡ Some v → v ≡ int_value k → PutsWhole u (LoadLocal n) m s k
  local_whole n x v k e f g ms o p xs =
      found u.locals.items n x (placed p xs (seen m s o)) (λ y. pushes_answer (by_slots ms) ms (or_raise (local_unset y) (held (slice_get (slots_of m.top.slots) n))) xs (placed p xs (seen m s o))) e
      ∙ ap (λ r. pushes_answer (by_slots ms) ms (or_raise (local_unset x) r) xs (placed p xs (seen m s o))) (f ∙ ap Some g)

  pub global_whole : (n : ℕ) (x : List ℕ) (v : PlainValue) (k : ℤ) → slice_get u.names.items n ≡ Some x → global_of m.top.code.module x (world_of s) ≡ Some v → v ≡ int_value k → PutsWhole u (LoadGlobal n) m s k
  global_whole n x v k e f g ms o p xs =
      found u.names.items n x (placed p xs (seen m s o)) (λ y. pushes_answer (by_slots ms) ms (or_builtin y (global_of m.top.code.module y (world_of s))) xs (placed p xs (seen m s o))) e
      ∙ ap (λ r. pushes_answer (by_slots ms) ms (or_builtin x r) xs (placed p xs (seen m s o))) (f ∙ ap Some g)

  pub whole_put : (i j : Instr) (p : ℕ) (k : ℤ) → slice_get u.instrs.items p ≡ Some i → i ≡ j → PutsWhole u j m s k → LeadsTo u m s p [] (suc p) (whole k ∷ [])
  whole_put i j p k at e puts o zs = leads_by u j (placed p zs (seen m s o)) (placed (suc p) (whole k ∷ zs) (seen m s o)) (at ∙ ap Some e) (λ ms. puts ms o p zs)

  pub whole_put_if : {Q : ℤ → Type 0} (r : Option ℤ) (i j : Instr) (p : ℕ) → slice_get u.instrs.items p ≡ Some i → i ≡ j → ((k : ℤ) → Q k → PutsWhole u j m s k) → IfSome r Q → IfSome r (λ k. LeadsTo u m s p [] (suc p) (whole k ∷ []))
  whole_put_if None i j p at e of h = h
  whole_put_if (Some k) i j p at e of h = whole_put i j p k at e (of k h)

  -- ---- two whole numbers

  by_operator : (op : BinOp) (p q : ℕ) (x y n : ℤ) → q ≡ suc p → arithmetic op x y ≡ Ok n → IsOperatorAt u p op → LeadsTo u m s p (whole y ∷ whole x ∷ []) q (whole n ∷ [])
  by_operator op p q x y n next e (inl at) o zs =
      let c = placed p (whole y ∷ whole x ∷ zs) (seen m s o) in
      leads_by u (Binary op) c (placed q (whole n ∷ zs) (seen m s o)) at (λ ms. ap (λ r. makes (by_slots ms) ms r zs c) (in-binary op x y n (heap_of c) e) ∙ ap (λ k. jumps k (whole n ∷ zs) c) (sym next))
  by_operator op p q x y n next e (inr at) o zs =
      let c = placed p (whole y ∷ whole x ∷ zs) (seen m s o) in
      leads_by u (InPlace op) c (placed q (whole n ∷ zs) (seen m s o)) at (λ ms. ap (λ r. makes (by_slots ms) ms r zs c) (in-place op x y n (heap_of c) e) ∙ ap (λ k. jumps k (whole n ∷ zs) c) (sym next))

  by_question : (q : Question) (p r : ℕ) (x y : ℤ) (holds : Bool) → r ≡ suc p → ((h : PlainHeap) → compared (asked q) (int_value x) (int_value y) h ≡ Ok holds) → slice_get u.instrs.items p ≡ Some (Compare q) → LeadsTo u m s p (whole y ∷ whole x ∷ []) r (truth holds ∷ [])
  by_question q p r x y holds next e at o zs =
      let c = placed p (whole y ∷ whole x ∷ zs) (seen m s o) in
      leads_by u (Compare q) c (placed r (truth holds ∷ zs) (seen m s o)) at (λ ms. ap (λ a. pushes_truth (by_slots ms) ms a zs c) (e (heap_of c)) ∙ ap (λ k. jumps k (truth holds ∷ zs) c) (sym next))

  -- a number is put on another
  put_on : (p q : ℕ) (x y : ℤ) → q ≡ suc p → LeadsTo u m s p [] (suc p) (whole y ∷ []) → LeadsTo u m s p (whole x ∷ []) q (whole y ∷ whole x ∷ [])
  put_on p q x y next put o zs = subst (λ k. Leads u (placed p (whole x ∷ zs) (seen m s o)) (placed k (whole y ∷ whole x ∷ zs) (seen m s o))) (sym next) (put o (whole x ∷ zs))

  pub put_and_joined : (op : BinOp) (p q r : ℕ) (x y n : ℤ) → q ≡ suc p → r ≡ suc q → LeadsTo u m s p [] (suc p) (whole y ∷ []) → IsOperatorAt u q op → arithmetic op x y ≡ Ok n → LeadsTo u m s p (whole x ∷ []) r (whole n ∷ [])
  put_and_joined op p q r x y n next after put at e o zs =
      leads_then u (placed p (whole x ∷ zs) (seen m s o)) (placed q (whole y ∷ whole x ∷ zs) (seen m s o)) (placed r (whole n ∷ zs) (seen m s o)) refl (put_on p q x y next put o zs) (by_operator op q r x y n after e at o zs)

  pub put_and_joined_if : (op : BinOp) (p q r : ℕ) (x y : ℤ) (given : Option ℤ) → q ≡ suc p → r ≡ suc q → q < length u.instrs.items → LeadsTo u m s p [] (suc p) (whole y ∷ []) → IsOperatorAt u q op → IfSome given (λ n. arithmetic op x y ≡ Ok n)
      → IfSome given (λ n. (q < length u.instrs.items) × LeadsTo u m s p (whole x ∷ []) r (whole n ∷ []))
  put_and_joined_if op p q r x y None next after within put at e = e
  put_and_joined_if op p q r x y (Some n) next after within put at e = (within, put_and_joined op p q r x y n next after put at e)

  pub put_and_tested : (a : Question) (p q r : ℕ) (x y : ℤ) (holds : Bool) → q ≡ suc p → r ≡ suc q → LeadsTo u m s p [] (suc p) (whole y ∷ []) → slice_get u.instrs.items q ≡ Some (Compare a) → ((h : PlainHeap) → compared (asked a) (int_value x) (int_value y) h ≡ Ok holds) → LeadsTo u m s p (whole x ∷ []) r (truth holds ∷ [])
  put_and_tested a p q r x y holds next after put at e o zs =
      leads_then u (placed p (whole x ∷ zs) (seen m s o)) (placed q (whole y ∷ whole x ∷ zs) (seen m s o)) (placed r (truth holds ∷ zs) (seen m s o)) refl (put_on p q x y next put o zs) (by_question a q r x y holds after e at o zs)

-- ---- stores

module _ (u : RawUnit) (m : State) (s : Store) (p : ℕ) (k : ℤ) where
  pub local_stored : (n : ℕ) (x : List ℕ) (m2 : State) → slice_get u.instrs.items p ≡ Some (StoreLocal n) → slice_get u.locals.items n ≡ Some x
      → m2 ≡ record m { top = record m.top { slots = m2.top.slots } } → slots_of m2.top.slots ≡ slice_set (slots_of m.top.slots) n (Some (int_value k)) → IsStored true u p k m s m2 s
  local_stored n x m2 at e is set = (
    ap (λ (w : State). w.top.code) is,
    ap (λ (w : State). w.top.operands) is,
    λ o zs.
        let c = placed p (whole k ∷ zs) (seen m s o) in
        leads_by u (StoreLocal n) c (placed (suc p) zs (seen m2 s o)) at
        (λ ms.
        found u.locals.items n x c (λ y. falls zs (with_locals (slice_set (slots_of m.top.slots) n (Some (int_value k))) c)) e
        ∙ ap (λ l. falls zs (with_locals l c)) (sym set)
        ∙ ap (λ (w : State). let g : Next Slots = Goes (placed (suc p) zs (seen w s o)) in g) (sym is)),
  )

  pub global_stored : (n : ℕ) (x : List ℕ) (s2 : Store) → slice_get u.instrs.items p ≡ Some (StoreGlobal n) → slice_get u.names.items n ≡ Some x
      → world_of s2 ≡ with_global m.top.code.module x (int_value k) (world_of s) → IsStored true u p k m s m s2
  global_stored n x s2 at e set = (
    refl,
    refl,
    λ o zs.
        let c = placed p (whole k ∷ zs) (seen m s o) in
        leads_by u (StoreGlobal n) c (placed (suc p) zs (seen m s2 o)) at
        (λ ms.
        found u.names.items n x c (λ y. falls zs (on_world (with_global m.top.code.module y (int_value k)) c)) e
        ∙ ap (λ w. falls zs (on_world (λ old. w) c)) (sym set)),
  )

  module _ (m2 : State) (s2 : Store) (q : ℕ) where
    -- what is on top was stored, and is away
    pub kept_there : q ≡ suc p → IsStored true u p k m s m2 s2 → GoneOn true u p (whole k ∷ []) m s (record m2 { top = record m2.top { place = q } }) s2
    kept_there next h = (
      h.0,
      λ o.
          let xs = plain_operands m.top.operands in
          subst (λ r. Leads u (placed p (whole k ∷ xs) (seen m s o)) (placed r (plain_operands m2.top.operands) (seen m2 s2 o))) (sym next)
          (subst (λ ops. Leads u (placed p (whole k ∷ xs) (seen m s o)) (placed (suc p) (plain_operands ops) (seen m2 s2 o))) (sym h.1) (h.2 o xs)),
    )

    -- a copy of it was stored
    pub kept_copied : q ≡ suc (p + 2) → KeepsCopy u p → IsStored true u (p + 1) k m s m2 s2 → GoneOn true u p (whole k ∷ []) m s (record m2 { top = record m2.top { place = q } }) s2
    kept_copied last copies h = (
      h.0,
      λ o.
          let xs = plain_operands m.top.operands in
          let c = placed p (whole k ∷ xs) (seen m s o) in
          let d = placed (p + 1) (whole k ∷ whole k ∷ xs) (seen m s o) in
          let e = placed (p + 2) (whole k ∷ xs) (seen m2 s2 o) in
          let f = placed q xs (seen m2 s2 o) in
          let one : p + 1 ≡ suc p = omega arith in
          let two : p + 2 ≡ suc (p + 1) = omega arith in
          let copied : Leads u c d = leads_by u (Copy 0) c d copies.0 (λ ms. ap (λ r. jumps r (whole k ∷ whole k ∷ xs) c) (sym one)) in
          let stored : Leads u d e = subst (λ r. Leads u d (placed r (whole k ∷ xs) (seen m2 s2 o))) (sym two) (h.2 o (whole k ∷ xs)) in
          let popped : Leads u e f = leads_by u Pop e f copies.1 (λ ms. ap (λ r. jumps r xs e) (sym last)) in
          subst (λ ops. Leads u c (placed q (plain_operands ops) (seen m2 s2 o))) (sym h.1)
          (leads_then u c d f refl copied (leads_then u d e f h.0 stored popped)),
    )

-- whether it was stored
module _ (u : RawUnit) (m m2 : State) (s s2 : Store) (p : ℕ) (k : ℤ) where
  pub was_stored : (b : Bool) → b ≡ true → IsStored b u p k m s m2 s2 → IsStored true u p k m s m2 s2
  was_stored true e h = h
  was_stored false e h = absurd cc

-- whether moves were made
module _ (u : RawUnit) (m m2 : State) (s s2 : Store) (p : ℕ) (xs : List Operand) where
  pub gone_on : (b : Bool) → b ≡ true → GoneOn b u p xs m s m2 s2 → GoneOn true u p xs m s m2 s2
  gone_on true e h = h
  gone_on false e h = absurd cc

  pub not_gone : (b : Bool) → b ≡ false → GoneOn b u p xs m s m2 s2 → (m2 ≡ m) × (s2 ≡ s)
  not_gone true e h = absurd cc
  not_gone false e h = h

-- from the same machine and store
pub gone_from : (u : RawUnit) (p : ℕ) (xs : List Operand) (m m0 m2 : State) (s s0 s2 : Store) → (m ≡ m0) × (s ≡ s0) → GoneOn true u p xs m s m2 s2 → GoneOn true u p xs m0 s0 m2 s2
gone_from u p xs m m0 m2 s s0 s2 e h = subst (λ n. GoneOn true u p xs n s0 m2 s2) e.0 (subst (λ t. GoneOn true u p xs m t m2 s2) e.1 h)

-- ---- what is below

pub one_below : (xs : List Operand) (a : Operand) → slice_get xs 0 ≡ Some a → (rest : List Operand) × (xs ≡ a ∷ rest)
one_below [] a e = absurd cc
one_below (x ∷ rest) a e = let f : x ≡ a = cc in (rest, ap (λ y. y ∷ rest) f)

module _ (u : RawUnit) (m m2 : State) (s : Store) (p q : ℕ) (next : q ≡ suc p) (x y : ℤ) (below : slice_get (plain_operands m.top.operands) 0 ≡ Some (whole x)) where
  abbrev rest : List Operand
  rest = (one_below (plain_operands m.top.operands) (whole x) below).0

  pub is_below : plain_operands m.top.operands ≡ whole x ∷ rest
  is_below = (one_below (plain_operands m.top.operands) (whole x) below).1

  pub joined_below : (op : BinOp) (n : ℤ) → IsOperatorAt u p op → arithmetic op x y ≡ Ok n
      → m2 ≡ record m { top = record m.top { place = q; operands = m2.top.operands } }
      → ((z : Operand) (zs : List Operand) → plain_operands m.top.operands ≡ z ∷ zs → plain_operands m2.top.operands ≡ whole n ∷ zs)
      → GoneOn true u p (whole y ∷ []) m s m2 s
  joined_below op n at e is puts = (
    ap (λ (w : State). w.top.code) is,
    λ o.
        let there : seen m2 s o ≡ placed q (whole n ∷ rest) (seen m s o) =
        ap (λ (w : State). seen w s o) is ∙ ap (λ xs. placed q xs (seen m s o)) (puts (whole x) rest is_below) in
        subst (λ d. Leads u (placed p (whole y ∷ plain_operands m.top.operands) (seen m s o)) d) (sym there)
        (subst (λ xs. Leads u (placed p (whole y ∷ xs) (seen m s o)) (placed q (whole n ∷ rest) (seen m s o))) (sym is_below)
        (by_operator u m s op p q x y n next e at o rest)),
  )

  pub tested_below : (a : Question) (holds : Bool) → slice_get u.instrs.items p ≡ Some (Compare a) → ((h : PlainHeap) → compared (asked a) (int_value x) (int_value y) h ≡ Ok holds)
      → m2.top.code ≡ m.top.code
      → ((s : Store) (o : Outside) (z : Operand) (zs : List Operand) → plain_operands m.top.operands ≡ z ∷ zs → Leads u (placed q (truth holds ∷ zs) (seen m s o)) (seen m2 s o))
      → GoneOn true u p (whole y ∷ []) m s m2 s
  tested_below a holds at e code answers = (
    code,
    λ o.
        subst (λ xs. Leads u (placed p (whole y ∷ xs) (seen m s o)) (seen m2 s o)) (sym is_below)
        (leads_then u (placed p (whole y ∷ whole x ∷ rest) (seen m s o)) (placed q (truth holds ∷ rest) (seen m s o)) (seen m2 s o) refl
        (by_question u m s a p q x y holds next e at o rest) (answers s o (whole x) rest is_below)),
  )

-- the topmost operand was taken away
pub below_popped : (old new : List RawOperand) (given : Option RawOperand) (x : Operand) (rest : List Operand) → MatchOption given ((old ≡ []) × (new ≡ [])) (λ a. old ≡ a ∷ new) → plain_operands old ≡ x ∷ rest → plain_operands new ≡ rest
below_popped old new None x rest h e = let f : plain_operands old ≡ [] = ap plain_operands h.0 in absurd cc
below_popped old new (Some a) x rest h e = let f : plain_operands old ≡ plain_operand a ∷ plain_operands new = ap plain_operands h in cc

-- ---- from one place and operands to others

module _ (u : RawUnit) (m m2 : State) (s s2 : Store) (p q : ℕ) (xs ys : List Operand) where
  pub led_and_gone : LeadsTo u m s p xs q ys → GoneOn true u q ys m s m2 s2 → GoneOn true u p xs m s m2 s2
  led_and_gone led h = (
    h.0,
    λ o.
        leads_then u (placed p (xs ++ plain_operands m.top.operands) (seen m s o)) (placed q (ys ++ plain_operands m.top.operands) (seen m s o)) (seen m2 s2 o) refl
        (led o (plain_operands m.top.operands)) (h.1 o),
  )

  pub led_and_gone_if : (b : Bool) → LeadsTo u m s p xs q ys → GoneOn b u q ys m s m2 s2 → GoneOn b u p xs m s m2 s2
  led_and_gone_if true led h = led_and_gone led h
  led_and_gone_if false led h = h

module _ (u : RawUnit) (m : State) (s : Store) where
  pub led_twice : (p q r : ℕ) (xs ys zs : List Operand) → LeadsTo u m s p xs q ys → LeadsTo u m s q ys r zs → LeadsTo u m s p xs r zs
  led_twice p q r xs ys zs f g o rest =
      leads_then u (placed p (xs ++ rest) (seen m s o)) (placed q (ys ++ rest) (seen m s o)) (placed r (zs ++ rest) (seen m s o)) refl (f o rest) (g o rest)

  pub led_nowhere : (p : ℕ) (xs : List Operand) → LeadsTo u m s p xs p xs
  led_nowhere p xs o zs ms unit = (0, refl)

-- an instruction that is done at once
pub done_gone : (u : RawUnit) (i : Instr) (m m2 : State) (s : Store) (b : Bool) → slice_get u.instrs.items m.top.place ≡ Some i → DoneAtOnce b u i m s m2 → GoneOn b u m.top.place [] m s m2 s
done_gone u i m m2 s true at d = (d.0, λ o. leads_by u i (seen m s o) (seen m2 s o) at (λ ms. d.1 ms o))
done_gone u i m m2 s false at d = (d, refl)

-- ---- one after another

module _ (ms : List Module) (u : RawUnit) (first m m2 : State) (s0 s s2 : Store) where
  pub gone_more : unit_at ms m.top.code ≡ Some (plain_unit u) → GoneOn true u m.top.place [] m s m2 s2
      → ((o : Outside) → HasGoneOn ms (seen first s0 o) (seen m s o)) → (o : Outside) → HasGoneOn ms (seen first s0 o) (seen m2 s2 o)
  gone_more unit d h o =
      let a = h o in
      let b = d.1 o ms unit in
      goes_then ms a.0 b.0 (seen first s0 o) (seen m s o) (seen m2 s2 o) a.1 b.1

  pub unit_still : unit_at ms m.top.code ≡ Some (plain_unit u) → GoneOn true u m.top.place [] m s m2 s2 → unit_at ms m2.top.code ≡ Some (plain_unit u)
  unit_still unit d = ap (unit_at ms) d.0 ∙ unit

-- ---- a turn

module _ (ms : List Module) (u : RawUnit) (i : Instr) (first m : State) (s0 s : Store) (went : (o : Outside) → HasGoneOn ms (seen first s0 o) (seen m s o)) (unit : unit_at ms m.top.code ≡ Some (plain_unit u)) (at : slice_get u.instrs.items m.top.place ≡ Some i) where
  pub turn_of : (t : Turn) (m2 : State) (s2 : Store) → Acts ms (plain_unit u) i m s m2 s2 t → IsNextTurn ms first s0 t m2 s2
  turn_of t m2 s2 h = record { mid = m; kept = s; ahead = went; turn = λ o. moved ms u i (seen m s o) unit at ∙ h o }

  -- of the same machine and store
  pub turn_of_same : (n : State) (r : Store) (t : Turn) (m2 : State) (s2 : Store) → (n ≡ m) × (r ≡ s) → Acts ms (plain_unit u) i n r m2 s2 t → IsNextTurn ms first s0 t m2 s2
  turn_of_same n r t m2 s2 e h = turn_of t m2 s2 (subst (λ n. Acts ms (plain_unit u) i n s m2 s2 t) e.0 (subst (λ r. Acts ms (plain_unit u) i n r m2 s2 t) e.1 h))

  pub turn_of_same_if : {E : Type 0} (n : State) (r : Store) (t : Result Turn E) (m2 : State) (s2 : Store) → (n ≡ m) × (r ≡ s) → IfOk t (Acts ms (plain_unit u) i n r m2 s2) → IfOk t (λ w. IsNextTurn ms first s0 w m2 s2)
  turn_of_same_if n r (Ok t) m2 s2 e h = turn_of_same n r t m2 s2 e h
  turn_of_same_if n r (Err x) m2 s2 e h = h

-- the turn that is decided
pub decided_if : {E : Type 0} (ms : List Module) (first m : State) (s0 s : Store) (t : Result Turn E) (m2 : State) (s2 : Store) → ((o : Outside) → HasGoneOn ms (seen first s0 o) (seen m s o)) → IfOk t (λ w. (o : Outside) → move (by_slots ms) ms (seen m s o) ≡ turned ms w (seen m2 s2 o)) → IfOk t (λ w. IsNextTurn ms first s0 w m2 s2)
decided_if ms first m s0 s (Ok t) m2 s2 went h = record { mid = m; kept = s; ahead = went; turn = h }
decided_if ms first m s0 s (Err x) m2 s2 went h = h
