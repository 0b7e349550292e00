-- Values taken from the operands, and answers with another heap.
use Rattle.std.proofs.Common.{◌≡◌, ℕ, Bool, List, map, take, drop, Some, Vec, Result, Ok, Err, IfOk, OnErr, refl, ap, sym, ◌∙◌}
use Rattle.std.specs.Prelude.{reverse, if◌then◌else◌}
use Rattle.std.specs.declared.alloc.Global.{Global}
use Rattle.py_value.specs.declared.heap.Heap.{Heap}
use Rattle.py_value.specs.declared.value.Raised.{Raised}
use Rattle.py_value.specs.declared.value.Value.{Value}
use Rattle.py_value.specs.HeapView.{plain_heap}
use Rattle.py_value.specs.Plain.{PlainValue}
use Rattle.py_value.specs.View.{plain, plains, plain_raised, plain_outcome, plain_value_answer}
use Rattle.py_builtins.specs.Arguments.{Answer}
use Rattle.py_code.specs.Changes.{halted, on_heap, with_operands, one, two, many}
use Rattle.py_code.specs.Configurations.{Operand, Configuration, Next, stuck}
use Rattle.py_code.specs.Machine.{by_answer, calls, makes, pushes_answer, throw}
use Rattle.py_code.specs.Operands.{value_in}
use Rattle.py_code.specs.Slots.{by_slots}
use Rattle.py_code.specs.Units.{Module}
use Rattle.py_world.specs.declared.store.Store.{Store}
use Rattle.py_instructions.specs.declared.frame.State.{State}
use Rattle.py_instructions.specs.declared.turn.Turn.{Turn}
use Rattle.py_instructions.specs.View.{Slots, Outside, plain_operands, effects_of, seen, turned, Does, TakesValue, TakesTwoValues, TakesValues}

-- ---- values taken

module _ (old new : List Operand) (c : Configuration Slots) where
  pub one_taken : (k : PlainValue → List Operand → Next Slots) (v : Value) → TakesValue (Some v) old new → one old c (λ x ys. k (value_in x) ys) ≡ k (plain v) new
  one_taken k v took = ap (λ zs. one zs c (λ x ys. k (value_in x) ys)) took.1 ∙ ap (λ w. k w new) (sym took.2)

  pub two_taken : (k : PlainValue → PlainValue → List Operand → Next Slots) (p : Value × Value) → TakesTwoValues (Some p) old new → two old c (λ x y ys. k (value_in x) (value_in y) ys) ≡ k (plain p.0) (plain p.1) new
  two_taken k p took =
      ap (λ zs. two zs c (λ x y ys. k (value_in x) (value_in y) ys)) took.2 ∙ ap (λ w. k w (value_in took.1) new) (sym took.3) ∙ ap (λ w. k (plain p.0) w new) (sym took.4)

  pub many_taken : (k : List PlainValue → List Operand → Next Slots) (n : ℕ) (vs : Vec Value Global) → TakesValues (Some vs) n old new → many n old c k ≡ k (plains vs.items) new
  many_taken k n vs took =
      ap (λ (b : Bool). if b then k (map value_in (reverse (take n old))) (drop n old) else halted stuck c) took.0 ∙ ap (λ ws. k ws (drop n old)) (sym took.1) ∙ ap (k (plains vs.items)) (sym took.2)

-- ---- answers

-- what puts an answer on top does, whatever the modules and the store
abbrev pub PutsAnswer : Result Value Raised → State → State → Turn → Type 0
PutsAnswer answer m m2 t = (ms : List Module) (s : Store) → Does ms (pushes_answer (by_slots ms) ms (plain_value_answer answer)) m s m2 s t

-- a value with the heap that it leaves, or an exception that leaves the heap as it was
put : (ms : List Module) (m m2 : State) (s : Store) (h : Heap) (answer : Result Value Raised) (t : Turn) → OnErr answer (plain_heap h ≡ plain_heap s.heap) → PutsAnswer answer m m2 t
    → (o : Outside) → makes (by_slots ms) ms (plain_outcome answer (plain_heap h)) (plain_operands m.top.operands) (seen m s o) ≡ turned ms t (seen m2 (record s { heap = h }) o)
put ms m m2 s h (Ok v) t same puts o = puts ms (record s { heap = h }) o
put ms m m2 s h (Err x) t same puts o =
    ap (λ k. throw (by_slots ms) ms (plain_raised x) (with_operands (plain_operands m.top.operands) (on_heap k (seen m s o)))) (sym same) ∙ puts ms (record s { heap = h }) o

-- what makes a value after operands were taken away
pub made : {E : Type 0} (does : List Module → Outside → Next Slots) (m taken m2 : State) (s : Store) (h : Heap) (a : Answer) (answer : Result Value Raised)
    → ((ms : List Module) (o : Outside) → does ms o ≡ makes (by_slots ms) ms a (plain_operands taken.top.operands) (seen m s o)) → ((o : Outside) → seen taken s o ≡ with_operands (plain_operands taken.top.operands) (seen m s o))
    → plain_outcome answer (plain_heap h) ≡ a → OnErr answer (plain_heap h ≡ plain_heap s.heap) → (r : Result Turn E) → IfOk r (PutsAnswer answer taken m2)
    → IfOk r (λ t. (ms : List Module) (o : Outside) → does ms o ≡ turned ms t (seen m2 (record s { heap = h }) o))
made does m taken m2 s h a answer is same_but e same (Err x) puts = tt
made does m taken m2 s h a answer is same_but e same (Ok t) puts = λ ms o. is ms o ∙ over ms (seen m s o) a ∙ ap (makes (by_slots ms) ms a (plain_operands taken.top.operands)) (sym (same_but o)) ∙ ap (λ r. makes (by_slots ms) ms r (plain_operands taken.top.operands) (seen taken s o)) (sym e) ∙ put ms taken m2 s h answer t same puts o
  where
    over : (ms : List Module) (c : Configuration Slots) (r : Answer) → makes (by_slots ms) ms r (plain_operands taken.top.operands) c ≡ makes (by_slots ms) ms r (plain_operands taken.top.operands) (with_operands (plain_operands taken.top.operands) c)
    over ms c (Ok p) = refl
    over ms c (Err x) = refl

-- a call that leads to an answer
leads : (ms : List Module) (r : Answer) (xs : List Operand) (c : Configuration Slots) → calls (by_slots ms) ms (by_answer r c.effects) xs c ≡ makes (by_slots ms) ms r xs c
leads ms (Ok p) xs c = refl
leads ms (Err e) xs c = refl

pub called : {E : Type 0} (ms : List Module) (m freed m2 : State) (s : Store) (h : Heap) (a : Answer) (answer : Result Value Raised) → ((o : Outside) → seen freed s o ≡ with_operands (plain_operands freed.top.operands) (seen m s o))
    → plain_outcome answer (plain_heap h) ≡ a → OnErr answer (plain_heap h ≡ plain_heap s.heap) → (r : Result Turn E) → IfOk r (PutsAnswer answer freed m2)
    → IfOk r (λ t. (o : Outside) → calls (by_slots ms) ms (by_answer a (effects_of s o)) (plain_operands freed.top.operands) (seen m s o) ≡ turned ms t (seen m2 (record s { heap = h }) o))
called ms m freed m2 s h a answer same_but e same (Err x) puts = tt
called {E} ms m freed m2 s h a answer same_but e same (Ok t) puts = λ o.
    made {E = E} (λ ns k. calls (by_slots ns) ns (by_answer a (effects_of s k)) (plain_operands freed.top.operands) (seen m s k)) m freed m2 s h a answer (λ ns k. leads ns a (plain_operands freed.top.operands) (seen m s k)) same_but e same (Ok t) puts ms o
