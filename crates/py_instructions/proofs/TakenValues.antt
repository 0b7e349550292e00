-- Values taken from the operands, and a handler found.
use Rattle.std.proofs.Common.{◌≡◌, ℕ, suc, ◌-◌, ◌≤◌, List, [], ◌∷◌, ◌++◌, length, map, take, drop, Option, Some, Bool, true, sym, ap, ◌∙◌, arith}
use Rattle.std.specs.Prelude.{reverse, nat_le}
use Rattle.std.proofs.lemmas.Bool.Decides.{nat_tests}
use Rattle.std.proofs.lemmas.List.{map-append, length-map}
use Rattle.py_value.specs.declared.value.Raised.{Raised}
use Rattle.py_value.specs.declared.value.Value.{Value}
use Rattle.py_value.specs.Plain.{PlainRaised}
use Rattle.py_value.specs.View.{plain, plains, plain_raised}
use Rattle.py_code.specs.declared.unit.Handler.{Handler}
use Rattle.py_code.specs.Configurations.{Next, by_raise, of_way}
use Rattle.py_code.specs.Machine.{land, jumps}
use Rattle.py_code.specs.Operands.{value_in}
use Rattle.py_code.specs.Run.{Goes}
use Rattle.py_code.specs.Slots.{by_slots}
use Rattle.py_code.specs.Units.{Module}
use Rattle.py_instructions.specs.declared.frame.State.{State}
use Rattle.py_instructions.specs.declared.operand.Operand.{Operand as RawOperand}
use Rattle.py_instructions.specs.declared.operand.Operand.TheVariants.{Way as OfWay}
use Rattle.py_instructions.specs.declared.operand.Way.TheVariants.{Raise}
use Rattle.py_world.specs.declared.store.Store.{Store}
use Rattle.py_instructions.specs.Operands.{plain_operand}
use Rattle.py_instructions.specs.View.{Slots, Outside, plain_operands, seen}
use Rattle.py_world.proofs.Lookups.{map-drop}
use Rattle.py_instructions.proofs.Taken.{rest_after, front_after, map-reverse}

le_true : (a b : ℕ) → a ≤ b → nat_le a b ≡ true
le_true a b h = grind (arith, nat_tests)

-- one value more
pub front_more : (old : List RawOperand) (k : ℕ) (values more : List Value) (v : Value) (x : RawOperand) (now new : List RawOperand)
    → now ≡ drop k old → now ≡ x ∷ new → plain v ≡ value_in (plain_operand x) → more ≡ values ++ v ∷ [] → plains values ≡ map value_in (take k (plain_operands old))
    → plains more ≡ map value_in (take (suc k) (plain_operands old))
front_more old k values more v x now new e f g m h =
    ap plains m ∙ map-append plain values (v ∷ [])
    ∙ ap (λ ys. ys ++ plain v ∷ []) h
    ∙ ap (λ w. map value_in (take k (plain_operands old)) ++ w ∷ []) g
    ∙ sym (map-append value_in (take k (plain_operands old)) (plain_operand x ∷ []))
    ∙ ap (map value_in) (sym (front_after plain_operand k old x new (sym e ∙ f)))

pub rest_more : (old : List RawOperand) (k : ℕ) (x : RawOperand) (now new : List RawOperand) → now ≡ drop k old → now ≡ x ∷ new → new ≡ drop (suc k) old
rest_more old k x now new e f = rest_after k old x new (sym e ∙ f)

-- all of them
pub all_taken : (old now : List RawOperand) (values back : List Value) (n k : ℕ) → k ≡ n → n ≤ length old → now ≡ drop k old → plains values ≡ map value_in (take k (plain_operands old)) → back ≡ reverse values
    → (nat_le n (length (plain_operands old)) ≡ true) × (plains back ≡ map value_in (reverse (take n (plain_operands old)))) × (plain_operands now ≡ drop n (plain_operands old))
all_taken old now values back n k same le rest front b = (
  ap (nat_le n) (length-map old plain_operand) ∙ le_true n (length old) le,
  ap plains b ∙ map-reverse plain values ∙ ap reverse (front ∙ ap (λ j. map value_in (take j (plain_operands old))) same) ∙ sym (map-reverse value_in (take n (plain_operands old))),
  ap plain_operands (rest ∙ ap (λ j. drop j old) same) ∙ map-drop plain_operand n old,
)

-- an exception lands at a handler
pub caught_at : (ms : List Module) (m : State) (h : Handler) (found : Option Handler) → found ≡ Some h → (e : PlainRaised) (t : Bool) (kept : List RawOperand) → kept ≡ drop (length m.top.operands - h.depth) m.top.operands
    → (copy : Raised) → plain_raised copy ≡ e → (s : Store) (o : Outside) (out : Next Slots)
    → land (by_slots ms) ms found out e t (seen m s o) ≡ Goes (seen (record m { top = record m.top { place = h.target; operands = OfWay (Raise copy t) ∷ kept } }) s o)
caught_at ms m h found f e t kept k copy c s o out =
    ap (λ x. land (by_slots ms) ms x out e t (seen m s o)) f
    ∙ ap (λ j. jumps h.target (of_way (by_raise e t) ∷ drop (j - h.depth) (plain_operands m.top.operands)) (seen m s o)) (length-map m.top.operands plain_operand)
    ∙ ap (λ xs. jumps h.target (of_way (by_raise e t) ∷ xs) (seen m s o)) (sym (map-drop plain_operand (length m.top.operands - h.depth) m.top.operands) ∙ ap plain_operands (sym k))
    ∙ ap (λ x. jumps h.target (of_way (by_raise x t) ∷ plain_operands kept) (seen m s o)) (sym c)
