use Rattle.std.proofs.Common.{◌≡◌, ◌∷◌, ◌+◌, w64, of_z, to_z, rules, sym, ap, ◌∙◌}
use Rattle.py_value.specs.Numbers.{arithmetic}
use Rattle.py_value.specs.Plain.{int_value}
use Rattle.py_code.specs.Configurations.{of_value}
use Rattle.py_instructions.proofs.Taken.{one_on}
use Rattle.py_instructions.proofs.AtOnce.{in_place_done}
use Rattle.py_instructions.proofs.frame.State.in_place_at_once.Goals as goal

pub returns-in-Some-calculated : goal.returns-in-Some-calculated
returns-in-Some-calculated c =
    let x = c.in-Some-number.left in
    let y = c.in-Some.right in
    let l : to_z w64 (of_z w64 x) ≡ x = search rules in
    let a : to_z w64 (of_z w64 c.in-Some-calculated.n) ≡ c.in-Some-calculated.n = search rules in
    let r : to_z w64 (of_z w64 y) ≡ y = search rules in
    in_place_done c.args.unit.now c.args.self.now c.args.store.now (c.args.self.now.top.place + 1) (one_on c.args.self.now.top.place) c.put_for_two.new.self x y c.in-Some.ensures c.in-Some-number.ensures c.args.op c.in-Some-calculated.n (ap (λ z. arithmetic c.args.op z y) (sym l) ∙ ap (arithmetic c.args.op (to_z w64 (of_z w64 x))) (sym r) ∙ c.in-Some-calculated.ensures) (λ u v rest e. c.put_for_two.ensures u v rest e ∙ ap (λ z. of_value (int_value z) ∷ rest) a)
