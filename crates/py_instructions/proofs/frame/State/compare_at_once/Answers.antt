use Rattle.std.proofs.Common.{◌≡◌, ◌+◌, w64, of_z, to_z, rules, sym, ap, ◌∙◌}
use Rattle.py_value.specs.Compared.{compared}
use Rattle.py_value.specs.Plain.{int_value}
use Rattle.py_code.specs.Operands.{asked}
use Rattle.py_instructions.proofs.Taken.{one_on}
use Rattle.py_instructions.proofs.AtOnce.{compare_done}
use Rattle.py_instructions.proofs.frame.State.compare_at_once.Goals as goal

pub returns-in-Some-tested : goal.returns-in-Some-tested
returns-in-Some-tested c =
    let x = c.in-Some-number.left in
    let y = c.in-Some.right in
    let l : to_z w64 (of_z w64 x) ≡ x = search rules in
    let r : to_z w64 (of_z w64 y) ≡ y = search rules in
    compare_done c.args.unit.now c.args.self.now c.args.store.now (c.args.self.now.top.place + 1) (one_on c.args.self.now.top.place) c.put_for_two.new.self x y c.in-Some.ensures c.in-Some-number.ensures c.args.question c.in-Some-tested.holds (λ h. ap (λ z. compared (asked c.args.question) (int_value z) (int_value y) h) (sym l) ∙ ap (λ z. compared (asked c.args.question) (int_value (to_z w64 (of_z w64 x))) (int_value z) h) (sym r) ∙ c.in-Some-tested.ensures h) c.put_for_two.ensures
