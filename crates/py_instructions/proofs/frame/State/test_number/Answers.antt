use Rattle.std.proofs.Common.{◌≡◌, ◌+◌, [], ◌∷◌, w64, of_z, to_z, rules, sym, ap, ◌∙◌, arith}
use Rattle.py_value.specs.Compared.{compared}
use Rattle.py_value.specs.Plain.{int_value}
use Rattle.py_code.specs.Operands.{asked}
use Rattle.py_instructions.specs.Carried.{whole, truth}
use Rattle.py_instructions.proofs.Carrying.{tested_below, put_and_tested, led_and_gone_if}
use Rattle.py_instructions.proofs.frame.State.test_number.Goals as goal

pub returns-in-Some : goal.returns-in-Some
returns-in-Some c =
    let p = c.args.place in
    let x = c.in-Some-number.left in
    let y = c.args.number in
    let l : to_z w64 (of_z w64 x) ≡ x = search rules in
    let r : to_z w64 (of_z w64 y) ≡ y = search rules in
    let q = c.in-Some.question in
    tested_below c.args.unit.now c.args.self.now c.answer_below.new.self c.args.store.now p (p + 1) (omega arith) x y c.in-Some-number.ensures q c.in-Some-tested.holds c.in-Some.ensures.1
    (λ h. ap (λ z. compared (asked q) (int_value z) (int_value y) h) (sym l) ∙ ap (λ z. compared (asked q) (int_value (to_z w64 (of_z w64 x))) (int_value z) h) (sym r) ∙ c.in-Some-tested.ensures h)
    c.answer_below.ensures.code c.answer_below.ensures.led

pub returns-in-Some-tested-2 : goal.returns-in-Some-tested-2
returns-in-Some-tested-2 c =
    let p = c.args.place in
    let x = c.args.number in
    let y = c.in-Some-number_at.right in
    let l : to_z w64 (of_z w64 x) ≡ x = search rules in
    let r : to_z w64 (of_z w64 y) ≡ y = search rules in
    let q = c.in-Some-question_at.question in
    let led = put_and_tested c.args.unit.now c.args.self.now c.args.store.now q p (p + 1) (p + 2) x y c.in-Some-tested-2.holds (omega arith) (omega arith) c.in-Some-number_at.ensures c.in-Some-question_at.ensures.1
    (λ h. ap (λ z. compared (asked q) (int_value z) (int_value y) h) (sym l) ∙ ap (λ z. compared (asked q) (int_value (to_z w64 (of_z w64 x))) (int_value z) h) (sym r) ∙ c.in-Some-tested-2.ensures h) in
    led_and_gone_if c.args.unit.now c.args.self.now c.answer.new.self c.args.store.now c.args.store.now p (p + 2) (whole x ∷ []) (truth c.in-Some-tested-2.holds ∷ []) c.answer.result led c.answer.ensures
