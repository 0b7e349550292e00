use Rattle.std.proofs.Common.{◌≡◌, [], ◌∷◌, w64, of_z, to_z, rules, ◌∙◌, subst}
use Rattle.py_instructions.specs.Carried.{whole, GoneOn}
use Rattle.py_instructions.proofs.Carrying.{gone_on, not_gone, gone_from}
use Rattle.py_instructions.proofs.frame.State.use_number.Goals as goal

pub returns-then-keep_number : goal.returns-then-keep_number
returns-then-keep_number c =
    let u = c.args.unit.now in
    let m = c.args.self.now in
    let s = c.args.store.now in
    let p = c.args.place in
    let same : to_z w64 (of_z w64 c.args.number) ≡ c.args.number = search rules in
    let h = subst (λ z. GoneOn c.keep_number.result u p (whole z ∷ []) m s c.keep_number.new.self c.keep_number.new.store) same c.keep_number.ensures in
    gone_on u m c.keep_number.new.self s c.keep_number.new.store p (whole c.args.number ∷ []) c.keep_number.result c.if-keep_number.true h

pub returns-then-test_number : goal.returns-then-test_number
returns-then-test_number c =
    let u = c.args.unit.now in
    let p = c.args.place in
    let m = c.keep_number.new.self in
    let s = c.keep_number.new.store in
    let same : to_z w64 (of_z w64 c.args.number) ≡ c.args.number = search rules in
    let here = not_gone u c.args.self.now m c.args.store.now s p (whole (to_z w64 (of_z w64 c.args.number)) ∷ []) c.keep_number.result c.if-keep_number.false c.keep_number.ensures in
    let h = subst (λ z. GoneOn c.test_number.result u p (whole z ∷ []) m s c.test_number.new.self s) same c.test_number.ensures in
    gone_from u p (whole c.args.number ∷ []) m c.args.self.now c.test_number.new.self s c.args.store.now s here
    (gone_on u m c.test_number.new.self s s p (whole c.args.number ∷ []) c.test_number.result c.if-test_number.true h)

pub returns-then-join_below : goal.returns-then-join_below
returns-then-join_below c =
    let u = c.args.unit.now in
    let p = c.args.place in
    let m = c.keep_number.new.self in
    let n = c.test_number.new.self in
    let s = c.keep_number.new.store in
    let same : to_z w64 (of_z w64 c.args.number) ≡ c.args.number = search rules in
    let here = not_gone u c.args.self.now m c.args.store.now s p (whole (to_z w64 (of_z w64 c.args.number)) ∷ []) c.keep_number.result c.if-keep_number.false c.keep_number.ensures in
    let still = not_gone u m n s s p (whole (to_z w64 (of_z w64 c.args.number)) ∷ []) c.test_number.result c.if-test_number.false c.test_number.ensures in
    let h = subst (λ z. GoneOn c.join_below.result u p (whole z ∷ []) n s c.join_below.new.self s) same c.join_below.ensures in
    gone_from u p (whole c.args.number ∷ []) n c.args.self.now c.join_below.new.self s c.args.store.now s (still.0 ∙ here.0, here.1)
    (gone_on u n c.join_below.new.self s s p (whole c.args.number ∷ []) c.join_below.result c.if-join_below.true h)
