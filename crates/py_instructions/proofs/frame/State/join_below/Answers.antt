use Rattle.std.proofs.Common.{◌≡◌, ◌∷◌, ◌+◌, Ok, w64, of_z, to_z, rules, refl, sym, ap, ◌∙◌, arith}
use Rattle.py_value.specs.Numbers.{arithmetic}
use Rattle.py_instructions.specs.declared.frame.State.{State}
use Rattle.py_instructions.specs.Carried.{whole}
use Rattle.py_instructions.proofs.Carrying.{joined_below}
use Rattle.py_instructions.proofs.frame.State.join_below.Goals as goal

pub returns-in-Some-calculated : goal.returns-in-Some-calculated
returns-in-Some-calculated c =
    let p = c.args.place in
    let x = c.in-Some-number.left in
    let y = c.args.number in
    let n = c.in-Some-calculated.n in
    let l : to_z w64 (of_z w64 x) ≡ x = search rules in
    let r : to_z w64 (of_z w64 y) ≡ y = search rules in
    let v : to_z w64 (of_z w64 n) ≡ n = search rules in
    let m2 : State = record c.args.self.now { top = record c.args.self.now.top { place = p + 1; operands = c.put_for_top.new.self } } in
    let e : arithmetic c.in-Some.op x y ≡ Ok n = ap (λ z. arithmetic c.in-Some.op z y) (sym l) ∙ ap (λ z. arithmetic c.in-Some.op (to_z w64 (of_z w64 x)) z) (sym r) ∙ c.in-Some-calculated.ensures in
    joined_below c.args.unit.now c.args.self.now m2 c.args.store.now p (p + 1) (omega arith) x y c.in-Some-number.ensures c.in-Some.op n c.in-Some.ensures.1 e refl
    (λ z zs is. c.put_for_top.ensures z zs is ∙ ap (λ k. whole k ∷ zs) v)
