use Rattle.std.proofs.Common.{◌≡◌, ◌+◌, Ok, w64, of_z, to_z, rules, subst, arith}
use Rattle.std.specs.Prelude.{IfSome}
use Rattle.py_value.specs.Numbers.{arithmetic}
use Rattle.py_instructions.proofs.Carrying.{put_and_joined_if}
use Rattle.py_instructions.proofs.frame.State.joined.Goals as goal

pub returns-in-Some-number_at : goal.returns-in-Some-number_at
returns-in-Some-number_at c =
    let p = c.args.place in
    let x = c.args.left in
    let y = c.in-Some-number_at.right in
    let l : to_z w64 (of_z w64 x) ≡ x = search rules in
    let r : to_z w64 (of_z w64 y) ≡ y = search rules in
    let given = subst (λ z. IfSome c.calculated.result (λ n. arithmetic c.in-Some.op z y ≡ Ok n)) l (subst (λ z. IfSome c.calculated.result (λ n. arithmetic c.in-Some.op (to_z w64 (of_z w64 x)) z ≡ Ok n)) r c.calculated.ensures) in
    put_and_joined_if c.args.unit.now c.args.self.now c.args.store.now c.in-Some.op p (p + 1) (p + 2) x y c.calculated.result (omega arith) (omega arith) c.in-Some.ensures.0 c.in-Some-number_at.ensures c.in-Some.ensures.1 given
