use Rattle.std.proofs.Common.{◌≡◌, ◌+◌, w64, of_z, to_z, rules, subst, arith}
use Rattle.py_instructions.specs.Carried.{IsStored}
use Rattle.py_instructions.proofs.Carrying.{was_stored, kept_there, kept_copied}
use Rattle.py_instructions.proofs.frame.State.keep_number.Goals as goal

pub returns-then-is_copied : goal.returns-then-is_copied
returns-then-is_copied c =
    let u = c.args.unit.now in
    let m = c.args.self.now in
    let s = c.args.store.now in
    let p = c.args.place in
    let same : to_z w64 (of_z w64 c.args.number) ≡ c.args.number = search rules in
    let h = subst (λ z. IsStored c.store_number.result u (p + 1) z m s c.store_number.new.self c.store_number.new.store) same c.store_number.ensures in
    let stored = was_stored u m c.store_number.new.self s c.store_number.new.store (p + 1) c.args.number c.store_number.result c.if-not-store_number.false h in
    kept_copied u m s p c.args.number c.store_number.new.self c.store_number.new.store (p + 3) (omega arith) (c.is_copied.ensures c.if-is_copied.true).0 stored

pub returns : goal.returns
returns c =
    let u = c.args.unit.now in
    let m = c.args.self.now in
    let s = c.args.store.now in
    let p = c.args.place in
    let same : to_z w64 (of_z w64 c.args.number) ≡ c.args.number = search rules in
    let h = subst (λ z. IsStored c.store_number-2.result u p z m s c.store_number-2.new.self c.store_number-2.new.store) same c.store_number-2.ensures in
    let stored = was_stored u m c.store_number-2.new.self s c.store_number-2.new.store p c.args.number c.store_number-2.result c.if-not-store_number-2.false h in
    kept_there u m s p c.args.number c.store_number-2.new.self c.store_number-2.new.store (p + 1) (omega arith) stored
