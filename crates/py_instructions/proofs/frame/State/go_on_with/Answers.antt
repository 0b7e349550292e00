use Rattle.std.proofs.Common.{◌≡◌, ◌+◌, suc, [], ◌∷◌, w64, of_z, to_z, rules, sym, subst, arith}
use Rattle.py_instructions.specs.Carried.{whole, LeadsTo, GoneOn}
use Rattle.py_instructions.proofs.Carrying.{led_and_gone_if, led_twice, led_nowhere}
use Rattle.py_instructions.proofs.Taken.{one_on}
use Rattle.py_instructions.proofs.frame.State.go_on_with.Goals as goal

pub loop-place-init : goal.loop-place-init
loop-place-init c =
    let u = c.args.unit.now in
    let m = c.args.self.now in
    let s = c.args.store.now in
    let p = c.args.self.now.top.place in
    let f = to_z w64 (of_z w64 c.args.first) in
    record {
      within = omega (arith, c.requires);
      led = subst (λ q. LeadsTo u m s (suc p) (whole f ∷ []) q (whole f ∷ [])) (sym (one_on p)) (led_nowhere u m s (suc p) (whole f ∷ []));
    }

pub loop-place-preserved : goal.loop-place-preserved
loop-place-preserved c =
    let u = c.args.unit.now in
    let m = c.args.self.now in
    let s = c.args.store.now in
    let p = c.args.self.now.top.place in
    let q = c.loop-place.place in
    let f = to_z w64 (of_z w64 c.args.first) in
    let j = c.in-Some.joined in
    let put : to_z w64 (of_z w64 j) ≡ j = search rules in
    record {
      within = omega (arith, c.in-Some.ensures.0);
      led = subst (λ z. LeadsTo u m s (suc p) (whole f ∷ []) (q + 2) (whole z ∷ [])) (sym put) (led_twice u m s (suc p) q (q + 2) (whole f ∷ []) (whole _ ∷ []) (whole j ∷ []) c.loop-place.invariant.led c.in-Some.ensures.1);
    }

pub returns : goal.returns
returns c =
    let u = c.args.unit.now in
    let m = c.args.self.now in
    let s = c.args.store.now in
    let p = c.args.self.now.top.place in
    let q = c.loop-place.place in
    let f = to_z w64 (of_z w64 c.args.first) in
    let m2 = c.use_number.new.self in
    let s2 = c.use_number.new.store in
    let first : f ≡ c.args.first = search rules in
    subst (λ z. GoneOn c.use_number.result u (suc p) (whole z ∷ []) m s m2 s2) first
    (led_and_gone_if u m m2 s s2 (suc p) q (whole f ∷ []) (whole _ ∷ []) c.use_number.result c.loop-place.invariant.led c.use_number.ensures)
