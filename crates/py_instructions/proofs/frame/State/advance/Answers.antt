use Rattle.std.proofs.Common.{◌≡◌, Some, suc, [], ◌∷◌, w64, of_z, to_z, rules, subst, sym, ap, ◌∙◌, arith}
use Rattle.std.proofs.lemmas.Option.{slice_get-get_or}
use Rattle.py_instructions.specs.Carried.{whole, GoneOn}
use Rattle.py_instructions.proofs.Carrying.{done_gone, led_and_gone_if}
use Rattle.py_instructions.proofs.frame.State.advance.Goals as goal

pub returns-in-Some : goal.returns-in-Some
returns-in-Some c =
    let u = c.args.unit.now in
    let m = c.args.self.now in
    let s = c.args.store.now in
    let p = m.top.place in
    let n = c.in-Some.number in
    let m2 = c.go_on_with.new.self in
    let s2 = c.go_on_with.new.store in
    let same : to_z w64 (of_z w64 n) ≡ n = search rules in
    let h = subst (λ z. GoneOn c.go_on_with.result u (suc p) (whole z ∷ []) m s m2 s2) same c.go_on_with.ensures in
    led_and_gone_if u m m2 s s2 p (suc p) [] (whole n ∷ []) c.go_on_with.result c.in-Some.ensures h

pub returns : goal.returns
returns c =
    let u = c.args.unit.now in
    let p = c.args.self.now.top.place in
    done_gone u c.index-instr.result.now c.args.self.now c.do_at_once.new.self c.args.store.now c.do_at_once.result
    (slice_get-get_or u.instrs.items p c.index-instr.result.now (omega (arith, c.requires)) ∙ ap Some (sym c.index-instr.ensures)) c.do_at_once.ensures
