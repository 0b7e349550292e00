use Rattle.std.proofs.Common.{zero, Some, [], refl, sym, ap, ◌∙◌, arith}
use Rattle.std.specs.Prelude.{◌≡◌, slice_get}
use Rattle.std.proofs.lemmas.Option.{slice_get-get_or}
use Rattle.py_code.specs.declared.instr.Instr.TheVariants.{Mark, Again}
use Rattle.py_code.specs.Loaded.{modules_of}
use Rattle.py_instructions.proofs.Carrying.{gone_on, not_gone, gone_more, unit_still, turn_of, turn_of_same_if, decided_if}
use Rattle.py_instructions.proofs.frame.State.next_turn.Goals as goal

pub returns-in_default : goal.returns-in_default
returns-in_default c = decided_if (modules_of c.args.programs.now) c.args.self.now c.args.self.now c.args.store.now c.args.store.now c.decide.result c.decide.new.self c.decide.new.store (λ o. (zero, refl)) c.decide.ensures

pub returns-in-Mark : goal.returns-in-Mark
returns-in-Mark c =
    let ms = modules_of c.args.programs.now in
    let u = c.in-Some.unit.now in
    let m = c.ahead.self in
    let s = c.ahead.store in
    let i = c.index-instr.result.now in
    let at : slice_get u.instrs.items m.top.place ≡ Some i = slice_get-get_or u.instrs.items m.top.place i (omega (arith, c.if-self-len.false, c.len.ensures)) ∙ ap Some (sym c.index-instr.ensures) in
    turn_of ms u (Mark c.in-Mark.n) c.args.self.now m c.args.store.now s c.ahead.invariant.went c.ahead.invariant.unit (at ∙ ap Some c.in-Mark.is) c.mark.result c.mark.new.self s (c.mark.ensures ms s)

pub returns-in-Again : goal.returns-in-Again
returns-in-Again c =
    let ms = modules_of c.args.programs.now in
    let u = c.in-Some.unit.now in
    let m = c.ahead.self in
    let s = c.ahead.store in
    let i = c.index-instr.result.now in
    let at : slice_get u.instrs.items m.top.place ≡ Some i = slice_get-get_or u.instrs.items m.top.place i (omega (arith, c.if-self-len.false, c.len.ensures)) ∙ ap Some (sym c.index-instr.ensures) in
    turn_of ms u (Again c.in-Again.n) c.args.self.now m c.args.store.now s c.ahead.invariant.went c.ahead.invariant.unit (at ∙ ap Some c.in-Again.is) c.again.result c.again.new.self s (c.again.ensures ms s)

pub returns-then-not-advance : goal.returns-then-not-advance
returns-then-not-advance c =
    let ms = modules_of c.args.programs.now in
    let u = c.in-Some.unit.now in
    let m = c.ahead.self in
    let s = c.ahead.store in
    let i = c.index-instr.result.now in
    let at : slice_get u.instrs.items m.top.place ≡ Some i = slice_get-get_or u.instrs.items m.top.place i (omega (arith, c.if-self-len.false, c.len.ensures)) ∙ ap Some (sym c.index-instr.ensures) in
    turn_of_same_if ms u i c.args.self.now m c.args.store.now s c.ahead.invariant.went c.ahead.invariant.unit at c.advance.new.self c.advance.new.store c.act.result c.act.new.self c.act.new.store
    (not_gone u m c.advance.new.self s c.advance.new.store m.top.place [] c.advance.result c.if-not-advance.true c.advance.ensures) c.act.ensures

pub ahead-preserved : goal.ahead-preserved
ahead-preserved c =
    let ms = modules_of c.args.programs.now in
    let u = c.in-Some.unit.now in
    let m = c.ahead.self in
    let s = c.ahead.store in
    let m2 = c.advance.new.self in
    let s2 = c.advance.new.store in
    let d = gone_on u m m2 s s2 m.top.place [] c.advance.result c.if-not-advance.false c.advance.ensures in
    record {
      unit = unit_still ms u c.args.self.now m m2 c.args.store.now s s2 c.ahead.invariant.unit d;
      went = gone_more ms u c.args.self.now m m2 c.args.store.now s s2 c.ahead.invariant.unit d c.ahead.invariant.went;
    }

pub returns : goal.returns
returns c = decided_if (modules_of c.args.programs.now) c.args.self.now c.ahead.self c.args.store.now c.ahead.store c.decide-2.result c.decide-2.new.self c.decide-2.new.store c.ahead.invariant.went c.decide-2.ensures
