use Rattle.std.proofs.Common.{◌∷◌, sym, subst}
use Rattle.py_instructions.specs.View.{seen}
use Rattle.py_instructions.specs.Carried.{truth, placed, Leads}
use Rattle.py_instructions.proofs.Carrying.{below_popped}
use Rattle.py_instructions.proofs.frame.State.answer_below.Goals as goal

pub returns-in-Some-clause-led : goal.returns-in-Some-clause-led
returns-in-Some-clause-led c = λ s o x rest e.
    let m = c.args.self.now in
    subst (λ ys. Leads c.args.unit.now (placed c.args.place (truth c.args.holds ∷ rest) (seen m s o)) (placed c.in-Some.to ys (seen m s o)))
    (sym (below_popped m.top.operands c.pop.new.self c.pop.result x rest c.pop.ensures e))
    (c.in-Some.ensures m s o rest)
