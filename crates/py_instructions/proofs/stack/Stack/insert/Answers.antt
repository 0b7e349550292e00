use Rattle.std.proofs.Common.{◌≡◌, ◌≤◌, ◌-◌, length, ap, ◌∙◌, sym, arith}
use Rattle.std.specs.Prelude.{reverse, insert}
use Rattle.std.proofs.lemmas.List.{length-reverse}
use Rattle.py_instructions.proofs.Reversed.{inserted_below}
use Rattle.py_instructions.proofs.stack.Stack.insert.Goals as goal

pub returns : goal.returns
returns g c =
    let long : length c.args.self.now ≡ length c.self.inside.items.items = ap length (sym c.self.view_is) ∙ length-reverse c.self.inside.items.items in
    let le : c.args.below ≤ length c.self.inside.items.items = omega (arith, c.requires, long) in
    let at : c.len.result - c.args.below ≡ length c.self.inside.items.items - c.args.below = omega (arith, c.len.ensures) in
    record { ok = rw (← c.self.view_is) (ap reverse (c.in_ok-insert.ensures.items ∙ ap (λ i. insert c.self.inside.items.items i c.args.x) at) ∙ inserted_below c.self.inside.items.items c.args.below c.args.x le) }
