use Rattle.std.proofs.Common.{◌≡◌, ◌<◌, ◌≤◌, ◌-◌, length, ap, ◌∙◌, refl, arith, rules}
use Rattle.std.specs.Prelude.{reverse, remove}
use Rattle.py_instructions.proofs.Reversed.{get_below, get_past, removed_below}
use Rattle.py_instructions.proofs.stack.Stack.remove.Goals as goal

pub returns-then-below-count : goal.returns-then-below-count
returns-then-below-count g c =
    let lt : c.args.below < length c.self.inside.items.items = omega (arith, c.if-below-count.true, c.len-count.ensures) in
    let at : c.len-count.result - 1 - c.args.below ≡ length c.self.inside.items.items - 1 - c.args.below = omega (arith, c.len-count.ensures) in
    rw (← c.self.view_is) (
      get_below c.self.inside.items.items c.args.below c.remove.result lt (search rules),
      ap reverse (c.remove.ensures.items ∙ ap (λ i. remove c.self.inside.items.items i) at) ∙ removed_below c.self.inside.items.items c.args.below lt,
    )

pub returns-else-below-count : goal.returns-else-below-count
returns-else-below-count g c =
    let le : length c.self.inside.items.items ≤ c.args.below = omega (arith, c.if-below-count.false, c.len-count.ensures) in
    rw (← c.self.view_is) (get_past c.self.inside.items.items c.args.below le, refl)
