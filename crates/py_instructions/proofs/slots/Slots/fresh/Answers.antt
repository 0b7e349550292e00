use Rattle.std.proofs.lemmas.Grind.{common_steps}
use Rattle.std.proofs.Common.{◌≡◌, ◌+◌, ◌-◌, ◌++◌, ◌∷◌, [], None, suc, map, replicate, ap, sym, ◌∙◌, append_assoc, arith}
use Rattle.std.proofs.lemmas.List.{map-append}
use Rattle.py_world.specs.Values.{plain_option}
use Rattle.py_instructions.proofs.slots.Slots.fresh.Goals as goal

pub unset-preserved : goal.unset-preserved
unset-preserved c =
    let more = c.saturating_sub-more.result in
    let slots = c.unset.slots.items in
    let left = replicate (more - (c.unset.counter + 1)) None in
    let one : more - c.unset.counter ≡ suc (more - (c.unset.counter + 1)) = omega (arith, c.unset-test.true) in
    ap (λ xs. map plain_option xs ++ left) c.in_ok-push.ensures.items
    ∙ ap (λ ys. ys ++ left) (map-append plain_option slots (None ∷ []))
    ∙ append_assoc (map plain_option slots) (None ∷ []) left
    ∙ ap (λ k. map plain_option slots ++ replicate k None) (sym one)
    ∙ c.unset.invariant

pub returns : goal.returns
returns c = grind (arith, common_steps)
