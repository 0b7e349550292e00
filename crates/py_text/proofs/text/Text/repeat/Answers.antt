use Rattle.std.proofs.Common.{◌+◌, ◌-◌, ◌++◌, append_assoc, ap, ◌∙◌, arith}
use Rattle.py_text.specs.Parts.{repeat}
use Rattle.py_text.proofs.Lists.{repeat_more}
use Rattle.py_text.proofs.text.Text.repeat.Goals as goal

pub turns-preserved : goal.turns-preserved
turns-preserved c =
    ap (λ t. t ++ repeat (c.args.times - (c.turns.counter + 1)) c.args.self.now) (c.in_ok-append.ensures.ok ∙ ap (λ t. c.turns.body ++ t) c.as_str-once.ensures.characters)
    ∙ append_assoc c.turns.body c.args.self.now _
    ∙ ap (λ t. c.turns.body ++ t) (repeat_more c.args.times c.turns.counter c.args.self.now (omega arith))
    ∙ c.turns.invariant
