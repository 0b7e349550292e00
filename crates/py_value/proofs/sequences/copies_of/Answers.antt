use Rattle.std.proofs.Common.{◌+◌, ◌-◌, ◌++◌, append_assoc, ap, sym, ◌∙◌, arith}
use Rattle.std.proofs.lemmas.List.{append-nil}
use Rattle.py_value.specs.View.{plains}
use Rattle.py_value.specs.Sequences.{repeat}
use Rattle.py_text.proofs.Lists.{repeat_more, repeat_none}
use Rattle.py_value.proofs.sequences.copies_of.Goals as goal

pub turns-preserved : goal.turns-preserved
turns-preserved c =
    ap (λ t. t ++ repeat (c.args.count - (c.turns.counter + 1)) (plains c.args.items.now)) c.in_ok-extend.ensures
    ∙ append_assoc (plains c.turns.copies.items) (plains c.args.items.now) _
    ∙ ap (λ t. plains c.turns.copies.items ++ t) (repeat_more c.args.count c.turns.counter (plains c.args.items.now) (omega arith))
    ∙ c.turns.invariant

pub returns : goal.returns
returns c =
    sym (append-nil (plains c.turns.copies.items)) ∙ ap (λ t. plains c.turns.copies.items ++ t) (sym (repeat_none c.args.count c.turns.counter (plains c.args.items.now) c.turns-test.false)) ∙ c.turns.invariant
