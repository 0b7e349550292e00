use Rattle.std.proofs.Common.{ap, sym, ◌∙◌, Ok, arith}
use Rattle.std.proofs.lemmas.Grind.{common_steps}
use Rattle.std.proofs.lemmas.Result.{IfOk-weaker}
use Rattle.py_value.specs.View.{plain}
use Rattle.py_value.specs.HeapView.{plain_heap}
use Rattle.py_value.specs.Comparison.{equal_within, equal_step}
use Rattle.py_value.proofs.Levels.{equal-none, equal-more}
use Rattle.py_value.proofs.Views.{in_both}
use Rattle.py_text.proofs.SameTexts.{text_test}
use Rattle.py_value.proofs.equality.+equal.Goals as goal

pub equal-returns-then-levels-eq0-clause-answer : goal.equal-returns-then-levels-eq0-clause-answer
equal-returns-then-levels-eq0-clause-answer t c = equal-none c.args.levels (plain_heap c.args.heap.now) (plain c.args.left.now) (plain c.args.right.now) c.if-levels-eq0.true

pub equal-returns-clause-answer : goal.equal-returns-clause-answer
equal-returns-clause-answer t c =
    IfOk-weaker c.equal_inside.result _ _
    (λ answer e. e ∙ equal-more c.args.levels (plain_heap c.args.heap.now) (plain c.args.left.now) (plain c.args.right.now) c.if-levels-eq0.false)
    c.equal_inside.ensures.answer

pub equal_inside-returns-in-Str-right-clause-answer : goal.equal_inside-returns-in-Str-right-clause-answer
equal_inside-returns-in-Str-right-clause-answer t c =
    ap Ok (text_test c.is_same.result c.in-Str.s c.in-Str-right.t c.is_same.ensures)
    ∙ sym (in_both (equal_step (equal_within c.args.levels (plain_heap c.args.heap.now)) (plain_heap c.args.heap.now)) _ _ _ _ (ap plain c.in-Str.is) (ap plain c.in-Str-right.is))

pub equal_items-loop-i-preserved : goal.equal_items-loop-i-preserved
equal_items-loop-i-preserved t c = record { answer = grind (arith, common_steps); counted = grind (arith, common_steps) }

pub equal_items-returns-in-Ok-false-clause-answer : goal.equal_items-returns-in-Ok-false-clause-answer
equal_items-returns-in-Ok-false-clause-answer t c = grind (arith, common_steps)

pub equal_items-returns-in-Err-clause-answer : goal.equal_items-returns-in-Err-clause-answer
equal_items-returns-in-Err-clause-answer t c = grind (arith, common_steps)

pub equal_pairs-loop-i-preserved : goal.equal_pairs-loop-i-preserved
equal_pairs-loop-i-preserved t c = record { answer = grind (arith, common_steps); counted = grind (arith, common_steps) }

pub equal_pairs-returns-in-Ok-false-clause-answer : goal.equal_pairs-returns-in-Ok-false-clause-answer
equal_pairs-returns-in-Ok-false-clause-answer t c = grind (arith, common_steps)

pub equal_pairs-returns-in-Err-clause-answer : goal.equal_pairs-returns-in-Err-clause-answer
equal_pairs-returns-in-Err-clause-answer t c = grind (arith, common_steps)

pub equal_pairs-returns-in-None-clause-answer : goal.equal_pairs-returns-in-None-clause-answer
equal_pairs-returns-in-None-clause-answer t c = grind (arith, common_steps)
