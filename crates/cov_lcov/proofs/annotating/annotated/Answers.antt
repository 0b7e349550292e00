use Rattle.std.proofs.Common.{◌∙◌, ap, List, ℕ, [], get_or}
use Rattle.std.specs.Borrow.{Bor}
use Rattle.cov_lcov.specs.Annotated.{annotated_line}
use Rattle.cov_lcov.specs.Views.{mark_in}
use Rattle.cov_lcov.proofs.Pieces.{lines_more, lines_end}
use Rattle.cov_lcov.proofs.annotating.annotated.Goals as goal

pub loop-at-preserved : goal.loop-at-preserved
loop-at-preserved c =
    let none : Bor (List ℕ) = record { ref_ptr = (0, 0); now = [] } in
    lines_more (mark_in c.args.marks.now) c.args.texts.now c.loop-at.at none _ _ _ _ c.loop-at-test.true
    (c.as_str.ensures.value ∙ c.in_ok-line.ensures ∙ ap (λ mark. annotated_line mark (get_or c.args.texts.now c.loop-at.at none).now) c.mark.ensures) c.in_ok-push_str.ensures.bytes c.loop-at.invariant

pub returns : goal.returns
returns c = lines_end (mark_in c.args.marks.now) c.args.texts.now c.loop-at.at _ _ c.loop-at-test.false c.loop-at.invariant
