use Rattle.std.proofs.Common.{◌++◌, ap, ◌∙◌}
use Rattle.py_syntax.specs.Marks.{in_order, body_marks}
use Rattle.py_syntax.specs.View.{plain_stmts}
use Rattle.cov_pieces.specs.Pieces.{picked, mark_of}
use Rattle.cov_pieces.specs.Views.{pieces_of}
use Rattle.cov_pieces.proofs.Agreeing.{body-marks-are}
use Rattle.cov_changed.proofs.versions.all_marks.Goals as goal

pub returns : goal.returns
returns c =
    c.in_order.ensures
    ∙ ap in_order
    (c.in_ok-add_marks.ensures ∙ ap (λ ls. ls ++ picked mark_of (pieces_of c.deref-2.result.now)) c.new-lines.ensures.items
    ∙ ap (λ ps. picked mark_of (pieces_of ps)) c.deref-2.ensures.value
    ∙ ap (picked mark_of) c.in_ok-pieces.ensures
    ∙ body-marks-are (plain_stmts c.deref.result.now)
    ∙ ap (λ ss. body_marks (plain_stmts ss)) c.deref.ensures.value)
