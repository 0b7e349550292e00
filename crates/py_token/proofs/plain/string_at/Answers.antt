use Rattle.std.proofs.Common.{length, arith, ap}
use Rattle.py_token.specs.Source.{line_count}
use Rattle.py_token.proofs.Lines.{line_count-marks, length-marks}
use Rattle.py_token.proofs.TextBodies.{text_left}
use Rattle.py_token.proofs.plain.string_at.Goals as goal

pub text_body-requires : goal.text_body-requires
text_body-requires c = let h = line_count-marks c.doubled-triple.result c.args.others.now in let e = ap line_count c.after_marks-text.ensures in let r = c.requires in omega (arith, h, e, r)

pub overflow_sub-result : goal.overflow_sub-result
overflow_sub-result c =
    let left = text_left c.args.raw c.args.quote c.doubled-triple.result c.args.line c.after_marks-text.result.now c.in_ok-body.body.text c.in_ok-body.body.left c.in_ok-body.body.next c.in_ok-body.ensures in
    let shorter = length-marks c.doubled-triple.result c.args.others.now in
    let e = ap length c.after_marks-text.ensures in
    omega (arith, left, shorter, e)
