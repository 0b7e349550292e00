use Rattle.std.proofs.lemmas.Grind.{common_steps}
use Rattle.std.proofs.Common.{arith, ap}
use Rattle.py_token.specs.Source.{line_count}
use Rattle.std.proofs.Common.{length}
use Rattle.py_token.specs.View.{view_pieces}
use Rattle.py_token.proofs.Lines.{line_count-cons, line_count-marks, length-marks}
use Rattle.py_token.proofs.FStringBodies.{pieces_left}
use Rattle.py_token.proofs.fstrings.fstring_at.Goals as goal

pub fstring_body-requires-clause-lines : goal.fstring_body-requires-clause-lines
fstring_body-requires-clause-lines c =
    let h = line_count-marks c.doubled-triple.result c.in-Some.rest.now in
    let m = line_count-cons c.in-Some.quote c.in-Some.rest.now in
    let e = ap line_count c.in-Some.ensures in
    let f = ap line_count c.after_marks-text.ensures in
    let r = c.requires.lines in
    omega (arith, h, m.0, e, f, r)

pub overflow_sub-result : goal.overflow_sub-result
overflow_sub-result c =
    let left = pieces_left c.in-Some.quote c.doubled-triple.result c.args.line c.after_marks-text.result.now (view_pieces c.in_ok-body.body.pieces.items) c.in_ok-body.body.left c.in_ok-body.body.next c.in_ok-body.ensures in
    let shorter = length-marks c.doubled-triple.result c.in-Some.rest.now in
    let e = ap length c.after_marks-text.ensures in
    omega (arith, left, shorter, e)

pub returns-in_err-body : goal.returns-in_err-body
returns-in_err-body c = grind (arith, common_steps)
