use Rattle.std.proofs.Common.{◌+◌, drop, refl, sym, ◌∙◌}
use Rattle.py_syntax.specs.declared.stmt.Stmt.{out-Stmt}
use Rattle.py_syntax.specs.Marks.{stmts_marks, kind_marks}
use Rattle.py_syntax.specs.View.{plain_stmts, plain_kind}
use Rattle.cov_changed.proofs.Pairs.{at_item, finds, seeks_on, found_none}
use Rattle.cov_changed.proofs.SilenceLaws.{some, marks-step, if-marks}
use Rattle.cov_changed.proofs.marks.+marks.Goals as goal

pub have_marks-returns-then-has_mark : goal.have_marks-returns-then-has_mark
have_marks-returns-then-has_mark t c =
    finds (some (kind_marks (out-Stmt c.s-item.result).first (plain_kind (out-Stmt c.s-item.result).kind))) (some (stmts_marks (plain_stmts (drop (c.loop-s.s-index + 1) c.args.items.now)))) _ _
    (at_item (λ xs. some (stmts_marks (plain_stmts xs))) (λ s. some (kind_marks (out-Stmt s).first (plain_kind (out-Stmt s).kind))) marks-step c.args.items.now c.loop-s.s-index c.s-item.result c.loop-s-test.true c.s-item.is)
    (sym (c.has_mark.ensures (out-Stmt c.s-item.result).first) ∙ c.if-has_mark.true) c.loop-s.invariant

pub have_marks-loop-s-preserved : goal.have_marks-loop-s-preserved
have_marks-loop-s-preserved t c =
    seeks_on (some (kind_marks (out-Stmt c.s-item.result).first (plain_kind (out-Stmt c.s-item.result).kind))) (some (stmts_marks (plain_stmts (drop (c.loop-s.s-index + 1) c.args.items.now)))) _ _
    (at_item (λ xs. some (stmts_marks (plain_stmts xs))) (λ s. some (kind_marks (out-Stmt s).first (plain_kind (out-Stmt s).kind))) marks-step c.args.items.now c.loop-s.s-index c.s-item.result c.loop-s-test.true c.s-item.is)
    (sym (c.has_mark.ensures (out-Stmt c.s-item.result).first) ∙ c.if-has_mark.false) c.loop-s.invariant

pub have_marks-returns : goal.have_marks-returns
have_marks-returns t c =
    found_none (λ xs. some (stmts_marks (plain_stmts xs))) refl c.args.items.now c.loop-s.s-index c.loop-s-test.false c.loop-s.invariant

pub has_mark-returns-in-If : goal.has_mark-returns-in-If
has_mark-returns-in-If t c =
    λ l. if-marks l c.args.kind.now _ _ _ _ _ c.in-If.is c.deref.ensures.value c.has_arm.ensures c.may_mark.ensures
