use Rattle.std.proofs.Common.{◌+◌, drop, refl, arith}
use Rattle.py_syntax.specs.declared.stmt.Stmt.{out-Stmt}
use Rattle.py_syntax.specs.View.{plain_stmts, plain_kind}
use Rattle.py_changes.specs.Changed.{same_silent}
use Rattle.cov_changed.specs.Silence.{declared_by, are_both}
use Rattle.cov_changed.proofs.Pairs.{at_items, is_done}
use Rattle.cov_changed.proofs.SilenceLaws.{unlike-rows, rows-step, carries, all_done}
use Rattle.cov_changed.proofs.silence.are_silent.Goals as goal

pub returns-then-a-b : goal.returns-then-a-b
returns-then-a-b c = unlike-rows c.args.a.now c.args.b.now c.if-a-b.true

pub loop-i-preserved : goal.loop-i-preserved
loop-i-preserved c = (
  c.loop-i.invariant.0,
  carries c.loop-i.all _ _ _ (same_silent (plain_stmts (drop (c.loop-i.i + 1) c.args.a.now)) (plain_stmts (drop (c.loop-i.i + 1) c.args.b.now))) _ _
      (at_items (λ us vs. same_silent (plain_stmts us) (plain_stmts vs)) (λ s r. are_both (out-Stmt s).first (declared_by (plain_kind (out-Stmt s).kind)) (out-Stmt r).first (declared_by (plain_kind (out-Stmt r).kind))) rows-step
      c.args.a.now c.args.b.now c.loop-i.i c.index-a-i.result c.index-b-i.result (omega arith) (omega arith) c.index-a-i.is c.index-b-i.is)
      c.declare_same.ensures c.hold-all.ensures c.loop-i.invariant.1,
)

pub returns : goal.returns
returns c =
    all_done c.loop-i.all _ _ (is_done (λ us vs. same_silent (plain_stmts us) (plain_stmts vs)) refl c.args.a.now c.args.b.now c.loop-i.i (omega arith) (omega arith)) c.loop-i.invariant.1
