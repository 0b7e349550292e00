use Rattle.std.proofs.Common.{arith}
use Rattle.cov_contexts.proofs.InTurn.{labels, stays, leaves}
use Rattle.cov_contexts.proofs.turns.first_label.Goals as goal

pub returns-in-Label-clause-given : goal.returns-in-Label-clause-given
returns-in-Label-clause-given g c =
    labels
    g.P.Plugin
    c.args.module.now
    c.args.function.now
    _
    c.plugins.plugins.items
    c.plugins.at
    c.plugins.invariant
    c.index_mut.result.now
    c.answer.new.self
    c.index_mut.ensures.value
    (omega (arith, c.plugins-test.true, c.len.ensures))
    c.in-Label.text
    (rw c.in-Label.is at c.in_ok-answer.ensures.moved)

pub plugins-preserved-in-Quiet : goal.plugins-preserved-in-Quiet
plugins-preserved-in-Quiet g c =
    stays
    g.P.Plugin
    c.args.module.now
    c.args.function.now
    _
    c.plugins.plugins.items
    c.plugins.at
    c.plugins.invariant
    c.index_mut.result.now
    c.answer.new.self
    c.index_mut.ensures.value
    (omega (arith, c.plugins-test.true, c.len.ensures))
    (rw c.in-Quiet.is at c.in_ok-answer.ensures.moved)

pub plugins-preserved : goal.plugins-preserved
plugins-preserved g c =
    rw c.remove.ensures.items
    (leaves
    g.P.Plugin
    c.args.module.now
    c.args.function.now
    _
    c.plugins.plugins.items
    c.plugins.at
    c.plugins.invariant
    c.index_mut.result.now
    c.answer.new.self
    c.index_mut.ensures.value
    (omega (arith, c.plugins-test.true, c.len.ensures))
    (rw c.in-Leave.is at c.in_ok-answer.ensures.moved))
