use Rattle.std.proofs.Common.{arith}
use Rattle.std.proofs.lemmas.List.{get_or_default}
use Rattle.py_scope.proofs.Firsts.{chosen-one, chosen-all}
use Rattle.py_scope.proofs.checker.first.Goals as goal

pub loop-fault-preserved : goal.loop-fault-preserved
loop-fault-preserved c = record {
  one = chosen-one c.args.faults.now c.loop-fault.fault-index c.loop-fault.best _ c.earlier-best.result c.loop-fault-test.true (λ d. get_or_default c.args.faults.now c.loop-fault.fault-index d _ c.loop-fault-test.true) c.earlier-best.ensures c.loop-fault.invariant.one;
  first = chosen-all c.args.faults.now c.loop-fault.fault-index c.loop-fault.best _ c.earlier-best.result (λ d. get_or_default c.args.faults.now c.loop-fault.fault-index d _ c.loop-fault-test.true) c.earlier-best.ensures c.loop-fault.invariant.first;
}

pub returns-clause-some : goal.returns-clause-some
returns-clause-some c = record { is_one = c.loop-fault.invariant.one; first = λ k d lt. c.loop-fault.invariant.first k d (omega (arith, lt, c.loop-fault-test.false)) }
