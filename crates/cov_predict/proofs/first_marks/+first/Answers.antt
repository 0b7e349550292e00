use Rattle.cov_predict.proofs.First.{found, passed, none}
use Rattle.cov_predict.proofs.first_marks.+first.Goals as goal

pub first_of-returns-in-Some : goal.first_of-returns-in-Some
first_of-returns-in-Some t c = found c.args.items.now c.loop-s.s-index c.s-item.result c.in-Some.line c.loop-s-test.true c.s-item.is c.in-Some.ensures c.loop-s.invariant

pub first_of-loop-s-preserved : goal.first_of-loop-s-preserved
first_of-loop-s-preserved t c = passed c.args.items.now c.loop-s.s-index c.s-item.result c.loop-s-test.true c.s-item.is c.in-None.ensures c.loop-s.invariant

pub first_of-returns : goal.first_of-returns
first_of-returns t c = none c.args.items.now c.loop-s.s-index c.loop-s-test.false c.loop-s.invariant
