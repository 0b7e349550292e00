use Rattle.cov_changed.proofs.Local.{lacks_one, has_one}
use Rattle.cov_changed.proofs.locals.are_among.Goals as goal

pub returns-then-not-contains : goal.returns-then-not-contains
returns-then-not-contains c = lacks_one c.args.names.now c.args.others.now c.loop-i.i c.in_ok-name.name _ c.in_ok-name.ensures c.contains.ensures c.if-not-contains.true c.loop-i.invariant

pub loop-i-preserved : goal.loop-i-preserved
loop-i-preserved c = has_one c.args.names.now c.args.others.now c.loop-i.i c.in_ok-name.name _ c.in_ok-name.ensures c.contains.ensures c.if-not-contains.false c.loop-i.invariant
