use Rattle.cov_select.proofs.Places.{unlike-modules}
use Rattle.cov_select.proofs.modules.same_modules.Goals as goal

pub returns-then-before-after : goal.returns-then-before-after
returns-then-before-after c = unlike-modules c.args.before.now c.args.after.now c.if-before-after.true
