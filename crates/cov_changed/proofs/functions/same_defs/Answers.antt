use Rattle.cov_changed.proofs.Together.{unlike-defs}
use Rattle.cov_changed.proofs.functions.same_defs.Goals as goal

pub returns-then-fs-gs : goal.returns-then-fs-gs
returns-then-fs-gs c = unlike-defs c.args.fs.now c.args.gs.now c.if-fs-gs.true
