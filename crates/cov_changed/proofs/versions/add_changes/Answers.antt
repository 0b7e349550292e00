use Rattle.cov_changed.proofs.Together.{equal-lengths}
use Rattle.cov_changed.proofs.versions.add_changes.Goals as goal

pub changed_functions-requires : goal.changed_functions-requires
changed_functions-requires c = equal-lengths c.args.fs.now c.args.gs.now _ c.same_defs.ensures c.if-same_defs.true
