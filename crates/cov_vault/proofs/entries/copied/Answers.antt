use Rattle.std.proofs.Common.{ap, ◌∙◌}
use Rattle.cov_data.specs.DataSet.{union}
use Rattle.cov_vault.proofs.Named.{copy_is}
use Rattle.cov_vault.proofs.entries.copied.Goals as goal

pub returns-in-Ok : goal.returns-in-Ok
returns-in-Ok c = c.in-Ok.ensures.ok ∙ ap (λ d. union d c.args.data.now) c.new-copy.ensures ∙ copy_is c.args.data.now c.is_arcs.result c.is_arcs.ensures.flag
