use Rattle.std.proofs.Common.{ap}
use Rattle.cov_vault.specs.declared.vault.Content.TheVariants.{Good}
use Rattle.cov_vault.proofs.Named.{added}
use Rattle.cov_vault.proofs.entries.Entries.add.Goals as goal

pub returns-clause-ok : goal.returns-clause-ok
returns-clause-ok c =
    rw c.in_ok-push.ensures.items
    (added c.args.name.now (Good c.args.content.now) (c.in_ok-name.name, Good c.in_ok-content.content) c.in_ok-name.ensures.ok (ap Good c.in_ok-content.ensures) c.args.self.now.pairs.items c.requires)
