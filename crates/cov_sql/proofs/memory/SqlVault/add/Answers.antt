use Rattle.std.proofs.Common.{is_ok}
use Rattle.cov_sql.proofs.Bases.{idle_more}
use Rattle.cov_sql.proofs.memory.SqlVault.add.Goals as goal

pub invariant_of-self : goal.invariant_of-self
invariant_of-self c = record {
  idle = idle_more (is_ok c.push.result) c.args.self.now.bases.items c.push.new.self.items (c.args.name, c.args.base) c.push.ensures.items c.args.self.now.idle c.requires;
}
