use Rattle.std.proofs.Common.{rules}
use Rattle.cov_sql.proofs.Contexts.{stands_at}
use Rattle.cov_sql.proofs.saved.number_in.Goals as goal

pub returns-in-Ok : goal.returns-in-Ok
returns-in-Ok c = record { at = c.in-Ok.at; there = stands_at c.args.texts.now c.in-Ok.at c.args.text (search rules) c.in-Ok.ensures.ok; is = search rules }
