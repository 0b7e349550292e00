use Rattle.std.proofs.Common.{Some, ap, ◌∙◌}
use Rattle.cov_sql.proofs.counted.Counted.stopped.Goals as goal

pub returns-in-Some-clause-missing : goal.returns-in-Some-clause-missing
returns-in-Some-clause-missing c same = let m = c.count.ensures.missing same in (m.0, m.1, c.in-Some.is ∙ ap Some m.2)
