use Rattle.cov_made.proofs.Opening.{wanting}
use Rattle.cov_made.proofs.sources.made_source.Goals as goal

pub returns-in-Err : goal.returns-in-Err
returns-in-Err c = wanting c.args.seed c.args.size

pub returns-in-Ok : goal.returns-in-Ok
returns-in-Ok c = c.shelved.ensures
