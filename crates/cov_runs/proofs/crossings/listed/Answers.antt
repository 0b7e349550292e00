use Rattle.std.proofs.Common.{ap, refl}
use Rattle.cov_programs.proofs.Composing.{followed-so, starves}
use Rattle.cov_step.specs.Calls.{Answered}
use Rattle.cov_step.specs.Listing.{listing}
use Rattle.cov_step.specs.Objects.{on_sink}
use Rattle.cov_step.specs.Phases.{write_last}
use Rattle.cov_runs.proofs.crossings.listed.Goals as goal

pub returns-in-Ok : goal.returns-in-Ok
returns-in-Ok g c = followed-so (on_sink g.O.Sink) (ap (λ (a : Answered). write_last (listing c.args.m.now.rows) a) c.in-Ok.ensures) refl c.write_listing.ensures

pub returns-in-Err : goal.returns-in-Err
returns-in-Err g c = starves tt refl
