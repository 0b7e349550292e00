use Rattle.std.proofs.Common.{ap, refl, sym}
use Rattle.cov_programs.specs.Objects.{nobody}
use Rattle.cov_programs.proofs.Composing.{followed-so, gives}
use Rattle.cov_step.specs.Calls.{Answer, Call}
use Rattle.cov_step.specs.Testing.{came_or}
use Rattle.cov_mutates.specs.Views.{came_by}
use Rattle.cov_mutates.proofs.judging.came.Goals as goal

pub returns-in-Ok : goal.returns-in-Ok
returns-in-Ok c = λ programs. followed-so (nobody Call Answer) (ap (λ a. came_or c.args.file.now (came_by programs a)) (sym c.in-Ok.is)) refl gives
