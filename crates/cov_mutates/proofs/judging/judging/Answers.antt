use Rattle.cov_programs.proofs.Composing.{asks, on-nobody}
use Rattle.cov_run.specs.Loads.{loaded_modules}
use Rattle.cov_streams.specs.Trials.{on_trial}
use Rattle.cov_mutates.specs.Views.{came_by}
use Rattle.cov_mutates.proofs.LoadedTests.{judged-so, mutable}
use Rattle.cov_mutates.proofs.judging.judging.Goals as goal

pub returns : goal.returns
returns c =
    let l = c.args.loaded.now in
    asks (came_by l.programs c.mutate.result) tt
    (judged-so l c.requires.compiled c.requires.regular c.args.budget c.mutate.result (c.mutate.ensures (loaded_modules l) (mutable l c.deref.result.now c.deref.ensures.value c.requires.compiled c.requires.measurable)))
    (on-nobody on_trial tt (c.came.ensures l.programs))
