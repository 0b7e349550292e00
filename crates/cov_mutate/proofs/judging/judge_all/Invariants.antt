use Rattle.std.proofs.Common.{◌≡◌, ◌++◌, drop, map}
use Rattle.cov_mutate.specs.Code.{sources, judged_from, judged_all}
use Rattle.cov_mutate.specs.Meant.{view_of}
use Rattle.cov_mutate.specs.Trials.{tried_of}
use Rattle.cov_mutate.proofs.judging.judge_all.Given as goal

abbrev pub invariant-loop-m : goal.invariant-loop-m
invariant-loop-m l = record {
  so_far :
      map view_of l.judged.items ++ judged_from (tried_of l.initial.trial) l.rows l.m (drop l.m (sources l.programs.modules.items l.modules))
      ≡ judged_all (tried_of l.initial.trial) l.rows (sources l.programs.modules.items l.modules);
  kept : tried_of l.trial ≡ tried_of l.initial.trial;
}
