use Rattle.std.proofs.Common.{◌≡◌, ◌++◌, ◌-◌, ◌≤◌, drop, map, length, vec_len}
use Rattle.py_changes.specs.Mutants.{module_mutants}
use Rattle.py_syntax.specs.View.{plain_module}
use Rattle.cov_mutate.specs.Code.{judge}
use Rattle.cov_mutate.specs.Meant.{view_of}
use Rattle.cov_mutate.specs.Trials.{tried_of}
use Rattle.cov_mutate.proofs.judging.judge_module.Given as goal

abbrev pub invariant-mutants : goal.invariant-mutants
invariant-mutants l = record {
  so_far :
      map view_of l.judged.items ++ map (judge (tried_of l.fn.trial) l.lines l.m) (drop (vec_len l.judged - l.start) (module_mutants (plain_module l.module)))
      ≡ map view_of l.fn.judged.items ++ map (judge (tried_of l.fn.trial) l.lines l.m) (module_mutants (plain_module l.module));
  kept : tried_of l.trial ≡ tried_of l.fn.trial;
  from : l.start ≤ vec_len l.judged;
}

abbrev pub decreases-mutants : goal.decreases-mutants
decreases-mutants l = length (module_mutants (plain_module l.module)) - (vec_len l.judged - l.start)
