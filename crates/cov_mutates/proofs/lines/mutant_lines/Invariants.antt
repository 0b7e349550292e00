use Rattle.std.proofs.Common.{◌≡◌, suc, ◌++◌, drop, string_bytes}
use Rattle.cov_step.specs.Mutating.{mutant_lines}
use Rattle.cov_mutates.specs.Views.{judged_views}
use Rattle.cov_mutates.proofs.lines.mutant_lines.Given as goal

abbrev pub invariant-loop-i : goal.invariant-loop-i
invariant-loop-i l =
    string_bytes l.text ++ mutant_lines (suc l.i) (judged_views l.programs (drop l.i l.judged)) ≡ mutant_lines 1 (judged_views l.programs l.judged)
