use Rattle.std.proofs.Common.{◌-◌, length}
use Rattle.cov_contexts.proofs.InTurn.{Passed}
use Rattle.cov_contexts.proofs.turns.first_label.Given as goal

abbrev pub invariant-plugins : goal.invariant-plugins
invariant-plugins g l =
    Passed g.P.Plugin l.module l.function l.initial.plugins.items l.plugins.items l.at

abbrev pub decreases-plugins : goal.decreases-plugins
decreases-plugins g l = length l.plugins.items - l.at
