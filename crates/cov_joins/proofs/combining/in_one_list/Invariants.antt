use Rattle.std.proofs.Common.{◌≡◌, ◌++◌}
use Rattle.cov_joins.specs.Parts.{list_of}
use Rattle.cov_joins.proofs.combining.in_one_list.Given as goal

abbrev pub invariant-loop-input : goal.invariant-loop-input
invariant-loop-input l = l.inputs.items ≡ list_of l.fn.first ++ l.yielded
