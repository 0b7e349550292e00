use Rattle.std.specs.Str.{chars}
use Rattle.cov_hook.proofs.Names.{names_of, IsNoneBefore}
use Rattle.cov_hook.proofs.functions.is_among.Given as goal

-- no unit before this one has the name
abbrev pub invariant-loop-unit : goal.invariant-loop-unit
invariant-loop-unit l =
    IsNoneBefore l.unit-index (names_of l.fn.units) (chars l.fn.function)
