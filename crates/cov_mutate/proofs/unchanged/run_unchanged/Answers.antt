use Rattle.std.proofs.Common.{ap, ◌∙◌}
use Rattle.cov_recorder.specs.Names.{names_of}
use Rattle.cov_mutate.proofs.Ran.{are-tested}
use Rattle.cov_mutate.proofs.unchanged.run_unchanged.Goals as goal

pub returns : goal.returns
returns c = λ ms are.
    c.run_recorded.ensures ms
    (are-tested c.args.programs.now c.args.modules.now ms are (names_of c.as_slice-names.result.now) (ap names_of c.as_slice-names.ensures.value ∙ c.in_ok-units.ensures) c.as_slice.result.now (c.as_slice.ensures.value ∙ c.in_ok-sets.ensures))
