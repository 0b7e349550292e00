use Rattle.cov_combine.proofs.Pointwise.{holds_inputs}
use Rattle.cov_combine.proofs.combining.combined_holds_inputs.Goals as goal

pub returns : goal.returns
returns c = holds_inputs
