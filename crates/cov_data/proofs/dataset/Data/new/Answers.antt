use Rattle.std.proofs.Common.{sym, subst}
use Rattle.cov_data.specs.DataSet.{Text, Files, IsSoundFile, file_in}
use Rattle.cov_data.proofs.Soundness.{no_files-sound}
use Rattle.cov_data.proofs.dataset.Data.new.Goals as goal

pub invariant_of-result : goal.invariant_of-result
invariant_of-result c = subst (λ (m : Files). (p : Text) → IsSoundFile c.args.arcs (file_in m p)) (sym c.new.ensures) (no_files-sound c.args.arcs)
