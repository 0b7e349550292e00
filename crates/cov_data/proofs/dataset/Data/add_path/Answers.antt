use Rattle.cov_data.specs.DataSet.{Text, IsSoundFile, file_in, add_path}
use Rattle.cov_data.proofs.Soundness.{on_either, insert-sound}
use Rattle.cov_data.proofs.dataset.Data.add_path.Goals as goal

pub invariant_of-self : goal.invariant_of-self
invariant_of-self c =
    let arcs = c.self.inside.arcs in
    let m = c.self.inside.files in
    let p = c.args.path.now in
    on_either (λ m. (q : Text) → IsSoundFile arcs (file_in m q)) c.add_path.result c.add_path.new.self (add_path m p) m c.add_path.ensures.ok c.add_path.ensures.err
    (insert-sound arcs m c.self.invariant p (file_in m p) (c.self.invariant p)) c.self.invariant
