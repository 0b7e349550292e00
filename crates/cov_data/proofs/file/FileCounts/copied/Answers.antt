use Rattle.std.proofs.Common.{◌≡◌, ap, subst, ◌∙◌, IfOk}
use Rattle.cov_data.specs.DataSet.{merged}
use Rattle.cov_data.proofs.Merging.{none-merged}
use Rattle.cov_data.proofs.file.FileCounts.copied.Goals as goal

pub returns : goal.returns
returns c = subst (λ f. IfOk c.united.result (λ copy. copy ≡ f)) (ap (merged c.args.self.now) c.new-none.ensures ∙ none-merged c.args.self.now) c.united.ensures
