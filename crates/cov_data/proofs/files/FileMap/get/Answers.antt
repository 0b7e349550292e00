use Rattle.std.proofs.Common.{ap, sym, ◌∙◌}
use Rattle.std.specs.FinMap.{get}
use Rattle.cov_data.proofs.FilesViews.{get-files_from}
use Rattle.cov_data.proofs.files.FileMap.get.Goals as goal

pub returns : goal.returns
returns c = c.get.ensures.value ∙ sym (get-files_from c.self.inside.files.entries c.args.path.now) ∙ ap (λ m. get m c.args.path.now) c.self.view_is
