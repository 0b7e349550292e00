use Rattle.std.proofs.Common.{ap, sym, ◌∙◌}
use Rattle.std.specs.FinMap.{get}
use Rattle.cov_recorder.proofs.Indexes.{get-numbers_from}
use Rattle.cov_recorder.proofs.index.Index.get.Goals as goal

pub returns : goal.returns
returns c = c.copied.ensures ∙ c.get.ensures.value ∙ sym (get-numbers_from c.self.inside.numbers.entries c.args.label.now) ∙ ap (λ m. get m c.args.label.now) c.self.view_is
