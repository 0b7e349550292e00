use Rattle.std.proofs.Common.{ap, ◌∙◌, string_bytes}
use Rattle.std.specs.FinMap.{insert}
use Rattle.cov_recorder.specs.Counters.{numbers_from}
use Rattle.cov_recorder.proofs.Indexes.{numbers_from-insert_entry}
use Rattle.cov_recorder.proofs.index.Index.insert.Goals as goal

pub returns-clause-ok : goal.returns-clause-ok
returns-clause-ok c =
    ap numbers_from c.in_ok-insert.ensures.entries
    ∙ numbers_from-insert_entry c.args.label c.args.number c.self.inside.numbers.entries
    ∙ ap (λ m. insert m (string_bytes c.args.label) c.args.number) c.self.view_is
