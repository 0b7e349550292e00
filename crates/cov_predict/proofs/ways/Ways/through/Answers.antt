use Rattle.std.proofs.Common.{ap, ◌∙◌}
use Rattle.std.specs.Prelude.{◌||◌, ◌&&◌}
use Rattle.cov_predict.proofs.Hits.{or_false}
use Rattle.cov_predict.proofs.Left.{through_ways}
use Rattle.cov_predict.proofs.ways.Ways.through.Goals as goal

pub returns : goal.returns
returns c =
    let a = c.args.self in
    let b = c.args.left in
    through_ways c.args.empty a b _
    (c.passes.ensures ∙ or_false (a.onward && c.either-ends.result) ∙ ap (λ z. a.onward && z) c.either-ends.ensures)
    (c.passes-2.ensures ∙ ap (λ z. (a.breaking && z) || b.breaking) c.either-ends.ensures)
    (c.passes-3.ensures ∙ ap (λ z. (a.continuing && z) || b.continuing) c.either-ends.ensures)
    (c.passes-4.ensures ∙ ap (λ z. (a.returning && z) || b.returning) c.either-ends.ensures)
    (c.passes-5.ensures ∙ ap (λ z. (a.raising && z) || b.raising) c.either-ends.ensures)
