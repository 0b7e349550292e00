use Rattle.std.proofs.Common.{◌≡◌, map, sym, ap, ◌∙◌, subst}
use Rattle.std.proofs.lemmas.List.{drop_all}
use Rattle.cov_analysis.proofs.Sums.{going_on, ended}
use Rattle.cov_analysis.proofs.Totals.{counted_total}
use Rattle.cov_analysis.specs.Counts.{IsCounted, numbers_of, total_of}
use Rattle.cov_analysis.proofs.analysis.total.Goals as goal

pub returns : goal.returns
returns c =
    let sums : c.loop-analysis.sums ≡ total_of (map numbers_of c.args.all.now) =
    sym (ended c.loop-analysis.sums c.loop-analysis.invariant.1)
    ∙ ap (λ xs. going_on c.loop-analysis.sums (map numbers_of xs)) (sym (drop_all c.loop-analysis.analysis-index c.args.all.now c.loop-analysis-test.false))
    ∙ c.loop-analysis.invariant.0 in
    record {
      sums = sums;
      counted = λ each. subst IsCounted (sym sums) (counted_total c.args.all.now each);
    }
