use Rattle.std.proofs.Common.{◌≡◌, [], if◌then◌else◌, sym, ap, subst, ◌∙◌}
use Rattle.std.specs.Prelude.{IfOk}
use Rattle.cov_analysis.specs.Branches.{branches_of}
use Rattle.cov_analysis.proofs.analysing.branches_if.Goals as goal

pub returns-then-recorded : goal.returns-then-recorded
returns-then-recorded c =
    subst (λ b. IfOk c.branches.result (λ found. found.items ≡ (if b then branches_of c.args.excluded.now c.args.arcs.now else []))) (sym c.if-recorded.true) c.branches.ensures

pub returns : goal.returns
returns c = c.new.ensures.items ∙ ap (λ b. if b then branches_of c.args.excluded.now c.args.arcs.now else []) (sym c.if-recorded.false)
