use Rattle.std.proofs.Common.{ap, sym, ◌∙◌, ℕ, ℤ}
use Rattle.std.specs.List.{fold}
use Rattle.cov_data.specs.DataSet.{rekeyed}
use Rattle.cov_data.specs.Stored.{Counts, add_at, both_counts}
use Rattle.cov_data.proofs.CountViews.{left_at_start}
use Rattle.cov_data.proofs.tally.Tally.merge.Goals as goal

abbrev step : Counts → (ℤ × ℤ) × ℕ → Counts
step h e = add_at h e.0 e.1

pub loop-numbers-init : goal.loop-numbers-init
unfolding both_counts
loop-numbers-init c =
    let given = c.into_iter-numbers-iterator.ensures.into_iter_gives in
    ap (fold step c.args.self.now) (left_at_start _ _ _ c.other.view_is given.0 given.5)

pub loop-numbers-preserved : goal.loop-numbers-preserved
loop-numbers-preserved c =
    let left = rekeyed (λ k. k) c.next.new.self in
    ap (λ h. fold step h left) c.in_ok-add.ensures.ok
    ∙ ap (λ xs. fold step c.loop-numbers.self (rekeyed (λ k. k) xs)) (sym c.in-Some.ensures.steps) ∙ c.loop-numbers.invariant

pub returns : goal.returns
returns c = record { ok = ap (λ xs. fold step c.loop-numbers.self (rekeyed (λ k. k) xs)) (sym c.in-None.ensures.steps.0) ∙ c.loop-numbers.invariant }
