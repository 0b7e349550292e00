use Rattle.std.proofs.Common.{ap, sym, ◌∙◌}
use Rattle.std.specs.List.{fold, flat_map}
use Rattle.std.specs.Ordering.{nat_cmp}
use Rattle.std.specs.BTreeSet.{insert_key}
use Rattle.cov_data.specs.DataSet.{rekeyed}
use Rattle.cov_data.specs.Stored.{number_lines}
use Rattle.std.proofs.lemmas.List.Sums.{fold-append}
use Rattle.cov_data.proofs.CountViews.{left_at_start}
use Rattle.cov_data.proofs.tally.Tally.add_lines.Goals as goal

pub loop-numbers-init : goal.loop-numbers-init
loop-numbers-init c =
    let given = c.into_iter-numbers-iterator.ensures.into_iter_gives in
    ap (λ es. fold (insert_key nat_cmp) c.args.lines.now.keys (flat_map (λ e. number_lines e.0) es)) (left_at_start _ _ _ c.self.view_is given.0 given.5)

pub loop-numbers-preserved : goal.loop-numbers-preserved
loop-numbers-preserved c =
    let left = flat_map (λ e. number_lines e.0) (rekeyed (λ k. k) c.next.new.self) in
    ap (λ ks. fold (insert_key nat_cmp) ks left) c.in_ok-add_both.ensures
    ∙ sym (fold-append (insert_key nat_cmp) c.loop-numbers.lines.keys (number_lines c.in-Some.numbers.now) left)
    ∙ ap (λ xs. fold (insert_key nat_cmp) c.loop-numbers.lines.keys (flat_map (λ e. number_lines e.0) (rekeyed (λ k. k) xs))) (sym c.in-Some.ensures.steps) ∙ c.loop-numbers.invariant

pub returns : goal.returns
returns c = record { ok = ap (λ xs. fold (insert_key nat_cmp) c.loop-numbers.lines.keys (flat_map (λ e. number_lines e.0) (rekeyed (λ k. k) xs))) (sym c.in-None.ensures.steps.0) ∙ c.loop-numbers.invariant }
