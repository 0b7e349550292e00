use Rattle.std.proofs.Common.{map, ap, sym, ◌∙◌}
use Rattle.std.specs.List.{fold}
use Rattle.std.specs.BTreeSet.{insert_key}
use Rattle.cov_data.specs.DataSet.{rekeyed}
use Rattle.cov_data.specs.Rows.{arc_cmp}
use Rattle.cov_data.proofs.CountViews.{left_at_start}
use Rattle.cov_data.proofs.tally.Tally.add_arcs.Goals as goal

pub loop-numbers-init : goal.loop-numbers-init
loop-numbers-init c =
    let given = c.into_iter-numbers-iterator.ensures.into_iter_gives in
    ap (λ es. fold (insert_key arc_cmp) c.args.arcs.now.keys (map (λ e. e.0) es)) (left_at_start _ _ _ c.self.view_is given.0 given.5)

pub loop-numbers-preserved : goal.loop-numbers-preserved
loop-numbers-preserved c =
    let left = map (λ e. e.0) (rekeyed (λ k. k) c.next.new.self) in
    ap (λ ks. fold (insert_key arc_cmp) ks left) c.in_ok-insert.ensures.keys
    ∙ ap (λ xs. fold (insert_key arc_cmp) c.loop-numbers.arcs.keys (map (λ e. e.0) (rekeyed (λ k. k) xs))) (sym c.in-Some.ensures.steps) ∙ c.loop-numbers.invariant

pub returns : goal.returns
returns c = record { ok = ap (λ xs. fold (insert_key arc_cmp) c.loop-numbers.arcs.keys (map (λ e. e.0) (rekeyed (λ k. k) xs))) (sym c.in-None.ensures.steps.0) ∙ c.loop-numbers.invariant }
