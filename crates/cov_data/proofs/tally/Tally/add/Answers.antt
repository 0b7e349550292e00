use Rattle.std.proofs.Common.{◌≡◌, ap, sym, ◌∙◌}
use Rattle.std.specs.Ordering.{is_eq}
use Rattle.std.specs.Map.{lookup}
use Rattle.std.specs.BTreeMap.{insert_entry}
use Rattle.std.specs.Option.{option_copied}
use Rattle.cov_data.specs.DataSet.{joined_count}
use Rattle.cov_data.specs.Rows.{arc_cmp}
use Rattle.cov_data.specs.Stored.{counts_from, add_at}
use Rattle.cov_data.proofs.CountViews.{counts_from-joined}
use Rattle.cov_data.proofs.tally.Tally.add.Goals as goal
use Rattle.cov_data.proofs.tally.Tally.add.Goals.{in-Some, in-None}

pub returns-clause-ok : goal.returns-clause-ok
returns-clause-ok c =
    let k = c.args.numbers in
    let es = c.self.inside.counts.entries in
    let found = c.get.ensures.value in
    let sum : c.match-get.sum ≡ joined_count (lookup (λ x. is_eq (arc_cmp k x)) es) c.args.count =
    elim c.match-get.branch [
      | in-Some w ↦ w.sum-is ∙ w.saturating_add-sum.ensures ∙ ap (λ o. joined_count o c.args.count) (ap option_copied (sym w.in-Some.is) ∙ found)
      | in-None w ↦ w.sum-is ∙ ap (λ o. joined_count o c.args.count) (ap option_copied (sym w.in-None.is) ∙ found)
    ] in
    let same : c.match-get.self-inside.counts.entries ≡ es = elim c.match-get.branch [ in-Some w ↦ ap (λ s. s.counts.entries) w.self-inside-is | in-None w ↦ ap (λ s. s.counts.entries) w.self-inside-is ] in
    ap counts_from (c.in_ok-insert.ensures.entries ∙ ap (λ xs. insert_entry arc_cmp xs k c.match-get.sum) same) ∙ counts_from-joined es k c.args.count c.match-get.sum sum ∙ ap (λ f. add_at f k c.args.count) c.self.view_is
