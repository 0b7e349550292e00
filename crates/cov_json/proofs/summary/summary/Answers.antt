use Rattle.std.proofs.Common.{◌≡◌, string_bytes, decimal, ap, ◌∙◌}
use Rattle.serde_json.specs.Data.{string}
use Rattle.serde_json.specs.View.{members_view}
use Rattle.cov_analysis.specs.Percentage.{percent}
use Rattle.cov_json.proofs.Objects.{of_lines, with_branches, put_is, summary_arcs, summary_lines}
use Rattle.cov_json.proofs.summary.summary.Goals as goal
use Rattle.cov_json.proofs.summary.summary.Goals.{then-arcs+in_ok-put_branches, else-arcs}

pub returns : goal.returns
returns c =
    let n = c.args.numbers in
    let text : string_bytes c.in_ok-text.text ≡ decimal (percent n) = c.in_ok-text.ensures.ok ∙ ap decimal c.percent-percent.ensures.is in
    let members : members_view c.put-5.new.map.entries ≡ of_lines n (decimal (percent n)) =
    put_is _ _ _ _ _ _ c.in_ok-put-5.ensures.ok (c.from-5.ensures ∙ ap string text)
    (put_is _ _ _ _ _ _ c.in_ok-put-4.ensures.ok c.from-4.ensures
    (put_is _ _ _ _ _ _ c.in_ok-put-3.ensures.ok c.from-3.ensures
    (put_is _ _ _ _ _ _ c.in_ok-put-2.ensures.ok c.from-2.ensures
    (put_is _ _ _ _ _ _ c.in_ok-put.ensures.ok c.from.ensures (ap members_view c.new-members.ensures.empty))))) in
    elim c.if-arcs.branch [
      | then-arcs+in_ok-put_branches w ↦
          summary_arcs c.if-arcs.members c.args.arcs n w.if-arcs.true (ap (λ m. members_view m.entries) w.members-is ∙ w.in_ok-put_branches.ensures ∙ ap (with_branches n) members)
      | else-arcs w ↦ summary_lines c.if-arcs.members c.args.arcs n w.if-arcs.false (ap (λ m. members_view m.entries) w.members-is ∙ members)
    ]
