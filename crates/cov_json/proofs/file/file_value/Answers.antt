use Rattle.std.proofs.Common.{◌≡◌, ap, ◌∙◌}
use Rattle.serde_json.specs.View.{members_view}
use Rattle.cov_analysis.specs.Analyses.{analysis_view}
use Rattle.cov_json.specs.Json.{lines}
use Rattle.cov_json.proofs.Objects.{file_lines, with_file_branches, put_is, file_arcs, file_of_lines}
use Rattle.cov_json.proofs.file.file_value.Goals as goal
use Rattle.cov_json.proofs.file.file_value.Goals.{then-arcs+in_ok-put_branches, else-arcs}

pub returns : goal.returns
returns c =
    let file = analysis_view c.args.file.now in
    let arcs = c.args.arcs in
    let members : members_view c.put-4.new.map.entries ≡ file_lines arcs file =
    put_is _ _ _ _ _ _ c.in_ok-put-4.ensures.ok c.in_ok-summary.ensures
    (put_is _ _ _ _ _ _ c.in_ok-put-3.ensures.ok (c.in_ok-missing.ensures ∙ ap lines c.deref-2.ensures.value)
    (put_is _ _ _ _ _ _ c.in_ok-put-2.ensures.ok c.in_ok-executed.ensures
    (put_is _ _ _ _ _ _ c.in_ok-put.ensures.ok (c.in_ok-excluded.ensures ∙ ap lines c.deref.ensures.value) (ap members_view c.new-members.ensures.empty)))) in
    elim c.if-arcs.branch [
      | then-arcs+in_ok-put_branches w ↦
          file_arcs c.if-arcs.members arcs file w.if-arcs.true (ap (λ m. members_view m.entries) w.members-is ∙ w.in_ok-put_branches.ensures ∙ ap (with_file_branches file) members)
      | else-arcs w ↦ file_of_lines c.if-arcs.members arcs file w.if-arcs.false (ap (λ m. members_view m.entries) w.members-is ∙ members)
    ]
