use Rattle.std.proofs.Common.{filter, map, string_bytes, ap, ◌∙◌}
use Rattle.cov_select.specs.Selected.{has_line, is_selected}
use Rattle.cov_select.proofs.Sets.{if_ok}
use Rattle.cov_select.proofs.selection.select.Goals as goal

pub returns : goal.returns
returns c =
    if_ok (λ names h.
    h ∙ ap (λ p. filter p (map string_bytes c.args.new_tests.now)) (λ i name. c.in_ok-kept.ensures name i)
    ∙ ap (λ ts. filter (is_selected ts (has_line c.in_ok-lines.lines)) (map string_bytes c.args.new_tests.now)) c.deref.ensures.value
    ∙ ap (λ w. filter (is_selected c.args.old.now.tests.items w) (map string_bytes c.args.new_tests.now)) (λ i line. c.in_ok-lines.ensures line i))
    c.others.result c.others.ensures
