use Rattle.std.proofs.Common.{◌+◌, drop, map, refl, ap, sym, ◌∙◌}
use Rattle.std.specs.List.{list_any}
use Rattle.cov_select.specs.Selected.{has_line}
use Rattle.cov_suite.specs.Views.{line_of}
use Rattle.cov_changed.proofs.Pairs.{at_item, finds, seeks_on, found_none}
use Rattle.cov_select.proofs.selection.reaches.Goals as goal

pub returns-then-has : goal.returns-then-has
returns-then-has c =
    finds (has_line c.args.lines.now (line_of c.at-item.result)) (list_any (has_line c.args.lines.now) (map line_of (drop (c.loop-at.at-index + 1) c.args.reached.now))) _ _
    (at_item (λ rs. list_any (has_line c.args.lines.now) (map line_of rs)) (λ r. has_line c.args.lines.now (line_of r)) (λ x xs. refl) c.args.reached.now c.loop-at.at-index c.at-item.result c.loop-at-test.true c.at-item.is)
    (sym (ap (λ z. has_line c.args.lines.now (z, c.at-item.result.1)) c.as_str.ensures.value) ∙ sym c.has.ensures ∙ c.if-has.true) c.loop-at.invariant

pub loop-at-preserved : goal.loop-at-preserved
loop-at-preserved c =
    seeks_on (has_line c.args.lines.now (line_of c.at-item.result)) (list_any (has_line c.args.lines.now) (map line_of (drop (c.loop-at.at-index + 1) c.args.reached.now))) _ _
    (at_item (λ rs. list_any (has_line c.args.lines.now) (map line_of rs)) (λ r. has_line c.args.lines.now (line_of r)) (λ x xs. refl) c.args.reached.now c.loop-at.at-index c.at-item.result c.loop-at-test.true c.at-item.is)
    (sym (ap (λ z. has_line c.args.lines.now (z, c.at-item.result.1)) c.as_str.ensures.value) ∙ sym c.has.ensures ∙ c.if-has.false) c.loop-at.invariant

pub returns : goal.returns
returns c = found_none (λ rs. list_any (has_line c.args.lines.now) (map line_of rs)) refl c.args.reached.now c.loop-at.at-index c.loop-at-test.false c.loop-at.invariant
