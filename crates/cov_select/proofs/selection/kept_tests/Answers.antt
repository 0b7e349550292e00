use Rattle.std.proofs.Common.{◌&&◌, ◌||◌, not, string_bytes, ap, sym, ◌∙◌}
use Rattle.std.specs.List.{list_any}
use Rattle.std.specs.Prelude.{bytes_eq}
use Rattle.cov_select.specs.Selected.{has_line, has_name, has_reached, is_selected, was_cut}
use Rattle.cov_select.proofs.Sets.{kept_on, kept_done}
use Rattle.cov_select.proofs.selection.kept_tests.Goals as goal

pub loop-test-init : goal.loop-test-init
loop-test-init c = λ name. ap (λ ks. not (list_any (λ k. bytes_eq name k.now) ks) && is_selected c.args.tests.now (has_line c.args.lines.now) name) c.new-kept.ensures.empty

pub loop-test-preserved : goal.loop-test-preserved
loop-test-preserved c = λ name.
    kept_on (λ t. not (bytes_eq name (string_bytes t.name)) || (was_cut t.end || has_reached (has_line c.args.lines.now) t)) c.args.tests.now c.loop-test.test-index c.test-item.result c.loop-test-test.true c.test-item.is
    (has_name c.loop-test.kept name) _ (bytes_eq name c.as_str.result.now) c.is_affected-affected.result _
    (ap (λ z. not (bytes_eq name z) || (was_cut c.test-item.result.end || has_reached (has_line c.args.lines.now) c.test-item.result)) (sym c.as_str.ensures.value)
    ∙ ap (λ b. not (bytes_eq name c.as_str.result.now) || b) (sym c.is_affected-affected.ensures))
    (c.in_ok-keep.ensures name) (c.loop-test.invariant name)

pub returns : goal.returns
returns c = λ name.
    kept_done (λ t. not (bytes_eq name (string_bytes t.name)) || (was_cut t.end || has_reached (has_line c.args.lines.now) t)) c.args.tests.now c.loop-test.test-index c.loop-test-test.false _ _ (c.loop-test.invariant name)
