use Rattle.std.proofs.Common.{◌&&◌, ◌||◌, nat_eq, string_bytes, ap, ◌∙◌}
use Rattle.std.specs.List.{list_any}
use Rattle.std.specs.Prelude.{bytes_eq}
use Rattle.cov_select.specs.Selected.{has_line, is_changed}
use Rattle.cov_select.proofs.Sets.{any_on, any_done}
use Rattle.cov_select.proofs.lines.line_set.Goals as goal

pub loop-lines-init : goal.loop-lines-init
loop-lines-init c = λ q. ap (λ ks. list_any (λ k. bytes_eq q.0 k.0.now && nat_eq q.1 k.1) ks || is_changed c.args.changed.now q) c.new-set.ensures.empty

pub loop-lines-preserved : goal.loop-lines-preserved
loop-lines-preserved c = λ q.
    any_on (λ d. bytes_eq q.0 (string_bytes d.0) && list_any (nat_eq q.1) d.1.items) c.args.changed.now c.loop-lines.lines-index c.lines-item.result c.loop-lines-test.true c.lines-item.is _ _ _
    (c.in_ok-add_lines.ensures q
    ∙ ap (λ z. has_line c.loop-lines.set q || (bytes_eq q.0 z && list_any (nat_eq q.1) c.deref.result.now)) c.as_str.ensures.value
    ∙ ap (λ z. has_line c.loop-lines.set q || (bytes_eq q.0 (string_bytes c.lines-item.result.0) && list_any (nat_eq q.1) z)) c.deref.ensures.value)
    (c.loop-lines.invariant q)

pub returns : goal.returns
returns c = λ q.
    any_done (λ d. bytes_eq q.0 (string_bytes d.0) && list_any (nat_eq q.1) d.1.items) c.args.changed.now c.loop-lines.lines-index c.loop-lines-test.false _ _ (c.loop-lines.invariant q)
