use Rattle.std.proofs.Common.{rules, ◌&&◌, ◌||◌, nat_eq, slice_index, ap, ◌∙◌}
use Rattle.std.specs.Prelude.{bytes_eq}
use Rattle.cov_select.specs.Selected.{has_line}
use Rattle.cov_select.proofs.Sets.{any_on, any_done, common}
use Rattle.cov_select.proofs.lines.add_lines.Goals as goal

pub loop-line-preserved : goal.loop-line-preserved
loop-line-preserved c = λ q.
    any_on (λ n. bytes_eq q.0 c.args.path.now && nat_eq q.1 n) c.args.lines.now c.loop-line.line-index (slice_index c.args.lines.now c.loop-line.line-index) c.loop-line-test.true (search rules) _ _ _ (c.in_ok-add_line.ensures q) (c.loop-line.invariant q)

pub returns : goal.returns
returns c = λ q.
    any_done (λ n. bytes_eq q.0 c.args.path.now && nat_eq q.1 n) c.args.lines.now c.loop-line.line-index c.loop-line-test.false _ _ (c.loop-line.invariant q)
    ∙ ap (λ b. has_line c.args.set.now q || b) (common (bytes_eq q.0 c.args.path.now) (nat_eq q.1) c.args.lines.now)
