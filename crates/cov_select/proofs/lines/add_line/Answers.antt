use Rattle.std.proofs.Common.{◌&&◌, ◌||◌, nat_eq, ap, ◌∙◌}
use Rattle.std.specs.Cmp.{nat_eq_equiv}
use Rattle.std.specs.Cmp.Lexicographic.{nat_list_eq_equiv}
use Rattle.std.specs.Prelude.{bytes_eq}
use Rattle.cov_select.specs.Selected.{has_line}
use Rattle.cov_select.proofs.Sets.{adds}
use Rattle.cov_select.proofs.lines.add_line.Goals as goal

pub returns : goal.returns
returns c = λ l.
    c.in_ok-insert.ensures.updates.0 (record { ref_ptr = (0, 0); now = l.0 }, l.1)
    ∙ adds (bytes_eq c.args.path.now l.0 && nat_eq c.args.line l.1) (has_line c.args.set.now l)
    ∙ ap (λ b. has_line c.args.set.now l || (b && nat_eq c.args.line l.1)) (nat_list_eq_equiv.symm c.args.path.now l.0)
    ∙ ap (λ b. has_line c.args.set.now l || (bytes_eq l.0 c.args.path.now && b)) (nat_eq_equiv.symm c.args.line l.1)
