use Rattle.std.proofs.Common.{◌||◌, ap, ◌∙◌}
use Rattle.std.specs.Cmp.Lexicographic.{nat_list_eq_equiv}
use Rattle.std.specs.Prelude.{bytes_eq}
use Rattle.cov_select.specs.Selected.{has_name}
use Rattle.cov_select.proofs.Sets.{adds, kept_same, kept_more}
use Rattle.cov_select.proofs.selection.keep.Goals as goal

pub returns-then-affected : goal.returns-then-affected
returns-then-affected c = λ n. kept_same (has_name c.args.kept.now n) (bytes_eq n c.args.name.now) c.args.affected c.if-affected.true

pub returns : goal.returns
returns c = λ n.
    c.in_ok-insert.ensures.updates.0 (record { ref_ptr = (0, 0); now = n })
    ∙ adds (bytes_eq c.args.name.now n) (has_name c.args.kept.now n)
    ∙ ap (λ b. has_name c.args.kept.now n || b) (nat_list_eq_equiv.symm c.args.name.now n)
    ∙ kept_more (has_name c.args.kept.now n) (bytes_eq n c.args.name.now) c.args.affected c.if-affected.false
