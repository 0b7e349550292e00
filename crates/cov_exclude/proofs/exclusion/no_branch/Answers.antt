use Rattle.std.proofs.Common.{◌≡◌, subst}
use Rattle.std.specs.Prelude.{IfOk}
use Rattle.py_syntax.specs.View.{plain_module}
use Rattle.cov_exclude.specs.NoBranch.{no_branch_lines}
use Rattle.cov_exclude.proofs.exclusion.no_branch.Goals as goal

pub returns : goal.returns
returns c =
    subst (λ matched. IfOk c.no_branch_by.result (λ lines. lines.items ≡ no_branch_lines matched (plain_module c.args.module.now))) c.in_ok-matched.ensures c.no_branch_by.ensures
