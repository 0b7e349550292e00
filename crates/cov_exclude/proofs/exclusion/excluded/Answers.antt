use Rattle.std.proofs.Common.{◌≡◌, subst}
use Rattle.std.specs.Prelude.{IfOk}
use Rattle.py_syntax.specs.View.{plain_module}
use Rattle.cov_exclude.specs.Excluded.{excluded_lines}
use Rattle.cov_exclude.proofs.exclusion.excluded.Goals as goal

pub returns : goal.returns
returns c =
    subst (λ matched. IfOk c.excluded_by.result (λ lines. lines.items ≡ excluded_lines matched (plain_module c.args.module.now))) c.in_ok-matched.ensures c.excluded_by.ensures
