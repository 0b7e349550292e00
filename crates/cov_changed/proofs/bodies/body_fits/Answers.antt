use Rattle.std.proofs.Common.{◌∙◌}
use Rattle.py_syntax.specs.View.{plain_stmts}
use Rattle.cov_changed.proofs.SilenceLaws.{by_parts}
use Rattle.cov_changed.proofs.bodies.body_fits.Goals as goal

pub returns : goal.returns
returns c =
    c.marks_or.ensures ∙ by_parts (plain_stmts c.args.a.now) (plain_stmts c.args.b.now) _ _ c.have_marks.result c.same_docstrings.result c.are_silent.result c.without_docstring-x.ensures c.without_docstring-y.ensures c.have_marks.ensures c.same_docstrings.ensures c.are_silent.ensures
