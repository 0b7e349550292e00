use Rattle.std.proofs.Common.{◌∙◌}
use Rattle.py_syntax.specs.View.{plain_stmts}
use Rattle.py_scope.proofs.Linking.{reported}
use Rattle.py_scope.proofs.report.Report.function.Goals as goal

pub returns : goal.returns
returns c =
    reported c.self.inside.faults.items c.assigned.inside.late.items _ c.self.inside.functions.items _ c.assigned.inside.used c.assigned.inside.assigned c.assigned.inside.declared c.args.self.now c.args.params.now (plain_stmts c.args.body.now)
    c.in_ok-append.ensures.items c.in_ok-push.ensures.items c.self.view_is (c.assigned.view_is ∙ c.in_ok-assigned.ensures)
