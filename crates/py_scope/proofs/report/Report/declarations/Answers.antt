use Rattle.std.proofs.Common.{◌∙◌}
use Rattle.py_syntax.specs.View.{plain_stmts}
use Rattle.py_scope.proofs.Linking.{declared-in}
use Rattle.py_scope.proofs.report.Report.declarations.Goals as goal

pub returns : goal.returns
returns c =
    declared-in c.self.inside.faults.items c.late.inside.late.items _ c.self.inside.functions.items c.late.inside.used c.late.inside.assigned c.late.inside.declared c.args.self.now (plain_stmts c.args.body.now)
    c.in_ok-append.ensures.items c.self.view_is (c.late.view_is ∙ c.in_ok-late.ensures)
