use Rattle.std.proofs.Common.{ap, ◌∙◌}
use Rattle.py_syntax.specs.Prediction.{arcs_in_order}
use Rattle.py_syntax.specs.View.{plain_module, plain_stmts}
use Rattle.cov_predict.proofs.Predicted.{a-module, walked-in_order}
use Rattle.cov_predict.proofs.prediction.arcs.Goals as goal

pub returns : goal.returns
returns c =
    c.new.ensures
    ∙ ap arcs_in_order (a-module c.args.rules.any c.new-out.result.items c.body.new.out.items c.functions.new.out.items (plain_module c.args.module.now) (plain_stmts c.deref.result.now) (plain_stmts c.deref-2.result.now)
    c.new-out.ensures.items (ap plain_stmts c.deref.ensures.value) (ap plain_stmts c.deref-2.ensures.value) c.in_ok-body.ensures c.in_ok-functions.ensures)
    ∙ walked-in_order c.args.rules.any (plain_module c.args.module.now)
