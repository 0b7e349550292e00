use Rattle.std.proofs.Common.{neg_ℤ, refl, pos}
use Rattle.py_syntax.specs.Functions.{without_docstring}
use Rattle.py_syntax.specs.View.{plain_stmts}
use Rattle.cov_predict.specs.Leaving.{targets_of}
use Rattle.cov_predict.proofs.Predicted.{a-body}
use Rattle.cov_predict.proofs.bodies.body.Goals as goal

pub returns : goal.returns
returns c =
    a-body c.args.rules.any c.args.first (neg_ℤ (pos c.args.first)) c.args.out.now.items c.enter.new.out.items c.statements.new.out.items (plain_stmts c.without_docstring-items.result.now) (without_docstring (plain_stmts c.args.items.now))
    c.first_of.result (targets_of c.out_of.result) refl c.first_of.ensures c.in_ok-enter.ensures c.out_of.ensures c.in_ok-statements.ensures.arcs c.without_docstring-items.ensures
