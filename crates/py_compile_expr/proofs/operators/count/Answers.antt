use Rattle.std.proofs.Common.{◌≡◌, IfOk, sym, subst}
use Rattle.py_compile_expr.proofs.Chains.{counted}
use Rattle.py_compile_expr.proofs.operators.count.Goals as goal

pub returns : goal.returns
returns c = subst (λ m. IfOk c.number.result (λ n. n ≡ m)) (sym (counted c.args.items.now)) c.number.ensures
