use Rattle.std.proofs.lemmas.Grind.{common_steps}
use Rattle.std.proofs.Common.{sym, ap, ◌∙◌, ◌+◌, arith}
use Rattle.py_compile_expr.proofs.Turns.{the_number}
use Rattle.py_compile_body.proofs.SimpleSizes.{function_size-is}
use Rattle.py_compile_body.proofs.suite_sizes.function_size.Goals as goal

pub returns-in_ok-each_size : goal.returns-in_ok-each_size
returns-in_ok-each_size c =
    the_number c.sum.result _ _ c.sum.ensures
    (ap (λ n. n + 2) c.in_ok-each_size.ensures ∙ function_size-is c.args.defaults.now (sym c.is_empty.ensures ∙ c.if-is_empty.false))

pub returns-then-is_empty : goal.returns-then-is_empty
returns-then-is_empty c = grind (arith, common_steps)
