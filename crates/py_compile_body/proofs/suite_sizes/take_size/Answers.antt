use Rattle.std.proofs.Common.{ap, ◌∙◌, ◌+◌}
use Rattle.py_compile_expr.proofs.Turns.{the_number}
use Rattle.py_compile_body.proofs.SimpleSizes.{take_size-is}
use Rattle.py_compile_body.proofs.suite_sizes.take_size.Goals as goal

pub returns : goal.returns
returns c =
    the_number c.sum.result _ _ c.sum.ensures
    (ap (λ n. n + 1) c.in_ok-times.ensures ∙ take_size-is c.args.names.now)
