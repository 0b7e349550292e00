use Rattle.std.proofs.Common.{arith}
use Rattle.py_syntax.specs.View.{plain_pattern}
use Rattle.py_compile_expr.proofs.Turns.{the_number}
use Rattle.py_compile_expr.specs.Patterns.{captured}
use Rattle.py_compile_body.proofs.SimpleSizes.{names_size-is}
use Rattle.py_compile_body.proofs.suite_sizes.case_head_size.Goals as goal

pub returns : goal.returns
returns c =
    let one = c.in_ok-names.ensures in
    let two = names_size-is (captured (plain_pattern c.args.pattern.now)) in
    let bound = c.both-bound.ensures _ _ c.pattern_size.ensures c.sum.ensures in
    the_number c.both.result _ _ (c.both.ensures _ _ bound c.guard_size.ensures) (omega (arith, one, two))
