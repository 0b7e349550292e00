use Rattle.std.proofs.Common.{length, map, subst, arith}
use Rattle.py_code.specs.Units.{plain_unit}
use Rattle.py_run_tests.specs.Checked.{AllHaveDepths}
use Rattle.py_run_tests.proofs.Checking.{code_by}
use Rattle.py_run_tests.proofs.codes.code_of.Goals as goal

pub new-requires : goal.new-requires
new-requires c =
    code_by c.loop-row.units.items (subst (λ us. AllHaveDepths (map plain_unit us) (length us)) c.deref.ensures.value (c.all_have_depths.ensures c.if-not-all_have_depths.false)) (omega (arith, c.len-count.ensures, c.if-count-eq0.false)) (omega (arith, c.len-count.ensures, c.if-count-gt-MOST_UNITS.false))
