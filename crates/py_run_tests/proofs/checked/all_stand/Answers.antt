use Rattle.std.proofs.Common.{arith}
use Rattle.py_code.specs.Units.{plain_unit}
use Rattle.py_run_tests.specs.Checked.{StandsIn}
use Rattle.py_run_tests.proofs.Checking.{one_more}
use Rattle.py_run_tests.proofs.checked.all_stand.Goals as goal

pub loop-number-preserved : goal.loop-number-preserved
loop-number-preserved c = one_more (StandsIn (plain_unit c.args.unit.now) c.args.depths.now) c.loop-number.number c.loop-number.invariant (c.stands_in.ensures c.if-not-stands_in.false)

pub returns : goal.returns
returns c = λ t m lt. c.loop-number.invariant m (omega (arith, lt, c.len.ensures, c.loop-number-test.false))
