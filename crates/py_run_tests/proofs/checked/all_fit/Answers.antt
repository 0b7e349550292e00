use Rattle.std.proofs.Common.{arith}
use Rattle.py_code.specs.Units.{plain_unit}
use Rattle.py_run_tests.specs.Checked.{FitsIn}
use Rattle.py_run_tests.proofs.Checking.{one_more}
use Rattle.py_run_tests.proofs.checked.all_fit.Goals as goal

pub loop-place-preserved : goal.loop-place-preserved
loop-place-preserved c = one_more (FitsIn (plain_unit c.args.unit.now) c.args.units c.args.depths.now) c.loop-place.place c.loop-place.invariant (c.fits_in.ensures c.if-not-fits_in.false)

pub returns : goal.returns
returns c = λ t m lt. c.loop-place.invariant m (omega (arith, lt, c.len.ensures, c.loop-place-test.false))
