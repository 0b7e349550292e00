use Rattle.py_code.specs.Units.{plain_unit}
use Rattle.py_run_tests.proofs.Checking.{fits_of}
use Rattle.py_run_tests.proofs.checked.fits_at.Goals as goal

pub returns : goal.returns
returns c =
    λ t. fits_of (plain_unit c.args.unit.now) c.args.depths.now c.args.place c.args.depth c.args.units c.args.instr (c.has_numbers.ensures c.if-not-has_numbers.false) (c.flows.ensures t)
