use Rattle.std.proofs.Common.{arith}
use Rattle.py_code.specs.Units.{plain_unit}
use Rattle.py_run_tests.proofs.Checking.{valid_of}
use Rattle.py_run_tests.proofs.checked.is_valid.Goals as goal

pub returns : goal.returns
returns c =
    λ t. valid_of (plain_unit c.args.unit.now) c.args.units c.args.depths.now (omega (arith, c.len.ensures, c.if-depths-len.false)) (c.stands.ensures c.if-not-stands.false) (c.all_fit.ensures c.if-not-all_fit.false) (c.all_stand.ensures t)
