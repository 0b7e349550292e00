use Rattle.std.proofs.Common.{arith}
use Rattle.py_code.specs.Units.{plain_unit}
use Rattle.py_run_tests.proofs.Checking.{handler_of_unit}
use Rattle.py_run_tests.proofs.checked.is_handler.Goals as goal

pub returns : goal.returns
returns c =
    λ t. handler_of_unit (plain_unit c.args.unit.now) c.args.depths.now c.args.handler (omega (arith, c.if-from-to.false)) (omega (arith, c.len.ensures, c.if-to-len.false)) (omega (arith, c.if-to-target.false)) (c.stands.ensures t)
