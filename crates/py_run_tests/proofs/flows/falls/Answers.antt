use Rattle.std.proofs.Common.{arith}
use Rattle.py_code.specs.Units.{plain_unit}
use Rattle.py_run_tests.proofs.Checking.{falls_flow}
use Rattle.py_run_tests.proofs.flows.falls.Goals as goal

pub returns : goal.returns
returns c =
    λ t. falls_flow (plain_unit c.args.unit.now) c.args.depths.now c.args.place c.args.depth c.args.moves.0 c.args.moves.1 (omega (arith, c.if-takes-depth.false)) (c.goes.ensures t)
