use Rattle.std.proofs.Common.{arith}
use Rattle.py_code.specs.Units.{plain_unit}
use Rattle.py_run_tests.proofs.Checking.{jumps_flow}
use Rattle.py_run_tests.proofs.flows.jumps.Goals as goal

pub returns : goal.returns
returns c =
    λ t. jumps_flow (plain_unit c.args.unit.now) c.args.depths.now c.args.place c.args.depth c.args.takes c.args.to c.args.leaves (omega (arith, c.if-takes-depth.false)) (c.goes.ensures t)
