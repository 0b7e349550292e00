use Rattle.std.proofs.Common.{arith}
use Rattle.py_code.specs.Units.{plain_unit}
use Rattle.py_run_tests.proofs.Checking.{raises_flow}
use Rattle.py_run_tests.proofs.flows.raises.Goals as goal

pub returns : goal.returns
returns c =
    λ t. raises_flow (plain_unit c.args.unit.now) c.args.depths.now c.args.place c.args.depth (omega (arith, c.if-depth-eq0.false)) (c.lands.ensures t)
