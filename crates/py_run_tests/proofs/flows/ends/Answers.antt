use Rattle.std.proofs.Common.{arith}
use Rattle.py_code.specs.Units.{plain_unit}
use Rattle.py_run_tests.proofs.Checking.{ends_flow}
use Rattle.py_run_tests.proofs.flows.ends.Goals as goal

pub returns : goal.returns
returns c =
    λ t. ends_flow (plain_unit c.args.unit.now) c.args.depths.now c.args.place c.args.depth (omega (arith, c.if-depth-eq0.false))
