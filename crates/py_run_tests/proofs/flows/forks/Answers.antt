use Rattle.std.proofs.Common.{arith}
use Rattle.py_code.specs.Units.{plain_unit}
use Rattle.py_run_tests.proofs.Checking.{forks_flow}
use Rattle.py_run_tests.proofs.flows.forks.Goals as goal

pub returns : goal.returns
returns c =
    λ t. forks_flow (plain_unit c.args.unit.now) c.args.depths.now c.args.place c.args.depth c.args.to (omega (arith, c.if-depth-eq0.false)) (c.goes.ensures c.if-not-goes.false) (c.goes-2.ensures t)
