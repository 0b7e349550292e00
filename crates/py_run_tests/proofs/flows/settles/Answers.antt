use Rattle.std.proofs.Common.{arith}
use Rattle.py_code.specs.Units.{plain_unit}
use Rattle.py_run_tests.proofs.Checking.{settles_flow}
use Rattle.py_run_tests.proofs.flows.settles.Goals as goal

pub returns : goal.returns
returns c =
    λ t. settles_flow (plain_unit c.args.unit.now) c.args.depths.now c.args.place c.args.depth (omega (arith, c.if-depth-eq0.false)) (c.lands.ensures c.if-not-lands.false) (c.goes.ensures c.if-not-goes.false) (c.goes-2.ensures c.if-not-goes-2.false) (c.goes-3.ensures c.if-not-goes-3.false) (c.goes-4.ensures t)
