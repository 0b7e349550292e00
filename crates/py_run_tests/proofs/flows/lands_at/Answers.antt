use Rattle.std.proofs.Common.{arith}
use Rattle.py_run_tests.proofs.Checking.{lands_of}
use Rattle.py_run_tests.proofs.flows.lands_at.Goals as goal

pub returns : goal.returns
returns c =
    λ t. lands_of c.args.depths.now c.args.place c.args.rest c.args.handler (omega (arith, c.if-depth-rest.false)) (omega (arith, c.if-place-target.false)) (c.stands.ensures t)
