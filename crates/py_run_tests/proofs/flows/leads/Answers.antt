use Rattle.py_code.specs.Units.{plain_unit}
use Rattle.py_run_tests.proofs.Checking.{leads_ahead, leads_back}
use Rattle.py_run_tests.proofs.flows.leads.Goals as goal

pub returns-then-place-to : goal.returns-then-place-to
returns-then-place-to c =
    λ t. leads_ahead (plain_unit c.args.unit.now) c.args.depths.now c.args.place c.args.to c.args.depth (c.stands.ensures c.if-not-stands.false) c.if-place-to.true

pub returns : goal.returns
returns c =
    λ t. leads_back (plain_unit c.args.unit.now) c.args.depths.now c.args.place c.args.to c.args.depth (c.stands.ensures c.if-not-stands.false) (c.marks.ensures t)
