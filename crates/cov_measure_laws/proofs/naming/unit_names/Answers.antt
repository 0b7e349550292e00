use Rattle.std.proofs.Common.{◌∙◌, map, sym}
use Rattle.py_code.specs.Units.{plain_unit}
use Rattle.cov_recorder.specs.Plan.{named}
use Rattle.cov_measure_laws.specs.Units.{unit_name}
use Rattle.cov_measure_laws.proofs.Lists.{one-end, map-twice}
use Rattle.cov_measure_laws.proofs.naming.unit_names.Goals as goal

pub returns : goal.returns
returns c =
    one-end (λ u. unit_name c.args.program.now (plain_unit u)) c.args.units.now c.loop-unit.unit-index (map named c.loop-unit.names.items) _ c.loop-unit-test.false c.loop-unit.invariant
    ∙ sym (map-twice plain_unit (unit_name c.args.program.now) c.args.units.now)
