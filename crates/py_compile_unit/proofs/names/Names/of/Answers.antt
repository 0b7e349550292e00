use Rattle.py_compile_unit.proofs.OwnNames.{name_turn}
use Rattle.py_compile_unit.proofs.names.Names.of.Goals as goal

pub loop-name-preserved : goal.loop-name-preserved
loop-name-preserved c =
    name_turn c.args.names.now c.loop-name.name-index c.name-item.result c.loop-name.all _ _ c.loop-name-test.true c.name-item.is c.in_ok-place.ensures.added c.loop-name.invariant
