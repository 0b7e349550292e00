use Rattle.std.proofs.Common.{length, map}
use Rattle.cov_event.specs.Moves.{Takes}
use Rattle.py_value.specs.View.{plain_raised}
use Rattle.py_code.specs.Loaded.{modules_of}
use Rattle.py_code.specs.Machine.{leave}
use Rattle.py_code.specs.Slots.{by_slots}
use Rattle.py_machine.specs.Told.{Passed}
use Rattle.py_instructions.specs.View.{plain_frame, effects_of}
use Rattle.py_machine.proofs.exceptions.leave.Given as goal

abbrev pub invariant-loop-raised : goal.invariant-loop-raised
invariant-loop-raised g l =
    Passed (λ es. Takes g.T.Tracer.moves l.fn.tracer es l.tracer)
    (λ o. leave (by_slots (modules_of l.programs)) (modules_of l.programs) (plain_raised l.raised) l.fn.m.top.code (map plain_frame l.fn.m.callers) l.fn.m.steps (effects_of l.fn.store o))
    (λ o. leave (by_slots (modules_of l.programs)) (modules_of l.programs) (plain_raised l.raised) l.m.top.code (map plain_frame l.m.callers) l.m.steps (effects_of l.store o))

abbrev pub decreases-loop-raised : goal.decreases-loop-raised
decreases-loop-raised g l = length l.m.callers
