use Rattle.std.proofs.Common.{◌≤◌, false, [], List, ℕ}
use Rattle.cov_event.specs.declared.event.CodeId.{CodeId}
use Rattle.cov_event.specs.Moves.{Takes}
use Rattle.py_builtins.specs.Inputs.{Wrote}
use Rattle.py_code.specs.Loaded.{modules_of}
use Rattle.py_code.specs.Slots.{by_slots}
use Rattle.py_code.specs.Valid.{AreValid}
use Rattle.py_code.proofs.Ahead.{distance}
use Rattle.py_machine.specs.Told.{PartOnInput, Reached, CallsSome}
use Rattle.py_instructions.specs.View.{seen}
use Rattle.py_machine.proofs.Joins.{StandAt}
use Rattle.py_machine.proofs.runs.go_on.Given as goal

abbrev pub invariant-loop-ending : goal.invariant-loop-ending
invariant-loop-ending g l = record {
  reached : PartOnInput g.I.Source.tells (g.I.Source.left l.fn.input) (g.I.Source.left l.input) false l.at_end
      (Reached (λ es. Takes g.T.Tracer.moves l.fn.tracer es l.tracer) (Wrote g.O.Sink.tells (g.O.Sink.contents l.fn.out) (g.O.Sink.contents l.out)) (modules_of l.programs) (seen l.fn.m l.fn.store) (seen l.m l.store));
  stand : (depths : CodeId → List ℕ) × (valid : AreValid (modules_of l.programs) depths) × StandAt (modules_of l.programs) depths valid l.m l.store;
  calls : CallsSome g.T.Tracer.moves g.T.Tracer.refused l.fn.tracer l.tracer;
  writes : g.O.Sink.faults l.fn.out ≤ g.O.Sink.faults l.out;
  reads : g.I.Source.faults l.fn.input ≤ g.I.Source.faults l.input;
}

abbrev pub decreases-loop-ending : goal.decreases-loop-ending
decreases-loop-ending g l = distance (by_slots (modules_of l.programs)) (modules_of l.programs) (seen l.m l.store (record { input = []; out = []; events = [] }))
