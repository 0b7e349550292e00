use Rattle.std.proofs.Common.{◌≡◌, Some}
use Rattle.py_code.specs.Loaded.{modules_of}
use Rattle.py_code.specs.Units.{plain_unit, unit_at}
use Rattle.py_instructions.specs.AtOnce.{HasGoneOn}
use Rattle.py_instructions.specs.View.{Outside, seen}
use Rattle.py_instructions.proofs.frame.State.next_turn.Given as goal

abbrev pub invariant-ahead : goal.invariant-ahead
invariant-ahead l = record {
  unit : unit_at (modules_of l.programs) l.self.top.code ≡ Some (plain_unit l.unit);
  went : (o : Outside) → HasGoneOn (modules_of l.programs) (seen l.fn.self l.fn.store o) (seen l.self l.store o);
}
