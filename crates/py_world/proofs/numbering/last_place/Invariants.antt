use Rattle.std.proofs.Common.{◌≡◌, ◌≤◌, length, drop}
use Rattle.py_world.specs.Numbered.{times}
use Rattle.py_world.proofs.numbering.last_place.Given as goal

abbrev pub invariant-loop-rest : goal.invariant-loop-rest
invariant-loop-rest l = record {
  inside : l.rest ≤ length l.numbers;
  none : times l.number (drop l.rest l.numbers) ≡ 0;
}

abbrev pub decreases-loop-rest : goal.decreases-loop-rest
decreases-loop-rest l = l.rest
