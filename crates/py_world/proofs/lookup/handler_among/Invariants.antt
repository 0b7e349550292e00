use Rattle.std.proofs.Common.{◌≡◌, ◌≤◌, length, drop}
use Rattle.py_code.specs.Units.{handler_of}
use Rattle.py_world.proofs.lookup.handler_among.Given as goal

abbrev pub invariant-loop-rest : goal.invariant-loop-rest
invariant-loop-rest l = record {
  inside : l.rest ≤ length l.handlers;
  found : l.found ≡ handler_of l.place (drop l.rest l.handlers);
}

abbrev pub decreases-loop-rest : goal.decreases-loop-rest
decreases-loop-rest l = l.rest
