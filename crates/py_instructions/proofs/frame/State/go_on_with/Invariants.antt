use Rattle.std.proofs.Common.{◌≤◌, ◌-◌, suc, [], ◌∷◌, length}
use Rattle.py_instructions.specs.Carried.{whole, LeadsTo}
use Rattle.py_instructions.proofs.frame.State.go_on_with.Given as goal

abbrev pub invariant-loop-place : goal.invariant-loop-place
invariant-loop-place l = record {
  within : l.place ≤ length l.unit.instrs.items;
  led : LeadsTo l.unit l.self l.store (suc l.fn.self.top.place) (whole l.first ∷ []) l.place (whole l.number ∷ []);
}

abbrev pub decreases-loop-place : goal.decreases-loop-place
decreases-loop-place l = length l.unit.instrs.items - l.place
