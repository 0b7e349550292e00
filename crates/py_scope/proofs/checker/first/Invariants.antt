use Rattle.std.proofs.Common.{◌<◌, ℕ, get_or}
use Rattle.std.specs.Prelude.{Contains}
use Rattle.py_scope.specs.declared.error.ScopeError.{ScopeError}
use Rattle.py_scope.specs.Answer.{ComesBefore}
use Rattle.py_scope.proofs.checker.first.Given as goal

abbrev pub invariant-loop-fault : goal.invariant-loop-fault
invariant-loop-fault l = record {
  one : Contains l.faults l.best;
  first : (k : ℕ) (d : ScopeError) → k < l.fault-index → ComesBefore (get_or l.faults k d) l.best → ⊥;
}
