-- What a text that is run in a transaction says.
use Rattle.std.proofs.Common.{◌≡◌, inl, inr, true, false, ℕ, List, Result, Ok, Err, OnOk, IsErrOf, IsTrue, sym, subst, ◌∙◌}
use Rattle.sqlite_value.specs.Order.{Row}
use Rattle.sqlite_resolve.specs.declared.error.CompileError.{CompileError}
use Rattle.sqlite.specs.declared.error.Error.{Error}
use Rattle.sqlite.specs.declared.error.Error.TheVariants.{SqlInputError}
use Rattle.sqlite.specs.State.{State, HasCleanDisk, Executes, ExecutesInside, KeepsCommit, IsRolledBack}
use Rattle.sqlite.specs.Steps.{FailsToCommit}
use Rattle.cov_sql.specs.declared.statements.StatementError.{StatementError}
use Rattle.cov_sql.specs.declared.statements.StatementError.TheVariants.{Missing}
use Rattle.cov_sql.specs.Told.{IsAbsence}
use Rattle.cov_sql.specs.Written.{WasAbsent, Ran, RunsIn}

outside : (text : List ℕ) (params : Row) (old new : State) (e : CompileError) → ExecutesInside 0 text params old new (Err (SqlInputError e)) → Executes text params old new (Err (SqlInputError e))
outside text params old new e (inl h) = h.0
outside text params old new e (inr (scope, is, same)) = absurd cc

pub was_absent : (text : List ℕ) (params : Row) (old new : State) (error : Error) → ExecutesInside 0 text params old new (Err error) → (e : CompileError) → IsAbsence e → error ≡ SqlInputError e → WasAbsent text params old new
was_absent text params old new error h e which is = (e, which, outside text params old new e (subst (λ x. ExecutesInside 0 text params old new (Err x)) is h))

-- nothing is committed, whatever the answer is
pub keeps : (text : List ℕ) (params : Row) (old new : State) (r : Result ℕ Error) → ExecutesInside 0 text params old new r → KeepsCommit old new
keeps text params old new (Ok count) h = record { was_open = λ o. h.1.was_open; committed = λ o. h.1.committed_is }
keeps text params old new (Err e) (inl (ran, inl same)) = record { was_open = λ o. same.0.was_open; committed = λ o. same.0.committed_is }
keeps text params old new (Err e) (inl (ran, inr undone)) = record { was_open = undone.was_open; committed = λ o. (undone.undone o).1 }
keeps text params old new (Err e) (inr (scope, is, same)) = record { was_open = λ o. same.0.was_open; committed = λ o. same.0.committed_is }

given : (text : List ℕ) (params : Row) (old new : State) (r : Result (Unit {0}) StatementError) → OnOk r (Ran text params old new) → OnOk r ((given : Row) × Ran text given old new)
given text params old new (Ok v) h = (params, h)
given text params old new (Err e) h = tt

-- a statement that runs a text tells so
pub runs : (text : List ℕ) (params : Row) (old new : State) (r : Result (Unit {0}) StatementError) → (HasCleanDisk new → IsTrue old.in_transaction → OnOk r (Ran text params old new))
    → (HasCleanDisk new → IsTrue old.in_transaction → IsErrOf r Missing → WasAbsent text params old new) → (HasCleanDisk new → IsTrue old.in_transaction → KeepsCommit old new) → RunsIn text old new r
runs text params old new r ran missing kept clean inside = record {
  ran = given text params old new r (ran clean inside);
  missing = λ no. (params, missing clean inside no);
  kept = kept clean inside;
}

-- a commit that fails undoes the transaction
pub undone_then : (old new : State) (e : Error) → IsTrue old.in_transaction → FailsToCommit old new e → IsRolledBack old new
undone_then old new e inside (inl (cause, is, has, undone, told)) = undone
undone_then old new e inside (inr (is, outside, same)) = absurd (let both : true ≡ false = sym inside ∙ outside in cc)
