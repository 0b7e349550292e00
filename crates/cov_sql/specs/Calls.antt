-- What calls with statements do, whatever they answer.
--     IsRefused, IsFault     a statement was refused; so was a call that reads or writes a file
--     Counts, GoesOn         a count rises with a refusal; and statements still tell the tables
--     Asks                   a call that reads makes no store clean, and begins no transaction
--     LeavesNoMore           a crash leaves what it could leave before
--     ReadsFrom, WorksAs     so a statement reads a table; so one runs a text in a transaction
use Rattle.std.specs.Prelude.{◌≡◌, false, ℕ, ◌≤◌, List, Result, IsErrOf}
use Rattle.cov_outside.specs.Counts.{Rose}
use Rattle.sqlite_trees.specs.declared.store.Store.{Ghosts}
use Rattle.sqlite.specs.Held.{Held, state}
use Rattle.sqlite.specs.State.{State, HasCleanDisk, Survives}
use Rattle.cov_sql.specs.declared.statements.StatementError.{StatementError}
use Rattle.cov_sql.specs.declared.statements.StatementError.TheVariants as statement
use Rattle.cov_sql.specs.declared.errors.SqlError.{SqlError}
use Rattle.cov_sql.specs.declared.errors.SqlError.TheVariants as sql
use Rattle.cov_sql.specs.Tables.{Shape}
use Rattle.cov_sql.specs.Told.{Lists, Reads}
use Rattle.cov_sql.specs.Written.{RunsIn}

-- the database refused a statement
abbrev pub IsRefused : {X : Type 0} → Result X StatementError → Type 0
IsRefused r = IsErrOf r statement.Refused

-- the database refused a call on a whole data file
abbrev pub IsFault : {X : Type 0} → Result X SqlError → Type 0
IsFault r = IsErrOf r sql.Refused

-- the count never falls
pub record Counts (old new : ℕ) (is_refused : Type 0) : Type 0 where
  pub count : old ≤ new
  pub refused : is_refused → Rose old new

-- statements tell their tables after a call as before, and a refusal raises their count
pub record GoesOn {Q : Type 0} (telling : Q → Type 0) (counted : Q → ℕ) (old new : Q)
    (is_refused : Type 0) : Type 0 where
  pub tells : telling old → telling new
  pub count : counted old ≤ counted new
  pub refused : is_refused → Rose (counted old) (counted new)

-- a call that reads makes no store clean, and begins no transaction
pub record Asks {S : Type 0} (g : Ghosts S) (old new : Held S) : Type 0 where
  pub clean : HasCleanDisk (state g new) → HasCleanDisk (state g old)
  pub mode : old.in_transaction ≡ false → new.in_transaction ≡ false

-- a crash leaves nothing that it could not leave before
abbrev pub LeavesNoMore : {S : Type 0} → Ghosts S → Held S → Held S → Type 0
LeavesNoMore g old new = Survives (state g old) (state g new) (λ _. ⊥)

-- a call that reads a table gives its rows, and what a crash may leave stays
pub record ReadsFrom {S : Type 0} (g : Ghosts S) (t : Shape) (old new : Held S)
    (r : Result Lists StatementError) : Type 0 where
  pub told : Reads t (state g old) (state g new) r
  pub survives : LeavesNoMore g old new

-- what one does is a relation of the states before and after it, and its answer
abbrev pub Does : Type 1
Does = State → State → Result (Unit {0}) StatementError → Type 0

-- a call runs this text in a transaction, and does this by it
pub record WorksAs {S : Type 0} (g : Ghosts S) (text : List ℕ) (does : Does) (old new : Held S)
    (r : Result (Unit {0}) StatementError) : Type 0 where
  pub told : does (state g old) (state g new) r
  pub ran : RunsIn text (state g old) (state g new) r
  pub survives : LeavesNoMore g old new
