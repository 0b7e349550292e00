-- What the steps of reading and of writing a data file do by statements, whatever they answer.
--     ReadsBy      a step that reads: a crash leaves what it could leave before, no row is bad yet,
--                  and no transaction begins
--     WorksBy      a step that writes in a transaction: so it ends, a crash leaves what it could
--                  leave before, and the transaction holds the same connection
use Rattle.std.specs.Prelude.{◌≡◌, ℕ, Result, IsErrOf}
use Rattle.sqlite_trees.specs.declared.store.Store.{Ghosts}
use Rattle.sqlite.specs.Held.{Held}
use Rattle.sqlite.specs.declared.transaction.Transaction.{Transaction}
use Rattle.cov_sql.specs.declared.statements.StatementError.{StatementError}
use Rattle.cov_sql.specs.declared.errors.SqlError.{SqlError}
use Rattle.cov_sql.specs.declared.errors.SqlError.TheVariants.{BadRow}
use Rattle.cov_sql.specs.Calls.{IsRefused, IsFault, GoesOn, Asks, LeavesNoMore}
use Rattle.cov_sql.specs.Works.{Works}

-- a step that reads a data file, by statements that tell its tables or don't
pub record ReadsBy {S Q X : Type 0} (g : Ghosts S) (telling : Q → Type 0) (counted : Q → ℕ)
    (old new : Held S) (before after : Q) (r : Result X SqlError) : Type 0 where
  pub survives : telling before → LeavesNoMore g old new
  pub not_bad_row : (row : ℕ) → IsErrOf r (BadRow row) → ⊥
  pub asks : Asks g old new
  pub goes_on : GoesOn telling counted before after (IsFault r)

-- a step that writes a data file in a transaction, by statements that tell its tables or don't
pub record WorksBy {S Q : Type 0} (g : Ghosts S) (telling : Q → Type 0) (counted : Q → ℕ)
    (old new : Transaction S) (before after : Q)
    (r : Result (Unit {0}) StatementError) : Type 0 where
  pub works : telling before → Works g old.conn.now new.conn.now r
  pub survives : telling before → LeavesNoMore g old.conn.now new.conn.now
  pub goes_on : GoesOn telling counted before after (IsRefused r)
  pub same_reference : new.conn.ghost_name ≡ old.conn.ghost_name
