-- What reading statements tell.
--     Answers      a statement gave the rows of its table, or it is missing, and nothing changed;
--                  else a transaction may have been undone
--     EndsAs       the base is as it was, or a transaction was undone
--     Reads        so it is where the store is clean after the call
--     IsAbsence    the causes that say that a table or one of its columns isn't there
use Rattle.std.specs.Prelude.{◌≡◌, ◌⊎◌, None, Vec, Result, IfOk, OnOk, IsErrOf}
use Rattle.std.specs.declared.alloc.Global.{Global}
use Rattle.sqlite.specs.State.{State, HasCleanDisk, IsUnchanged, IsRolledBack}
use Rattle.sqlite_resolve.specs.declared.error.CompileError.{CompileError}
use Rattle.sqlite_resolve.specs.declared.error.CompileError.TheVariants.{NoSuchTable, NoSuchColumn}
use Rattle.cov_tables.specs.declared.cells.RowCells.{RowCells}
use Rattle.cov_sql.specs.declared.statements.StatementError.{StatementError}
use Rattle.cov_sql.specs.declared.statements.StatementError.TheVariants.{Missing}
use Rattle.cov_sql.specs.Tables.{Shape, rows_in}
use Rattle.cov_sql.specs.Cells.{AreRowsIn}

-- rows, each by its cells
abbrev pub Lists : Type 0
Lists = Vec RowCells Global

-- the base is as it was, or its transaction was undone
abbrev pub EndsAs : State → State → Type 0
EndsAs old new = IsUnchanged old new ⊎ IsRolledBack old new

-- A statement gave the rows of its table, or its table is missing, and nothing changed. Else it
-- was refused, and a transaction may have been undone.
pub record Answers (t : Shape) (old new : State) (r : Result Lists StatementError) : Type 0 where
  pub rows : IfOk r (λ lists. AreRowsIn t old.now lists.items)
  pub missing : IsErrOf r Missing → rows_in t old.now ≡ None
  pub kept : OnOk r (IsUnchanged old new)
  pub unfound : IsErrOf r Missing → IsUnchanged old new
  pub ends : EndsAs old new

-- so a statement reads its table
abbrev pub Reads : Shape → State → State → Result Lists StatementError → Type 0
Reads t old new r = HasCleanDisk new → Answers t old new r

-- the database names a table or a column as not there
abbrev pub IsAbsence : CompileError → Type 0
IsAbsence e = (e ≡ NoSuchTable) ⊎ (e ≡ NoSuchColumn)
