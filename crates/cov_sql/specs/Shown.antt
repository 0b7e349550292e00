-- What the text of a query answers, in cells.
--     ShowsCells               the rows that it shows
--     IsRefusedAsAbsent        it was refused, since a table or a column isn't there
--     IsAsked                  it was asked, with or without an answer, or no memory was left
--     NeverReturns, StopsAs    it is no write that shows what it wrote; why its rows end early
--     ShowsTable, IsMissing    what a query answers; what is answered in place of a table that isn't
--                              there
--     AsksFor, CommitsAsking   a table that is there is asked for, and any other is missing; what
--                              asking may commit
use Rattle.std.specs.Prelude.{◌≡◌, ◌⊎◌, ℕ, List, [], None, Some, Option, Result, Ok, IfOk, IsErrOf, IsErr}
use Rattle.std.specs.List.{AllZip}
use Rattle.sqlite_value.specs.Order.{Row}
use Rattle.sqlite_trees.specs.Tree.{Trees}
use Rattle.sqlite_schema.specs.Names.{table_named}
use Rattle.sqlite_schema.specs.declared.schema.Schema.{Schema}
use Rattle.sqlite.specs.State.{State, IsUnchanged, Shown, FailsToQuery, CommitsShowing}
use Rattle.sqlite.specs.declared.error.Error.{Error}
use Rattle.sqlite.specs.declared.error.Error.TheVariants.{SqlInputError}
use Rattle.sqlite.specs.Listing.{understood}
use Rattle.sqlite_resolve.specs.declared.compiled.Compiled.{Compiled}
use Rattle.sqlite_resolve.specs.declared.error.CompileError.{CompileError}
use Rattle.cov_sql.specs.declared.statements.StatementError.{StatementError}
use Rattle.cov_sql.specs.declared.statements.StatementError.TheVariants.{Missing}
use Rattle.cov_sql.specs.Cells.{AreCells}
use Rattle.cov_sql.specs.Told.{Lists, IsAbsence, EndsAs}

-- the rows that the text shows, as cells
abbrev pub ShowsCells : List ℕ → State → State → Lists → Type 0
ShowsCells text old new lists = (rows : List Row) × Shown text [] old new rows
    × AllZip AreCells rows lists.items

-- the text was refused since a table or a column isn't there
abbrev pub IsRefusedAsAbsent : List ℕ → State → State → Type 0
IsRefusedAsAbsent text old new = (e : CompileError) × IsAbsence e
    × FailsToQuery text [] old new (SqlInputError e)

-- the text was asked, with or without an answer, or no memory was left for it
abbrev pub IsAsked : List ℕ → State → State → Type 0
IsAsked text old new = ((rows : List Row) × Shown text [] old new rows)
    ⊎ (((e : Error) × FailsToQuery text [] old new e) ⊎ IsUnchanged old new)

-- the text is no write that shows what it wrote
abbrev pub NeverReturns : List ℕ → State → Type 0
NeverReturns text s = (c : Compiled) → understood s.now.schema text ≡ Ok c → c.returning ≡ None

-- the database fails to answer, or no memory was left for the answer
abbrev pub StopsAs : List ℕ → State → State → Option Error → Type 0
StopsAs text old new (Some e) = FailsToQuery text [] old new e
StopsAs text old new None = IsUnchanged old new

-- what a query answers
pub record ShowsTable (text : List ℕ) (old new : State) (r : Result Lists StatementError)
    : Type 0 where
  pub shown : IfOk r (ShowsCells text old new)
  pub missing : IsErrOf r Missing → IsRefusedAsAbsent text old new
  pub asked : IsAsked text old new

-- what is answered where a table isn't there
pub record IsMissing (old new : State) (r : Result Lists StatementError) : Type 0 where
  pub nothing : IsErr r
  pub unfound : IsErrOf r Missing → IsUnchanged old new
  pub ends : EndsAs old new

-- a schema has a table of this name
abbrev pub HasNamed : Schema → List ℕ → Type 0
HasNamed schema name = (at : ℕ) × (table_named schema name ≡ Some at)

-- a table of this name is asked for where there is one
abbrev pub AsksFor : (name text : List ℕ) → State → State → Result Lists StatementError → Type 0
AsksFor name text old new r =
    (HasNamed old.now.schema name × (NeverReturns text old → ShowsTable text old new r))
    ⊎ ((table_named old.now.schema name ≡ None) × IsMissing old new r)

-- what may be committed so
abbrev pub CommitsAsking : (name text : List ℕ) → State → Trees → Type 0
CommitsAsking name text old trees = HasNamed old.now.schema name
    × CommitsShowing text [] old trees
