-- What writing statements tell.
--     NothingActs, HasInteger      no foreign key acts where rows of a tree go; a row's rowid is an
--                                  integer
--     IsFree                       a table is there, its rows go alone, and their rowids are
--                                  integers
--     IsEmptied, Deletes           a table has no row left and every other is as before; so a call
--                                  leaves it
--     IsMade                       a table was made, whose name was free
--     IsMaking, Makes              what a call that makes a table does
--     IsDeclared, IsAdded, Inserts      a table is there as data files declare it; it has one row
--                                       more; so a call leaves it
--     WasAbsent, Ran               a text was refused since a table or a column isn't there; one
--                                  ran, and the transaction goes on
--     IsRun, RunsIn                a call ran one text, and committed nothing
use Rattle.std.specs.Prelude.{slice_get, ◌∷◌, ◌++◌, IsPermutation, ◌≡◌, ◌≢◌, ◌⊎◌, ℕ, true, None, Err, ℤ, List, [], Some, Ok, Result, OnOk, IsErrOf, IsTrue}
use Rattle.std.specs.List.{AllByRecursion}
use Rattle.sqlite_value.specs.Order.{Row}
use Rattle.sqlite_value.specs.declared.value.Value.TheVariants.{Int}
use Rattle.sqlite_trees.specs.Tree.{rowid}
use Rattle.sqlite_schema.specs.declared.schema.Keys.TheVariants.{Enforced}
use Rattle.sqlite_schema.specs.declared.schema.Schema.{Schema}
use Rattle.sqlite_schema.specs.declared.schema.Table.{Table}
use Rattle.sqlite_rules.specs.Action.{works}
use Rattle.sqlite_schema.specs.Names.{table_named}
use Rattle.sqlite_catalog.specs.Change.{KeepsRows}
use Rattle.sqlite_resolve.specs.declared.error.CompileError.{CompileError}
use Rattle.sqlite.specs.declared.error.Error.TheVariants.{SqlInputError}
use Rattle.sqlite.specs.Effect.{Database}
use Rattle.sqlite.specs.State.{State, HasCleanDisk, Executes, Shows, KeepsCommit}
use Rattle.cov_sql.specs.declared.statements.StatementError.{StatementError}
use Rattle.cov_sql.specs.declared.statements.StatementError.TheVariants.{Missing, Refused, NoMemory}
use Rattle.cov_sql.specs.Tables.{Shape, table_in, rows_in}
use Rattle.cov_sql.specs.Told.{IsAbsence}

-- no foreign key acts where rows of a tree go
abbrev pub NothingActs : Schema → ℕ → Type 0
NothingActs schema tree = (olds : List Row) → works schema Enforced 0 tree olds [] ≡ []

-- the rowid of a row is an integer
abbrev pub HasInteger : Row → Type 0
HasInteger r = (n : ℤ) × (rowid r ≡ Int n)

-- a table is there whose rows may go
pub record IsFree (t : Shape) (db : Database) : Type 0 where
  pub table : Table
  pub there : table_in db.schema t.name ≡ Some table
  pub acts : NothingActs db.schema table.tree
  pub rowids : AllByRecursion HasInteger (db.trees table.tree)

-- a table has no row left, and every other is as before
pub record IsEmptied (t : Shape) (old new : Database) : Type 0 where
  pub schema : new.schema ≡ old.schema
  pub rows : (all : List Row) → rows_in t old ≡ Some all → rows_in t new ≡ Some []
  pub others : (u : Table) → table_in old.schema t.name ≡ Some u
      → AllByRecursion (λ v. v.tree ≢ u.tree → new.trees v.tree ≡ old.trees v.tree)
      old.schema.tables

-- so a call deletes the rows of a table
abbrev pub Deletes : Shape → State → State → Result (Unit {0}) StatementError → Type 0
Deletes t old new r = HasCleanDisk new → IsTrue old.in_transaction → IsFree t old.now
    → OnOk r (IsEmptied t old.now new.now)

-- the base has the table, with no row, beside those that it had
pub record IsMade (t : Shape) (table : ℕ → Table) (old new : Database) : Type 0 where
  pub free : table_named old.schema t.name ≡ None
  pub tree : ℕ
  -- those that the database adds by itself, as that of rowid counts, refer to no table
  pub more : List Table
  pub tables : new.schema.tables ≡ old.schema.tables ++ table tree ∷ more
  pub bare : AllByRecursion (λ u. u.references ≡ []) more
  -- all that are new have trees of their own
  pub apart : AllByRecursion (λ u. AllByRecursion (λ v. v.tree ≢ u.tree) (table tree ∷ more))
      old.schema.tables
  pub alone : AllByRecursion (λ v. v.tree ≢ tree) more
  pub empty : new.trees tree ≡ []
  pub others : KeepsRows old.schema.tables old.trees new.trees

-- what a call that makes a table does, and why it is refused
pub record IsMaking (t : Shape) (table : ℕ → Table) (old new : State)
    (r : Result (Unit {0}) StatementError) : Type 0 where
  pub made : OnOk r (IsMade t table old.now new.now)
  -- a table that is there is not made again
  pub once : (at : ℕ) → table_named old.now.schema t.name ≡ Some at
      → (r ≡ Err Refused) ⊎ (r ≡ Err NoMemory)
  -- the text needs no other table
  pub never : IsErrOf r Missing → ⊥

-- so a call makes a table
abbrev pub Makes : Shape → (ℕ → Table) → State → State → Result (Unit {0}) StatementError → Type 0
Makes t table old new r = HasCleanDisk new → IsTrue old.in_transaction → IsMaking t table old new r

-- a table is there as data files declare it
abbrev pub IsDeclared : Shape → (ℕ → Table) → Database → Type 0
IsDeclared t table db = (at : ℕ) × (tree : ℕ) × (table_named db.schema t.name ≡ Some at)
    × (slice_get db.schema.tables at ≡ Some (table tree))

-- its rowids stay integers, and every other table is as before
pub record IsAdded (t : Shape) (row : Row) (old new : Database) : Type 0 where
  pub schema : new.schema ≡ old.schema
  pub before : List Row
  pub after : List Row
  pub was : rows_in t old ≡ Some before
  pub is : rows_in t new ≡ Some after
  pub more : IsPermutation (row ∷ before) after
  pub rowids : (u : Table) → table_in old.schema t.name ≡ Some u
      → AllByRecursion HasInteger (old.trees u.tree) → AllByRecursion HasInteger (new.trees u.tree)
  pub others : (u : Table) → table_in old.schema t.name ≡ Some u
      → AllByRecursion (λ v. v.tree ≢ u.tree → new.trees v.tree ≡ old.trees v.tree)
      old.schema.tables

-- so a call inserts a row
abbrev pub Inserts : Shape → (ℕ → Table) → Row → State → State → Result (Unit {0}) StatementError
    → Type 0
Inserts t table row old new r = HasCleanDisk new → IsTrue old.in_transaction
    → IsDeclared t table old.now → OnOk r (IsAdded t row old.now new.now)

-- a text was refused, since a table or a column is not there
abbrev pub WasAbsent : List ℕ → Row → State → State → Type 0
WasAbsent text params old new = (e : CompileError) × IsAbsence e
    × Executes text params old new (Err (SqlInputError e))

-- and what was committed stays so
abbrev pub Ran : List ℕ → Row → State → State → Type 0
Ran text params old new = (count : ℕ) × Executes text params old new (Ok count)
    × Shows old new new.now old.committed true

-- a call ran a text, or it was refused, and what was committed stays
pub record IsRun (text : List ℕ) (old new : State)
    (r : Result (Unit {0}) StatementError) : Type 0 where
  pub ran : OnOk r ((params : Row) × Ran text params old new)
  pub missing : IsErrOf r Missing → (params : Row) × WasAbsent text params old new
  pub kept : KeepsCommit old new

-- where the store is clean after the call, in a transaction
abbrev pub RunsIn : List ℕ → State → State → Result (Unit {0}) StatementError → Type 0
RunsIn text old new r = HasCleanDisk new → IsTrue old.in_transaction → IsRun text old new r
