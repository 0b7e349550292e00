-- Which rows the tables of a base hold while a data file is written.
--     number_of, same_table        the tables by number; whether two are one
--     Rows, with_rows, without     the rows of each table; with rows more of one table, and without
--                                  those of one
--     cleared, cleared_all         the rows once a table is emptied; once several are
--     IsThere, Stands              a table is there as it is declared, in this tree; all are, each
--                                  in a tree of its own
--     IsReplaceable                the tables stand, no foreign key acts where their rows go, and
--                                  their rowids are integers
--     HoldsOf, Holds               a table holds these rows, in some order; all do, in a base whose
--                                  rows may go
--     Fills, Empties               a step adds rows to a table; a step takes the rows of a table
use Rattle.std.specs.Prelude.{◌≡◌, ℕ, Bool, nat_eq, cond, List, [], ◌++◌, Some, Result, OnOk, IsTrue, IsPermutation, slice_get}
use Rattle.std.specs.List.{AllByRecursion, fold}
use Rattle.sqlite_value.specs.Order.{Row}
use Rattle.sqlite_trees.specs.declared.store.Store.{Ghosts}
use Rattle.sqlite_schema.specs.Names.{table_named}
use Rattle.sqlite_schema.specs.declared.schema.Schema.{Schema}
use Rattle.sqlite.specs.Effect.{Database}
use Rattle.sqlite.specs.Held.{Held, state}
use Rattle.sqlite.specs.State.{HasCleanDisk}
use Rattle.cov_sql.specs.declared.statements.StatementError.{StatementError}
use Rattle.cov_sql.specs.declared.tables.Table.{Table as Name}
use Rattle.cov_sql.specs.declared.tables.Table.TheVariants as name
use Rattle.cov_sql.specs.Tables.{rows_in}
use Rattle.cov_sql.specs.Written.{NothingActs, HasInteger}
use Rattle.cov_sql.specs.ByName.{shape_of, declared_as}

-- the place of a table among all, from 0
abbrev pub number_of : Name → ℕ
number_of name.CoverageSchema = 0
number_of name.Meta = 1
number_of name.File = 2
number_of name.Context = 3
number_of name.LineBits = 4
number_of name.Arc = 5
number_of name.Tracer = 6
number_of name.Hits = 7

-- whether two tables are one
abbrev pub same_table : Name → Name → Bool
same_table m n = nat_eq (number_of m) (number_of n)

-- the rows of each table
abbrev pub Rows : Type 0
Rows = Name → List Row

-- rows more of one table
abbrev pub with_rows : Name → List Row → Rows → Rows
with_rows n more rows m = cond (same_table m n) (more ++ rows m) (rows m)

-- no row of one table
abbrev pub without : Name → Rows → Rows
without n rows m = cond (same_table m n) [] (rows m)

-- the rows of the version stay
abbrev pub cleared : Name → Rows → Rows
cleared name.CoverageSchema rows = rows
cleared name.Meta rows = without name.Meta rows
cleared name.File rows = without name.File rows
cleared name.Context rows = without name.Context rows
cleared name.LineBits rows = without name.LineBits rows
cleared name.Arc rows = without name.Arc rows
cleared name.Tracer rows = without name.Tracer rows
cleared name.Hits rows = without name.Hits rows

-- the rows once these tables were emptied, one after the other
abbrev pub cleared_all : List Name → Rows → Rows
cleared_all names rows = fold (λ rs n. cleared n rs) rows names

-- a table is in a schema as it is declared, with its rows in this tree
pub record IsThere (n : Name) (tree : ℕ) (schema : Schema) : Type 0 where
  pub at : ℕ
  pub named : table_named schema (shape_of n).name ≡ Some at
  pub is : slice_get schema.tables at ≡ Some (declared_as n tree)

-- all tables of a data file are in a schema, each with a tree of its own
pub record Stands (schema : Schema) : Type 0 where
  pub tree : Name → ℕ
  pub there : (n : Name) → IsThere n (tree n) schema
  pub apart : (m n : Name) → tree m ≡ tree n → m ≡ n

-- the tables stand, and their rows may go
pub record IsReplaceable (db : Database) : Type 0 where
  pub stands : Stands db.schema
  pub acts : (n : Name) → NothingActs db.schema (stands.tree n)
  pub rowids : (n : Name) → AllByRecursion HasInteger (db.trees (stands.tree n))

-- a base has these rows in a table, in some order
pub record HoldsOf (n : Name) (db : Database) (rows : List Row) : Type 0 where
  pub all : List Row
  pub shown : rows_in (shape_of n) db ≡ Some all
  pub same : IsPermutation rows all

-- a base has these rows in its tables, and they may go
pub record Holds (db : Database) (rows : Rows) : Type 0 where
  pub base : IsReplaceable db
  pub each : (n : Name) → HoldsOf n db (rows n)

-- where the store is clean after the step, in a transaction
abbrev pub Fills : {S : Type 0} → Ghosts S → (Rows → Rows) → Held S → Held S
    → Result (Unit {0}) StatementError → Type 0
Fills g change old new r = HasCleanDisk (state g new) → IsTrue (state g old).in_transaction
    → (rows : Rows) → Holds (state g old).now rows
    → OnOk r (Holds (state g new).now (change rows))

-- so a step takes rows of tables
abbrev pub Empties : {S : Type 0} → Ghosts S → (Rows → Rows) → Held S → Held S
    → Result (Unit {0}) StatementError → Type 0
Empties g change old new r = HasCleanDisk (state g new) → IsTrue (state g old).in_transaction
    → IsReplaceable (state g old).now → (rows : Rows) → Holds (state g old).now rows
    → OnOk r (IsReplaceable (state g new).now × Holds (state g new).now (change rows))
