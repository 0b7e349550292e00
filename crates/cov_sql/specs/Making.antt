-- How a base comes to have the tables of a data file, and no data.
--     AreMade                  tables were made, one after the other
--     Spares, SparesAll        no foreign key acts where rows of a table of this name go; nor where
--                              those of a data file do
--     LacksCounts, HoldsVersion      a base lacks the table of counts alone; it has the row of its
--                                    version
--     IsReady                  a base that data may be written to
--     HasColumns, Fits         a table is there with its columns; so are those that a start says
--     IsBuilding, Builds, Prepares, Saves      so a step makes tables; so one leaves a data file
--                                              without data; so one leaves saved data
--     IsRefusedIfThere, RefusesIfThere      a base that has a table is refused where it should have
--                                           none; so a step ends
--     LacksNone, NeverLacks    a step lacks no table; so it is where they are there with their
--                              columns, or are made
use Rattle.std.specs.Prelude.{◌≡◌, ◌≢◌, ◌⊎◌, ℕ, pos, true, false, List, [], ◌∷◌, None, Some, Result, Err, OnOk, IsErrOf, IsTrue}
use Rattle.std.specs.List.{AllByRecursion}
use Rattle.sqlite_value.specs.declared.value.Value.TheVariants.{Int}
use Rattle.sqlite_trees.specs.declared.store.Store.{Ghosts}
use Rattle.sqlite_schema.specs.Names.{same_name, table_named}
use Rattle.sqlite_schema.specs.declared.schema.Keys.TheVariants.{Enforced}
use Rattle.sqlite_schema.specs.declared.schema.Schema.{Schema}
use Rattle.sqlite_schema.specs.declared.schema.Table.{Table}
use Rattle.sqlite_rules.specs.Action.{deed_for}
use Rattle.sqlite.specs.Effect.{Database}
use Rattle.sqlite.specs.Held.{Held, state}
use Rattle.sqlite.specs.State.{HasCleanDisk}
use Rattle.cov_sql.specs.declared.saved.Saved.{Saved}
use Rattle.cov_sql.specs.declared.statements.StatementError.{StatementError}
use Rattle.cov_sql.specs.declared.statements.StatementError.TheVariants.{Missing, Refused, NoMemory}
use Rattle.cov_sql.specs.declared.tables.Table.{Table as Name}
use Rattle.cov_sql.specs.declared.tables.Table.TheVariants as name
use Rattle.cov_sql.specs.declared.preparing.Start.{Start}
use Rattle.cov_sql.specs.declared.preparing.Start.TheVariants as start
use Rattle.cov_sql.specs.Tables.{table_in, places_in}
use Rattle.cov_sql.specs.ByName.{shape_of, declared_as}
use Rattle.cov_sql.specs.Written.{NothingActs, HasInteger, IsMade}
use Rattle.cov_sql.specs.Holding.{IsThere, HoldsOf, Holds, IsReplaceable}
use Rattle.cov_sql.specs.SavedRows.{no_data_rows, with_names, with_data}

-- tables were made in this order
abbrev pub AreMade : List Name → Database → Database → Type 0
AreMade [] old new = old ≡ new
AreMade (n ∷ ns) old new = (mid : Database) × IsMade (shape_of n) (declared_as n) old mid
    × AreMade ns mid new

-- no foreign key acts where rows of a table of this name go
abbrev pub Spares : Schema → List ℕ → Type 0
Spares schema name = AllByRecursion (λ u. AllByRecursion (λ r.
    same_name name r.parent ≡ true → deed_for Enforced true r ≡ None) u.references) schema.tables

-- nor where rows of a table of a data file go
abbrev pub SparesAll : Schema → Type 0
SparesAll schema = (n : Name) → Spares schema (shape_of n).name

-- the tables but that of counts are there, and their rows may go
pub record LacksCounts (db : Database) : Type 0 where
  pub none : table_named db.schema (shape_of name.Hits).name ≡ None
  pub tree : Name → ℕ
  pub there : (n : Name) → n ≢ name.Hits → IsThere n (tree n) db.schema
  pub apart : (m n : Name) → m ≢ name.Hits → n ≢ name.Hits → tree m ≡ tree n → m ≡ n
  pub acts : (n : Name) → n ≢ name.Hits → NothingActs db.schema (tree n)
  -- nor does a key that refers to counts
  pub spared : Spares db.schema (shape_of name.Hits).name
  pub rowids : (n : Name) → n ≢ name.Hits → AllByRecursion HasInteger (db.trees (tree n))

-- the table of the version has its one row, 7
abbrev pub HoldsVersion : Database → Type 0
HoldsVersion db = HoldsOf name.CoverageSchema db ((Int (pos 7) ∷ []) ∷ [])

-- one where no foreign key acts on the tables to come, or one of schema 7 with all tables, or all
-- but that of counts
abbrev pub IsReady : Start → Database → Type 0
IsReady start.Nothing db = SparesAll db.schema
IsReady (start.Tables true) db = IsReplaceable db × HoldsVersion db
IsReady (start.Tables false) db = LacksCounts db × HoldsVersion db

-- a table is there with the columns that data files have
pub record HasColumns (n : Name) (schema : Schema) : Type 0 where
  pub table : Table
  pub places : List ℕ
  pub there : table_in schema (shape_of n).name ≡ Some table
  pub are : places_in table (shape_of n).columns ≡ Some places

-- those tables are that a start says
abbrev pub Fits : Start → Schema → Type 0
Fits start.Nothing schema = Unit {0}
Fits (start.Tables true) schema = (n : Name) → HasColumns n schema
Fits (start.Tables false) schema = (n : Name) → n ≢ name.Hits → HasColumns n schema

-- these tables are made, and the texts name no other
pub record IsBuilding (names : List Name) (old new : Database)
    (r : Result (Unit {0}) StatementError) : Type 0 where
  pub made : OnOk r (AreMade names old new)
  pub never : IsErrOf r Missing → ⊥

-- where the store is clean after the step, in a transaction
abbrev pub Builds : {S : Type 0} → Ghosts S → List Name → Held S → Held S
    → Result (Unit {0}) StatementError → Type 0
Builds g names old new r = HasCleanDisk (state g new) → IsTrue (state g old).in_transaction
    → IsBuilding names (state g old).now (state g new).now r

-- so a step leaves a base of this start with the tables, and without data
abbrev pub Prepares : {S : Type 0} → Ghosts S → Start → Held S → Held S
    → Result (Unit {0}) StatementError → Type 0
Prepares g start old new r = HasCleanDisk (state g new) → IsTrue (state g old).in_transaction
    → IsReady start (state g old).now → OnOk r (Holds (state g new).now no_data_rows)

-- so a step leaves a base of this start with the rows of data
abbrev pub Saves : {S : Type 0} → Ghosts S → Start → Saved → Held S → Held S
    → Result (Unit {0}) StatementError → Type 0
Saves g start saved old new r = HasCleanDisk (state g new) → IsTrue (state g old).in_transaction
    → IsReady start (state g old).now
    → OnOk r (Holds (state g new).now (with_data saved (with_names saved no_data_rows)))

-- a schema that has a table of a data file is refused, where memory isn't wanting
abbrev pub IsRefusedIfThere : Schema → Result (Unit {0}) StatementError → Type 0
IsRefusedIfThere schema r = (n : Name) (at : ℕ) → table_named schema (shape_of n).name ≡ Some at
    → (r ≡ Err Refused) ⊎ (r ≡ Err NoMemory)

-- so a step ends that makes all tables
abbrev pub RefusesIfThere : {S : Type 0} → Ghosts S → Start → Held S → Held S
    → Result (Unit {0}) StatementError → Type 0
RefusesIfThere g begins old new r = HasCleanDisk (state g new) → IsTrue (state g old).in_transaction
    → begins ≡ start.Nothing
    → IsRefusedIfThere (state g old).now.schema r

-- a step lacked no table, and left all with their columns
pub record LacksNone (new : Database) (r : Result (Unit {0}) StatementError) : Type 0 where
  pub never : IsErrOf r Missing → ⊥
  pub whole : OnOk r ((n : Name) → HasColumns n new.schema)

-- where the store is clean after the step, in a transaction
abbrev pub NeverLacks : {S : Type 0} → Ghosts S → Start → Held S → Held S
    → Result (Unit {0}) StatementError → Type 0
NeverLacks g begins old new r = HasCleanDisk (state g new) → IsTrue (state g old).in_transaction
    → Fits begins (state g old).now.schema → LacksNone (state g new).now r
