-- What the steps of reading a data file give.
--     Finds                     what was sought, or it is missing
--     SeeksCounts               so a step finds the table of counts, which may be missing
--     FindsNamed, FindsMeasured, FindsAll      the first four tables; the others; all of them
use Rattle.std.specs.Prelude.{◌≡◌, ◌≢◌, None, Some, Option, Result, IfOk, OnOk, IsErrOf}
use Rattle.sqlite.specs.Effect.{Database}
use Rattle.sqlite.specs.State.{State, HasCleanDisk, IsUnchanged}
use Rattle.cov_sql.specs.declared.errors.SqlError.{SqlError}
use Rattle.cov_sql.specs.declared.errors.SqlError.TheVariants.{NotSchema7}
use Rattle.cov_sql.specs.declared.reading.Found.{Found}
use Rattle.cov_sql.specs.declared.reading.Named.{Named}
use Rattle.cov_sql.specs.declared.reading.Measured.{Measured}
use Rattle.cov_sql.specs.Tables.{Shape, rows_in, coverage_schema, meta, file, context, line_bits, arc, tracer, hits}
use Rattle.cov_sql.specs.Cells.{AreRowsIn}
use Rattle.cov_sql.specs.Told.{Lists, EndsAs}
use Rattle.cov_sql.specs.Content.{tables_in, IsFound}

-- a step of reading gives what it sought, or tells that it is missing
pub record Finds {X : Type 0} (Holds : Database → X → Type 0) (Lacks : Database → Type 0)
    (old new : State) (r : Result X SqlError) : Type 0 where
  pub rows : IfOk r (Holds old.now)
  pub missing : IsErrOf r NotSchema7 → Lacks old.now × IsUnchanged old new
  pub kept : OnOk r (IsUnchanged old new)
  pub ends : EndsAs old new

-- a base has these rows in a table, in some order
abbrev pub HoldsRows : Shape → Database → Lists → Type 0
HoldsRows t db lists = AreRowsIn t db lists.items

-- a base lacks a table, or one of its columns
abbrev pub LacksTable : Shape → Database → Type 0
LacksTable t db = rows_in t db ≡ None

-- a base has these counts, or no table of counts
abbrev pub HoldsCounts : Database → Option Lists → Type 0
HoldsCounts db None = LacksTable hits db
HoldsCounts db (Some lists) = HoldsRows hits db lists

-- where the store is clean after the step
abbrev pub SeeksCounts : State → State → Result (Option Lists) SqlError → Type 0
SeeksCounts old new r = HasCleanDisk new → Finds HoldsCounts (λ db. ⊥) old new r

-- the four tables that rows refer to or that have no data
pub record IsNamed (db : Database) (n : Named) : Type 0 where
  pub coverage_schema : HoldsRows coverage_schema db n.coverage_schema
  pub meta : HoldsRows meta db n.meta
  pub file : HoldsRows file db n.file
  pub context : HoldsRows context db n.context

-- the rows of lines, arcs and counts, and that there is a table of tracers
pub record IsMeasured (db : Database) (m : Measured) : Type 0 where
  pub line_bits : HoldsRows line_bits db m.line_bits
  pub arc : HoldsRows arc db m.arc
  pub tracer : rows_in tracer db ≢ None
  pub hits : HoldsCounts db m.hits

-- one of the tables of schema 7 is missing
abbrev pub LacksOne : Database → Type 0
LacksOne db = tables_in db ≡ None

-- so a step finds the first four tables
abbrev pub FindsNamed : State → State → Result Named SqlError → Type 0
FindsNamed old new r = HasCleanDisk new → Finds IsNamed LacksOne old new r

-- so a step finds the tables with rows of data
abbrev pub FindsMeasured : State → State → Result Measured SqlError → Type 0
FindsMeasured old new r = HasCleanDisk new → Finds IsMeasured LacksOne old new r

-- so a step finds all tables
abbrev pub FindsAll : State → State → Result Found SqlError → Type 0
FindsAll old new r = HasCleanDisk new → Finds IsFound LacksOne old new r
