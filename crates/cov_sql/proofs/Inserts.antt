-- What INSERT of one row into a table that is declared so is, under any schema.
use Rattle.std.proofs.Common.{◌≡◌, ℕ, ◌+◌, ◌%◌, List, [], length, slice_get, Some, None, Ok, refl}
use Rattle.sqlite_ast.specs.declared.Rows.{Rows}
use Rattle.sqlite_ast.specs.declared.Conflict.TheVariants as conflict
use Rattle.sqlite_ast.specs.declared.Statement.TheVariants as written
use Rattle.sqlite_syntax.specs.declared.statement.Parsed.{Parsed}
use Rattle.sqlite_schema.specs.Names.{table_named}
use Rattle.sqlite_schema.specs.declared.schema.Schema.{Schema}
use Rattle.sqlite_schema.specs.declared.schema.Table.{Table}
use Rattle.sqlite_schema.specs.declared.command.Source.{Source}
use Rattle.sqlite_schema.specs.declared.command.Command.TheVariants as command
use Rattle.sqlite_resolve.specs.declared.compiled.Compiled.{Compiled}
use Rattle.sqlite_resolve.specs.Scope.{Name}
use Rattle.sqlite_resolve.specs.Compile.{first, returning, shows, timed, meaning, planned, compiled, insert_or_abort, insert, new_rows}
use Rattle.sqlite_resolve.specs.Compile as compile

-- the text inserts one row of parameters
pub record IsInsert (text : List ℕ) (name : Name) (table : ℕ → Table) (count : ℕ) (from : Source) : Type 0 where
  pub parsed : Parsed
  pub columns : List Name
  pub rows : Rows
  pub reads : first text ≡ Ok parsed
  pub is : parsed.statement ≡ written.Insert conflict.Abort name columns rows [] []
  pub names : length parsed.names ≡ count
  pub no_formats : parsed.formats ≡ []
  pub few : count % 65536 ≡ count
  pub unstamped : (tree : ℕ) → (table tree).stamps.formats ≡ []
  pub gives : (schema : Schema) (tree : ℕ) → new_rows schema (table tree) (count + 0) columns rows ≡ Ok from

module _ (schema : Schema) (text : List ℕ) (name : Name) (table : ℕ → Table) (count : ℕ) (from : Source) (i : IsInsert text name table count from)
    (at tree : ℕ) (named : table_named schema name ≡ Some at) (is : slice_get schema.tables at ≡ Some (table tree)) where
  abbrev pub made : Compiled
  made = record { command = command.Insert at from; returning = None; names = i.parsed.names; formats = []; start = i.parsed.start; end = i.parsed.end; tail = i.parsed.tail }

  insert_command : insert schema (count + 0) name i.columns i.rows ≡ Ok (command.Insert at from)
  unfolding insert
  insert_command = rw (named, is, i.gives schema tree) refl

  pub insert_is : compiled schema text ≡ Ok made
  unfolding compiled planned meaning timed returning shows compile.command insert_or_abort
  insert_is = rw (i.reads, i.is, i.no_formats, named, is, i.unstamped tree, i.names, i.few, insert_command) refl
