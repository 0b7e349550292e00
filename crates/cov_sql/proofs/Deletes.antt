-- What DELETE of all rows of a table is, under any schema.
use Rattle.std.proofs.Common.{◌≡◌, ◌⊎◌, inl, inr, ℕ, negsuc, List, [], ◌∷◌, slice_get, Bool, true, false, Some, None, Ok, Err, Result, if◌then◌else◌, refl, sym, ap, subst, ◌∙◌}
use Rattle.sqlite_ast.specs.declared.Statement.TheVariants as written
use Rattle.sqlite_syntax.specs.declared.statement.Parsed.{Parsed}
use Rattle.sqlite_sql.specs.Term.{col, lit}
use Rattle.sqlite_sql.specs.Query.{Query, inner, end}
use Rattle.sqlite_value.specs.declared.value.Value.TheVariants.{Int}
use Rattle.sqlite_schema.specs.Names.{table_named}
use Rattle.sqlite_schema.specs.declared.schema.Schema.{Schema}
use Rattle.sqlite_schema.specs.declared.schema.Table.{Table}
use Rattle.sqlite_schema.specs.declared.program.Program.{Program}
use Rattle.sqlite_schema.specs.declared.command.Command.{Command}
use Rattle.sqlite_schema.specs.declared.command.Command.TheVariants as command
use Rattle.sqlite_typing.specs.Types.{accepts_program}
use Rattle.sqlite_resolve.specs.declared.compiled.Compiled.{Compiled}
use Rattle.sqlite_resolve.specs.declared.error.CompileError.{CompileError}
use Rattle.sqlite_resolve.specs.declared.error.CompileError.TheVariants.{Mismatch}
use Rattle.sqlite_resolve.specs.Scope.{Name}
use Rattle.sqlite_resolve.specs.Terms.{number}
use Rattle.sqlite_resolve.specs.Lowering.{and_then}
use Rattle.sqlite_resolve.specs.Body.{tests}
use Rattle.sqlite_resolve.specs.Write.{deleted, picked}
use Rattle.sqlite_resolve.specs.Program.{program}
use Rattle.sqlite_resolve.specs.Compile.{first, returning, shows, timed, meaning, planned, compiled, delete}
use Rattle.sqlite_resolve.specs.Compile as compile
use Rattle.std.proofs.Common.{◌≢◌}
use Rattle.std.specs.List.{AllByRecursion}
use Rattle.sqlite_value.specs.Order.{Row}
use Rattle.sqlite_trees.specs.Tree.{Trees}
use Rattle.sqlite_schema.specs.declared.schema.Keys.TheVariants.{Enforced}
use Rattle.sqlite_rules.specs.Calls.{ids_of}
use Rattle.sqlite_rules.specs.Edit.{edit_of, without_all}
use Rattle.sqlite.specs.Rowids.TheVariants.{Given}
use Rattle.sqlite_sql.specs.Query.{IsSureAnswer}
use Rattle.sqlite_sql.specs.Program.{overlay}
use Rattle.sqlite.specs.Does.{Tally}
use Rattle.sqlite.specs.Rows.{Written}
use Rattle.sqlite.specs.Listing.{understood}
use Rattle.sqlite.specs.Effect.{Database}
use Rattle.sqlite.specs.State.{State, Executes}
use Rattle.sqlite.proofs.Callers.{IsPlain, command_of, runs_as, one_step}
use Rattle.cov_sql.specs.Written.{NothingActs}
use Rattle.cov_sql.proofs.Shows.{understood_as}

pub record IsDelete (text : List ℕ) (name : Name) : Type 0 where
  pub parsed : Parsed
  pub reads : first text ≡ Ok parsed
  pub is : parsed.statement ≡ written.Delete name None []
  pub no_names : parsed.names ≡ []
  pub no_formats : parsed.formats ≡ []

abbrev pub rowids : ℕ → Query
rowids tree = record {
  from = inner tree end;
  filter = [];
  group = None;
  project = col 1 0 ∷ [];
  distinct = false;
  collations = [];
  order = [];
  limit = lit (Int (negsuc 0));
  offset = number 0;
}

module _ (schema : Schema) (text : List ℕ) (name : Name) (i : IsDelete text name) (at : ℕ) (named : table_named schema name ≡ Some at) (t : Table) (is : slice_get schema.tables at ≡ Some t) where
  abbrev pub made : Compiled
  made = record { command = command.Delete at (record { lets = []; body = rowids t.tree }); returning = None; names = []; formats = []; start = i.parsed.start; end = i.parsed.end; tail = i.parsed.tail }

  tested : (b : Bool) (p : Program) → and_then {B = Command} (if b then Ok p else Err Mismatch) (λ p. Ok (command.Delete at p)) ≡ (if b then Ok (command.Delete at p) else Err Mismatch)
  tested true p = refl
  tested false p = refl

  delete_command : delete schema name None ≡ (if accepts_program schema [] (rowids t.tree) [] then Ok (command.Delete at (record { lets = []; body = rowids t.tree })) else Err Mismatch)
  unfolding delete deleted picked tests program
  delete_command = rw (named, is) (tested (accepts_program schema [] (rowids t.tree) []) (record { lets = []; body = rowids t.tree }))

  chosen : (b : Bool) → delete schema name None ≡ (if b then Ok (command.Delete at (record { lets = []; body = rowids t.tree })) else Err Mismatch)
      → compiled schema text ≡ (if b then Ok made else Err Mismatch)
  unfolding compiled planned meaning timed returning shows compile.command
  chosen true h = rw (i.reads, i.is, i.no_names, i.no_formats, h) refl
  chosen false h = rw (i.reads, i.is, i.no_names, i.no_formats, h) refl

  pub delete_is : compiled schema text ≡ (if accepts_program schema [] (rowids t.tree) [] then Ok made else Err Mismatch)
  delete_is = chosen (accepts_program schema [] (rowids t.tree) []) delete_command

-- ---- what it does

went : {B E R : Type 0} {b : B} {Stops : E → Type 0} → ((stop : E) × Stops stop × (Ok b ≡ Err stop)) ⊎ R → R
went (inl stopped) = absurd (let e = stopped.2 in cc)
went (inr on) = on

same_value : {B E : Type 0} {a b : B} → ◌≡◌ {A = Result B E} (Ok a) (Ok b) → a ≡ b
same_value e = cc

pub record Removes (old new : Database) (tree : ℕ) : Type 0 where
  pub schema : new.schema ≡ old.schema
  pub shown : List Row
  pub answer : IsSureAnswer (rowids tree) (overlay old.trees []) [] shown
  pub rows : new.trees tree ≡ without_all (old.trees tree) (ids_of shown)
  pub others : AllByRecursion (λ t. t.tree ≢ tree → new.trees t.tree ≡ old.trees t.tree) old.schema.tables

module _ (old new : State) (text : List ℕ) (name : Name) (i : IsDelete text name) (at : ℕ) (named : table_named old.now.schema name ≡ Some at) (t : Table) (is : slice_get old.now.schema.tables at ≡ Some t)
    (free : NothingActs old.now.schema t.tree) where
  pub removed_by : (b : Bool) → compiled old.now.schema text ≡ (if b then Ok (made old.now.schema text name i at named t is) else Err Mismatch) → (count : ℕ) → Executes text [] old new (Ok count) → Removes old.now new.now t.tree
  unfolding Rattle.sqlite.specs.State.ExecutesIn
  removed_by false refused count h = absurd (let both : ◌≡◌ {A = Result Compiled CompileError} (Ok h.0) (Err Mismatch) = sym h.1.is ∙ understood_as old.now.schema text _ refused refl in cc)
  removed_by true found count h =
      let schema = old.now.schema in
      let db = old.now.trees in
      let read = understood_as schema text _ found refl in
      let bare : IsPlain (understood schema text) = rw read (refl, refl) in
      let w = runs_as text [] old new schema refl (command.Delete at (record { lets = []; body = rowids t.tree })) (ap command_of read) bare count h in
      let done = went (rw is at w.changed) in
      let now = ap (λ (p : Tally × Database). p.1) (same_value (went (went done.2).2).2) in
      let given = went done.1 in
      let written = went given.2 in
      let trees : done.0.trees ≡ written.0 = ap (λ (it : Written). it.trees) (same_value written.2) in
      let edit = edit_of db t (ids_of given.0) Given 0 [] in
      let applied = one_step schema Enforced db written.0 edit (free _) written.1 in
      let after : new.now.trees ≡ written.0 = ap (λ (d : Database). d.trees) now ∙ trees in
      record {
        schema = ap (λ (d : Database). d.schema) now;
        shown = given.0;
        answer = given.1.answer;
        rows = ap (λ (u : Trees). u t.tree) after ∙ applied.rows;
        others = subst (λ (u : Trees). AllByRecursion (λ v. v.tree ≢ t.tree → u v.tree ≡ db v.tree) schema.tables) (sym after) applied.tables;
      }
