-- What CREATE TABLE is, under any schema.
use Rattle.std.proofs.Common.{◌≡◌, ◌⊎◌, inl, inr, ℕ, ◌==◌, List, [], length, true, false, Option, Some, None, Ok, Err, Result, refl, sym, ◌∙◌}
use Rattle.std.proofs.lemmas.Bool.{cases_Bool}
use Rattle.sqlite_value.specs.Order.{Row}
use Rattle.sqlite_ast.specs.declared.CreateTable.{CreateTable}
use Rattle.sqlite_ast.specs.declared.Statement.TheVariants as written
use Rattle.sqlite_syntax.specs.declared.statement.Parsed.{Parsed}
use Rattle.sqlite_schema.specs.Names.{table_named, view_named, index_named}
use Rattle.sqlite_schema.specs.declared.schema.Schema.{Schema}
use Rattle.sqlite_schema.specs.declared.schema.Table.{Table}
use Rattle.sqlite_schema.specs.declared.command.Command.TheVariants as command
use Rattle.sqlite_resolve.specs.declared.compiled.Compiled.{Compiled}
use Rattle.sqlite_resolve.specs.declared.error.CompileError.{CompileError}
use Rattle.sqlite_resolve.specs.declared.error.CompileError.TheVariants.{Exists, Unsupported}
use Rattle.sqlite_resolve.specs.Scope.{Name}
use Rattle.sqlite_resolve.specs.Compile.{first, returning, timed, meaning, planned, compiled, create_table, creates, is_attached, is_reserved}
use Rattle.sqlite_resolve.specs.Compile as compile
use Rattle.sqlite_resolve.specs.Define as define
use Rattle.sqlite.specs.Listing.{understood}
use Rattle.std.specs.Prelude.{slice_range}
use Rattle.sqlite.specs.Compile.{table_defined_by}
use Rattle.sqlite.specs.State.{State, Executes}
use Rattle.sqlite.specs.declared.error.Error.TheVariants.{SqlInputError}
use Rattle.cov_sql.specs.Told.{IsAbsence}
use Rattle.cov_sql.specs.Written.{WasAbsent}
use Rattle.cov_sql.proofs.Found.{either}
use Rattle.cov_sql.proofs.Shows.{understood_as, never, no_fault}

pub record IsCreate (text : List ℕ) (name : Name) (table : ℕ → Table) : Type 0 where
  pub parsed : Parsed
  pub def : CreateTable
  pub reads : first text ≡ Ok parsed
  pub is : parsed.statement ≡ written.CreateTable def
  pub no_names : parsed.names ≡ []
  pub no_formats : parsed.formats ≡ []
  pub named : def.name ≡ name
  pub plain : (def.if_missing ≡ false) × (is_reserved name ≡ false) × (def.resolves ≡ false)
  pub defined : define.table [] def ≡ Ok (table 0)
  pub spans : slice_range text parsed.start parsed.end ≡ text
  pub defines : table_defined_by text ≡ Ok (table 0)
  pub uncomputed : (length (table 0).computed == length (table 0).stamps.places) ≡ true
  -- but for its tree the table is the same
  pub moves : (tree : ℕ) → record (table 0) { tree = tree } ≡ table tree

no_exists : (e : CompileError) → IsAbsence e → ◌≡◌ {A = CompileError} e Exists → ⊥
no_exists e (inl which) is = cc
no_exists e (inr which) is = cc

no_unsupported : (e : CompileError) → IsAbsence e → ◌≡◌ {A = CompileError} e Unsupported → ⊥
no_unsupported e (inl which) is = cc
no_unsupported e (inr which) is = cc

same_fault : (e f : CompileError) → SqlInputError e ≡ SqlInputError f → e ≡ f
same_fault e f is = cc

same_refusal : (e f : CompileError) → ◌≡◌ {A = Result Compiled CompileError} (Err e) (Err f) → e ≡ f
same_refusal e f is = cc

-- a text that is refused for another cause names nothing as absent
pub none_absent : (text : List ℕ) (params : Row) (old new : State) (f : CompileError) → ((e : CompileError) → IsAbsence e → e ≡ f → ⊥) → understood old.now.schema text ≡ Err f → ¬ WasAbsent text params old new
unfolding Rattle.sqlite.specs.State.ExecutesIn Rattle.sqlite.specs.State.IsNotRun
none_absent text params old new f none refused (e, which, h) = by h
  where
    by : Executes text params old new (Err (SqlInputError e)) → ⊥
    by (inl (inl (inl (fault, other, one), unchanged))) = none e which (same_fault e fault one ∙ same_refusal fault f (sym other ∙ refused))
    by (inl (inl (inr (c, other, more), unchanged))) = never old.now.schema text f c refused other
    by (inl (inr fault)) = no_fault old new e fault
    by (inr (c, it, more)) = never old.now.schema text f c refused it.is

module _ (schema : Schema) (text : List ℕ) (name : Name) (table : ℕ → Table) (i : IsCreate text name table) where
  abbrev pub made : Compiled
  made = record { command = command.CreateTable; returning = None; names = []; formats = []; start = i.parsed.start; end = i.parsed.end; tail = i.parsed.tail }

  create_free : table_named schema name ≡ None → view_named schema name ≡ None → index_named schema name ≡ None → create_table schema [] i.def ≡ Ok command.CreateTable
  unfolding create_table creates is_attached
  create_free no_table no_view no_index = rw (i.defined, i.named, no_table, no_view, no_index, i.plain.1, i.uncomputed, i.plain.2) refl

  pub create_is : table_named schema name ≡ None → view_named schema name ≡ None → index_named schema name ≡ None → compiled schema text ≡ Ok made
  unfolding compiled planned meaning timed returning compile.command
  create_is no_table no_view no_index = rw (i.reads, i.is, i.no_names, i.no_formats, create_free no_table no_view no_index) refl

  -- it is refused where an object has the name
  abbrev Refuses : CompileError → Type 0
  Refuses e = create_table schema [] i.def ≡ Err e

  attached : is_attached schema name ≡ true → Refuses Unsupported
  unfolding create_table
  attached is = rw (i.named, is) refl

  module _ (bare : is_attached schema name ≡ false) where
    indexed : (at : ℕ) → index_named schema name ≡ Some at → Refuses Exists
    unfolding create_table creates
    indexed at there = rw (i.named, bare, i.plain.1, there) refl

    taken : (at : ℕ) → index_named schema name ≡ None → table_named schema name ≡ Some at → Refuses Exists
    unfolding create_table creates
    taken at none there = rw (i.named, bare, i.plain.0, i.plain.1, none, there) refl

    viewed : (at : ℕ) → index_named schema name ≡ None → table_named schema name ≡ None → view_named schema name ≡ Some at → Refuses Exists
    unfolding create_table creates
    viewed at none free there = rw (i.named, bare, i.plain.0, i.plain.1, none, free, there) refl

  refused_as : (e : CompileError) → Refuses e → compiled schema text ≡ Err e
  unfolding compiled planned meaning timed returning compile.command
  refused_as e is = rw (i.reads, i.is, i.no_names, i.no_formats, is) refl

  -- for a cause that names nothing as absent
  abbrev pub IsTaken : Type 0
  IsTaken = (understood schema text ≡ Err Exists) ⊎ (understood schema text ≡ Err Unsupported)

  exists : Refuses Exists → IsTaken
  exists is = inl (understood_as schema text _ (refused_as Exists is) refl)

  abbrev pub IsFree : Type 0
  IsFree = (table_named schema name ≡ None) × (view_named schema name ≡ None) × (index_named schema name ≡ None)

  pub verdict : IsFree ⊎ IsTaken
  verdict = by (cases_Bool (is_attached schema name)) (either (index_named schema name)) (either (table_named schema name)) (either (view_named schema name))
    where
      by : (is_attached schema name ≡ true) ⊎ (is_attached schema name ≡ false) → ((at : ℕ) × (index_named schema name ≡ Some at)) ⊎ (index_named schema name ≡ None)
          → ((at : ℕ) × (table_named schema name ≡ Some at)) ⊎ (table_named schema name ≡ None) → ((at : ℕ) × (view_named schema name ≡ Some at)) ⊎ (view_named schema name ≡ None) → IsFree ⊎ IsTaken
      by (inl is) index table view = inr (inr (understood_as schema text _ (refused_as Unsupported (attached is)) refl))
      by (inr bare) (inl has) table view = inr (exists (indexed bare has.0 has.1))
      by (inr bare) (inr none) (inl has) view = inr (exists (taken bare has.0 none has.1))
      by (inr bare) (inr none) (inr free) (inl has) = inr (exists (viewed bare has.0 none free has.1))
      by (inr bare) (inr none) (inr free) (inr bald) = inl (free, bald, none)

  pub is_taken : (at : ℕ) → table_named schema name ≡ Some at → IsTaken
  is_taken at there = elim verdict [ inl free ↦ absurd (let both : ◌≡◌ {A = Option ℕ} (Some at) None = sym there ∙ free.0 in cc) | inr taken ↦ taken ]

module _ (text : List ℕ) (name : Name) (table : ℕ → Table) (i : IsCreate text name table) (params : Row) (old new : State) (taken : IsTaken old.now.schema text name table i) where
  -- so it makes no table twice
  pub never_twice : (count : ℕ) → ¬ Executes text params old new (Ok count)
  unfolding Rattle.sqlite.specs.State.ExecutesIn
  never_twice count h = by taken
    where
      by : IsTaken old.now.schema text name table i → ⊥
      by (inl refused) = (let both : ◌≡◌ {A = Result Compiled CompileError} (Ok h.0) (Err Exists) = sym h.1.is ∙ refused in cc)
      by (inr refused) = (let both : ◌≡◌ {A = Result Compiled CompileError} (Ok h.0) (Err Unsupported) = sym h.1.is ∙ refused in cc)

  -- nor is a table missing then
  pub never_taken : ¬ WasAbsent text params old new
  never_taken h = by taken
    where
      by : IsTaken old.now.schema text name table i → ⊥
      by (inl refused) = none_absent text params old new Exists no_exists refused h
      by (inr refused) = none_absent text params old new Unsupported no_unsupported refused h

pub went : {B E R : Type 0} {b : B} {Stops : E → Type 0} → ((stop : E) × Stops stop × (Ok b ≡ Err stop)) ⊎ R → R
went (inl stopped) = absurd (let e = stopped.2 in cc)
went (inr on) = on

pub same_value : {B E : Type 0} {a b : B} → ◌≡◌ {A = Result B E} (Ok a) (Ok b) → a ≡ b
same_value e = cc
