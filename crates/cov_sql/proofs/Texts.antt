-- What the text of such a SELECT is, under any schema.
use Rattle.std.proofs.Common.{◌≡◌, ℕ, negsuc, List, [], map, slice_get, Bool, true, false, Option, Some, None, Ok, Err, if◌then◌else◌, refl, ◌∙◌}
use Rattle.sqlite_ast.specs.declared.Core.{Core}
use Rattle.sqlite_ast.specs.declared.Select.{Select, out-Select}
use Rattle.sqlite_ast.specs.declared.Statement.TheVariants as written
use Rattle.sqlite_syntax.specs.declared.statement.Parsed.{Parsed}
use Rattle.sqlite_sql.specs.Term.{Term, lit}
use Rattle.sqlite_value.specs.declared.value.Value.TheVariants.{Int}
use Rattle.sqlite_schema.specs.Names.{table_named}
use Rattle.sqlite_schema.specs.declared.schema.Schema.{Schema}
use Rattle.sqlite_schema.specs.declared.schema.Table.{Table}
use Rattle.sqlite_schema.specs.declared.schema.Column.{Column}
use Rattle.sqlite_schema.specs.declared.program.Program.{Program}
use Rattle.sqlite_schema.specs.declared.command.Command.{Command}
use Rattle.sqlite_schema.specs.declared.command.Returning.{Returning}
use Rattle.sqlite_schema.specs.declared.command.Command.TheVariants as command
use Rattle.sqlite_draft.specs.Query.{query_of}
use Rattle.sqlite_sql.specs.Query.{Query}
use Rattle.sqlite_typing.specs.Types.{accepts_program}
use Rattle.sqlite_resolve.specs.declared.compiled.Compiled.{Compiled}
use Rattle.sqlite_resolve.specs.declared.error.CompileError.TheVariants.{NoSuchColumn, Mismatch}
use Rattle.sqlite_resolve.specs.Lowering.{Checked, and_then, max_budget}
use Rattle.sqlite_resolve.specs.Scope.{Name}
use Rattle.sqlite_resolve.specs.Select.{named, paging, constant_or}
use Rattle.sqlite_resolve.specs.Terms.{number}
use Rattle.sqlite_resolve.specs.Program.{Shown, sources, source, viewing, single, alone, whole, with, level, query_to, query, program}
use Rattle.sqlite_resolve.specs.Compile.{first, returning, timed, read, meaning, planned, compiled}
use Rattle.sqlite_resolve.specs.Compile as compile
use Rattle.cov_sql.proofs.Selects.{IsPlainCore, AreFound, Affords, draft, named_is, named_no_column, IsLacking, Spends}

pub record IsPlainSelect (s : Select) (name : Name) (names : List Name) : Type 0 where
  pub core : IsPlainCore (out-Select s).first name names
  pub with_none : (out-Select s).with ≡ []
  pub others : (out-Select s).others ≡ []
  pub order : (out-Select s).order ≡ []
  pub limit : (out-Select s).limit ≡ None
  pub offset : (out-Select s).offset ≡ None

-- the text is such a SELECT
pub record IsPlainText (text : List ℕ) (name : Name) (names : List Name) : Type 0 where
  pub parsed : Parsed
  pub select : Select
  pub reads : first text ≡ Ok parsed
  pub is : parsed.statement ≡ written.Select select
  pub no_names : parsed.names ≡ []
  pub no_formats : parsed.formats ≡ []
  pub plain : IsPlainSelect select name names

abbrev pub page : Term × Term
page = (lit (Int (negsuc 0)), number 0)

module _ (schema : Schema) (s : Select) (name : Name) (names : List Name) (plain : IsPlainSelect s name names) where
  paging_is : paging schema s ≡ Ok page
  unfolding paging constant_or
  paging_is = rw (plain.limit, plain.offset) refl

  -- what a SELECT of one core is
  query_ok : (x : Shown) → named schema (out-Select s).first [] page ≡ Ok x → query schema s ≡ Ok (x, [])
  unfolding query query_to level with whole alone single sources source viewing
  query_ok x h = rw (plain.with_none, paging_is, plain.others, plain.order, plain.core.from, plain.core.table, h) refl

  query_no_column : named schema (out-Select s).first [] page ≡ Err NoSuchColumn → query schema s ≡ Err NoSuchColumn
  unfolding query query_to level with whole alone single sources source viewing
  query_no_column h = rw (plain.with_none, paging_is, plain.others, plain.order, plain.core.from, plain.core.table, h) refl

module _ (schema : Schema) (text : List ℕ) (name : Name) (names : List Name) (plain : IsPlainText text name names) where
  abbrev pub made : Command → Compiled
  made c = record { command = c; returning = None; names = []; formats = []; start = plain.parsed.start; end = plain.parsed.end; tail = plain.parsed.tail }

  abbrev Pair : Type 0
  Pair = Command × Option Returning

  abbrev Plan : Type 0
  Plan = List Name × Pair

  chained : (r : Checked Command) → and_then {B = Compiled} (and_then {B = Plan} (and_then {B = Pair} r (λ c. Ok (c, None))) (λ found. Ok ([], found)))
      (λ plan. Ok (record { command = plan.1.0; returning = plan.1.1; names = []; formats = plan.0; start = plain.parsed.start; end = plain.parsed.end; tail = plain.parsed.tail }))
      ≡ and_then {B = Compiled} r (λ c. Ok (made c))
  chained (Ok c) = refl
  chained (Err e) = refl

  tested : (b : Bool) (p : Program) (f : Program → Command) → and_then {B = Compiled} (and_then {B = Command} (if b then Ok p else Err Mismatch) (λ p. Ok (f p))) (λ c. Ok (made c))
      ≡ (if b then Ok (made (f p)) else Err Mismatch)
  tested true p f = refl
  tested false p f = refl

  pub compiled_as : compiled schema text ≡ and_then (read schema plain.select) (λ c. Ok (made c))
  unfolding compiled planned meaning timed returning compile.command
  compiled_as = rw (plain.reads, plain.is, plain.no_names, plain.no_formats) (chained (read schema plain.select))

  module _ (at : ℕ) (is_named : table_named schema name ≡ Some at) (t : Table) (is : slice_get schema.tables at ≡ Some t) (ps : List (ℕ × Column)) (found : AreFound t names ps) (enough : Affords ps max_budget) where
    abbrev pub core : Core
    core = (out-Select plain.select).first

    abbrev pub body : Query
    body = query_of (draft schema core name names plain.plain.core at is_named t is ps found enough)

    -- the crate tests the types too
    pub select_is : compiled schema text ≡ (if accepts_program schema [] body [] then Ok (made (command.Select (record { lets = []; body = body }) (map (λ p. p.1.name) ps))) else Err Mismatch)
    unfolding read program
    select_is =
        let q = query_ok schema plain.select name names plain.plain _ (named_is schema core name names plain.plain.core at is_named t is ps found enough) in
        compiled_as ∙ rw q (tested (accepts_program schema [] body []) (record { lets = []; body = body }) (λ p. command.Select p (map (λ p. p.1.name) ps)))

  pub no_column_is : (at : ℕ) → table_named schema name ≡ Some at → (t : Table) → slice_get schema.tables at ≡ Some t → IsLacking t names → Spends names max_budget → compiled schema text ≡ Err NoSuchColumn
  unfolding read
  no_column_is at is_named t is lacks enough =
      compiled_as
      ∙ rw (query_no_column schema plain.select name names plain.plain (named_no_column schema (out-Select plain.select).first name names plain.plain.core at is_named t is lacks enough)) refl
