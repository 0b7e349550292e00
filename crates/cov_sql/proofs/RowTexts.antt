-- What INSERT of one row is over any table that has the columns which the text names.
--     Sure, and_sure         no refusal names a table or a column as absent; nor does one of two steps
--     IsRow                  a text inserts one row of parameters in the columns of a table
--     made, row_is           what it is where the table is there; it is so, or refused
--     rows_sure              its rows are refused for no name
use Rattle.std.proofs.Common.{◌≡◌, inl, inr, ℕ, ◌+◌, ◌==◌, List, [], ◌∷◌, ◌++◌, length, slice_get, Bool, true, false, ◌&&◌, is_some, Option, Some, None, option_map, option_and_then, Ok, Err, if◌then◌else◌, refl, sym, subst}
use Rattle.sqlite_ast.specs.declared.Expr.{Expr}
use Rattle.sqlite_ast.specs.declared.Rows.TheVariants as rows
use Rattle.sqlite_ast.specs.declared.Conflict.TheVariants as conflict
use Rattle.sqlite_ast.specs.declared.Statement.TheVariants as written
use Rattle.sqlite_syntax.specs.declared.statement.Parsed.{Parsed}
use Rattle.sqlite_sql.specs.Term.{Term, lit}
use Rattle.sqlite_value.specs.declared.value.Value.TheVariants.{Null}
use Rattle.sqlite_schema.specs.Names.{table_named, column_named, place_of}
use Rattle.sqlite_schema.specs.declared.schema.Schema.{Schema}
use Rattle.sqlite_schema.specs.declared.schema.Table.{Table}
use Rattle.sqlite_schema.specs.declared.command.Source.{Source}
use Rattle.sqlite_schema.specs.declared.command.Command.TheVariants as command
use Rattle.sqlite_typing.specs.Types.{accepts_terms}
use Rattle.sqlite_resolve.specs.declared.compiled.Compiled.{Compiled}
use Rattle.sqlite_resolve.specs.declared.error.CompileError.TheVariants.{Mismatch, Misuse, Unsupported}
use Rattle.sqlite_resolve.specs.declared.state.State.{State}
use Rattle.sqlite_resolve.specs.declared.write.NewRows.TheVariants.{Values}
use Rattle.sqlite_resolve.specs.Lowering.{Checked, and_then, fresh, max_budget}
use Rattle.sqlite_resolve.specs.Scope.{Name}
use Rattle.sqlite_resolve.specs.Body.{all}
use Rattle.sqlite_resolve.specs.Expr.{lower}
use Rattle.sqlite_resolve.specs.Select.{outermost}
use Rattle.sqlite_resolve.specs.Write.{place, place_among, with_place, places_from, places, leaves_computed, cells_from, given_or, row, value_row, value_rows, values, inserted}
use Rattle.sqlite_resolve.specs.Compile.{first, returning, shows, timed, meaning, planned, compiled, insert_or_abort, insert, new_rows, source_of, small}
use Rattle.sqlite_resolve.specs.Compile as compile
use Rattle.sqlite_tied.specs.Compute.{everything}
use Rattle.std.proofs.Common.{codes}
use Rattle.cov_sql.specs.Told.{IsAbsence}
use Rattle.cov_sql.specs.Tables.{Shape, places_in, coverage_schema, meta, file, context, line_bits, arc, hits}

-- ---- a refusal that names nothing as absent

abbrev pub Sure : {A : Type 0} → Checked A → Type 0
Sure (Ok a) = Unit {0}
Sure (Err e) = ¬ IsAbsence e

pub and_sure : {A B : Type 0} (r : Checked A) (f : A → Checked B) → Sure r → ((a : A) → Sure (f a)) → Sure (and_then r f)
and_sure (Ok a) f one two = two a
and_sure (Err e) f one two = one

pub no_mismatch : ¬ IsAbsence Mismatch
no_mismatch (inl is) = cc
no_mismatch (inr is) = cc

no_misuse : ¬ IsAbsence Misuse
no_misuse (inl is) = cc
no_misuse (inr is) = cc

not_supported : ¬ IsAbsence Unsupported
not_supported (inl is) = cc
not_supported (inr is) = cc

either_sure : {A : Type 0} (b : Bool) (x y : Checked A) → Sure x → Sure y → Sure (if b then x else y)
either_sure true x y one two = one
either_sure false x y one two = two

row_if : {A : Type 0} (b c : Bool) (x : A) → Sure {A = A} (if b then Err Unsupported else (if c then Ok x else Err Misuse))
row_if true c x = not_supported
row_if false true x = tt
row_if false false x = no_misuse

-- ---- the columns that are named

module _ (t : Table) where
  place_is : (n : Name) (k : ℕ) → column_named t n ≡ Some k → place t n ≡ Ok (place_of t k)
  unfolding place
  place_is n k has = rw has refl

  with_sure : (done : List ℕ) (n : Name) (k : ℕ) → column_named t n ≡ Some k → Sure (with_place t done n)
  unfolding with_place
  with_sure done n k has = rw (place_is n k has) (either_sure (is_some (place_among (place_of t k) done)) (Err Unsupported) (Ok (done ++ place_of t k ∷ [])) not_supported tt)

  named_one : (n : Name) (ns : List Name) (ps : List ℕ) → places_in t (n ∷ ns) ≡ Some ps → (k : ℕ) × (column_named t n ≡ Some k) × (qs : List ℕ) × (places_in t ns ≡ Some qs)
  named_one n ns ps is = by (column_named t n) (places_in t ns) refl refl is
    where
      by : (o : Option ℕ) (rest : Option (List ℕ)) → column_named t n ≡ o → places_in t ns ≡ rest → option_and_then (λ k. option_map (λ qs. place_of t k ∷ qs) rest) o ≡ Some ps
          → (k : ℕ) × (column_named t n ≡ Some k) × (qs : List ℕ) × (places_in t ns ≡ Some qs)
      by (Some k) (Some qs) one two h = (k, one, qs, two)
      by (Some k) None one two h = absurd cc
      by None rest one two h = absurd cc

  pub places_sure : (ns : List Name) (ps done : List ℕ) → places_in t ns ≡ Some ps → Sure (places_from t done ns)
  places_sure [] ps done is = tt
  places_sure (n ∷ ns) ps done is =
      let one = named_one n ns ps is in
      and_sure (with_place t done n) (λ longer. places_from t longer ns) (with_sure done n one.0 one.1) (λ longer. places_sure ns one.2 longer one.3)

-- ---- the text

pub record IsRow (text : List ℕ) (t : Shape) : Type 0 where
  pub parsed : Parsed
  pub given : List Expr
  pub terms : List Term
  pub after : State
  pub reads : first text ≡ Ok parsed
  pub is : parsed.statement ≡ written.Insert conflict.Abort t.name t.columns (rows.Values (given ∷ [])) [] []
  pub some : (length t.columns == 0) ≡ false
  pub lowers : (schema : Schema) → all lower (outermost schema) given (record (fresh 1 max_budget) { budget = max_budget }) ≡ Ok (terms, after)
  pub quiet : after.steps ≡ []

module _ (text : List ℕ) (t : Shape) (i : IsRow text t) (schema : Schema) (u : Table) (base : ℕ) where
  row_sure : (at : List ℕ) → Sure (row u (Some base) at [] i.terms)
  unfolding row
  row_sure at = row_if (is_some (Some base) && leaves_computed u at) (length at == length i.terms) (cells_from u (Some base) at i.terms 0 (given_or at i.terms 0 (lit Null) ∷ []) u.columns)

  values_are : (at : List ℕ) (r : Checked (List Term)) → row u (Some base) at [] i.terms ≡ r → values schema u base at (i.given ∷ []) ≡ and_then r (λ longer. Ok (Values longer))
  unfolding values value_rows value_row
  values_are at (Ok longer) is = rw (i.lowers schema, is, i.quiet) refl
  values_are at (Err e) is = rw (i.lowers schema, is) refl

  values_sure : (at : List ℕ) → Sure (values schema u base at (i.given ∷ []))
  values_sure at =
      subst Sure (sym (values_are at (row u (Some base) at [] i.terms) refl))
      (and_sure (row u (Some base) at [] i.terms) (λ longer. Ok (Values longer)) (row_sure at) (λ longer. tt))

  -- what is made of them
  sources_are : (at : List ℕ) (width : ℕ) (r : Checked (List Term)) → row u (Some base) at [] i.terms ≡ r → Sure r → Sure (and_then (values schema u base at (i.given ∷ [])) (source_of schema width))
  unfolding source_of compile.values
  sources_are at width (Ok longer) is sure = rw (values_are at (Ok longer) is) (either_sure (accepts_terms longer []) _ _ tt no_mismatch)
  sources_are at width (Err e) is sure = rw (values_are at (Err e) is) sure

  rows_as : (width : ℕ) (r : Checked (List ℕ)) → places_from u [] t.columns ≡ r → Sure r → Sure (and_then (inserted schema u base t.columns (rows.Values (i.given ∷ []))) (source_of schema width))
  unfolding inserted places
  rows_as width (Ok at) is sure = rw (i.some, is) (sources_are at width (row u (Some base) at [] i.terms) refl (row_sure at))
  rows_as width (Err e) is sure = rw (i.some, is) sure

  pub rows_sure : (ps : List ℕ) → places_in u t.columns ≡ Some ps → Sure (new_rows schema u base t.columns (rows.Values (i.given ∷ [])))
  unfolding new_rows
  rows_sure ps is = rows_as (length u.columns + 1) (places_from u [] t.columns) refl (places_sure u t.columns ps [] is)

module _ (text : List ℕ) (t : Shape) (i : IsRow text t) (schema : Schema) (at : ℕ) (u : Table) (named : table_named schema t.name ≡ Some at) (is : slice_get schema.tables at ≡ Some u) where
  abbrev pub formats : List Name
  formats = i.parsed.formats ++ u.stamps.formats

  abbrev pub made : Source → Compiled
  made from = record { command = command.Insert at from; returning = None; names = i.parsed.names; formats = formats; start = i.parsed.start; end = i.parsed.end; tail = i.parsed.tail }

  abbrev pub the_base : ℕ
  the_base = small i.parsed.names + small formats

  abbrev pub the_rows : Checked Source
  the_rows = new_rows schema u the_base t.columns (rows.Values (i.given ∷ []))

  command_is : (base : ℕ) (r : Checked Source) → new_rows schema u base t.columns (rows.Values (i.given ∷ [])) ≡ r → insert schema base t.name t.columns (rows.Values (i.given ∷ [])) ≡ and_then r (λ s. Ok (command.Insert at s))
  unfolding insert
  command_is base (Ok s) rows_are = rw (named, is, rows_are) refl
  command_is base (Err e) rows_are = rw (named, is, rows_are) refl

  pub row_is : (r : Checked Source) → the_rows ≡ r → compiled schema text ≡ and_then r (λ s. Ok (made s))
  unfolding compiled planned meaning timed returning shows compile.command insert_or_abort
  row_is (Ok s) rows_are = rw (i.reads, i.is, named, is, command_is the_base (Ok s) rows_are) refl
  row_is (Err e) rows_are = rw (i.reads, i.is, named, is, command_is the_base (Err e) rows_are) refl

-- ---- each text

pub row_of_coverage_schema : IsRow (codes "INSERT INTO coverage_schema (version) VALUES (?1)") coverage_schema
unfolding everything
row_of_coverage_schema = record { parsed = _; given = _; terms = _; after = _; reads = refl; is = refl; some = refl; lowers = λ schema. refl; quiet = refl }

pub row_of_meta : IsRow (codes "INSERT INTO meta (key, value) VALUES (?1, ?2)") meta
unfolding everything
row_of_meta = record { parsed = _; given = _; terms = _; after = _; reads = refl; is = refl; some = refl; lowers = λ schema. refl; quiet = refl }

pub row_of_file : IsRow (codes "INSERT INTO file (id, path) VALUES (?1, ?2)") file
unfolding everything
row_of_file = record { parsed = _; given = _; terms = _; after = _; reads = refl; is = refl; some = refl; lowers = λ schema. refl; quiet = refl }

pub row_of_context : IsRow (codes "INSERT INTO context (id, context) VALUES (?1, ?2)") context
unfolding everything
row_of_context = record { parsed = _; given = _; terms = _; after = _; reads = refl; is = refl; some = refl; lowers = λ schema. refl; quiet = refl }

pub row_of_line_bits : IsRow (codes "INSERT INTO line_bits (file_id, context_id, numbits) VALUES (?1, ?2, ?3)") line_bits
unfolding everything
row_of_line_bits = record { parsed = _; given = _; terms = _; after = _; reads = refl; is = refl; some = refl; lowers = λ schema. refl; quiet = refl }

pub row_of_arc : IsRow (codes "INSERT INTO arc (file_id, context_id, fromno, tono) VALUES (?1, ?2, ?3, ?4)") arc
unfolding everything
row_of_arc = record { parsed = _; given = _; terms = _; after = _; reads = refl; is = refl; some = refl; lowers = λ schema. refl; quiet = refl }

pub row_of_hits : IsRow (codes "INSERT INTO hits (file_id, context_id, fromno, tono, count) VALUES (?1, ?2, ?3, ?4, ?5)") hits
unfolding everything
row_of_hits = record { parsed = _; given = _; terms = _; after = _; reads = refl; is = refl; some = refl; lowers = λ schema. refl; quiet = refl }
