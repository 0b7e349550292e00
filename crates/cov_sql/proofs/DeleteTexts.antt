-- The statements that delete the rows of the tables of data files.
use Rattle.std.proofs.Common.{◌≡◌, ◌≢◌, ◌⊎◌, inl, inr, ℕ, List, [], codes, slice_get, Option, Some, None, Ok, Err, Result, OnOk, IsTrue, refl, sym, subst, ◌∙◌}
use Rattle.std.specs.List.{AllByRecursion}
use Rattle.sqlite_value.specs.Order.{Row}
use Rattle.sqlite_typing.specs.Types.{accepts_program}
use Rattle.sqlite_schema.specs.Names.{table_named}
use Rattle.sqlite_schema.specs.declared.schema.Schema.{Schema}
use Rattle.sqlite_schema.specs.declared.schema.Table.{Table}
use Rattle.sqlite_tied.specs.Compute.{everything}
use Rattle.sqlite.specs.Effect.{Database}
use Rattle.sqlite.specs.State.{State, HasCleanDisk, Executes}
use Rattle.cov_sql.specs.declared.statements.StatementError.{StatementError}
use Rattle.cov_sql.specs.Tables.{Shape, table_in, places_in, rows_in}
use Rattle.cov_sql.specs.Written.{IsFree, IsEmptied, Deletes, Ran}
use Rattle.cov_sql.proofs.Found.{either}
use Rattle.cov_sql.proofs.Deletes.{IsDelete, rowids, delete_is, removed_by}
use Rattle.cov_sql.proofs.Empties.{emptied}

-- where a table of a schema stands
pub placed : (schema : Schema) (name : List ℕ) (u : Table) → table_in schema name ≡ Some u → (at : ℕ) × (table_named schema name ≡ Some at) × (slice_get schema.tables at ≡ Some u)
placed schema name u there = by (either (table_named schema name))
  where
    by : ((at : ℕ) × (table_named schema name ≡ Some at)) ⊎ (table_named schema name ≡ None) → (at : ℕ) × (table_named schema name ≡ Some at) × (slice_get schema.tables at ≡ Some u)
    by (inl has) = (has.0, has.1, rw has.1 at there)
    by (inr none) = absurd (let no : ◌≡◌ {A = Option Table} None (Some u) = rw none at there in cc)

pub same_table : (a b : Table) → Some a ≡ Some b → a ≡ b
same_table a b e = cc

none_shown : (t : Shape) (old new : Database) (u : Table) → table_in old.schema t.name ≡ Some u → new.schema ≡ old.schema → new.trees u.tree ≡ [] → (all : List Row) → rows_in t old ≡ Some all → rows_in t new ≡ Some []
none_shown t old new u there same empty all is = by (either (places_in u t.columns))
  where
    by : ((ps : List ℕ) × (places_in u t.columns ≡ Some ps)) ⊎ (places_in u t.columns ≡ None) → rows_in t new ≡ Some []
    by (inl has) = rw (same, there, has.1, empty) refl
    by (inr none) = absurd (let no : ◌≡◌ {A = Option (List Row)} None (Some all) = rw (there, none) at is in cc)

empties_table : (text : List ℕ) (t : Shape) → IsDelete text t.name → (old new : State) → IsFree t old.now → (count : ℕ) → Executes text [] old new (Ok count) → IsEmptied t old.now new.now
empties_table text t i old new free count ran =
    let u = free.table in
    let place = placed old.now.schema t.name u free.there in
    let gone = removed_by old new text t.name i place.0 place.1 u place.2 free.acts (accepts_program old.now.schema [] (rowids u.tree) []) (delete_is old.now.schema text t.name i place.0 place.1 u place.2) count ran in
    record {
      schema = gone.schema;
      rows = none_shown t old.now new.now u free.there gone.schema (emptied old.now new.now u.tree free.rowids gone);
      others = λ v there. let same : u ≡ v = same_table u v (sym free.there ∙ there) in
          subst (λ (x : Table). AllByRecursion (λ w. w.tree ≢ x.tree → new.now.trees w.tree ≡ old.now.trees w.tree) old.now.schema.tables) same gone.others;
    }

-- a statement that runs such a text deletes the rows of its table
pub deletes : (text : List ℕ) (t : Shape) → IsDelete text t.name → (old new : State) (r : Result (Unit {0}) StatementError) → (HasCleanDisk new → IsTrue old.in_transaction → OnOk r (Ran text [] old new)) → Deletes t old new r
deletes text t i old new (Ok v) ran clean inside free = let h = ran clean inside in empties_table text t i old new free h.0 h.1
deletes text t i old new (Err e) ran clean inside free = tt

pub deletes_meta : IsDelete (codes "DELETE FROM meta") (codes "meta")
unfolding everything
deletes_meta = record { parsed = _; reads = refl; is = refl; no_names = refl; no_formats = refl }

pub deletes_file : IsDelete (codes "DELETE FROM file") (codes "file")
unfolding everything
deletes_file = record { parsed = _; reads = refl; is = refl; no_names = refl; no_formats = refl }

pub deletes_context : IsDelete (codes "DELETE FROM context") (codes "context")
unfolding everything
deletes_context = record { parsed = _; reads = refl; is = refl; no_names = refl; no_formats = refl }

pub deletes_line_bits : IsDelete (codes "DELETE FROM line_bits") (codes "line_bits")
unfolding everything
deletes_line_bits = record { parsed = _; reads = refl; is = refl; no_names = refl; no_formats = refl }

pub deletes_arc : IsDelete (codes "DELETE FROM arc") (codes "arc")
unfolding everything
deletes_arc = record { parsed = _; reads = refl; is = refl; no_names = refl; no_formats = refl }

pub deletes_tracer : IsDelete (codes "DELETE FROM tracer") (codes "tracer")
unfolding everything
deletes_tracer = record { parsed = _; reads = refl; is = refl; no_names = refl; no_formats = refl }

pub deletes_hits : IsDelete (codes "DELETE FROM hits") (codes "hits")
unfolding everything
deletes_hits = record { parsed = _; reads = refl; is = refl; no_names = refl; no_formats = refl }
