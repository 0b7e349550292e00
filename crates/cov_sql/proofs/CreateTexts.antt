-- The statements that make the tables of data files.
use Rattle.std.proofs.Common.{◌≡◌, ◌⊎◌, inl, inr, ℕ, List, [], codes, Some, Ok, Err, Result, OnOk, IsErrOf, IsTrue, refl}
use Rattle.sqlite_schema.specs.declared.schema.Table.{Table}
use Rattle.sqlite_tied.specs.Compute.{everything}
use Rattle.sqlite.specs.State.{State, HasCleanDisk}
use Rattle.cov_sql.specs.declared.statements.StatementError.{StatementError}
use Rattle.cov_sql.specs.declared.statements.StatementError.TheVariants.{Missing, Refused, NoMemory}
use Rattle.sqlite_schema.specs.Names.{table_named}
use Rattle.cov_sql.specs.Tables.{Shape}
use Rattle.cov_sql.specs.Declarations.{declared_coverage_schema, declared_meta, declared_file, declared_context, declared_line_bits, declared_arc, declared_tracer, declared_hits}
use Rattle.cov_sql.specs.Written.{IsMade, Makes, Ran, WasAbsent}
use Rattle.cov_sql.proofs.Creates.{IsCreate, is_taken, never_twice}
use Rattle.cov_sql.proofs.Growing.{makes, nothing_absent}

-- a statement that runs such a text makes its table, and never twice
module _ (text : List ℕ) (t : Shape) (table : ℕ → Table) (i : IsCreate text t.name table) (old new : State) where
  no_more : (r : Result (Unit {0}) StatementError) → OnOk r (Ran text [] old new) → (IsErrOf r Missing → WasAbsent text [] old new) → (at : ℕ) → table_named old.now.schema t.name ≡ Some at
      → (r ≡ Err Refused) ⊎ (r ≡ Err NoMemory)
  no_more (Ok v) ran absent at there = absurd (never_twice text t.name table i [] old new (is_taken old.now.schema text t.name table i at there) ran.0 ran.1)
  no_more (Err Missing) ran absent at there = absurd (nothing_absent text t table i old new (absent refl))
  no_more (Err Refused) ran absent at there = inl refl
  no_more (Err NoMemory) ran absent at there = inr refl

  made_then : (r : Result (Unit {0}) StatementError) → OnOk r (Ran text [] old new) → OnOk r (IsMade t table old.now new.now)
  made_then (Ok v) ran = makes text t table i old new ran.0 ran.1
  made_then (Err e) ran = tt

  pub makes_table : (r : Result (Unit {0}) StatementError) → (HasCleanDisk new → IsTrue old.in_transaction → OnOk r (Ran text [] old new))
      → (HasCleanDisk new → IsTrue old.in_transaction → IsErrOf r Missing → WasAbsent text [] old new) → Makes t table old new r
  makes_table r ran absent clean inside = record {
    made = made_then r (ran clean inside);
    once = no_more r (ran clean inside) (absent clean inside);
    never = λ no. nothing_absent text t table i old new (absent clean inside no);
  }

pub makes_coverage_schema : IsCreate (codes "CREATE TABLE coverage_schema (version integer)") (codes "coverage_schema") declared_coverage_schema
unfolding everything
makes_coverage_schema = record { parsed = _; def = _; reads = refl; is = refl; no_names = refl; no_formats = refl; named = refl; plain = (refl, refl, refl); defined = refl; spans = refl; defines = refl; uncomputed = refl; moves = λ tree. refl }

pub makes_meta : IsCreate (codes "CREATE TABLE meta (key text, value text, unique (key))") (codes "meta") declared_meta
unfolding everything
makes_meta = record { parsed = _; def = _; reads = refl; is = refl; no_names = refl; no_formats = refl; named = refl; plain = (refl, refl, refl); defined = refl; spans = refl; defines = refl; uncomputed = refl; moves = λ tree. refl }

pub makes_file : IsCreate (codes "CREATE TABLE file (id integer primary key, path text, unique (path))") (codes "file") declared_file
unfolding everything
makes_file = record { parsed = _; def = _; reads = refl; is = refl; no_names = refl; no_formats = refl; named = refl; plain = (refl, refl, refl); defined = refl; spans = refl; defines = refl; uncomputed = refl; moves = λ tree. refl }

pub makes_context : IsCreate (codes "CREATE TABLE context (id integer primary key, context text, unique (context))") (codes "context") declared_context
unfolding everything
makes_context = record { parsed = _; def = _; reads = refl; is = refl; no_names = refl; no_formats = refl; named = refl; plain = (refl, refl, refl); defined = refl; spans = refl; defines = refl; uncomputed = refl; moves = λ tree. refl }

pub makes_line_bits : IsCreate (codes "CREATE TABLE line_bits (file_id integer, context_id integer, numbits blob, foreign key (file_id) references file (id), foreign key (context_id) references context (id), unique (file_id, context_id))") (codes "line_bits") declared_line_bits
unfolding everything
makes_line_bits = record { parsed = _; def = _; reads = refl; is = refl; no_names = refl; no_formats = refl; named = refl; plain = (refl, refl, refl); defined = refl; spans = refl; defines = refl; uncomputed = refl; moves = λ tree. refl }

pub makes_arc : IsCreate (codes "CREATE TABLE arc (file_id integer, context_id integer, fromno integer, tono integer, foreign key (file_id) references file (id), foreign key (context_id) references context (id), unique (file_id, context_id, fromno, tono))") (codes "arc") declared_arc
unfolding everything
makes_arc = record { parsed = _; def = _; reads = refl; is = refl; no_names = refl; no_formats = refl; named = refl; plain = (refl, refl, refl); defined = refl; spans = refl; defines = refl; uncomputed = refl; moves = λ tree. refl }

pub makes_tracer : IsCreate (codes "CREATE TABLE tracer (file_id integer primary key, tracer text, foreign key (file_id) references file (id))") (codes "tracer") declared_tracer
unfolding everything
makes_tracer = record { parsed = _; def = _; reads = refl; is = refl; no_names = refl; no_formats = refl; named = refl; plain = (refl, refl, refl); defined = refl; spans = refl; defines = refl; uncomputed = refl; moves = λ tree. refl }

pub makes_hits : IsCreate (codes "CREATE TABLE hits (file_id integer, context_id integer, fromno integer, tono integer, count integer, unique (file_id, context_id, fromno, tono))") (codes "hits") declared_hits
unfolding everything
makes_hits = record { parsed = _; def = _; reads = refl; is = refl; no_names = refl; no_formats = refl; named = refl; plain = (refl, refl, refl); defined = refl; spans = refl; defines = refl; uncomputed = refl; moves = λ tree. refl }
