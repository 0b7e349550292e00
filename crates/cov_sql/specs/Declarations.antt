-- The tables as data files declare them, by the number of their tree.
--     column, reference, table      a column, a foreign key and a table, as they are declared
--     declared_coverage_schema, declared_meta, declared_file, declared_context,
--     declared_line_bits, declared_arc, declared_tracer
--                                   the tables of coverage.py's schema 7
--     declared_hits                 the table of counts
use Rattle.std.specs.Prelude.{ℕ, List, [], ◌∷◌, Option, Some, None, codes, false, map}
use Rattle.sqlite.specs.Collation.TheVariants.{Binary}
use Rattle.sqlite.specs.Kind.{Kind}
use Rattle.sqlite.specs.Kind.TheVariants.{Text, Integer, Any}
use Rattle.sqlite.specs.declared.types.Value.TheVariants.{Null}
use Rattle.sqlite_value.specs.Keys.{plain}
use Rattle.sqlite_schema.specs.declared.schema.Action.TheVariants.{NoAction}
use Rattle.sqlite_schema.specs.declared.schema.Column.{Column}
use Rattle.sqlite_schema.specs.declared.schema.Reference.{Reference}
use Rattle.sqlite_schema.specs.declared.schema.Table.{Table}

-- a column of this name and type, which may be NULL and compares bytes
abbrev pub column : List ℕ → Kind → Column
column name kind = record {
  name = name;
  kind = kind;
  is_strict = false;
  not_null = false;
  default = Null;
  collation = Binary;
}

-- the value at a place is the id of a row of the parent
abbrev pub reference : ℕ → List ℕ → Reference
reference place parent =
    record {
      columns = place ∷ [];
      parent = parent;
      parent_columns = codes "id" ∷ [];
      on_delete = NoAction;
      on_update = NoAction;
      is_deferred = false;
    }

-- a table with its key, the places of each UNIQUE and its references
abbrev pub table : List ℕ → List Column → Option ℕ → List ℕ → List (List ℕ) → List Reference → ℕ
    → Table
table name columns key primary uniques references tree = record {
  name = name;
  tree = tree;
  columns = columns;
  key = key;
  primary = primary;
  uniques = uniques;
  orders = map (λ _. plain) uniques;
  checks = [];
  references = references;
  computed = [];
  stamps = record { places = []; terms = []; formats = [] };
  is_counted = false;
}

-- coverage_schema (version integer)
abbrev pub declared_coverage_schema : ℕ → Table
declared_coverage_schema = table (codes "coverage_schema")
    (column (codes "version") Integer ∷ []) None [] [] []

-- meta (key text, value text, unique (key))
abbrev pub declared_meta : ℕ → Table
declared_meta = table (codes "meta")
    (column (codes "key") Text ∷ column (codes "value") Text ∷ []) None [] ((1 ∷ []) ∷ []) []

-- file (id integer primary key, path text, unique (path))
abbrev pub declared_file : ℕ → Table
declared_file = table (codes "file") (column (codes "id") Integer ∷ column (codes "path") Text ∷ [])
    (Some 0) (0 ∷ []) ((2 ∷ []) ∷ []) []

-- context (id integer primary key, context text, unique (context))
abbrev pub declared_context : ℕ → Table
declared_context = table (codes "context")
    (column (codes "id") Integer ∷ column (codes "context") Text ∷ []) (Some 0) (0 ∷ [])
    ((2 ∷ []) ∷ []) []

-- line_bits (file_id, context_id, numbits, unique (file_id, context_id)), where both numbers refer
-- to their tables
abbrev pub declared_line_bits : ℕ → Table
declared_line_bits = table (codes "line_bits")
    (column (codes "file_id") Integer ∷ column (codes "context_id") Integer
    ∷ column (codes "numbits") Any ∷ []) None [] ((1 ∷ 2 ∷ []) ∷ [])
    (reference 1 (codes "file") ∷ reference 2 (codes "context") ∷ [])

-- arc (file_id, context_id, fromno, tono), all four unique together, where the first two refer to
-- their tables
abbrev pub declared_arc : ℕ → Table
declared_arc = table (codes "arc")
    (column (codes "file_id") Integer ∷ column (codes "context_id") Integer
    ∷ column (codes "fromno") Integer
    ∷ column (codes "tono") Integer ∷ []) None [] ((1 ∷ 2 ∷ 3 ∷ 4 ∷ []) ∷ [])
    (reference 1 (codes "file") ∷ reference 2 (codes "context") ∷ [])

-- tracer (file_id integer primary key, tracer text), where file_id refers to `file`
abbrev pub declared_tracer : ℕ → Table
declared_tracer = table (codes "tracer")
    (column (codes "file_id") Integer ∷ column (codes "tracer") Text ∷ []) (Some 0) (0 ∷ []) []
    (reference 0 (codes "file") ∷ [])

-- hits (file_id, context_id, fromno, tono, count), the first four unique together, which refers to
-- no table
abbrev pub declared_hits : ℕ → Table
declared_hits = table (codes "hits")
    (column (codes "file_id") Integer ∷ column (codes "context_id") Integer
    ∷ column (codes "fromno") Integer
    ∷ column (codes "tono") Integer ∷ column (codes "count") Integer ∷ []) None []
    ((1 ∷ 2 ∷ 3 ∷ 4 ∷ []) ∷ []) []
