-- The texts of SQL that write the tables of coverage.py's schema 7 and the table of counts.
--     make_.._text                 makes the table
--     insert_.._text               inserts a row, whose values are the parameters
--     delete_.._text               deletes its rows
--     written_texts, IsWritten     all of these texts; a text is one of them
use Rattle.std.specs.Prelude.{◌≡◌, ℕ, List, [], ◌∷◌, Some, slice_get, codes}

-- makes the table of the version
abbrev pub make_coverage_schema_text : List ℕ
make_coverage_schema_text = codes "CREATE TABLE coverage_schema (version integer)"

-- makes the table of keys and values
abbrev pub make_meta_text : List ℕ
make_meta_text = codes "CREATE TABLE meta (key text, value text, unique (key))"

-- makes the table of paths by number
abbrev pub make_file_text : List ℕ
make_file_text = codes "CREATE TABLE file (id integer primary key, path text, unique (path))"

-- makes the table of contexts by number
abbrev pub make_context_text : List ℕ
make_context_text =
    codes "CREATE TABLE context (id integer primary key, context text, unique (context))"

-- makes the table of executed lines, as bits
abbrev pub make_line_bits_text : List ℕ
make_line_bits_text =
    codes "CREATE TABLE line_bits (file_id integer, context_id integer, numbits blob, foreign key (file_id) references file (id), foreign key (context_id) references context (id), unique (file_id, context_id))"

-- makes the table of arcs
abbrev pub make_arc_text : List ℕ
make_arc_text =
    codes "CREATE TABLE arc (file_id integer, context_id integer, fromno integer, tono integer, foreign key (file_id) references file (id), foreign key (context_id) references context (id), unique (file_id, context_id, fromno, tono))"

-- makes the table of tracers
abbrev pub make_tracer_text : List ℕ
make_tracer_text =
    codes "CREATE TABLE tracer (file_id integer primary key, tracer text, foreign key (file_id) references file (id))"

-- makes the table of counts
abbrev pub make_hits_text : List ℕ
make_hits_text =
    codes "CREATE TABLE hits (file_id integer, context_id integer, fromno integer, tono integer, count integer, unique (file_id, context_id, fromno, tono))"

-- inserts the version
abbrev pub insert_coverage_schema_text : List ℕ
insert_coverage_schema_text = codes "INSERT INTO coverage_schema (version) VALUES (?1)"

-- inserts a key with its value
abbrev pub insert_meta_text : List ℕ
insert_meta_text = codes "INSERT INTO meta (key, value) VALUES (?1, ?2)"

-- inserts a path with its number
abbrev pub insert_file_text : List ℕ
insert_file_text = codes "INSERT INTO file (id, path) VALUES (?1, ?2)"

-- inserts a context with its number
abbrev pub insert_context_text : List ℕ
insert_context_text = codes "INSERT INTO context (id, context) VALUES (?1, ?2)"

-- inserts the lines of a file in a context
abbrev pub insert_line_bits_text : List ℕ
insert_line_bits_text =
    codes "INSERT INTO line_bits (file_id, context_id, numbits) VALUES (?1, ?2, ?3)"

-- inserts an arc of a file in a context
abbrev pub insert_arc_text : List ℕ
insert_arc_text =
    codes "INSERT INTO arc (file_id, context_id, fromno, tono) VALUES (?1, ?2, ?3, ?4)"

-- inserts the count of two numbers of a file in a context
abbrev pub insert_hits_text : List ℕ
insert_hits_text =
    codes "INSERT INTO hits (file_id, context_id, fromno, tono, count) VALUES (?1, ?2, ?3, ?4, ?5)"

-- deletes all keys with their values
abbrev pub delete_meta_text : List ℕ
delete_meta_text = codes "DELETE FROM meta"

-- deletes all paths
abbrev pub delete_file_text : List ℕ
delete_file_text = codes "DELETE FROM file"

-- deletes all contexts
abbrev pub delete_context_text : List ℕ
delete_context_text = codes "DELETE FROM context"

-- deletes all executed lines
abbrev pub delete_line_bits_text : List ℕ
delete_line_bits_text = codes "DELETE FROM line_bits"

-- deletes all arcs
abbrev pub delete_arc_text : List ℕ
delete_arc_text = codes "DELETE FROM arc"

-- deletes all tracers
abbrev pub delete_tracer_text : List ℕ
delete_tracer_text = codes "DELETE FROM tracer"

-- deletes all counts
abbrev pub delete_hits_text : List ℕ
delete_hits_text = codes "DELETE FROM hits"

-- each text once
abbrev pub written_texts : List (List ℕ)
written_texts =
    make_coverage_schema_text ∷ make_meta_text ∷ make_file_text ∷ make_context_text
    ∷ make_line_bits_text ∷ make_arc_text ∷ make_tracer_text ∷ make_hits_text
    ∷ insert_coverage_schema_text ∷ insert_meta_text ∷ insert_file_text
    ∷ insert_context_text ∷ insert_line_bits_text ∷ insert_arc_text ∷ insert_hits_text
    ∷ delete_meta_text ∷ delete_file_text ∷ delete_context_text ∷ delete_line_bits_text
    ∷ delete_arc_text ∷ delete_tracer_text ∷ delete_hits_text ∷ []

-- a text is one of those that write
abbrev pub IsWritten : List ℕ → Type 0
IsWritten text = (at : ℕ) × (slice_get written_texts at ≡ Some text)
