-- The cells that were read are the fields of the base, and so is what they mean.
use Rattle.std.proofs.Common.{◌≡◌, ◌≢◌, inl, inr, ℕ, Bool, true, false, cond, List, [], ◌∷◌, map, Option, Some, None, refl, ap, sym, subst, ◌∙◌}
use Rattle.std.specs.Prelude.{IsUtf8, option_map}
use Rattle.std.specs.Option.{unwrap_or}
use Rattle.std.specs.Str.{is_utf8}
use Rattle.std.specs.List.{AllZip}
use Rattle.std.specs.List.Sorted.{IsPermutation}
use Rattle.std.proofs.lemmas.List.Sorted.{IsPermutation-map, IsPermutation-refl}
use Rattle.std.proofs.lemmas.Str.{IsUtf8-from_is_utf8, is_utf8-from_IsUtf8, IsUtf8-string_bytes}
use Rattle.sqlite_value.specs.declared.value.Value.{Value}
use Rattle.sqlite_value.specs.declared.value.Value.TheVariants as value
use Rattle.sqlite_value.specs.Order as order
use Rattle.sqlite.specs.Effect.{Database}
use Rattle.cov_tables.specs.declared.cells.Cell.{Cell}
use Rattle.cov_tables.specs.declared.cells.RowCells.{RowCells}
use Rattle.cov_tables.specs.declared.cells.RowCells.TheVariants.{Four, Five, Any}
use Rattle.cov_tables.specs.Fields.{text, blob, other, field, Row, row, rows}
use Rattle.cov_tables.specs.Content.{Tables, content}
use Rattle.cov_tables.specs.Given.{tables}
use Rattle.cov_tables.proofs.Permuted.{ArePermuted, content-permuted}
use Rattle.cov_sql.specs.declared.reading.Found.{Found}
use Rattle.cov_sql.specs.Tables.{Shape, rows_in, coverage_schema, meta, file, context, line_bits, arc, tracer, hits}
use Rattle.cov_sql.specs.Cells.{IsTextCell, IsCell, AreCells, AreRowsIn}
use Rattle.cov_sql.specs.Content.{field_of, fields_in, tables_with, tables_in, content_if, content_in, AreCounts, IsFound}

text_field : (t : List ℕ) (c : Cell) → IsTextCell t c → cond (is_utf8 t) (text t) other ≡ field c
text_field t c (inl (s, is, bytes)) = ap (λ b. cond b (text t) other) (is_utf8-from_IsUtf8 t (subst IsUtf8 bytes (IsUtf8-string_bytes s))) ∙ ap text (sym bytes) ∙ sym (ap field is)
text_field t c (inr (is, never)) = by (is_utf8 t) refl ∙ sym (ap field is)
  where
    by : (b : Bool) → is_utf8 t ≡ b → cond b (text t) other ≡ other
    by true e = absurd (never (IsUtf8-from_is_utf8 t e))
    by false e = refl

cell_field : (v : Value) (c : Cell) → IsCell v c → field_of v ≡ field c
cell_field value.Null c h = sym (ap field h)
cell_field (value.Int n) c h = sym (ap field h)
cell_field (value.Real x) c h = sym (ap field h)
cell_field (value.Text t) c h = text_field t c h
cell_field (value.Blob b) c (v, is, items) = ap blob (sym items) ∙ sym (ap field is)

cells_fields : (r : order.Row) (cs : List Cell) → AllZip IsCell r cs → map field_of r ≡ map field cs
cells_fields [] [] h = refl
cells_fields [] (c ∷ cs) h = absurd h
cells_fields (v ∷ r) [] h = absurd h
cells_fields (v ∷ r) (c ∷ cs) h = λ i. cell_field v c h.0 i ∷ cells_fields r cs h.1 i

cells_row : (r : order.Row) (cs : RowCells) → AreCells r cs → map field_of r ≡ row cs
cells_row r (Four a b c d) h = ap (map field_of) h
cells_row r (Five a b c d e) h = ap (map field_of) h
cells_row r (Any cs) h = cells_fields r cs.items h

pub lists_rows : (rs : List order.Row) (lists : List RowCells) → AllZip AreCells rs lists → map (map field_of) rs ≡ rows lists
lists_rows [] [] h = refl
lists_rows [] (l ∷ lists) h = absurd h
lists_rows (r ∷ rs) [] h = absurd h
lists_rows (r ∷ rs) (l ∷ lists) h = λ i. cells_row r l h.0 i ∷ lists_rows rs lists h.1 i

-- the fields of a table that was read
abbrev pub Told : Shape → Database → List Row → Type 0
Told t db shown = (all : List Row) × (fields_in t db ≡ Some all) × IsPermutation all shown

pub told : (t : Shape) (db : Database) (lists : List RowCells) → AreRowsIn t db lists → Told t db (rows lists)
told t db lists h = (
  map (map field_of) h.0,
  ap (option_map (map (map field_of))) h.2,
  subst (IsPermutation (map (map field_of) h.0)) (lists_rows h.1 lists h.4) (IsPermutation-map (map field_of) h.0 h.1 h.3),
)

pub untold : (t : Shape) (db : Database) → rows_in t db ≡ None → fields_in t db ≡ None
untold t db none = ap (option_map (map (map field_of))) none

there : (t : Shape) (db : Database) → rows_in t db ≢ None → (all : List Row) × (fields_in t db ≡ Some all)
there t db has = by (rows_in t db) refl
  where
    by : (o : Option (List order.Row)) → rows_in t db ≡ o → (all : List Row) × (fields_in t db ≡ Some all)
    by None e = absurd (has e)
    by (Some all) e = (map (map field_of) all, ap (option_map (map (map field_of))) e)

counts : (db : Database) (b : Bool) (lists : List RowCells) → AreCounts db b lists → IsPermutation (unwrap_or (fields_in hits db) []) (rows lists)
counts db true lists h = let all = told hits db lists h in subst (λ o. IsPermutation (unwrap_or o []) (rows lists)) (sym all.1) all.2
counts db false lists h = subst (λ o. IsPermutation (unwrap_or o []) (rows lists)) (sym (untold hits db h.0)) (subst (λ l. IsPermutation [] (rows l)) (sym h.1) (IsPermutation-refl []))

-- what the tables that were read mean is what the base holds
pub found_content : (db : Database) (found : Found) → IsFound db found → content_in db ≡ content (tables found.tables)
found_content db found h =
    let v = told coverage_schema db _ h.coverage_schema in
    let m = told meta db _ h.meta in
    let f = told file db _ h.file in
    let c = told context db _ h.context in
    let l = told line_bits db _ h.line_bits in
    let a = told arc db _ h.arc in
    let t = there tracer db h.tracer in
    let n = counts db found.has_hits _ h.hits in
    let held : Tables = record { coverage_schema = v.0; meta = m.0; file = f.0; context = c.0; line_bits = l.0; arc = a.0; hits = unwrap_or (fields_in hits db) [] } in
    let is : tables_in db ≡ Some held = (λ i. tables_with (v.1 i) (m.1 i) (f.1 i) (c.1 i) (l.1 i) (a.1 i) (t.1 i) (fields_in hits db)) in
    let same : ArePermuted held (tables found.tables) = record { coverage_schema = v.2; meta = m.2; file = f.2; context = c.2; line_bits = l.2; arc = a.2; hits = n } in
    ap content_if is ∙ content-permuted held (tables found.tables) same

-- ---- a table that is missing

abbrev Rows : Type 0
Rows = Option (List Row)

pub no_version : (m f c l a t h : Rows) → tables_with None m f c l a t h ≡ None
no_version m f c l a t h = refl

pub no_meta : (v f c l a t h : Rows) → tables_with v None f c l a t h ≡ None
no_meta None f c l a t h = refl
no_meta (Some v) f c l a t h = refl

pub no_file : (v m c l a t h : Rows) → tables_with v m None c l a t h ≡ None
no_file None m c l a t h = refl
no_file (Some v) None c l a t h = refl
no_file (Some v) (Some m) c l a t h = refl

pub no_context : (v m f l a t h : Rows) → tables_with v m f None l a t h ≡ None
no_context None m f l a t h = refl
no_context (Some v) None f l a t h = refl
no_context (Some v) (Some m) None l a t h = refl
no_context (Some v) (Some m) (Some f) l a t h = refl

pub no_line_bits : (v m f c a t h : Rows) → tables_with v m f c None a t h ≡ None
no_line_bits None m f c a t h = refl
no_line_bits (Some v) None f c a t h = refl
no_line_bits (Some v) (Some m) None c a t h = refl
no_line_bits (Some v) (Some m) (Some f) None a t h = refl
no_line_bits (Some v) (Some m) (Some f) (Some c) a t h = refl

pub no_arc : (v m f c l t h : Rows) → tables_with v m f c l None t h ≡ None
no_arc None m f c l t h = refl
no_arc (Some v) None f c l t h = refl
no_arc (Some v) (Some m) None c l t h = refl
no_arc (Some v) (Some m) (Some f) None l t h = refl
no_arc (Some v) (Some m) (Some f) (Some c) None t h = refl
no_arc (Some v) (Some m) (Some f) (Some c) (Some l) t h = refl

pub no_tracer : (v m f c l a h : Rows) → tables_with v m f c l a None h ≡ None
no_tracer None m f c l a h = refl
no_tracer (Some v) None f c l a h = refl
no_tracer (Some v) (Some m) None c l a h = refl
no_tracer (Some v) (Some m) (Some f) None l a h = refl
no_tracer (Some v) (Some m) (Some f) (Some c) None a h = refl
no_tracer (Some v) (Some m) (Some f) (Some c) (Some l) None h = refl
no_tracer (Some v) (Some m) (Some f) (Some c) (Some l) (Some a) h = refl

module _ (db : Database) where
  abbrev rows_of : Shape → Rows
  rows_of t = fields_in t db

  pub lacks_coverage_schema : rows_in coverage_schema db ≡ None → tables_in db ≡ None
  lacks_coverage_schema none = ap (λ o. tables_with o (rows_of meta) (rows_of file) (rows_of context) (rows_of line_bits) (rows_of arc) (rows_of tracer) (rows_of hits)) (untold coverage_schema db none) ∙ no_version (rows_of meta) (rows_of file) (rows_of context) (rows_of line_bits) (rows_of arc) (rows_of tracer) (rows_of hits)

  pub lacks_meta : rows_in meta db ≡ None → tables_in db ≡ None
  lacks_meta none = ap (λ o. tables_with (rows_of coverage_schema) o (rows_of file) (rows_of context) (rows_of line_bits) (rows_of arc) (rows_of tracer) (rows_of hits)) (untold meta db none) ∙ no_meta (rows_of coverage_schema) (rows_of file) (rows_of context) (rows_of line_bits) (rows_of arc) (rows_of tracer) (rows_of hits)

  pub lacks_file : rows_in file db ≡ None → tables_in db ≡ None
  lacks_file none = ap (λ o. tables_with (rows_of coverage_schema) (rows_of meta) o (rows_of context) (rows_of line_bits) (rows_of arc) (rows_of tracer) (rows_of hits)) (untold file db none) ∙ no_file (rows_of coverage_schema) (rows_of meta) (rows_of context) (rows_of line_bits) (rows_of arc) (rows_of tracer) (rows_of hits)

  pub lacks_context : rows_in context db ≡ None → tables_in db ≡ None
  lacks_context none = ap (λ o. tables_with (rows_of coverage_schema) (rows_of meta) (rows_of file) o (rows_of line_bits) (rows_of arc) (rows_of tracer) (rows_of hits)) (untold context db none) ∙ no_context (rows_of coverage_schema) (rows_of meta) (rows_of file) (rows_of line_bits) (rows_of arc) (rows_of tracer) (rows_of hits)

  pub lacks_line_bits : rows_in line_bits db ≡ None → tables_in db ≡ None
  lacks_line_bits none = ap (λ o. tables_with (rows_of coverage_schema) (rows_of meta) (rows_of file) (rows_of context) o (rows_of arc) (rows_of tracer) (rows_of hits)) (untold line_bits db none) ∙ no_line_bits (rows_of coverage_schema) (rows_of meta) (rows_of file) (rows_of context) (rows_of arc) (rows_of tracer) (rows_of hits)

  pub lacks_arc : rows_in arc db ≡ None → tables_in db ≡ None
  lacks_arc none = ap (λ o. tables_with (rows_of coverage_schema) (rows_of meta) (rows_of file) (rows_of context) (rows_of line_bits) o (rows_of tracer) (rows_of hits)) (untold arc db none) ∙ no_arc (rows_of coverage_schema) (rows_of meta) (rows_of file) (rows_of context) (rows_of line_bits) (rows_of tracer) (rows_of hits)

  pub lacks_tracer : rows_in tracer db ≡ None → tables_in db ≡ None
  lacks_tracer none = ap (λ o. tables_with (rows_of coverage_schema) (rows_of meta) (rows_of file) (rows_of context) (rows_of line_bits) (rows_of arc) o (rows_of hits)) (untold tracer db none) ∙ no_tracer (rows_of coverage_schema) (rows_of meta) (rows_of file) (rows_of context) (rows_of line_bits) (rows_of arc) (rows_of hits)
