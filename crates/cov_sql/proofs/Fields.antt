-- What a base holds, by the rows of its tables.
--     fields_of          the fields of the rows of all tables
--     content_held       a base that holds rows holds what they mean
--     fields_kept        the fields of what is kept of data
use Rattle.std.proofs.Common.{◌≡◌, ℕ, slice_get, ◌+◌, pos, Bool, true, false, cond, List, [], ◌∷◌, ◌++◌, map, codes, Option, Some, String, string_bytes, option_map, refl, ap, sym, ◌∙◌, append-nil}
use Rattle.std.specs.declared.alloc.Global.{Global}
use Rattle.std.specs.Option.{unwrap_or}
use Rattle.std.specs.Str.{is_utf8, chars}
use Rattle.std.proofs.lemmas.List.Sorted.{IsPermutation-map}
use Rattle.std.proofs.lemmas.Str.{is_utf8-from_IsUtf8, IsUtf8-string_bytes}
use Rattle.sqlite_value.specs.Order as order
use Rattle.sqlite.specs.Effect.{Database}
use Rattle.cov_tables.specs.Fields.{whole, text, other, Row}
use Rattle.cov_tables.specs.Content.{Tables, content}
use Rattle.cov_tables.proofs.Permuted.{ArePermuted, content-permuted}
use Rattle.cov_sql.specs.declared.saved.Saved.{Saved}
use Rattle.cov_sql.specs.declared.saved.SavedRow.{SavedRow}
use Rattle.cov_sql.specs.declared.saved.SavedBits.{SavedBits}
use Rattle.cov_sql.specs.Tables.{Shape, rows_in, coverage_schema, meta, file, context, line_bits, arc, tracer, hits}
use Rattle.cov_sql.specs.Content.{field_of, fields_in, tables_with, tables_in, content_if, content_in}
use Rattle.cov_sql.specs.Holding.{Rows, Holds}
use Rattle.cov_sql.specs.SavedRows.{flag_row, numbered, arc_row, bits_row, hits_row}
use Rattle.cov_sql.specs.SavedData.{saved_rows}
use Rattle.cov_sql.proofs.Holding.{all_names, named_by}
use Rattle.cov_sql.specs.declared.tables.Table.{Table as Name}
use Rattle.cov_sql.proofs.Numbered.{numbered_fields}
use Rattle.cov_sql.proofs.Places.{arc_fields, bits_fields, hits_fields, kept}

abbrev name_at : ℕ → Name
name_at k = unwrap_or (slice_get all_names k) (named_by k)

abbrev fields : List order.Row → List Row
fields rs = map (map field_of) rs

abbrev pub fields_of : Rows → Tables
fields_of rows = record {
  coverage_schema = fields (rows (name_at 0));
  meta = fields (rows (name_at 1));
  file = fields (rows (name_at 2));
  context = fields (rows (name_at 3));
  line_bits = fields (rows (name_at 4));
  arc = fields (rows (name_at 5));
  hits = fields (rows (name_at 7));
}

-- ---- the tables that are there

found : (t : Shape) (db : Database) (all : List order.Row) → rows_in t db ≡ Some all → fields_in t db ≡ Some (fields all)
found t db all is = ap (option_map fields) is

all_found : (xv xm xf xc xl xa xt xh : Option (List Row)) (v m f c l a t h : List Row)
    → xv ≡ Some v → xm ≡ Some m → xf ≡ Some f → xc ≡ Some c → xl ≡ Some l → xa ≡ Some a → xt ≡ Some t → xh ≡ Some h
    → tables_with xv xm xf xc xl xa xt xh ≡ Some (record { coverage_schema = v; meta = m; file = f; context = c; line_bits = l; arc = a; hits = h })
all_found xv xm xf xc xl xa xt xh v m f c l a t h pv pm pf pc pl pa pt ph = λ i. tables_with (pv i) (pm i) (pf i) (pc i) (pl i) (pa i) (pt i) (ph i)

module _ (db : Database) (rows : Rows) (h : Holds db rows) where
  abbrev shown : Rows
  shown n = (h.each n).all

  tables_found : tables_in db ≡ Some (fields_of shown)
  tables_found = all_found _ _ _ _ _ _ _ _ _ _ _ _ _ _ _ _
      (found coverage_schema db (shown (name_at 0)) (h.each (name_at 0)).shown) (found meta db (shown (name_at 1)) (h.each (name_at 1)).shown) (found file db (shown (name_at 2)) (h.each (name_at 2)).shown) (found context db (shown (name_at 3)) (h.each (name_at 3)).shown)
      (found line_bits db (shown (name_at 4)) (h.each (name_at 4)).shown) (found arc db (shown (name_at 5)) (h.each (name_at 5)).shown) (found tracer db (shown (name_at 6)) (h.each (name_at 6)).shown) (found hits db (shown (name_at 7)) (h.each (name_at 7)).shown)

  permuted : ArePermuted (fields_of rows) (fields_of shown)
  permuted = record {
    coverage_schema = IsPermutation-map (map field_of) (rows (name_at 0)) (shown (name_at 0)) (h.each (name_at 0)).same;
    meta = IsPermutation-map (map field_of) (rows (name_at 1)) (shown (name_at 1)) (h.each (name_at 1)).same;
    file = IsPermutation-map (map field_of) (rows (name_at 2)) (shown (name_at 2)) (h.each (name_at 2)).same;
    context = IsPermutation-map (map field_of) (rows (name_at 3)) (shown (name_at 3)) (h.each (name_at 3)).same;
    line_bits = IsPermutation-map (map field_of) (rows (name_at 4)) (shown (name_at 4)) (h.each (name_at 4)).same;
    arc = IsPermutation-map (map field_of) (rows (name_at 5)) (shown (name_at 5)) (h.each (name_at 5)).same;
    hits = IsPermutation-map (map field_of) (rows (name_at 7)) (shown (name_at 7)) (h.each (name_at 7)).same;
  }

  pub content_held : content_in db ≡ content (fields_of rows)
  content_held = ap content_if tables_found ∙ sym (content-permuted (fields_of rows) (fields_of shown) permuted)

-- ---- what is kept of data

field_of_text : (s : String Global) → cond (is_utf8 (string_bytes s)) (text (string_bytes s)) other ≡ text (string_bytes s)
field_of_text s = ap (λ b. cond b (text (string_bytes s)) other) (is_utf8-from_IsUtf8 (string_bytes s) (IsUtf8-string_bytes s))

named_fields : (ss : List (String Global)) (k : ℕ) → fields (numbered k (map string_bytes ss)) ≡ numbered_fields k (map string_bytes ss)
named_fields [] k = refl
named_fields (s ∷ ss) k = λ i. (whole (pos k) ∷ field_of_text s i ∷ []) ∷ named_fields ss (k + 1) i

fields_of_arcs : (rs : List SavedRow) → fields (map arc_row rs) ≡ map arc_fields rs
fields_of_arcs [] = refl
fields_of_arcs (r ∷ rs) = ap (λ xs. arc_fields r ∷ xs) (fields_of_arcs rs)

fields_of_blobs : (bs : List SavedBits) → fields (map bits_row bs) ≡ map bits_fields bs
fields_of_blobs [] = refl
fields_of_blobs (b ∷ bs) = ap (λ xs. bits_fields b ∷ xs) (fields_of_blobs bs)

fields_of_counts : (rs : List SavedRow) → fields (map hits_row rs) ≡ map hits_fields rs
fields_of_counts [] = refl
fields_of_counts (r ∷ rs) = ap (λ xs. hits_fields r ∷ xs) (fields_of_counts rs)

arcs_if : (b : Bool) (rs : List SavedRow) → fields (cond b (map arc_row rs) []) ≡ cond b (map arc_fields rs) []
arcs_if true rs = fields_of_arcs rs
arcs_if false rs = refl

flag : (b : Bool) → fields (flag_row b ∷ []) ≡ (text (codes "has_arcs") ∷ text (cond b (codes "1") (codes "0")) ∷ []) ∷ []
unfolding is_utf8 chars lib.Utf8.encode
flag true = refl
flag false = refl

-- a table to which rows were added while it had none
added : (xs : List order.Row) (fs : List Row) → fields xs ≡ fs → fields (xs ++ []) ≡ fs
added xs fs is = ap fields (append-nil xs) ∙ is

pub fields_kept : (s : Saved) → fields_of (saved_rows s) ≡ kept s.arcs (map string_bytes s.paths.items) (map string_bytes s.contexts.items) s.rows.items s.bits.items
fields_kept s =
    let ps = map string_bytes s.paths.items in
    let cs = map string_bytes s.contexts.items in
    let rs = s.rows.items in
    let bs = s.bits.items in
    λ i. record {
      coverage_schema = (whole (pos 7) ∷ []) ∷ [];
      meta = flag s.arcs i;
      file = added (numbered 1 ps) (numbered_fields 1 ps) (named_fields s.paths.items 1) i;
      context = added (numbered 1 cs) (numbered_fields 1 cs) (named_fields s.contexts.items 1) i;
      line_bits = added (map bits_row bs) (map bits_fields bs) (fields_of_blobs bs) i;
      arc = added (cond s.arcs (map arc_row rs) []) (cond s.arcs (map arc_fields rs) []) (arcs_if s.arcs rs) i;
      hits = added (map hits_row rs) (map hits_fields rs) (fields_of_counts rs) i;
    }
