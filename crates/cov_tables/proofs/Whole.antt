-- The steps of reading a data file, put together.
use Rattle.std.proofs.Common.{◌≡◌, ℕ, suc, zero, ℤ, pos, negsuc, ◌+◌, ◌<◌, Bool, true, false, cond, List, [], ◌∷◌, map, drop, length, get_or, Option, Some, None, refl, ap, sym, ◌∙◌, arith}
use Rattle.std.specs.Prelude.{nat_lt, nat_le, ◌&&◌}
use Rattle.std.specs.List.{fold, flat_map, position_from}
use Rattle.std.proofs.lemmas.Grind.{fold-append}
use Rattle.cov_data.specs.DataSet.{Text, DataSet, with_path}
use Rattle.cov_data.specs.Rows.{RowView, with_row}
use Rattle.cov_tables.specs.declared.entries.Entry.{Entry as Stored}
use Rattle.cov_tables.specs.Fields.{Row}
use Rattle.cov_tables.specs.Entries.{Entry, entry_view, entry_cmp}
use Rattle.cov_tables.specs.Hits.{Spot, counted, only_count, count_of}
use Rattle.cov_tables.specs.Joins.{texts_of, arc_key, bits_key, joined_if, arc_entries, bits_entries}
use Rattle.cov_tables.specs.Order.{in_order}
use Rattle.cov_tables.specs.Content.{is_bad_arc, is_bad_bits, arc_rows, bits_rows, read_entries, paths_only}
use Rattle.cov_tables.proofs.Counting.{drop_at}

-- a row more leaves the kind of data
pub rows_kind : (d : DataSet) (rs : List RowView) → (fold with_row d rs).arcs ≡ d.arcs
rows_kind d [] = refl
rows_kind d (r ∷ rs) = rows_kind (with_row d r) rs

pub paths_kind : (d : DataSet) (ps : List Text) → (fold with_path d ps).arcs ≡ d.arcs
paths_kind d [] = refl
paths_kind d (p ∷ ps) = paths_kind (with_path d p) ps

module _ (bad : Entry → Bool) (rows : Entry → List RowView) (entries : List Stored) (i : ℕ) (x : Stored) (below : i < length entries) (is : x ≡ get_or entries i x) where
  pub left_on : bad (entry_view x) ≡ false → position_from bad (i + 1) (map entry_view (drop (i + 1) entries)) ≡ position_from bad i (map entry_view (drop i entries))
  left_on h = sym (ap (λ es. position_from bad i (map entry_view es)) (drop_at entries i x below is) ∙ ap (λ b. cond b (Some i) (position_from bad (i + 1) (map entry_view (drop (i + 1) entries)))) h)

  pub added_on : (d : DataSet) → fold with_row (fold with_row d (rows (entry_view x))) (flat_map rows (map entry_view (drop (i + 1) entries))) ≡ fold with_row d (flat_map rows (map entry_view (drop i entries)))
  added_on d = sym (fold-append with_row d (rows (entry_view x)) (flat_map rows (map entry_view (drop (i + 1) entries))))
      ∙ ap (λ es. fold with_row d (flat_map rows (map entry_view es))) (sym (drop_at entries i x below is))

counts_some : (n : Option ℤ) → 0 < counted n
counts_some None = omega arith
counts_some (Some (negsuc n)) = omega arith
counts_some (Some (pos zero)) = omega arith
counts_some (Some (pos (suc n))) = elim (nat_lt 0 (suc n) && nat_le (suc n) 4294967295) as (λ b. 0 < cond b (suc n) 1) [ true ↦ omega arith | false ↦ omega arith ]

pub counts_any : (cs : List (Option ℤ)) → 0 < only_count cs
counts_any [] = omega arith
counts_any (c ∷ []) = counts_some c
counts_any (c ∷ d ∷ ds) = omega arith

module _ (files contexts rows hits : List Row) (f g : ℤ → List Text) (k : Spot → ℕ) (fs : (id : ℤ) → f id ≡ texts_of files id) (gs : (id : ℤ) → g id ≡ texts_of contexts id) (ks : (s : Spot) → k s ≡ count_of hits s) (es : List Entry) (d : DataSet) where
  pub arc_whole : es ≡ in_order entry_cmp (flat_map (λ r. joined_if (arc_key r) f g) rows) → d ≡ paths_only true files
      → read_entries is_bad_arc (arc_rows k) es d ≡ read_entries is_bad_arc (arc_rows (count_of hits)) (in_order entry_cmp (arc_entries files contexts rows)) (paths_only true files)
  arc_whole e p =
      let all : es ≡ in_order entry_cmp (arc_entries files contexts rows) = e ∙ (λ j. in_order entry_cmp (flat_map (λ r. joined_if (arc_key r) (λ id. fs id j) (λ id. gs id j)) rows)) in
      λ i. read_entries is_bad_arc (arc_rows (λ s. ks s i)) (all i) (p i)

  pub bits_whole : es ≡ in_order entry_cmp (flat_map (λ r. joined_if (bits_key r) f g) rows) → d ≡ paths_only false files
      → read_entries is_bad_bits (bits_rows k) es d ≡ read_entries is_bad_bits (bits_rows (count_of hits)) (in_order entry_cmp (bits_entries files contexts rows)) (paths_only false files)
  bits_whole e p =
      let all : es ≡ in_order entry_cmp (bits_entries files contexts rows) = e ∙ (λ j. in_order entry_cmp (flat_map (λ r. joined_if (bits_key r) (λ id. fs id j) (λ id. gs id j)) rows)) in
      λ i. read_entries is_bad_bits (bits_rows (λ s. ks s i)) (all i) (p i)
