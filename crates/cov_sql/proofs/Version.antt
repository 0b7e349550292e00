-- A base of schema 7 has the row of its version, and no other.
use Rattle.std.proofs.Common.{◌≡◌, ◌⊎◌, inl, inr, codes, ℕ, pos, Bool, true, false, cond, List, [], ◌∷◌, map, Some, None, Option, refl, sym, ap, subst, ◌∙◌}
use Rattle.std.specs.List.{AllByRecursion}
use Rattle.std.specs.List.Sorted.{IsPermutation}
use Rattle.std.specs.declared.cmp.Ordering.{Ordering}
use Rattle.std.specs.declared.cmp.Ordering.TheVariants.{Less, Equal, Greater}
use Rattle.std.specs.Ordering.{is_eq, int_cmp}
use Rattle.std.proofs.lemmas.Map.Lookups.{exact_signed}
use Rattle.std.proofs.lemmas.Option.{same_Some}
use Rattle.std.proofs.lemmas.List.Sorted.{IsPermutation-sym}
use Rattle.std.specs.Str.{is_utf8}
use Rattle.sqlite_value.specs.Order.{Row, column}
use Rattle.sqlite_value.specs.declared.value.Value.{Value}
use Rattle.sqlite_value.specs.declared.value.Value.TheVariants as value
use Rattle.sqlite_trees.proofs.ListLemmas.{all-permutation}
use Rattle.sqlite.specs.Effect.{Database}
use Rattle.cov_tables.specs.declared.cells.RowCells.{RowCells}
use Rattle.cov_tables.specs.Fields.{rows, whole_at, whole_in, text, other}
use Rattle.cov_tables.specs.Joins.{is_whole}
use Rattle.cov_tables.specs.Content.{is_schema_7}
use Rattle.sqlite_schema.specs.Names.{table_named, column_named, place_of}
use Rattle.sqlite_schema.specs.declared.schema.Table.{Table}
use Rattle.cov_sql.specs.declared.preparing.Start.TheVariants as start
use Rattle.cov_sql.specs.Making.{LacksCounts, HoldsVersion, IsReady}
use Rattle.cov_sql.specs.Tables.{coverage_schema, rows_in, table_in}
use Rattle.cov_sql.specs.Cells.{AreRowsIn}
use Rattle.cov_sql.specs.Content.{field_of, AreCounts}
use Rattle.cov_sql.specs.declared.tables.Table.TheVariants as name
use Rattle.cov_sql.specs.Holding.{Stands, IsReplaceable}
use Rattle.cov_sql.proofs.Found.{either}
use Rattle.cov_sql.proofs.CellFields.{lists_rows}
use Rattle.cov_sql.proofs.Holding.{rows_at}

abbrev version : Row
version = value.Int (pos 7) ∷ []

abbrev IsOne : Row → Type 0
IsOne r = (v : Value) × (r ≡ v ∷ [])

is_equal : (o : Ordering) → is_eq o ≡ true → o ≡ Equal
is_equal Less h = absurd cc
is_equal Equal h = refl
is_equal Greater h = absurd cc

no_whole : (b : Bool) (t : List ℕ) → is_whole (pos 7) (whole_in (cond b (text t) other)) ≡ true → ⊥
no_whole true t h = cc
no_whole false t h = cc

seven : (v : Value) → is_whole (pos 7) (whole_in (field_of v)) ≡ true → v ≡ value.Int (pos 7)
seven value.Null h = absurd cc
seven (value.Int n) h = ap value.Int (sym (exact_signed (pos 7) n (is_equal (int_cmp (pos 7) n) h)))
seven (value.Real x) h = absurd cc
seven (value.Text t) h = absurd (no_whole (is_utf8 t) t h)
seven (value.Blob b) h = absurd cc

only : (shown : List Row) → is_schema_7 (map (map field_of) shown) ≡ true → AllByRecursion IsOne shown → shown ≡ version ∷ []
only [] h each = absurd cc
only (r ∷ []) h each = by each.0.0 each.0.1
  where
    by : (v : Value) → r ≡ v ∷ [] → r ∷ [] ≡ version ∷ []
    by v is = ap (λ q. q ∷ []) (is ∙ ap (λ w. w ∷ []) (seven v (subst (λ q. is_whole (pos 7) (whole_at (map field_of q) 0) ≡ true) is h)))
only (r ∷ s ∷ rs) h each = absurd cc

each_one : (p : ℕ) (xs : List Row) → AllByRecursion IsOne (map (λ r. map (column r) (p ∷ [])) xs)
each_one p [] = tt
each_one p (x ∷ xs) = ((column x p, refl), each_one p xs)

-- the table has one column
one_column : (db : Database) (all : List Row) → rows_in coverage_schema db ≡ Some all → AllByRecursion IsOne all
one_column db all is = by (either (table_in db.schema coverage_schema.name))
  where
    on_table : (u : Table) → table_in db.schema coverage_schema.name ≡ Some u → ((k : ℕ) × (column_named u (codes "version") ≡ Some k)) ⊎ (column_named u (codes "version") ≡ None) → AllByRecursion IsOne all
    on_table u there (inl (k, named)) =
        let are : Some (map (λ r. map (column r) (place_of u k ∷ [])) (db.trees u.tree)) ≡ Some all = rw (there, named) at is in
        subst (AllByRecursion IsOne) (same_Some _ all are) (each_one (place_of u k) (db.trees u.tree))
    on_table u there (inr none) = absurd (let no : ◌≡◌ {A = Option (List Row)} None (Some all) = rw (there, none) at is in cc)

    by : ((u : Table) × (table_in db.schema coverage_schema.name ≡ Some u)) ⊎ (table_in db.schema coverage_schema.name ≡ None) → AllByRecursion IsOne all
    by (inl (u, there)) = on_table u there (either (column_named u (codes "version")))
    by (inr none) = absurd (let no : ◌≡◌ {A = Option (List Row)} None (Some all) = rw none at is in cc)

version_row : (db : Database) → (lists : List RowCells) → AreRowsIn coverage_schema db lists → is_schema_7 (rows lists) ≡ true → HoldsVersion db
version_row db lists h is =
    let shown_one = all-permutation IsOne h.0 h.1 h.3 (one_column db h.0 h.2) in
    let is_version = only h.1 (ap is_schema_7 (lists_rows h.1 lists h.4) ∙ is) shown_one in
    record { all = h.0; shown = h.2; same = IsPermutation-sym h.0 (version ∷ []) (subst (IsPermutation h.0) is_version h.3) }

-- where all tables stand, that of counts is there
has_counts : (db : Database) → Stands db.schema → (lists : List RowCells) → AreCounts db false lists → ⊥
has_counts db s lists h = (let both : ◌≡◌ {A = Option (List Row)} (Some _) None = sym (rows_at name.Hits (s.tree name.Hits) db (s.there name.Hits)) ∙ h.0 in cc)

-- and where there is none, it has no rows
no_counts : (db : Database) → table_named db.schema (codes "hits") ≡ None → (lists : List RowCells) → AreCounts db true lists → ⊥
no_counts db none lists h = (let both : ◌≡◌ {A = Option (List Row)} None (Some h.0) = rw none at h.2 in cc)

-- a base of schema 7 that was read is ready
pub is_ready : (db : Database) (b : Bool) (counts lists : List RowCells) → AreCounts db b counts → AreRowsIn coverage_schema db lists → is_schema_7 (rows lists) ≡ true → IsReplaceable db ⊎ LacksCounts db → IsReady (start.Tables b) db
is_ready db true counts lists h v is (inl rep) = (rep, version_row db lists v is)
is_ready db true counts lists h v is (inr lacks) = absurd (no_counts db lacks.none counts h)
is_ready db false counts lists h v is (inl rep) = absurd (has_counts db rep.stands counts h)
is_ready db false counts lists h v is (inr lacks) = (lacks, version_row db lists v is)
