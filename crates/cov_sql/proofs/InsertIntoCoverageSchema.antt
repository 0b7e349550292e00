-- What a row that is inserted into `coverage_schema` does to the base, whatever else it has.
use Rattle.std.proofs.Common.{◌≡◌, ◌≢◌, ℕ, ℤ, List, [], ◌∷◌, map, codes, slice_get, Some, Ok, Err, Result, OnOk, IsTrue, refl, sym, ap, subst, ◌∙◌}
use Rattle.std.specs.List.{AllByRecursion}
use Rattle.std.proofs.lemmas.List.Sorted.{IsPermutation-map}
use Rattle.sqlite_value.specs.Order.{Row, column}
use Rattle.sqlite_tied.specs.Compute.{everything}
use Rattle.sqlite.specs.declared.types.Value.TheVariants.{Null, Int}
use Rattle.sqlite.specs.Term.{Term, lit, col}
use Rattle.sqlite.specs.Table.{Table}
use Rattle.sqlite.specs.Source.TheVariants.{Values}
use Rattle.sqlite.specs.Command.TheVariants.{Insert}
use Rattle.sqlite.specs.Edit.{edit_of}
use Rattle.sqlite.specs.Rowids.TheVariants.{Chosen}
use Rattle.sqlite.specs.Does.{Tally}
use Rattle.sqlite.specs.Rows.{Written}
use Rattle.sqlite.specs.Tree.{Trees}
use Rattle.sqlite_trees.specs.Tree.{put_row}
use Rattle.sqlite_rules.specs.Edit.{next_rowid, is_taken, put_all}
use Rattle.sqlite_schema.specs.declared.schema.Keys.TheVariants.{Enforced}
use Rattle.sqlite_rules.proofs.ActionLemmas.{no_works}
use Rattle.sqlite_schema.specs.Names.{table_named}
use Rattle.sqlite.specs.Listing.{understood}
use Rattle.sqlite.specs.Effect.{Database}
use Rattle.sqlite.specs.State.{State, HasCleanDisk, Executes}
use Rattle.sqlite.proofs.Callers.{IsPlain, command_of, runs_as, one_step}
use Rattle.cov_sql.specs.declared.statements.StatementError.{StatementError}
use Rattle.cov_sql.proofs.Shows.{understood_as}
use Rattle.cov_sql.proofs.Inserts.{IsInsert, insert_is}
use Rattle.cov_sql.proofs.Adds.{cast_null, cast_int, went, same_value, Adds, free, put_new, put_integers}
use Rattle.cov_sql.specs.Tables.{table_in}
use Rattle.cov_sql.specs.Tables as tables
use Rattle.cov_sql.proofs.DeleteTexts.{same_table}
use Rattle.cov_sql.specs.Written.{HasInteger, IsDeclared, IsAdded, Inserts, Ran}
use Rattle.cov_sql.specs.Declarations.{declared_coverage_schema}

abbrev the_text : List ℕ
the_text = codes "INSERT INTO coverage_schema (version) VALUES (?1)"

abbrev terms : List Term
terms = lit Null ∷ col 0 0 ∷ []

pub inserts : IsInsert the_text (codes "coverage_schema") declared_coverage_schema 1 (Values terms 2)
unfolding everything
inserts = record {
  parsed = _;
  columns = _;
  rows = _;
  reads = refl;
  is = refl;
  names = refl;
  no_formats = refl;
  few = refl;
  unstamped = λ tree. refl;
  gives = λ schema tree. refl;
}

module _ (version : ℤ) where
  abbrev values : Row
  values = Int version ∷ []

  -- the row as it is stored
  abbrev stored : List Row → Row
  stored rows = Int (next_rowid rows) ∷ Int version ∷ []

  module _ (old new : State) (at tree : ℕ) (named : table_named old.now.schema (codes "coverage_schema") ≡ Some at) (is : slice_get old.now.schema.tables at ≡ Some (declared_coverage_schema tree)) where
    adds : (changed : ℕ) → Executes the_text values old new (Ok changed) → Adds old.now new.now tree (stored (old.now.trees tree))
    adds changed h =
        let schema = old.now.schema in
        let db = old.now.trees in
        let command = Insert at (Values terms 2) in
        let read = understood_as schema the_text _ (insert_is schema the_text (codes "coverage_schema") declared_coverage_schema 1 (Values terms 2) inserts at tree named is) refl in
        let bare : IsPlain (understood schema the_text) = rw read (refl, refl) in
        let w = runs_as the_text values old new schema refl command (ap command_of read) bare changed h in
        let done = went (rw is at w.changed) in
        let now = ap (λ (p : Tally × Database). p.1) (same_value (went (went done.2).2).2) in
        let given = went done.1 in
        let written = went (went given.2).2 in
        let counted = went written.2 in
        let trees : done.0.trees ≡ written.0 = ap (λ (it : Written). it.trees) (same_value counted.2) ∙ same_value counted.1 in
        let edit = edit_of db (declared_coverage_schema tree) [] Chosen 0 given.0 in
        let applied = one_step schema Enforced db written.0 edit (no_works schema Enforced 0 tree edit.news) written.1 in
        let news : edit.news ≡ stored (db tree) ∷ [] = ap (λ all. (edit_of db (declared_coverage_schema tree) [] Chosen 0 all).news) given.1.1 ∙ rw (cast_null, cast_int version) refl in
        let after : new.now.trees ≡ written.0 = ap (λ (d : Database). d.trees) now ∙ trees in
        let fresh = rw news at applied.fresh in
        record {
          schema = ap (λ (d : Database). d.schema) now;
          rows = ap (λ (t : Trees). t tree) after ∙ applied.rows ∙ ap (put_all (db tree)) news;
          is_new = free (is_taken (db tree) (stored (db tree))) fresh;
          others = subst (λ (t : Trees). AllByRecursion (λ u. u.tree ≢ tree → t u.tree ≡ db u.tree) schema.tables) (sym after) applied.tables;
        }

  -- one more row, and the table is there as before
  one_more : (old new : Database) (at tree : ℕ) → table_named old.schema (codes "coverage_schema") ≡ Some at → slice_get old.schema.tables at ≡ Some (declared_coverage_schema tree) → Adds old new tree (stored (old.trees tree)) → IsAdded tables.coverage_schema values old new
  unfolding everything
  one_more old new at tree named is h =
      let show : Row → Row = λ r. map (column r) (1 ∷ []) in
      let row = stored (old.trees tree) in
      let there : table_in old.schema (codes "coverage_schema") ≡ Some (declared_coverage_schema tree) = rw (named, is) refl in
      record {
        schema = h.schema;
        before = map show (old.trees tree);
        after = map show (put_row row (old.trees tree));
        was = rw (named, is) refl;
        is = rw (h.schema, named, is, h.rows) refl;
        more = IsPermutation-map show (row ∷ old.trees tree) (put_row row (old.trees tree)) (put_new row (old.trees tree) h.is_new);
        rowids = λ u found each. let same : declared_coverage_schema tree ≡ u = same_table (declared_coverage_schema tree) u (sym there ∙ found) in
            subst (λ (x : Table). AllByRecursion HasInteger (old.trees x.tree) → AllByRecursion HasInteger (new.trees x.tree)) same
            (λ here. subst (AllByRecursion HasInteger) (sym h.rows) (put_integers row (old.trees tree) (next_rowid (old.trees tree), refl) here)) each;
        others = λ u found. let same : declared_coverage_schema tree ≡ u = same_table (declared_coverage_schema tree) u (sym there ∙ found) in
            subst (λ (x : Table). AllByRecursion (λ v. v.tree ≢ x.tree → new.trees v.tree ≡ old.trees v.tree) old.schema.tables) same h.others;
      }

  added : (old new : State) (r : Result (Unit {0}) StatementError) → OnOk r (Ran the_text values old new) → IsDeclared tables.coverage_schema declared_coverage_schema old.now → OnOk r (IsAdded tables.coverage_schema values old.now new.now)
  added old new (Ok v) h (at, tree, named, is) = one_more old.now new.now at tree named is (adds old new at tree named is h.0 h.1)
  added old new (Err e) h declared = tt

  -- a statement that runs the text with these values adds the row
  pub inserts_coverage_schema : (old new : State) (r : Result (Unit {0}) StatementError) (given : Row) → (HasCleanDisk new → IsTrue old.in_transaction → OnOk r (Ran the_text given old new)) → given ≡ values
      → Inserts tables.coverage_schema declared_coverage_schema values old new r
  inserts_coverage_schema old new r given ran are clean inside = added old new r (subst (λ row. OnOk r (Ran the_text row old new)) are (ran clean inside))
