-- What one statement does to the rows of all tables.
use Rattle.std.proofs.Common.{◌≡◌, ◌≢◌, ◌⊎◌, inl, inr, ℕ, zero, suc, true, false, List, [], ◌∷◌, map, slice_get, Some, refl, sym, ap, subst, ◌∙◌}
use Rattle.std.specs.List.{AllByRecursion}
use Rattle.std.specs.Option.{unwrap_or}
use Rattle.std.specs.List.Sorted.{IsPermutation}
use Rattle.std.proofs.lemmas.Bool.Decides.{eqb_tells}
use Rattle.std.proofs.lemmas.Option.{same_Some}
use Rattle.std.proofs.lemmas.List.Sorted.{IsPermutation-refl, IsPermutation-trans, IsPermutation-cons}
use Rattle.sqlite_value.specs.Order.{Row, column}
use Rattle.sqlite_tied.specs.Compute.{everything}
use Rattle.sqlite_schema.specs.Names.{table_named}
use Rattle.sqlite_schema.specs.declared.schema.Schema.{Schema}
use Rattle.sqlite_schema.specs.declared.schema.Table.{Table}
use Rattle.sqlite.specs.Effect.{Database}
use Rattle.cov_sql.specs.declared.tables.Table.{Table as Name}
use Rattle.cov_sql.specs.declared.tables.Table.TheVariants as name
use Rattle.cov_sql.specs.Tables.{Shape, table_in, places_in, rows_in}
use Rattle.cov_sql.specs.Written.{HasInteger, IsFree, IsEmptied, IsAdded, IsDeclared}
use Rattle.cov_sql.specs.ByName.{shape_of, declared_as}
use Rattle.cov_sql.specs.Holding.{number_of, same_table, Rows, with_rows, without, IsThere, Stands, HoldsOf, Holds, IsReplaceable}

-- ---- the tables by number

abbrev pub all_names : List Name
all_names = name.CoverageSchema ∷ name.Meta ∷ name.File ∷ name.Context ∷ name.LineBits ∷ name.Arc ∷ name.Tracer ∷ name.Hits ∷ []

pub named_by : ℕ → Name
named_by k = unwrap_or (slice_get all_names k) name.Hits

pub back : (n : Name) → named_by (number_of n) ≡ n
unfolding named_by
back name.CoverageSchema = refl
back name.Meta = refl
back name.File = refl
back name.Context = refl
back name.LineBits = refl
back name.Arc = refl
back name.Tracer = refl
back name.Hits = refl

abbrev pub Told : Name → Name → Type 0
Told m n = ((same_table m n ≡ true) × (m ≡ n)) ⊎ ((same_table m n ≡ false) × (m ≢ n))

told_by : (m n : Name) → ((same_table m n ≡ true) × (number_of m ≡ number_of n)) ⊎ ((same_table m n ≡ false) × (number_of m ≢ number_of n)) → Told m n
told_by m n (inl (is, same)) = inl (is, sym (back m) ∙ ap named_by same ∙ back n)
told_by m n (inr (is, other)) = inr (is, λ same. other (ap number_of same))

pub tells : (m n : Name) → Told m n
tells m n = told_by m n (eqb_tells (number_of m) (number_of n))

-- ---- where the rows of a table are

abbrev pub places_of : Name → List ℕ
places_of name.CoverageSchema = 1 ∷ []
places_of name.Meta = 1 ∷ 2 ∷ []
places_of name.File = 0 ∷ 2 ∷ []
places_of name.Context = 0 ∷ 2 ∷ []
places_of name.LineBits = 1 ∷ 2 ∷ 3 ∷ []
places_of name.Arc = 1 ∷ 2 ∷ 3 ∷ 4 ∷ []
places_of name.Tracer = 0 ∷ 2 ∷ []
places_of name.Hits = 1 ∷ 2 ∷ 3 ∷ 4 ∷ 5 ∷ []

pub placed : (n : Name) (k : ℕ) → places_in (declared_as n k) (shape_of n).columns ≡ Some (places_of n)
unfolding everything
placed name.CoverageSchema k = refl
placed name.Meta k = refl
placed name.File k = refl
placed name.Context k = refl
placed name.LineBits k = refl
placed name.Arc k = refl
placed name.Tracer k = refl
placed name.Hits k = refl

pub tree_is : (n : Name) (k : ℕ) → (declared_as n k).tree ≡ k
tree_is name.CoverageSchema k = refl
tree_is name.Meta k = refl
tree_is name.File k = refl
tree_is name.Context k = refl
tree_is name.LineBits k = refl
tree_is name.Arc k = refl
tree_is name.Tracer k = refl
tree_is name.Hits k = refl

abbrev pub shown_by : Name → List Row → List Row
shown_by n rows = map (λ r. map (column r) (places_of n)) rows

rows_given : (t : Shape) (db : Database) (at : ℕ) (u : Table) (ps : List ℕ) → table_named db.schema t.name ≡ Some at → slice_get db.schema.tables at ≡ Some u → places_in u t.columns ≡ Some ps
    → rows_in t db ≡ Some (map (λ r. map (column r) ps) (db.trees u.tree))
rows_given t db at u ps named is places = rw (named, is, places) refl

pub rows_at : (n : Name) (k : ℕ) (db : Database) → IsThere n k db.schema → rows_in (shape_of n) db ≡ Some (shown_by n (db.trees k))
rows_at n k db t = rows_given (shape_of n) db t.at (declared_as n k) (places_of n) t.named t.is (placed n k) ∙ ap (λ j. Some (shown_by n (db.trees j))) (tree_is n k)

pub found : (n : Name) (k : ℕ) (schema : Schema) → IsThere n k schema → table_in schema (shape_of n).name ≡ Some (declared_as n k)
found n k schema t = rw (t.named, t.is) refl

-- the rows that the tables have
abbrev pub rows_of : (db : Database) → Stands db.schema → Rows
rows_of db s n = shown_by n (db.trees (s.tree n))

pub holds_all : (db : Database) (r : IsReplaceable db) → Holds db (rows_of db r.stands)
holds_all db r = record { base = r; each = λ n. record { all = _; shown = rows_at n (r.stands.tree n) db (r.stands.there n); same = IsPermutation-refl _ } }

pub is_declared : (n : Name) (db : Database) → Stands db.schema → IsDeclared (shape_of n) (declared_as n) db
is_declared n db s = let t = s.there n in (t.at, s.tree n, t.named, t.is)

-- ---- the other tables

pub at_each : {X : Type 0} (P : X → Type 0) (xs : List X) (k : ℕ) (x : X) → AllByRecursion P xs → slice_get xs k ≡ Some x → P x
at_each P [] k x each is = absurd cc
at_each P (y ∷ ys) zero x each is = subst P (same_Some y x is) each.0
at_each P (y ∷ ys) (suc k) x each is = at_each P ys k x each.1 is

abbrev Others : Name → Database → Database → Type 0
Others n old new = (u : Table) → table_in old.schema (shape_of n).name ≡ Some u → AllByRecursion (λ v. v.tree ≢ u.tree → new.trees v.tree ≡ old.trees v.tree) old.schema.tables

module _ (n : Name) (old new : Database) (s : Stands old.schema) (others : Others n old new) where
  tree_kept : (m : Name) → m ≢ n → new.trees (s.tree m) ≡ old.trees (s.tree m)
  tree_kept m other =
      let kept = at_each (λ v. v.tree ≢ (declared_as n (s.tree n)).tree → new.trees v.tree ≡ old.trees v.tree) old.schema.tables (s.there m).at (declared_as m (s.tree m))
      (others (declared_as n (s.tree n)) (found n (s.tree n) old.schema (s.there n))) (s.there m).is in
      let same = kept (λ e. other (s.apart m n (sym (tree_is m (s.tree m)) ∙ e ∙ tree_is n (s.tree n)))) in
      subst (λ k. new.trees k ≡ old.trees k) (tree_is m (s.tree m)) same

  kept : (is : new.schema ≡ old.schema) (m : Name) → m ≢ n → (rows : List Row) → HoldsOf m old rows → HoldsOf m new rows
  kept is m other rows h =
      let there = s.there m in
      let now : rows_in (shape_of m) new ≡ Some (shown_by m (new.trees (s.tree m))) = rows_at m (s.tree m) new (subst (IsThere m (s.tree m)) (sym is) there) in
      record {
        all = h.all;
        shown = now ∙ ap (λ rs. Some (shown_by m rs)) (tree_kept m other) ∙ sym (rows_at m (s.tree m) old there) ∙ h.shown;
        same = h.same;
      }

-- ---- a base of the same schema

abbrev stands_as : (old new : Database) → new.schema ≡ old.schema → (s : Stands old.schema) → Stands new.schema
stands_as old new is s = record { tree = s.tree; there = λ m. subst (IsThere m (s.tree m)) (sym is) (s.there m); apart = s.apart }

replaceable_as : (old new : Database) → new.schema ≡ old.schema → (r : IsReplaceable old) → ((m : Name) → AllByRecursion HasInteger (new.trees (r.stands.tree m))) → IsReplaceable new
replaceable_as old new is r rowids = record { stands = stands_as old new is r.stands; acts = λ m. rw is (r.acts m); rowids = rowids }

-- ---- a row more

module _ (n : Name) (row : Row) (old new : Database) (r : IsReplaceable old) (a : IsAdded (shape_of n) row old new) where
  abbrev tree : ℕ
  tree = r.stands.tree n

  integers_here : AllByRecursion HasInteger (new.trees tree)
  integers_here =
      let was : AllByRecursion HasInteger (old.trees (declared_as n tree).tree) = subst (λ k. AllByRecursion HasInteger (old.trees k)) (sym (tree_is n tree)) (r.rowids n) in
      subst (λ k. AllByRecursion HasInteger (new.trees k)) (tree_is n tree) (a.rowids (declared_as n tree) (found n tree old.schema (r.stands.there n)) was)

  integers : (m : Name) → AllByRecursion HasInteger (new.trees (r.stands.tree m))
  integers m = by (tells m n)
    where
      by : Told m n → AllByRecursion HasInteger (new.trees (r.stands.tree m))
      by (inl (is, same)) = subst (λ k. AllByRecursion HasInteger (new.trees (r.stands.tree k))) (sym same) integers_here
      by (inr (is, other)) = subst (AllByRecursion HasInteger) (sym (tree_kept n old new r.stands a.others m other)) (r.rowids m)

  replaceable_more : IsReplaceable new
  replaceable_more = replaceable_as old new a.schema r integers

pub added : (n : Name) (row : Row) (old new : Database) (rows : Rows) → Holds old rows → IsAdded (shape_of n) row old new → Holds new (with_rows n (row ∷ []) rows)
added n row old new rows h a = record { base = replaceable_more n row old new h.base a; each = λ m. by m (tells m n) }
  where
    here : HoldsOf n new (row ∷ rows n)
    here =
        let had : (h.each n).all ≡ a.before = same_Some _ _ (sym (h.each n).shown ∙ a.was) in
        let same : IsPermutation (rows n) a.before = subst (IsPermutation (rows n)) had (h.each n).same in
        record { all = a.after; shown = a.is; same = IsPermutation-trans (row ∷ rows n) (row ∷ a.before) a.after (IsPermutation-cons row (rows n) a.before same) a.more }

    by : (m : Name) → Told m n → HoldsOf m new (with_rows n (row ∷ []) rows m)
    by m (inl (is, same)) = rw is (subst (λ k. HoldsOf k new (row ∷ rows k)) (sym same) here)
    by m (inr (is, other)) = rw is (kept n old new h.base.stands a.others a.schema m other (rows m) (h.each m))

-- ---- a table emptied

no_row : {X Y : Type 0} (f : X → Y) (xs : List X) → map f xs ≡ [] → xs ≡ []
no_row f [] is = refl
no_row f (x ∷ xs) is = absurd cc

module _ (n : Name) (old new : Database) (s : Stands old.schema) (e : IsEmptied (shape_of n) old new) where
  tree_emptied : new.trees (s.tree n) ≡ []
  tree_emptied =
      let none = e.rows _ (rows_at n (s.tree n) old (s.there n)) in
      let now = rows_at n (s.tree n) new (subst (IsThere n (s.tree n)) (sym e.schema) (s.there n)) in
      no_row _ (new.trees (s.tree n)) (same_Some _ _ (sym now ∙ none))

  rowids_then : (m : Name) → AllByRecursion HasInteger (old.trees (s.tree m)) → AllByRecursion HasInteger (new.trees (s.tree m))
  rowids_then m each = by (tells m n)
    where
      by : Told m n → AllByRecursion HasInteger (new.trees (s.tree m))
      by (inl (is, same)) = rw (same, tree_emptied) tt
      by (inr (is, other)) = rw (tree_kept n old new s e.others m other) each

pub replaceable_then : (n : Name) (old new : Database) → IsReplaceable old → IsEmptied (shape_of n) old new → IsReplaceable new
replaceable_then n old new r e = replaceable_as old new e.schema r (λ m. rowids_then n old new r.stands e m (r.rowids m))

pub emptied : (n : Name) (old new : Database) → IsEmptied (shape_of n) old new → (rows : Rows) → Holds old rows → Holds new (without n rows)
emptied n old new e rows h = record { base = replaceable_then n old new h.base e; each = λ m. by m (tells m n) }
  where
    by : (m : Name) → Told m n → HoldsOf m new (without n rows m)
    by m (inl (is, same)) = rw is (subst (λ k. HoldsOf k new []) (sym same) (record { all = []; shown = e.rows _ (rows_at n (h.base.stands.tree n) old (h.base.stands.there n)); same = IsPermutation-refl [] }))
    by m (inr (is, other)) = rw is (kept n old new h.base.stands e.others e.schema m other (rows m) (h.each m))

pub is_free : (n : Name) (db : Database) → IsReplaceable db → IsFree (shape_of n) db
is_free n db r = let k = r.stands.tree n in record {
  table = declared_as n k;
  there = found n k db.schema (r.stands.there n);
  acts = rw (tree_is n k) (r.acts n);
  rowids = rw (tree_is n k) (r.rowids n);
}
