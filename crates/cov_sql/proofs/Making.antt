-- One table made after the other, and a data file without data.
use Rattle.std.proofs.Common.{◌≡◌, ◌≢◌, IsTrue, ◌⊎◌, inl, inr, ℕ, zero, suc, ◌<◌, ◌≤◌, pos, arith, eqb, leb, cond, true, false, List, [], ◌∷◌, ◌++◌, get_or, Some, slice_get, Result, Ok, Err, OnOk, refl, sym, ap, subst, ◌∙◌}
use Rattle.std.specs.List.{AllByRecursion}
use Rattle.std.proofs.lemmas.Bool.Decides.{eqb_tells, leb_tells}
use Rattle.std.proofs.lemmas.List.Sums.{fold-append}
use Rattle.std.specs.List.Sorted.{IsPermutation}
use Rattle.std.proofs.lemmas.List.Sorted.{IsPermutation-refl}
use Rattle.std.proofs.lemmas.Option.{same_Some}
use Rattle.sqlite_value.specs.Order.{Row}
use Rattle.sqlite_value.specs.declared.value.Value.TheVariants.{Int}
use Rattle.sqlite_trees.specs.declared.store.Store.{Ghosts}
use Rattle.sqlite.specs.Effect.{Database}
use Rattle.sqlite.specs.Held.{Held, state}
use Rattle.sqlite.specs.State.{HasCleanDisk, Survives}
use Rattle.cov_sql.specs.declared.statements.StatementError.{StatementError}
use Rattle.cov_sql.specs.declared.tables.Table.{Table as Name}
use Rattle.cov_sql.specs.declared.tables.Table.TheVariants as name
use Rattle.cov_sql.specs.Written.{NothingActs, HasInteger, IsMade, Makes, Inserts, Deletes}
use Rattle.cov_sql.specs.ByName.{shape_of, declared_as}
use Rattle.cov_sql.specs.Works.{Works}
use Rattle.cov_sql.specs.declared.saved.Saved.{Saved}
use Rattle.cov_sql.specs.declared.preparing.Start.{Start}
use Rattle.cov_sql.specs.declared.preparing.Start.TheVariants as start
use Rattle.cov_sql.specs.Holding.{number_of, same_table, Rows, with_rows, without, cleared, cleared_all, IsThere, Stands, HoldsOf, Holds, IsReplaceable, Fills, Empties}
use Rattle.cov_sql.specs.SavedRows.{no_data_rows, with_names, with_data}
use Rattle.cov_sql.specs.Making.{AreMade, Spares, SparesAll, LacksCounts, IsBuilding, Builds, Prepares, Saves}
use Rattle.cov_sql.proofs.Holding.{at_each, rows_at, all_names, named_by, back, tells, tree_is, shown_by, rows_of, holds_all, emptied, replaceable_then, is_free}
use Rattle.cov_sql.proofs.Made.{each_left, fresh, made_there, stays_there, tree_stays, others_apart, made_apart, made_fresh, Silent, silent_works, works_silent, silent_kept, silent_made, spared_made}
use Rattle.cov_sql.proofs.Filling.{holds_as, fills_one}

-- ---- the tables that were made, in their trees

-- a table that was made has no row, and no foreign key acts on it
record Placed (n : Name) (tree : ℕ) (old new : Database) : Type 0 where
  there : IsThere n tree new.schema
  empty : new.trees tree ≡ []
  silent : Silent tree new.schema
  -- its tree is new
  fresh : AllByRecursion (λ u. u.tree ≢ tree) old.schema.tables

placed_now : (n : Name) (old new : Database) (m : IsMade (shape_of n) (declared_as n) old new) → Spares old.schema (shape_of n).name → Placed n m.tree old new
placed_now n old new m spares = record { there = made_there n old new m; empty = m.empty; silent = silent_made n old new m spares; fresh = made_fresh n old new m }

placed_still : (k n : Name) (tree : ℕ) (first mid new : Database) → IsMade (shape_of k) (declared_as k) mid new → Placed n tree first mid → Placed n tree first new
placed_still k n tree first mid new m p = record {
  there = stays_there k mid new m n tree p.there;
  empty = tree_stays k mid new m n tree p.there ∙ p.empty;
  silent = silent_kept k mid new m tree (others_apart k mid new m n tree p.there) p.silent;
  fresh = p.fresh;
}

placed_on : (ns : List Name) (n : Name) (tree : ℕ) (first mid new : Database) → AreMade ns mid new → Placed n tree first mid → Placed n tree first new
placed_on [] n tree first mid new same p = subst (Placed n tree first) same p
placed_on (k ∷ ns) n tree first mid new (next, m, rest) p = placed_on ns n tree first next new rest (placed_still k n tree first mid next m p)

-- each table has its tree
abbrev AreLaid : List Name → List ℕ → Database → Database → Type 0
AreLaid [] [] old new = Unit {0}
AreLaid [] (t ∷ ts) old new = ⊥
AreLaid (n ∷ ns) [] old new = ⊥
AreLaid (n ∷ ns) (t ∷ ts) old new = Placed n t old new × AllByRecursion (λ s. t ≢ s) ts × AreLaid ns ts old new

laid_apart : (ns : List Name) (ts : List ℕ) (n : Name) (tree : ℕ) (mid new : Database) → IsThere n tree mid.schema → AreLaid ns ts mid new → AllByRecursion (λ s. tree ≢ s) ts
laid_apart [] [] n tree mid new there laid = tt
laid_apart [] (t ∷ ts) n tree mid new there laid = absurd laid
laid_apart (k ∷ ns) [] n tree mid new there laid = absurd laid
laid_apart (k ∷ ns) (t ∷ ts) n tree mid new there laid =
    (λ same. at_each (λ u. u.tree ≢ t) mid.schema.tables there.at (declared_as n tree) laid.0.fresh there.is (tree_is n tree ∙ same), laid_apart ns ts n tree mid new there laid.2)

laid_before : (ns : List Name) (ts : List ℕ) (k : Name) (old mid new : Database) → IsMade (shape_of k) (declared_as k) old mid → AreLaid ns ts mid new → AreLaid ns ts old new
laid_before [] [] k old mid new m laid = tt
laid_before [] (t ∷ ts) k old mid new m laid = laid
laid_before (n ∷ ns) [] k old mid new m laid = laid
laid_before (n ∷ ns) (t ∷ ts) k old mid new m laid = (
  record {
    there = laid.0.there;
    empty = laid.0.empty;
    silent = laid.0.silent;
    fresh = each_left (λ u. u.tree ≢ t) old.schema.tables (fresh k old mid m) (subst (AllByRecursion (λ u. u.tree ≢ t)) m.tables laid.0.fresh);
  },
  laid.1,
  laid_before ns ts k old mid new m laid.2,
)

laid_out : (ns : List Name) (old new : Database) → AreMade ns old new → SparesAll old.schema → (ts : List ℕ) × AreLaid ns ts old new
laid_out [] old new same spares = ([], tt)
laid_out (n ∷ ns) old new (mid, m, rest) spares =
    let others = laid_out ns mid new rest (λ k. spared_made n old mid m (shape_of k).name (spares k)) in
    let here = placed_now n old mid m (spares n) in
    (m.tree ∷ others.0, (placed_on ns n m.tree old mid new rest here, laid_apart ns others.0 n m.tree mid new here.there others.1, laid_before ns others.0 n old mid new m others.1))

laid_at : (ns : List Name) (ts : List ℕ) (old new : Database) → AreLaid ns ts old new → (k : ℕ) (n : Name) → slice_get ns k ≡ Some n → Placed n (get_or ts k 0) old new
laid_at [] ts old new laid k n is = absurd cc
laid_at (m ∷ ns) [] old new laid k n is = absurd laid
laid_at (m ∷ ns) (t ∷ ts) old new laid zero n is = subst (λ x. Placed x t old new) (same_Some m n is) laid.0
laid_at (m ∷ ns) (t ∷ ts) old new laid (suc k) n is = laid_at ns ts old new laid.2 k n is

each_number : (P : ℕ → Type 0) (ns : List Name) (ts : List ℕ) (old new : Database) → AreLaid ns ts old new → AllByRecursion P ts → (k : ℕ) (n : Name) → slice_get ns k ≡ Some n → P (get_or ts k 0)
each_number P [] ts old new laid all k n is = absurd cc
each_number P (m ∷ ns) [] old new laid all k n is = absurd laid
each_number P (m ∷ ns) (t ∷ ts) old new laid all zero n is = all.0
each_number P (m ∷ ns) (t ∷ ts) old new laid all (suc k) n is = each_number P ns ts old new laid.2 all.1 k n is

laid_distinct : (ns : List Name) (ts : List ℕ) (old new : Database) → AreLaid ns ts old new → (j k : ℕ) (n : Name) → j < k → slice_get ns k ≡ Some n → get_or ts j 0 ≢ get_or ts k 0
laid_distinct [] ts old new laid j k n less is = absurd cc
laid_distinct (m ∷ ns) [] old new laid j k n less is = absurd laid
laid_distinct (m ∷ ns) (t ∷ ts) old new laid j zero n less is = absurd (omega arith)
laid_distinct (m ∷ ns) (t ∷ ts) old new laid zero (suc k) n less is = each_number (λ s. t ≢ s) ns ts old new laid.2 laid.1 k n is
laid_distinct (m ∷ ns) (t ∷ ts) old new laid (suc j) (suc k) n less is = laid_distinct ns ts old new laid.2 j k n (omega arith) is

pub listed : (n : Name) → slice_get all_names (number_of n) ≡ Some n
listed name.CoverageSchema = refl
listed name.Meta = refl
listed name.File = refl
listed name.Context = refl
listed name.LineBits = refl
listed name.Arc = refl
listed name.Tracer = refl
listed name.Hits = refl

less_or : (a b : ℕ) → a ≢ b → (a < b) ⊎ (b < a)
less_or a b other = by (leb_tells a b)
  where
    by : ((leb a b ≡ true) × (a ≤ b)) ⊎ ((leb a b ≡ false) × (b < a)) → (a < b) ⊎ (b < a)
    by (inr (is_not, more)) = inr more
    by (inl (is_so, less)) = inl (strict (eqb_tells a b))
      where
        strict : ((eqb a b ≡ true) × (a ≡ b)) ⊎ ((eqb a b ≡ false) × (a ≢ b)) → a < b
        strict (inl (is, same)) = absurd (other same)
        strict (inr (is, differs)) = grind (arith, less, differs)

-- ---- all tables, made in a base where no foreign key acts on them

module _ (old new : Database) (made : AreMade all_names old new) (spares : SparesAll old.schema) where
  laid : (ts : List ℕ) × AreLaid all_names ts old new
  laid = laid_out all_names old new made spares

  tree_at : Name → ℕ
  tree_at n = get_or laid.0 (number_of n) 0

  here : (n : Name) → Placed n (tree_at n) old new
  unfolding tree_at
  here n = laid_at all_names laid.0 old new laid.1 (number_of n) n (listed n)

  distinct : (m n : Name) → number_of m < number_of n → tree_at m ≢ tree_at n
  unfolding tree_at
  distinct m n less = laid_distinct all_names laid.0 old new laid.1 (number_of m) (number_of n) n less (listed n)

  apart : (m n : Name) → tree_at m ≡ tree_at n → m ≡ n
  apart m n same = by (tells m n)
    where
      by : ((same_table m n ≡ true) × (m ≡ n)) ⊎ ((same_table m n ≡ false) × (m ≢ n)) → m ≡ n
      by (inl (is, one)) = one
      by (inr (is, other)) = elim (less_or (number_of m) (number_of n) (λ e. other (sym (back m) ∙ ap named_by e ∙ back n))) [
        | inl less ↦ absurd (distinct m n less same)
        | inr more ↦ absurd (distinct n m more (sym same))
      ]

  holds_nothing : Holds new (λ _. [])
  holds_nothing = record {
    base = record {
      stands = record { tree = tree_at; there = λ n. (here n).there; apart = apart };
      acts = λ n. silent_works (tree_at n) new.schema (here n).silent;
      rowids = λ n. subst (AllByRecursion HasInteger) (sym (here n).empty) tt;
    };
    each = λ n. record { all = []; shown = rows_at n (tree_at n) new (here n).there ∙ ap (λ rs. Some (shown_by n rs)) (here n).empty; same = IsPermutation-refl [] };
  }

-- ---- the table of counts beside the others

module _ (old new : Database) (m : IsMade (shape_of name.Hits) (declared_as name.Hits) old new) (lacks : LacksCounts old) where
  tree_with : Name → ℕ
  tree_with n = cond (same_table n name.Hits) m.tree (lacks.tree n)

  at_tree : (P : Name → ℕ → Type 0) → P name.Hits m.tree → ((n : Name) → n ≢ name.Hits → P n (lacks.tree n)) → (n : Name) → P n (tree_with n)
  unfolding tree_with
  at_tree P here others n = by (tells n name.Hits)
    where
      by : ((same_table n name.Hits ≡ true) × (n ≡ name.Hits)) ⊎ ((same_table n name.Hits ≡ false) × (n ≢ name.Hits)) → P n (cond (same_table n name.Hits) m.tree (lacks.tree n))
      by (inl (is, same)) = rw is (subst (λ k. P k m.tree) (sym same) here)
      by (inr (is, other)) = rw is (others n other)

  abbrev stands_with : Stands new.schema
  stands_with = record {
    tree = tree_with;
    there = at_tree (λ n k. IsThere n k new.schema) (made_there name.Hits old new m) (λ n other. stays_there name.Hits old new m n (lacks.tree n) (lacks.there n other));
    apart = at_tree (λ a j. (b : Name) → j ≡ tree_with b → a ≡ b)
        (at_tree (λ b k. m.tree ≡ k → name.Hits ≡ b) (λ _. refl) (λ b other same. absurd (made_apart name.Hits old new m b (lacks.tree b) (lacks.there b other) same)))
        (λ a other. at_tree (λ b k. lacks.tree a ≡ k → a ≡ b) (λ same. absurd (made_apart name.Hits old new m a (lacks.tree a) (lacks.there a other) (sym same))) (λ b another same. lacks.apart a b other another same));
  }

  replaceable_with : IsReplaceable new
  replaceable_with = record {
    stands = stands_with;
    acts = at_tree (λ n k. NothingActs new.schema k) (silent_works m.tree new.schema (silent_made name.Hits old new m lacks.spared))
        (λ n other. silent_works (lacks.tree n) new.schema
        (silent_kept name.Hits old new m (lacks.tree n) (others_apart name.Hits old new m n (lacks.tree n) (lacks.there n other)) (works_silent (lacks.tree n) old.schema (lacks.acts n other))));
    rowids = at_tree (λ n k. AllByRecursion HasInteger (new.trees k)) (subst (AllByRecursion HasInteger) (sym m.empty) tt)
        (λ n other. subst (AllByRecursion HasInteger) (sym (tree_stays name.Hits old new m n (lacks.tree n) (lacks.there n other))) (lacks.rowids n other));
  }

  no_counts : name.CoverageSchema ≢ name.Hits
  no_counts same = cc

  version_kept : (rows : List Row) → HoldsOf name.CoverageSchema old rows → HoldsOf name.CoverageSchema new rows
  version_kept rows h =
      let n = name.CoverageSchema in
      let k = lacks.tree n in
      let was = lacks.there n no_counts in
      record {
        all = h.all;
        shown = rows_at n k new (stays_there name.Hits old new m n k was) ∙ ap (λ rs. Some (shown_by n rs)) (tree_stays name.Hits old new m n k was) ∙ sym (rows_at n k old was) ∙ h.shown;
        same = h.same;
      }

on_ok : {A B : Type 0} {X : Type 0} (r : Result X StatementError) → (A → B) → OnOk r A → OnOk r B
on_ok (Ok x) f a = f a
on_ok (Err e) f a = tt

-- ---- one after the other

made_then : (ns : List Name) (n : Name) (a b c : Database) → AreMade ns a b → IsMade (shape_of n) (declared_as n) b c → AreMade (ns ++ n ∷ []) a c
made_then [] n a b c same m = (c, subst (λ d. IsMade (shape_of n) (declared_as n) d c) (sym same) m, refl)
made_then (k ∷ ns) n a b c (mid, first, rest) m = (mid, first, made_then ns n mid b c rest m)

module _ {S : Type 0} (g : Ghosts S) where
  pub builds_stop : (ns : List Name) (n : Name) (a b : Held S) (e : StatementError) (r : Result (Unit {0}) StatementError) → r ≡ Err e → Makes (shape_of n) (declared_as n) (state g a) (state g b) (Err e) → HasCleanDisk (state g b) → IsTrue (state g a).in_transaction → (c : Database) → IsBuilding ns c (state g b).now r
  builds_stop ns n a b e r is told clean inside c = subst (IsBuilding ns c (state g b).now) (sym is) (record { made = tt; never = (told clean inside).never })

  pub builds_none : (a : Held S) → Builds g [] a a (Ok tt)
  builds_none a clean inside = record { made = refl; never = λ no. absurd (let ok = no in cc) }

  pub builds_next : (ns : List Name) (n : Name) (a b c : Held S) (v : Unit {0}) → Survives (state g b) (state g c) (λ _. ⊥)
      → Works g a b (Ok v) → Builds g ns a b (Ok v) → Makes (shape_of n) (declared_as n) (state g b) (state g c) (Ok tt) → Builds g (ns ++ n ∷ []) a c (Ok tt)
  builds_next ns n a b c v s works one told clean inside =
      let before : HasCleanDisk (state g b) = omega (arith, clean, s.clean) in
      record { made = made_then ns n (state g a).now (state g b).now (state g c).now (one before inside).made (told clean ((works before inside).goes_on)).made; never = λ no. absurd (let ok = no in cc) }

  -- a table that was not made ends the step
  pub builds_end : (ns all : List Name) (n : Name) (a b c : Held S) (v : Unit {0}) (e : StatementError) (r : Result (Unit {0}) StatementError) → r ≡ Err e → Survives (state g b) (state g c) (λ _. ⊥)
      → Works g a b (Ok v) → Makes (shape_of n) (declared_as n) (state g b) (state g c) (Err e) → Builds g all a c r
  builds_end ns all n a b c v e r is s works told clean inside =
      let before : HasCleanDisk (state g b) = omega (arith, clean, s.clean) in
      builds_stop all n b c e r is told clean ((works before inside).goes_on) (state g a).now

abbrev version : Row
version = Int (pos 7) ∷ []

-- only the row of the version is there
only_version : (n : Name) → IsPermutation (no_data_rows n) (with_rows name.CoverageSchema (version ∷ []) (λ _. []) n)
only_version name.CoverageSchema = IsPermutation-refl _
only_version name.Meta = IsPermutation-refl _
only_version name.File = IsPermutation-refl _
only_version name.Context = IsPermutation-refl _
only_version name.LineBits = IsPermutation-refl _
only_version name.Arc = IsPermutation-refl _
only_version name.Tracer = IsPermutation-refl _
only_version name.Hits = IsPermutation-refl _

-- ---- all tables emptied but that of the version

abbrev pub emptied_names : List Name
emptied_names = name.Arc ∷ name.Hits ∷ name.LineBits ∷ name.Tracer ∷ name.File ∷ name.Context ∷ name.Meta ∷ []

left_of : (rows : Rows) (n : Name) → IsPermutation ((version ∷ [])) (rows name.CoverageSchema) → IsPermutation (no_data_rows n) (cleared_all emptied_names rows n)
left_of rows name.CoverageSchema same = same
left_of rows name.Meta same = IsPermutation-refl _
left_of rows name.File same = IsPermutation-refl _
left_of rows name.Context same = IsPermutation-refl _
left_of rows name.LineBits same = IsPermutation-refl _
left_of rows name.Arc same = IsPermutation-refl _
left_of rows name.Tracer same = IsPermutation-refl _
left_of rows name.Hits same = IsPermutation-refl _

module _ {S : Type 0} (g : Ghosts S) where
  -- all tables were made, and none has a row
  pub built : (a b : Held S) (v : Unit {0}) → HasCleanDisk (state g b) → IsTrue (state g a).in_transaction → SparesAll (state g a).now.schema → Builds g all_names a b (Ok v) → Holds (state g b).now (λ _. [])
  built a b v clean inside spares one = holds_nothing (state g a).now (state g b).now (one clean inside).made spares

  pub prepares_new : (a b c : Held S) (v : Unit {0}) (r : Result (Unit {0}) StatementError) → Survives (state g b) (state g c) (λ _. ⊥) → Works g a b (Ok v)
      → Builds g all_names a b (Ok v) → Inserts (shape_of name.CoverageSchema) (declared_as name.CoverageSchema) version (state g b) (state g c) r → Prepares g start.Nothing a c r
  prepares_new a b c v r s works one told clean inside bare =
      let before : HasCleanDisk (state g b) = omega (arith, clean, s.clean) in
      let h = built a b v before inside bare one in
      on_ok r (holds_as (state g c).now _ no_data_rows only_version) (fills_one g name.CoverageSchema version b c r told clean ((works before inside).goes_on) (λ _. []) h)

  pub empties_one : (n : Name) (a b : Held S) (r : Result (Unit {0}) StatementError) → Deletes (shape_of n) (state g a) (state g b) r → Empties g (without n) a b r
  empties_one n a b r told clean inside rep rows h = on_ok r (λ e. (replaceable_then n (state g a).now (state g b).now rep e, emptied n (state g a).now (state g b).now e rows h)) (told clean inside (is_free n (state g a).now rep))

  pub empties_none : (a : Held S) → Empties g (λ rows. rows) a a (Ok tt)
  empties_none a clean inside rep rows h = (rep, h)

  pub no_empty : (change : Rows → Rows) (a b : Held S) (e : StatementError) (r : Result (Unit {0}) StatementError) → r ≡ Err e → Empties g change a b r
  no_empty change a b e r is clean inside rep rows h = rw is tt

  pub empties_next : (ns : List Name) (n : Name) (a b c : Held S) (v : Unit {0}) → Survives (state g b) (state g c) (λ _. ⊥)
      → Works g a b (Ok v) → Empties g (cleared_all ns) a b (Ok v) → Empties g (cleared n) b c (Ok tt) → Empties g (cleared_all (ns ++ n ∷ [])) a c (Ok tt)
  empties_next ns n a b c v s works one two clean inside rep rows h =
      let before : HasCleanDisk (state g b) = omega (arith, clean, s.clean) in
      let so_far = one before inside rep rows h in
      let both = two clean ((works before inside).goes_on) so_far.0 (cleared_all ns rows) so_far.1 in
      (both.0, subst (Holds (state g c).now) (sym (fold-append (λ rs k. cleared k rs) rows ns (n ∷ []))) both.1)

  pub prepares_old : (a b : Held S) (r : Result (Unit {0}) StatementError) → Empties g (cleared_all emptied_names) a b r → Prepares g (start.Tables true) a b r
  prepares_old a b r told clean inside (rep, version_is) =
      let db = (state g a).now in
      let all = rows_of db rep.stands in
      let had = same_Some _ _ (sym (rows_at name.CoverageSchema (rep.stands.tree name.CoverageSchema) db (rep.stands.there name.CoverageSchema)) ∙ version_is.shown) in
      let same : IsPermutation (version ∷ []) (all name.CoverageSchema) = subst (IsPermutation (version ∷ [])) (sym had) version_is.same in
      on_ok r (λ both. holds_as (state g b).now (cleared_all emptied_names all) no_data_rows (λ n. left_of all n same) both.1) (told clean inside rep all (holds_all db rep))

  -- the table of counts is made first
  pub prepares_counted : (a b c : Held S) (v : Unit {0}) (r : Result (Unit {0}) StatementError) → Survives (state g b) (state g c) (λ _. ⊥)
      → Works g a b (Ok v) → Makes (shape_of name.Hits) (declared_as name.Hits) (state g a) (state g b) (Ok v) → Prepares g (start.Tables true) b c r → Prepares g (start.Tables false) a c r
  prepares_counted a b c v r t works made told clean inside (lacks, version_is) =
      let before : HasCleanDisk (state g b) = omega (arith, clean, t.clean) in
      let m = (made before inside).made in
      let old = (state g a).now in
      let new = (state g b).now in
      told clean ((works before inside).goes_on) (replaceable_with old new m lacks, version_kept old new m lacks (version ∷ []) version_is)

  pub no_preparing : (s : Start) (a b : Held S) (e : StatementError) (r : Result (Unit {0}) StatementError) → r ≡ Err e → Prepares g s a b r
  no_preparing s a b e r is clean inside ready = rw is tt

  pub no_saving : (s : Start) (saved : Saved) (a b : Held S) (e : StatementError) (r : Result (Unit {0}) StatementError) → r ≡ Err e → Saves g s saved a b r
  no_saving s saved a b e r is clean inside ready = rw is tt

  pub saves_then : (s : Start) (saved : Saved) (a b c : Held S) (v : Unit {0}) (r : Result (Unit {0}) StatementError) → Survives (state g b) (state g c) (λ _. ⊥)
      → Works g a b (Ok v) → Prepares g s a b (Ok v) → Fills g (λ rows. with_data saved (with_names saved rows)) b c r → Saves g s saved a c r
  saves_then s saved a b c v r t works one two clean inside ready =
      let before : HasCleanDisk (state g b) = omega (arith, clean, t.clean) in
      two clean ((works before inside).goes_on) no_data_rows (one before inside ready)
