-- What is there once tables were made.
--     each_left, each_mapped     of lists
--     made_there, stays_there    the table that was made; one that was there
--     stays_named, tree_stays    a table keeps its place and its rows
--     stays_columns              and its columns
--     Silent, silent_works, works_silent      no work comes of the foreign keys of a schema
--     silent_made, silent_kept   nor of those of one with a table more
--     spared_made                a name is spared as before
use Rattle.std.proofs.Common.{◌≡◌, ◌≢◌, ◌⊎◌, inl, inr, ℕ, zero, suc, ◌+◌, ◌==◌, arith, eqb, cond, List, [], ◌∷◌, ◌++◌, find, slice_get, Bool, true, false, Option, Some, None, option_map, option_and_then, refl, sym, ap, subst, ◌∙◌}
use Rattle.std.specs.List.{AllByRecursion, position_from, flat_map, filter_map, cons_option}
use Rattle.std.proofs.lemmas.Bool.Decides.{eqb_tells}
use Rattle.std.proofs.lemmas.Option.{same_Some}
use Rattle.sqlite_value.specs.Order.{Row}
use Rattle.sqlite_value.specs.declared.keys.Order.{Order}
use Rattle.sqlite_tied.specs.Compute.{everything}
use Rattle.sqlite_schema.specs.Names.{same_name, table_named}
use Rattle.sqlite_schema.specs.Rules.{ParentKey, key_in, key_places, declared_order}
use Rattle.sqlite_schema.specs.declared.schema.Keys.TheVariants.{Enforced}
use Rattle.sqlite_schema.specs.declared.schema.Reference.{Reference}
use Rattle.sqlite_schema.specs.declared.schema.Schema.{Schema}
use Rattle.sqlite_schema.specs.declared.schema.Table.{Table}
use Rattle.sqlite_rules.specs.declared.action.Deed.{Deed}
use Rattle.sqlite_rules.specs.Action.{work_by, work_for, pairs, deed_for}
use Rattle.sqlite.specs.Effect.{Database}
use Rattle.cov_sql.specs.declared.tables.Table.{Table as Name}
use Rattle.cov_sql.specs.declared.tables.Table.TheVariants as name
use Rattle.cov_sql.specs.ByName.{shape_of, declared_as}
use Rattle.cov_sql.specs.Written.{NothingActs, IsMade}
use Rattle.cov_sql.specs.Holding.{IsThere}
use Rattle.cov_sql.specs.Making.{Spares, HasColumns}
use Rattle.cov_sql.proofs.Holding.{at_each, tree_is}

-- ---- lists

pub each_left : {X : Type 0} (P : X → Type 0) (xs ys : List X) → AllByRecursion P (xs ++ ys) → AllByRecursion P xs
each_left P [] ys all = tt
each_left P (x ∷ xs) ys all = (all.0, each_left P xs ys all.1)

each_joined : {X : Type 0} (P : X → Type 0) (xs ys : List X) → AllByRecursion P xs → AllByRecursion P ys → AllByRecursion P (xs ++ ys)
each_joined P [] ys one two = two
each_joined P (x ∷ xs) ys one two = (one.0, each_joined P xs ys one.1 two)

pub each_mapped : {X : Type 0} (P Q : X → Type 0) → ((x : X) → P x → Q x) → (xs : List X) → AllByRecursion P xs → AllByRecursion Q xs
each_mapped P Q f [] all = tt
each_mapped P Q f (x ∷ xs) all = (f x all.0, each_mapped P Q f xs all.1)

each_at_all : {X Y : Type 0} (P : Y → X → Type 0) (xs : List X) → ((y : Y) → AllByRecursion (P y) xs) → AllByRecursion (λ x. (y : Y) → P y x) xs
each_at_all P [] all = tt
each_at_all P (x ∷ xs) all = (λ y. (all y).0, each_at_all P xs (λ y. (all y).1))

still_at : {X : Type 0} (xs ys : List X) (k : ℕ) (x : X) → slice_get xs k ≡ Some x → slice_get (xs ++ ys) k ≡ Some x
still_at [] ys k x is = absurd cc
still_at (y ∷ xs) ys zero x is = is
still_at (y ∷ xs) ys (suc k) x is = still_at xs ys k x is

still_named : {X : Type 0} (test : X → Bool) (k : ℕ) (xs ys : List X) (at : ℕ) → position_from test k xs ≡ Some at → position_from test k (xs ++ ys) ≡ Some at
still_named test k [] ys at is = absurd cc
still_named test k (x ∷ xs) ys at is = by (test x) (still_named test (k + 1) xs ys at) is
  where
    by : (b : Bool) → (position_from test (k + 1) xs ≡ Some at → position_from test (k + 1) (xs ++ ys) ≡ Some at) → cond b (Some k) (position_from test (k + 1) xs) ≡ Some at
        → cond b (Some k) (position_from test (k + 1) (xs ++ ys)) ≡ Some at
    by true later h = h
    by false later h = later h

abbrev Place : {X : Type 0} → (X → Bool) → ℕ → List X → X → Type 0
Place test k all y = (at : ℕ) × (j : ℕ) × (at ≡ k + j) × (position_from test k all ≡ Some at) × (slice_get all j ≡ Some y)

new_place : {X : Type 0} (test : X → Bool) (k : ℕ) (xs ys : List X) (y : X) → position_from test k xs ≡ None → test y ≡ true → Place test k (xs ++ y ∷ ys) y
new_place test k [] ys y none passes = (k, 0, omega arith, rw passes refl, refl)
new_place {X} test k (x ∷ xs) ys y none passes = by (test x) refl none (λ rest. new_place test (k + 1) xs ys y rest passes)
  where
    by : (b : Bool) → test x ≡ b → cond b (Some k) (position_from test (k + 1) xs) ≡ None → (position_from test (k + 1) xs ≡ None → Place test (k + 1) (xs ++ y ∷ ys) y) → Place test k (x ∷ (xs ++ y ∷ ys)) y
    by true is h later = absurd cc
    by false is h later = let r = later h in (r.0, suc r.1, omega (arith, r.2), rw is r.3, r.4)

found_has : {X : Type 0} (test : X → Bool) (Q : X → Type 0) (xs : List X) (v : X) → AllByRecursion Q xs → find test xs ≡ Some v → (test v ≡ true) × Q v
found_has test Q [] v all is = absurd cc
found_has {X} test Q (x ∷ xs) v all is = by (test x) refl is (found_has test Q xs v all.1)
  where
    by : (b : Bool) → test x ≡ b → cond b (Some x) (find test xs) ≡ Some v → (find test xs ≡ Some v → (test v ≡ true) × Q v) → (test v ≡ true) × Q v
    by true passes h later = let same : x ≡ v = same_Some x v h in (subst (λ y. test y ≡ true) same passes, subst Q same all.0)
    by false fails h later = later h

found_first : {X : Type 0} (test : X → Bool) (xs ys : List X) (v : X) → find test xs ≡ Some v → find test (xs ++ ys) ≡ Some v
found_first test [] ys v is = absurd cc
found_first test (x ∷ xs) ys v is = by (test x) (found_first test xs ys v) is
  where
    by : (b : Bool) → (find test xs ≡ Some v → find test (xs ++ ys) ≡ Some v) → cond b (Some x) (find test xs) ≡ Some v → cond b (Some x) (find test (xs ++ ys)) ≡ Some v
    by true later h = h
    by false later h = later h

found_later : {X : Type 0} (test : X → Bool) (xs ys : List X) → find test xs ≡ None → find test (xs ++ ys) ≡ find test ys
found_later test [] ys none = refl
found_later test (x ∷ xs) ys none = by (test x) (found_later test xs ys) none
  where
    by : (b : Bool) → (find test xs ≡ None → find test (xs ++ ys) ≡ find test ys) → cond b (Some x) (find test xs) ≡ None → cond b (Some x) (find test (xs ++ ys)) ≡ find test ys
    by true later h = absurd cc
    by false later h = later h

filtered_none : {X Y : Type 0} (f : X → Option Y) (xs : List X) → AllByRecursion (λ x. f x ≡ None) xs → filter_map f xs ≡ []
filtered_none f [] all = refl
filtered_none f (x ∷ xs) all = rw all.0 (filtered_none f xs all.1)

none_filtered : {X Y : Type 0} (f : X → Option Y) (xs : List X) → filter_map f xs ≡ [] → AllByRecursion (λ x. f x ≡ None) xs
none_filtered f [] is = tt
none_filtered {X} {Y} f (x ∷ xs) is = by (f x) refl is (none_filtered f xs)
  where
    by : (o : Option Y) → f x ≡ o → cons_option o (filter_map f xs) ≡ [] → (filter_map f xs ≡ [] → AllByRecursion (λ y. f y ≡ None) xs) → (f x ≡ None) × AllByRecursion (λ y. f y ≡ None) xs
    by (Some y) same h later = absurd cc
    by None same h later = (same, later h)

flat_none : {X Y : Type 0} (f : X → List Y) (xs : List X) → AllByRecursion (λ x. f x ≡ []) xs → flat_map f xs ≡ []
flat_none f [] all = refl
flat_none f (x ∷ xs) all = rw all.0 (flat_none f xs all.1)

none_flat : {X Y : Type 0} (f : X → List Y) (xs : List X) → flat_map f xs ≡ [] → AllByRecursion (λ x. f x ≡ []) xs
none_flat f [] is = tt
none_flat {X} {Y} f (x ∷ xs) is = by (f x) refl is (none_flat f xs)
  where
    by : (ys : List Y) → f x ≡ ys → ys ++ flat_map f xs ≡ [] → (flat_map f xs ≡ [] → AllByRecursion (λ y. f y ≡ []) xs) → (f x ≡ []) × AllByRecursion (λ y. f y ≡ []) xs
    by [] same h later = (same, later h)
    by (y ∷ ys) same h later = absurd cc

-- ---- a table that was made

pub name_is : (n : Name) (k : ℕ) → (declared_as n k).name ≡ (shape_of n).name
name_is name.CoverageSchema k = refl
name_is name.Meta k = refl
name_is name.File k = refl
name_is name.Context k = refl
name_is name.LineBits k = refl
name_is name.Arc k = refl
name_is name.Tracer k = refl
name_is name.Hits k = refl

has_name : (n : Name) (k : ℕ) → same_name (declared_as n k).name (shape_of n).name ≡ true
unfolding everything
has_name name.CoverageSchema k = refl
has_name name.Meta k = refl
has_name name.File k = refl
has_name name.Context k = refl
has_name name.LineBits k = refl
has_name name.Arc k = refl
has_name name.Tracer k = refl
has_name name.Hits k = refl

abbrev Made : Name → Database → Database → Type 0
Made n = IsMade (shape_of n) (declared_as n)

module _ (n : Name) (old new : Database) (m : Made n old new) where
  abbrev pub fresh : List Table
  fresh = declared_as n m.tree ∷ m.more

  pub made_there : IsThere n m.tree new.schema
  made_there =
      let test : Table → Bool = λ t. same_name t.name (shape_of n).name in
      let r = new_place test 0 old.schema.tables m.more (declared_as n m.tree) m.free (has_name n m.tree) in
      let at_is : r.0 ≡ r.1 = omega (arith, r.2) in
      record {
        at = r.0;
        named = ap (position_from test 0) m.tables ∙ r.3;
        is = ap (λ ts. slice_get ts r.0) m.tables ∙ ap (slice_get (old.schema.tables ++ fresh)) at_is ∙ r.4;
      }

  pub stays_named : (named : List ℕ) (at : ℕ) → table_named old.schema named ≡ Some at → table_named new.schema named ≡ Some at
  stays_named named at is = let test : Table → Bool = λ t. same_name t.name named in ap (position_from test 0) m.tables ∙ still_named test 0 old.schema.tables fresh at is

  stays_at : (at : ℕ) (u : Table) → slice_get old.schema.tables at ≡ Some u → slice_get new.schema.tables at ≡ Some u
  stays_at at u is = ap (λ ts. slice_get ts at) m.tables ∙ still_at old.schema.tables fresh at u is

  pub stays_there : (k : Name) (tree : ℕ) → IsThere k tree old.schema → IsThere k tree new.schema
  stays_there k tree t = record { at = t.at; named = stays_named (shape_of k).name t.at t.named; is = stays_at t.at (declared_as k tree) t.is }

  pub tree_stays : (k : Name) (tree : ℕ) → IsThere k tree old.schema → new.trees tree ≡ old.trees tree
  tree_stays k tree t = subst (λ j. new.trees j ≡ old.trees j) (tree_is k tree) (at_each (λ u. new.trees u.tree ≡ old.trees u.tree) old.schema.tables t.at (declared_as k tree) m.others t.is)

  -- none of the new ones has the tree of a table that was there
  pub others_apart : (k : Name) (tree : ℕ) → IsThere k tree old.schema → AllByRecursion (λ v. v.tree ≢ tree) fresh
  others_apart k tree t = subst (λ j. AllByRecursion (λ v. v.tree ≢ j) fresh) (tree_is k tree) (at_each (λ u. AllByRecursion (λ v. v.tree ≢ u.tree) fresh) old.schema.tables t.at (declared_as k tree) m.apart t.is)

  pub made_apart : (k : Name) (tree : ℕ) → IsThere k tree old.schema → m.tree ≢ tree
  made_apart k tree t same = (others_apart k tree t).0 (tree_is n m.tree ∙ same)

  pub made_fresh : AllByRecursion (λ u. u.tree ≢ m.tree) old.schema.tables
  made_fresh = each_mapped (λ u. AllByRecursion (λ v. v.tree ≢ u.tree) fresh) (λ u. u.tree ≢ m.tree) (λ u apart same. apart.0 (tree_is n m.tree ∙ sym same)) old.schema.tables m.apart

  pub stays_columns : (k : Name) → HasColumns k old.schema → HasColumns k new.schema
  stays_columns k h = by (table_named old.schema (shape_of k).name) refl h.there
    where
      by : (o : Option ℕ) → table_named old.schema (shape_of k).name ≡ o → option_and_then (slice_get old.schema.tables) o ≡ Some h.table → HasColumns k new.schema
      by None named is = absurd (let no = is in cc)
      by (Some at) named is = record { table = h.table; places = h.places; there = rw (stays_named (shape_of k).name at named, stays_at at h.table is) refl; are = h.are }

-- ---- the works of foreign keys

module _ (tree : ℕ) where
  abbrev Quiet : Schema → Table → Reference → Type 0
  Quiet schema child ref = (olds : List Row) → work_for schema Enforced 0 tree olds [] child ref ≡ None

  abbrev pub Silent : Schema → Type 0
  Silent schema = AllByRecursion (λ child. AllByRecursion (Quiet schema child) child.references) schema.tables

  pub silent_works : (schema : Schema) → Silent schema → NothingActs schema tree
  silent_works schema silent olds =
      flat_none (λ child. filter_map (work_for schema Enforced 0 tree olds [] child) child.references) schema.tables
      (each_mapped (λ child. AllByRecursion (Quiet schema child) child.references) (λ child. filter_map (work_for schema Enforced 0 tree olds [] child) child.references ≡ [])
      (λ child quiet. filtered_none (work_for schema Enforced 0 tree olds [] child) child.references
      (each_mapped (Quiet schema child) (λ ref. work_for schema Enforced 0 tree olds [] child ref ≡ None) (λ ref h. h olds) child.references quiet)) schema.tables silent)

  pub works_silent : (schema : Schema) → NothingActs schema tree → Silent schema
  works_silent schema nothing =
      each_mapped (λ child. (olds : List Row) → filter_map (work_for schema Enforced 0 tree olds [] child) child.references ≡ []) (λ child. AllByRecursion (Quiet schema child) child.references)
      (λ child h. each_at_all (λ olds ref. work_for schema Enforced 0 tree olds [] child ref ≡ None) child.references (λ olds. none_filtered (work_for schema Enforced 0 tree olds [] child) child.references (h olds))) schema.tables
      (each_at_all (λ olds child. filter_map (work_for schema Enforced 0 tree olds [] child) child.references ≡ []) schema.tables
      (λ olds. none_flat (λ child. filter_map (work_for schema Enforced 0 tree olds [] child) child.references) schema.tables (nothing olds)))

  no_key : (moves : List (Row × Row)) (child : Table) (ref : Reference) (deed : Option Deed) → work_by 0 tree moves child ref deed None ≡ None
  no_key moves child ref None = refl
  no_key moves child ref (Some deed) = refl

  no_deed : (moves : List (Row × Row)) (child : Table) (ref : Reference) (key : Option ParentKey) → work_by 0 tree moves child ref None key ≡ None
  no_deed moves child ref None = refl
  no_deed moves child ref (Some key) = refl

  other_key : (moves : List (Row × Row)) (child : Table) (ref : Reference) (deed : Option Deed) (key : ParentKey) → (key.0 == tree) ≡ false → work_by 0 tree moves child ref deed (Some key) ≡ None
  other_key moves child ref None key other = refl
  other_key moves child ref (Some deed) key other = rw other refl

  abbrev KeyOf : Table → List (List ℕ) → Option ParentKey
  KeyOf v columns = option_and_then (key_in v) (key_places v columns)

  key_tree : (v : Table) (columns : List (List ℕ)) (key : ParentKey) → KeyOf v columns ≡ Some key → key.0 ≡ v.tree
  key_tree v columns key is = by (key_places v columns) is
    where
      at : (places : List ℕ) (o : Option Order) → option_map (λ o. (v.tree, places, o)) o ≡ Some key → key.0 ≡ v.tree
      at places None h = absurd cc
      at places (Some o) h = sym (ap (λ (k : ParentKey). k.0) (same_Some (v.tree, places, o) key h))

      by : (o : Option (List ℕ)) → option_and_then (key_in v) o ≡ Some key → key.0 ≡ v.tree
      by None h = absurd cc
      by (Some places) h = at places (declared_order v places) h

  -- a key of a table with another tree sets off nothing
  other_table : (moves : List (Row × Row)) (child : Table) (ref : Reference) (deed : Option Deed) (v : Table) → v.tree ≢ tree → work_by 0 tree moves child ref deed (KeyOf v ref.parent_columns) ≡ None
  other_table moves child ref deed v apart = by (KeyOf v ref.parent_columns) refl
    where
      by : (o : Option ParentKey) → KeyOf v ref.parent_columns ≡ o → work_by 0 tree moves child ref deed o ≡ None
      by None is = no_key moves child ref deed
      by (Some key) is = told (eqb_tells key.0 tree)
        where
          told : ((eqb key.0 tree ≡ true) × (key.0 ≡ tree)) ⊎ ((eqb key.0 tree ≡ false) × (key.0 ≢ tree)) → work_by 0 tree moves child ref deed (Some key) ≡ None
          told (inl (is_so, same)) = absurd (apart (sym (key_tree v ref.parent_columns key is) ∙ same))
          told (inr (is_not, other)) = other_key moves child ref deed key is_not

  abbrev By : Reference → Table → Bool
  By ref t = same_name t.name ref.parent

  -- what a reference sets off, by the table that it finds
  work_found : (schema : Schema) (child : Table) (ref : Reference) (o : Option Table) → find (By ref) schema.tables ≡ o → (olds : List Row)
      → work_for schema Enforced 0 tree olds [] child ref ≡ work_by 0 tree (pairs olds []) child ref (deed_for Enforced true ref) (option_and_then (λ t. KeyOf t ref.parent_columns) o)
  work_found schema child ref o is olds = ap (λ f. work_by 0 tree (pairs olds []) child ref (deed_for Enforced true ref) (option_and_then (λ t. KeyOf t ref.parent_columns) f)) is

  quiet_by : (schema : Schema) (child : Table) (ref : Reference) → ((v : Table) → find (By ref) schema.tables ≡ Some v → (v.tree ≢ tree) ⊎ (deed_for Enforced true ref ≡ None)) → Quiet schema child ref
  quiet_by schema child ref each olds = by (find (By ref) schema.tables) refl
    where
      by : (o : Option Table) → find (By ref) schema.tables ≡ o → work_for schema Enforced 0 tree olds [] child ref ≡ None
      by None is = work_found schema child ref None is olds ∙ no_key (pairs olds []) child ref (deed_for Enforced true ref)
      by (Some v) is = work_found schema child ref (Some v) is olds ∙ told (each v is)
        where
          told : (v.tree ≢ tree) ⊎ (deed_for Enforced true ref ≡ None) → work_by 0 tree (pairs olds []) child ref (deed_for Enforced true ref) (KeyOf v ref.parent_columns) ≡ None
          told (inl apart) = other_table (pairs olds []) child ref (deed_for Enforced true ref) v apart
          told (inr none) = rw none (no_deed (pairs olds []) child ref (KeyOf v ref.parent_columns))

-- references of the tables themselves do nothing
own_idle : (n : Name) (k : ℕ) → AllByRecursion (λ r. deed_for Enforced true r ≡ None) (declared_as n k).references
own_idle name.CoverageSchema k = tt
own_idle name.Meta k = tt
own_idle name.File k = tt
own_idle name.Context k = tt
own_idle name.LineBits k = (refl, (refl, tt))
own_idle name.Arc k = (refl, (refl, tt))
own_idle name.Tracer k = (refl, tt)
own_idle name.Hits k = tt

-- only one of this name has the tree
abbrev Own : Name → ℕ → Table → Type 0
Own n tree u = u.tree ≡ tree → u.name ≡ (shape_of n).name

module _ (n : Name) (old new : Database) (m : Made n old new) where
  abbrev Each : (Table → Reference → Type 0) → Table → Type 0
  Each P u = AllByRecursion (P u) u.references

  -- of the references of all tables, from those that were there
  all_tables : (P : Table → Reference → Type 0) → AllByRecursion (Each P) old.schema.tables → Each P (declared_as n m.tree) → AllByRecursion (Each P) new.schema.tables
  all_tables P before own =
      subst (AllByRecursion (Each P)) (sym m.tables)
      (each_joined (Each P) old.schema.tables (declared_as n m.tree ∷ m.more) before
      (own, each_mapped (λ u. u.references ≡ []) (Each P) (λ u bare. subst (AllByRecursion (P u)) (sym bare) tt) m.more m.bare))

  pub spared_made : (named : List ℕ) → Spares old.schema named → Spares new.schema named
  spared_made named spares =
      all_tables (λ u r. same_name named r.parent ≡ true → deed_for Enforced true r ≡ None) spares
      (each_mapped (λ r. deed_for Enforced true r ≡ None) (λ r. same_name named r.parent ≡ true → deed_for Enforced true r ≡ None) (λ r none _. none) (declared_as n m.tree).references (own_idle n m.tree))

  -- nothing acts on a table as before, whose tree none of the new ones has
  pub silent_kept : (tree : ℕ) → AllByRecursion (λ v. v.tree ≢ tree) (declared_as n m.tree ∷ m.more) → Silent tree old.schema → Silent tree new.schema
  silent_kept tree apart silent =
      all_tables (Quiet tree new.schema)
      (each_mapped (Each (Quiet tree old.schema)) (Each (Quiet tree new.schema))
      (λ child quiet. each_mapped (Quiet tree old.schema child) (Quiet tree new.schema child) (kept child) child.references quiet) old.schema.tables silent)
      (each_mapped (λ r. deed_for Enforced true r ≡ None) (Quiet tree new.schema (declared_as n m.tree)) (λ r none. quiet_by tree new.schema (declared_as n m.tree) r (λ v found. inr none)) (declared_as n m.tree).references (own_idle n m.tree))
    where
      kept : (child : Table) (r : Reference) → Quiet tree old.schema child r → Quiet tree new.schema child r
      kept child r quiet olds = by (find (By tree r) old.schema.tables) refl
        where
          all : find (By tree r) new.schema.tables ≡ find (By tree r) (old.schema.tables ++ (declared_as n m.tree ∷ m.more))
          all = ap (find (By tree r)) m.tables

          by : (o : Option Table) → find (By tree r) old.schema.tables ≡ o → work_for new.schema Enforced 0 tree olds [] child r ≡ None
          by (Some v) is =
              work_found tree new.schema child r (Some v) (all ∙ found_first (By tree r) old.schema.tables _ v is) olds ∙ sym (work_found tree old.schema child r (Some v) is olds) ∙ quiet olds
          by None is =
              quiet_by tree new.schema child r (λ v found. inl (found_has (By tree r) (λ u. u.tree ≢ tree) (declared_as n m.tree ∷ m.more) v apart
              (sym (found_later (By tree r) old.schema.tables _ is) ∙ sym all ∙ found)).1) olds

  -- nor on the one that was made, if its name is spared
  pub silent_made : Spares old.schema (shape_of n).name → Silent m.tree new.schema
  silent_made spares =
      each_mapped (Each (λ u r. same_name (shape_of n).name r.parent ≡ true → deed_for Enforced true r ≡ None)) (Each (Quiet m.tree new.schema))
      (λ child each. each_mapped (λ r. same_name (shape_of n).name r.parent ≡ true → deed_for Enforced true r ≡ None) (Quiet m.tree new.schema child) (quiet child) child.references each) new.schema.tables
      (spared_made (shape_of n).name spares)
    where
      own : AllByRecursion (Own n m.tree) new.schema.tables
      own =
          subst (AllByRecursion (Own n m.tree)) (sym m.tables)
          (each_joined (Own n m.tree) old.schema.tables (declared_as n m.tree ∷ m.more) (each_mapped (λ u. u.tree ≢ m.tree) (Own n m.tree) (λ u other same. absurd (other same)) old.schema.tables (made_fresh n old new m))
          ((λ _. name_is n m.tree), each_mapped (λ u. u.tree ≢ m.tree) (Own n m.tree) (λ u other same. absurd (other same)) m.more m.alone))

      quiet : (child : Table) (r : Reference) → (same_name (shape_of n).name r.parent ≡ true → deed_for Enforced true r ≡ None) → Quiet m.tree new.schema child r
      quiet child r spared = quiet_by m.tree new.schema child r each
        where
          each : (v : Table) → find (By m.tree r) new.schema.tables ≡ Some v → (v.tree ≢ m.tree) ⊎ (deed_for Enforced true r ≡ None)
          each v found = told (eqb_tells v.tree m.tree)
            where
              has : (By m.tree r v ≡ true) × Own n m.tree v
              has = found_has (By m.tree r) (Own n m.tree) new.schema.tables v own found

              told : ((eqb v.tree m.tree ≡ true) × (v.tree ≡ m.tree)) ⊎ ((eqb v.tree m.tree ≡ false) × (v.tree ≢ m.tree)) → (v.tree ≢ m.tree) ⊎ (deed_for Enforced true r ≡ None)
              told (inl (is_so, same)) = inr (spared (subst (λ named. same_name named r.parent ≡ true) (has.1 same) has.0))
              told (inr (is_not, other)) = inl other
