-- Where the tables have their columns, or are made, no step of writing lacks one.
use Rattle.std.proofs.Common.{◌≡◌, ◌≢◌, ◌⊎◌, inl, inr, ℕ, zero, suc, arith, Bool, true, false, List, [], ◌∷◌, Some, slice_get, Result, Ok, Err, OnOk, refl, sym, ap, subst}
use Rattle.std.proofs.lemmas.Option.{same_Some}
use Rattle.sqlite_schema.specs.declared.schema.Schema.{Schema}
use Rattle.sqlite_trees.specs.declared.store.Store.{Ghosts}
use Rattle.sqlite.specs.Effect.{Database}
use Rattle.sqlite.specs.Held.{Held, state}
use Rattle.sqlite.specs.State.{HasCleanDisk, Survives}
use Rattle.cov_sql.specs.declared.statements.StatementError.{StatementError}
use Rattle.cov_sql.specs.declared.statements.StatementError.TheVariants.{Missing}
use Rattle.cov_sql.specs.declared.tables.Table.{Table as Name}
use Rattle.cov_sql.specs.declared.tables.Table.TheVariants as name
use Rattle.cov_sql.specs.declared.preparing.Start.{Start}
use Rattle.cov_sql.specs.declared.preparing.Start.TheVariants as start
use Rattle.cov_sql.specs.ByName.{shape_of, declared_as}
use Rattle.cov_sql.specs.Written.{IsMade, Makes}
use Rattle.cov_sql.specs.Works.{WorkEnds, Works, Reaches}
use Rattle.cov_sql.specs.Holding.{number_of, same_table, IsThere}
use Rattle.cov_sql.specs.Making.{AreMade, HasColumns, Fits, Builds, LacksNone, NeverLacks}
use Rattle.cov_sql.specs.Committed.{Judges, begun}
use Rattle.cov_sql.proofs.Holding.{all_names, tells, found, placed, places_of}
use Rattle.cov_sql.proofs.Made.{made_there, stays_columns}
use Rattle.cov_sql.proofs.Making.{listed}
use Rattle.cov_sql.proofs.Never.{CanWrite, lacks_nothing, reaches_readable}

-- a table that is declared has its columns
has_columns : (n : Name) (tree : ℕ) (schema : Schema) → IsThere n tree schema → HasColumns n schema
has_columns n tree schema t = record { table = declared_as n tree; places = places_of n; there = found n tree schema t; are = placed n tree }

stay_columns : (ns : List Name) (n : Name) (old new : Database) → AreMade ns old new → HasColumns n old.schema → HasColumns n new.schema
stay_columns [] n old new same h = subst (λ (d : Database). HasColumns n d.schema) same h
stay_columns (k ∷ ns) n old new (mid, m, rest) h = stay_columns ns n mid new rest (stays_columns k old mid m n h)

made_columns : (ns : List Name) (old new : Database) → AreMade ns old new → (k : ℕ) (n : Name) → slice_get ns k ≡ Some n → HasColumns n new.schema
made_columns [] old new made k n is = absurd cc
made_columns (m ∷ ns) old new (mid, one, rest) zero n is = subst (λ x. HasColumns x new.schema) (same_Some m n is) (stay_columns ns m mid new rest (has_columns m one.tree mid.schema (made_there m old mid one)))
made_columns (m ∷ ns) old new (mid, one, rest) (suc k) n is = made_columns ns mid new rest k n is

-- the table of counts was made beside the others
counted_columns : (old new : Database) → IsMade (shape_of name.Hits) (declared_as name.Hits) old new → Fits (start.Tables false) old.schema → (n : Name) → HasColumns n new.schema
counted_columns old new m fits n = by (tells n name.Hits)
  where
    by : ((same_table n name.Hits ≡ true) × (n ≡ name.Hits)) ⊎ ((same_table n name.Hits ≡ false) × (n ≢ name.Hits)) → HasColumns n new.schema
    by (inl (is, same)) = subst (λ x. HasColumns x new.schema) (sym same) (has_columns name.Hits m.tree new.schema (made_there name.Hits old new m))
    by (inr (is, other)) = stays_columns name.Hits old new m n (fits n other)

module _ {S : Type 0} (g : Ghosts S) where
  on_ok : (a b : Held S) (r : Result (Unit {0}) StatementError) → CanWrite g a → OnOk r (Reaches g a b) → OnOk r (CanWrite g b)
  on_ok a b (Ok v) w reached = reaches_readable g a b reached w
  on_ok a b (Err e) w reached = tt

  -- a step in a base with all tables
  provided : (a b : Held S) (r : Result (Unit {0}) StatementError) → CanWrite g a → WorkEnds g a b r → LacksNone (state g b).now r
  provided a b r w work = record { never = λ lacks. lacks_nothing g a w (work.missing lacks); whole = on_ok a b r w work.reached }

  -- all tables emptied
  pub never_emptying : (a b : Held S) (r : Result (Unit {0}) StatementError) → Works g a b r → NeverLacks g (start.Tables true) a b r
  never_emptying a b r works clean inside fits = provided a b r fits (works clean inside)

  -- the table of counts made, and then
  pub never_counting : (a b c : Held S) (v : Unit {0}) (r : Result (Unit {0}) StatementError) → Survives (state g b) (state g c) (λ _. ⊥)
      → Works g a b (Ok v) → Makes (shape_of name.Hits) (declared_as name.Hits) (state g a) (state g b) (Ok v) → Works g b c r → NeverLacks g (start.Tables false) a c r
  never_counting a b c v r s works made two clean inside fits =
      let before : HasCleanDisk (state g b) = omega (arith, clean, s.clean) in
      provided b c r (counted_columns (state g a).now (state g b).now (made before inside).made fits) (two clean ((works before inside).goes_on))

  pub never_uncounted : (a b : Held S) (e : StatementError) (r : Result (Unit {0}) StatementError) → r ≡ Err e → Makes (shape_of name.Hits) (declared_as name.Hits) (state g a) (state g b) (Err e) → NeverLacks g (start.Tables false) a b r
  never_uncounted a b e r is made clean inside fits = subst (LacksNone (state g b).now) (sym is) (record { never = (made clean inside).never; whole = tt })

  -- a table that was not made
  pub never_unbuilt : (ns : List Name) (a b : Held S) (e : StatementError) (r : Result (Unit {0}) StatementError) → r ≡ Err e → Builds g ns a b (Err e) → NeverLacks g start.Nothing a b r
  never_unbuilt ns a b e r is builds clean inside fits = subst (LacksNone (state g b).now) (sym is) (record { never = (builds clean inside).never; whole = tt })

  -- all tables made, and then
  pub never_new : (a b c : Held S) (v : Unit {0}) (r : Result (Unit {0}) StatementError) → Survives (state g b) (state g c) (λ _. ⊥) → Works g a b (Ok v) → Builds g all_names a b (Ok v) → Works g b c r → NeverLacks g start.Nothing a c r
  never_new a b c v r s works one two clean inside fits =
      let before : HasCleanDisk (state g b) = omega (arith, clean, s.clean) in
      provided b c r (λ n. made_columns all_names (state g a).now (state g b).now (one before inside).made (number_of n) n (listed n)) (two clean ((works before inside).goes_on))

  -- tables without data, and then
  pub never_saving : (s : Start) (a b c : Held S) (v : Unit {0}) (r : Result (Unit {0}) StatementError) → Survives (state g b) (state g c) (λ _. ⊥) → Works g a b (Ok v) → NeverLacks g s a b (Ok v) → Works g b c r → NeverLacks g s a c r
  never_saving s a b c v r t works one two clean inside fits =
      let before : HasCleanDisk (state g b) = omega (arith, clean, t.clean) in
      provided b c r (one before inside fits).whole (two clean ((works before inside).goes_on))

  pub never_as : (s : Start) (a b : Held S) (e : StatementError) (r : Result (Unit {0}) StatementError) → r ≡ Err e → NeverLacks g s a b (Err e) → NeverLacks g s a b r
  never_as s a b e r is h = subst (NeverLacks g s a b) (sym is) h

  -- in a transaction of a base that was judged
  pub never_in_work : {A : Type 0} (fresh : Bool) (s : Start) (a b c : Held S) (e : StatementError) → Judges fresh (state g a) (state g b) (Ok s) → Survives (state g (begun b)) (state g c) (λ _. ⊥) → NeverLacks g s (begun b) c (Err e)
      → HasCleanDisk (state g c) → e ≡ Missing → A
  never_in_work fresh s a b c e judged t never clean is =
      let before : HasCleanDisk (state g b) = omega (arith, clean, t.clean) in
      let j = judged before in
      absurd ((never clean refl (subst (λ (d : Database). Fits s d.schema) (sym j.same.0) j.fits)).never (ap Err is))
