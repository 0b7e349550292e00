-- A base that has one of the tables is refused where it should have none.
use Rattle.std.proofs.Common.{◌≡◌, ◌⊎◌, inl, inr, ℕ, zero, suc, true, arith, Bool, List, [], ◌∷◌, slice_get, Option, Some, None, Result, Ok, Err, IsErrOf, refl, sym, subst, ◌∙◌}
use Rattle.std.proofs.lemmas.Option.{same_Some}
use Rattle.sqlite_schema.specs.Names.{table_named}
use Rattle.sqlite_trees.specs.declared.store.Store.{Ghosts}
use Rattle.sqlite.specs.Effect.{Database}
use Rattle.sqlite.specs.Held.{Held, state}
use Rattle.sqlite.specs.State.{HasCleanDisk, Survives}
use Rattle.cov_sql.specs.declared.statements.StatementError.{StatementError}
use Rattle.cov_sql.specs.declared.statements.StatementError.TheVariants.{Missing, Refused, NoMemory}
use Rattle.cov_sql.specs.declared.errors.SqlError.{SqlError}
use Rattle.cov_sql.specs.declared.errors.SqlError.TheVariants as sql
use Rattle.cov_sql.specs.declared.tables.Table.{Table as Name}
use Rattle.cov_sql.specs.declared.preparing.Start.{Start}
use Rattle.cov_sql.specs.declared.preparing.Start.TheVariants as start
use Rattle.cov_sql.specs.Refusals.{refusal}
use Rattle.cov_sql.specs.ByName.{shape_of}
use Rattle.cov_sql.specs.Holding.{number_of}
use Rattle.cov_sql.specs.Making.{AreMade, Builds, RefusesIfThere}
use Rattle.cov_sql.specs.Committed.{HasTable, Judges, begun}
use Rattle.cov_sql.proofs.Found.{either}
use Rattle.cov_sql.proofs.Holding.{all_names}
use Rattle.cov_sql.proofs.Made.{stays_named}
use Rattle.cov_sql.proofs.Making.{listed}

two_answers : {A : Type 0} (v : Unit {0}) → (◌≡◌ {A = Result (Unit {0}) StatementError} (Ok v) (Err Refused)) ⊎ (◌≡◌ {A = Result (Unit {0}) StatementError} (Ok v) (Err NoMemory)) → A
two_answers v (inl is) = absurd (let no = is in cc)
two_answers v (inr is) = absurd (let no = is in cc)

refused_or : (e : StatementError) → (IsErrOf {T = Unit {0}} (Err e) Missing → ⊥) → (◌≡◌ {A = Result (Unit {0}) StatementError} (Err e) (Err Refused)) ⊎ (◌≡◌ {A = Result (Unit {0}) StatementError} (Err e) (Err NoMemory))
refused_or Missing never = absurd (never refl)
refused_or Refused never = inl refl
refused_or NoMemory never = inr refl

-- as the whole call answers
pub answered : (e : StatementError) (r : Result (Unit {0}) SqlError) → r ≡ Err (refusal e) → (◌≡◌ {A = Result (Unit {0}) StatementError} (Err e) (Err Refused)) ⊎ (◌≡◌ {A = Result (Unit {0}) StatementError} (Err e) (Err NoMemory))
    → (r ≡ Err sql.Refused) ⊎ (r ≡ Err sql.NoMemory)
answered Missing r is (inl other) = absurd (let same = other in cc)
answered Missing r is (inr other) = absurd (let same = other in cc)
answered Refused r is h = inl is
answered NoMemory r is h = inr is

pub answered_else : (e : StatementError) (r : Result (Unit {0}) SqlError) → r ≡ Err (refusal e) → (IsErrOf {T = Unit {0}} (Err e) Missing → ⊥) → (r ≡ Err sql.Refused) ⊎ (r ≡ Err sql.NoMemory)
answered_else e r is never = answered e r is (refused_or e never)

-- the names of tables that were made were free
was_free : (ns : List Name) (old new : Database) → AreMade ns old new → (k : ℕ) (n : Name) → slice_get ns k ≡ Some n → table_named old.schema (shape_of n).name ≡ None
was_free [] old new made k n is = absurd cc
was_free (m ∷ ns) old new (mid, one, rest) zero n is = subst (λ x. table_named old.schema (shape_of x).name ≡ None) (same_Some m n is) one.free
was_free (m ∷ ns) old new (mid, one, rest) (suc k) n is = by (either (table_named old.schema (shape_of n).name)) (was_free ns mid new rest k n is)
  where
    by : ((at : ℕ) × (table_named old.schema (shape_of n).name ≡ Some at)) ⊎ (table_named old.schema (shape_of n).name ≡ None) → table_named mid.schema (shape_of n).name ≡ None → table_named old.schema (shape_of n).name ≡ None
    by (inl (at, there)) later = absurd (let both : ◌≡◌ {A = Option ℕ} (Some at) None = sym (stays_named m old mid one (shape_of n).name at there) ∙ later in cc)
    by (inr none) later = none

same_start : (s t : Start) → ◌≡◌ {A = Result Start SqlError} (Ok s) (Ok t) → s ≡ t
same_start s t is = cc

module _ {S : Type 0} (g : Ghosts S) where
  pub refuses_stop : (ns : List Name) (s : Start) (a b : Held S) (e : StatementError) (r : Result (Unit {0}) StatementError) → r ≡ Err e → Builds g ns a b (Err e) → RefusesIfThere g s a b r
  refuses_stop ns s a b e r is d clean inside begins n at there =
      subst (λ q. (q ≡ Err Refused) ⊎ (q ≡ Err NoMemory)) (sym is) (refused_or e (d clean inside).never)

  pub refuses_made : (s : Start) (a b c : Held S) (v : Unit {0}) (r : Result (Unit {0}) StatementError) → Survives (state g b) (state g c) (λ _. ⊥) → Builds g all_names a b (Ok v) → RefusesIfThere g s a c r
  refuses_made s a b c v r t d clean inside begins n at there =
      let before : HasCleanDisk (state g b) = omega (arith, clean, t.clean) in
      let none = was_free all_names (state g a).now (state g b).now (d before inside).made (number_of n) n (listed n) in
      absurd (let both : ◌≡◌ {A = Option ℕ} (Some at) None = sym there ∙ none in cc)

  pub never_nothing : (s : Start) (has : Bool) (a b : Held S) (r : Result (Unit {0}) StatementError) → s ≡ start.Tables has → RefusesIfThere g s a b r
  never_nothing s has a b r is clean inside begins n at there = absurd (let both : start.Tables has ≡ start.Nothing = sym is ∙ begins in cc)

  -- a step that went on had no such table
  pub refuses_then : (s : Start) (a b c : Held S) (v : Unit {0}) (r : Result (Unit {0}) StatementError) → Survives (state g b) (state g c) (λ _. ⊥) → RefusesIfThere g s a b (Ok v) → RefusesIfThere g s a c r
  refuses_then s a b c v r t one clean inside begins n at there =
      let before : HasCleanDisk (state g b) = omega (arith, clean, t.clean) in
      two_answers v (one before inside begins n at there)

  pub refuses_same : (s : Start) (a b : Held S) (e : StatementError) (r : Result (Unit {0}) StatementError) → r ≡ Err e → RefusesIfThere g s a b (Err e) → RefusesIfThere g s a b r
  refuses_same s a b e r is one = subst (RefusesIfThere g s a b) (sym is) one

  -- what the transaction says of a fresh base
  pub in_work : (fresh : Bool) (s : Start) (a b c : Held S) (r : Result (Unit {0}) StatementError) → Judges fresh (state g a) (state g b) (Ok s) → Survives (state g (begun b)) (state g c) (λ _. ⊥) → RefusesIfThere g s (begun b) c r
      → HasCleanDisk (state g c) → fresh ≡ true → HasTable (state g a).now → (r ≡ Err Refused) ⊎ (r ≡ Err NoMemory)
  in_work fresh s a b c r judged t refuses clean is there =
      let before : HasCleanDisk (state g b) = omega (arith, clean, t.clean) in
      let j = judged before in
      let now : (state g b).now ≡ (state g a).now = j.same.0 in
      refuses clean refl (same_start s start.Nothing (j.begins is)) there.0 there.1
      (subst (λ (db : Database). table_named db.schema (shape_of there.0).name ≡ Some there.1) (sym now) there.2)

  pub not_in_work : {A : Type 0} (fresh : Bool) (s : Start) (a b c : Held S) (v : Unit {0}) → Judges fresh (state g a) (state g b) (Ok s) → Survives (state g (begun b)) (state g c) (λ _. ⊥) → RefusesIfThere g s (begun b) c (Ok v)
      → HasCleanDisk (state g c) → fresh ≡ true → HasTable (state g a).now → A
  not_in_work fresh s a b c v judged t refuses clean is there = two_answers v (in_work fresh s a b c (Ok v) judged t refuses clean is there)
