-- What a load from a base gives, and a save in one.
--     loads_ok, loads_err      from what `read_data` says of the base
--     saves_ok, saves_err      from what `write_data` says of it
--     empty_savable            data may be saved in a new base
--     found_then, ok_then, err_then, on_ok, declared_after      what follows of an answer
use Rattle.std.proofs.Common.{◌≡◌, ◌≢◌, ℕ, Bool, true, false, Result, Ok, Err, IfOk, OnOk, OnErr, Option, Some, refl, sym, ap, subst, ◌∙◌}
use Rattle.sqlite_trees.specs.declared.memory.MemStore.{MemStore}
use Rattle.sqlite.specs.Effect.{Database}
use Rattle.sqlite.specs.Held.{Held, state}
use Rattle.sqlite.specs.State.{KeepsCommit}
use Rattle.sqlite.specs.Steps.{over_memory, IsEmpty}
use Rattle.cov_data.specs.DataSet.{DataSet, IsSound}
use Rattle.cov_vault.specs.declared.vault.Content.{Content}
use Rattle.cov_vault.specs.declared.vault.Content.TheVariants.{Good, NotSchema7, BadRow}
use Rattle.cov_vault.specs.declared.vault.VaultError.{VaultError}
use Rattle.cov_vault.specs.declared.vault.VaultError.TheVariants as vault
use Rattle.cov_sql.specs.declared.errors.SqlError.{SqlError}
use Rattle.cov_sql.specs.declared.errors.SqlError.TheVariants as sql
use Rattle.cov_sql.specs.Content.{content_in}
use Rattle.cov_sql.specs.Making.{Spares, SparesAll}
use Rattle.cov_sql.specs.ByName.{shape_of}
use Rattle.sqlite_schema.specs.declared.schema.Schema.{Schema}
use Rattle.cov_sql.specs.Committed.{IsReadyFor, EndsSaved}
use Rattle.cov_sql.specs.Told.{EndsAs}
use Rattle.cov_sql.specs.Laws.{IsReadAgain}
use Rattle.cov_sql.specs.Bases.{kept_in, IsAsDeclared, Loads, IsSavable, SavesIn}
use Rattle.cov_sql.proofs.Committing.{keeps_ended}
use Rattle.cov_sql.proofs.ReadAgain.{saves_are_read}

-- a failure says of the content what the error said
module _ (e : SqlError) (f : VaultError) (schema : f ≡ vault.NotSchema7 → e ≡ sql.NotSchema7) {A B : Type 0} where
  pub is_schema : ◌≡◌ {A = Result A VaultError} (Err f) (Err vault.NotSchema7) → ◌≡◌ {A = Result B SqlError} (Err e) (Err sql.NotSchema7)
  is_schema is = let same : f ≡ vault.NotSchema7 = cc in ap Err (schema same)

is_row : {A B : Type 0} (e : SqlError) (f : VaultError) (row : ℕ) → (f ≡ vault.BadRow row → e ≡ sql.BadRow row) → ◌≡◌ {A = Result A VaultError} (Err f) (Err (vault.BadRow row)) → ◌≡◌ {A = Result B SqlError} (Err e) (Err (sql.BadRow row))
is_row e f row bad is = let same : f ≡ vault.BadRow row = cc in ap Err (bad same)

savable_ready : (fresh : Bool) (db : Database) → IsSavable fresh db → (fresh ≡ false → content_in db ≢ NotSchema7) → IsReadyFor fresh db
savable_ready true db bare good = bare
savable_ready false db declared good = declared.ready (good refl)

module _ (old new : Held MemStore) (settled : (state over_memory old).now ≡ kept_in old) where
  same_content : content_in (kept_in old) ≡ content_in (state over_memory old).now
  same_content = ap content_in (sym settled)

  ended : EndsAs (state over_memory old) (state over_memory new) → kept_in new ≡ kept_in old
  ended ends = (keeps_ended (state over_memory old) (state over_memory new) ends).committed refl

  pub loads_ok : (d : DataSet) → content_in (state over_memory old).now ≡ Good d → EndsAs (state over_memory old) (state over_memory new) → Loads (kept_in old) (kept_in new) (Ok d)
  loads_ok d is ends = record { found = same_content ∙ is; not_schema = λ k. absurd cc; bad_row = λ row k. absurd cc; kept = ended ends }

  pub loads_err : (e : SqlError) (f : VaultError) → (f ≡ vault.NotSchema7 → e ≡ sql.NotSchema7) → ((row : ℕ) → f ≡ vault.BadRow row → e ≡ sql.BadRow row)
      → (◌≡◌ {A = Result DataSet SqlError} (Err e) (Err sql.NotSchema7) → content_in (state over_memory old).now ≡ NotSchema7)
      → ((row : ℕ) → ◌≡◌ {A = Result DataSet SqlError} (Err e) (Err (sql.BadRow row)) → content_in (state over_memory old).now ≡ BadRow row)
      → EndsAs (state over_memory old) (state over_memory new) → Loads (kept_in old) (kept_in new) (Err f)
  loads_err e f schema bad not_schema bad_row ends = record {
    found = tt;
    not_schema = λ is. same_content ∙ not_schema (is_schema e f schema is);
    bad_row = λ row is. same_content ∙ bad_row row (is_row e f row (bad row) is);
    kept = ended ends;
  }

  module _ (fresh : Bool) (d : DataSet) (savable : IsSavable fresh (kept_in old)) where
    ready : (fresh ≡ false → content_in (kept_in old) ≢ NotSchema7) → IsReadyFor fresh (state over_memory old).now
    ready good = subst (IsReadyFor fresh) (sym settled) (savable_ready fresh (kept_in old) savable good)

    pub saves_ok : (v : Unit {0}) → IsSound d → (fresh ≡ false → content_in (state over_memory old).now ≢ NotSchema7) → EndsSaved over_memory d fresh old new → SavesIn fresh d (kept_in old) (kept_in new) (Ok v)
    saves_ok v sound replaces ends =
        let good : fresh ≡ false → content_in (kept_in old) ≢ NotSchema7 = λ is schema. replaces is (sym same_content ∙ schema) in
        let again : IsReadAgain d (state over_memory new).now = saves_are_read over_memory d fresh old new sound (ready good) ends in
        record {
          saved = ap content_in (sym ends.1) ∙ again.reads;
          declared = subst IsAsDeclared ends.1 (record { ready = λ _. again.ready });
          replaces = good;
          not_schema = λ k. absurd cc;
          kept = tt;
        }

    pub saves_err : (e : SqlError) (f : VaultError) → (f ≡ vault.NotSchema7 → e ≡ sql.NotSchema7)
        → (◌≡◌ {A = Result (Unit {0}) SqlError} (Err e) (Err sql.NotSchema7) → (fresh ≡ false) × (content_in (state over_memory old).now ≡ NotSchema7))
        → KeepsCommit (state over_memory old) (state over_memory new) → SavesIn fresh d (kept_in old) (kept_in new) (Err f)
    saves_err e f schema only keeps = record {
      saved = tt;
      declared = tt;
      replaces = λ _. tt;
      not_schema = λ is. let why = only (is_schema e f schema is) in (why.0, same_content ∙ why.1);
      kept = keeps.committed refl;
    }

pub empty_savable : (h : Held MemStore) → IsEmpty (state over_memory h) → SparesAll (kept_in h).schema
empty_savable h empty n = subst (λ (s : Schema). Spares s (shape_of n).name) (sym (ap (λ (db : Database). db.schema) (sym empty.0.clean) ∙ empty.2)) tt

-- ---- an answer

pub found_then : {E : Type 0} (r : Result DataSet E) (held : Option Content) (c : Content) → held ≡ Some c → IfOk r (λ d. c ≡ Good d) → IfOk r (λ d. held ≡ Some (Good d))
found_then (Ok d) held c is same = is ∙ ap Some same
found_then (Err e) held c is same = tt

pub on_ok : {A E P : Type 0} (r : Result A E) → P → OnOk r P
on_ok (Ok a) p = p
on_ok (Err e) p = tt

pub ok_then : {A E P Q : Type 0} (r : Result A E) → (P → Q) → OnOk r P → OnOk r Q
ok_then (Ok a) f p = f p
ok_then (Err e) f p = tt

pub err_then : {A E P Q : Type 0} (r : Result A E) → (P → Q) → OnErr r P → OnErr r Q
err_then (Ok a) f p = tt
err_then (Err e) f p = f p

pub declared_after : {A E : Type 0} (r : Result A E) (old new : Database) → OnOk r (IsAsDeclared new) → OnErr r (new ≡ old) → IsAsDeclared old → IsAsDeclared new
declared_after (Ok a) old new declared kept h = declared
declared_after (Err e) old new declared kept h = subst IsAsDeclared (sym kept) h
