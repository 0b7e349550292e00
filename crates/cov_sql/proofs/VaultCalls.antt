-- What the answer to a call of a vault says, from its cases.
--     told_load, told_save      by the contents
--     told_refusal              that it failed
--     IsSorted-map              names in order
use Rattle.std.proofs.Common.{◌≡◌, ◌≢◌, ℕ, ◌+◌, ◌<◌, arith, List, [], ◌∷◌, map, length, Option, Some, None, Result, Ok, Err, IsErrOf, IfOk, OnOk, OnErr, refl, ap}
use Rattle.std.specs.declared.cmp.Ordering.{Ordering}
use Rattle.std.specs.List.Sorted.{IsSorted}
use Rattle.std.proofs.lemmas.List.{get_or-map, length-map}
use Rattle.std.specs.FinMap.{get, insert}
use Rattle.cov_data.specs.DataSet.{Text, DataSet}
use Rattle.cov_vault.specs.declared.vault.Content.{Content}
use Rattle.cov_vault.specs.declared.vault.Content.TheVariants as content
use Rattle.cov_vault.specs.declared.vault.VaultError.{VaultError}
use Rattle.cov_vault.specs.declared.vault.VaultError.TheVariants.{Absent, NotSchema7, BadRow, Failed, NoMemory}
use Rattle.cov_vault.specs.Contents.{Contents}
use Rattle.cov_vault.specs.Answers.{refusal_of, IsLoaded, IsSaved}

pub told_load : (held : Option Content) (r : Result DataSet VaultError) → IfOk r (λ d. held ≡ Some (content.Good d)) → (IsErrOf r Absent → held ≡ None) → (IsErrOf r NotSchema7 → held ≡ Some content.NotSchema7)
    → ((row : ℕ) → IsErrOf r (BadRow row) → held ≡ Some (content.BadRow row)) → IsLoaded held r
told_load held (Ok d) found absent schema bad = found
told_load held (Err Absent) found absent schema bad = absent refl
told_load held (Err NotSchema7) found absent schema bad = schema refl
told_load held (Err (BadRow row)) found absent schema bad = bad row refl
told_load held (Err Failed) found absent schema bad = tt
told_load held (Err NoMemory) found absent schema bad = tt

module _ (old new : Contents) (name : Text) where
  pub told_save : (d : DataSet) (r : Result (Unit {0}) VaultError) → OnOk r (new ≡ insert old name (content.Good d)) → OnOk r (get old name ≢ Some content.NotSchema7)
      → (IsErrOf r NotSchema7 → get old name ≡ Some content.NotSchema7) → OnErr r (new ≡ old) → (IsErrOf r Absent → ⊥) → ((row : ℕ) → IsErrOf r (BadRow row) → ⊥) → IsSaved old name d (refusal_of r) new
  told_save d (Ok v) ok replaces schema err absent bad = (replaces, ok)
  told_save d (Err Absent) ok replaces schema err absent bad = absent refl
  told_save d (Err NotSchema7) ok replaces schema err absent bad = (schema refl, err)
  told_save d (Err (BadRow row)) ok replaces schema err absent bad = bad row refl
  told_save d (Err Failed) ok replaces schema err absent bad = err
  told_save d (Err NoMemory) ok replaces schema err absent bad = err

pub told_refusal : {A P : Type 0} (r : Result A VaultError) → (IsErrOf r Failed → P) → refusal_of r ≡ Some Failed → P
told_refusal (Ok a) failed is = absurd cc
told_refusal (Err e) failed is = failed (let same : e ≡ Failed = cc in ap Err same)

-- names that rise by their bytes are texts that rise
pub IsSorted-map : {X Y : Type 0} (cmp : Y → Y → Ordering) (f : X → Y) (xs : List X) → IsSorted (λ a b. cmp (f a) (f b)) xs → IsSorted cmp (map f xs)
IsSorted-map cmp f [] sorted k d low high = absurd (omega arith)
IsSorted-map cmp f (x ∷ xs) sorted k d low high =
    let within : k + 1 < length (x ∷ xs) = rw length-map at high in
    rw (get_or-map f (x ∷ xs) (k + 1) x d within, get_or-map f (x ∷ xs) k x d (omega arith)) (sorted k x low within)
