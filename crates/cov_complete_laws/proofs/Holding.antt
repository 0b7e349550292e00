-- What shelf and vault hold, and what is answered by it where no fault is counted and memory suffices.
use Rattle.std.proofs.Common.{◌≡◌, ◌≢◌, ℕ, true, false, Option, Some, None, subst, sym}
use Rattle.std.specs.Prelude.{slice_get, IsSomeAnd}
use Rattle.std.specs.FinMap.{get}
use Rattle.std.specs.Str.{chars}
use Rattle.cov_exclude.specs.Texts.{IsNoPattern}
use Rattle.cov_exclude.specs.declared.patterns.PatternError.TheVariants as pattern_error
use Rattle.cov_outside.specs.Files.{Files}
use Rattle.cov_outside.specs.Reads.{IsTold}
use Rattle.cov_programs.specs.Objects.{Moves}
use Rattle.cov_run.specs.Loading.{told_by}
use Rattle.cov_run.specs.Loads.{LoadsTo}
use Rattle.cov_run.specs.Reading.{Reads}
use Rattle.cov_step.specs.Calls.{Call, spells, checks, reads, puts, opens, lists, loads, saves, removes, makes, writes, crosses, measures, tries, tests, selects, judges, says, Answer, AfterImport, came, not_imported, starved}
use Rattle.cov_suite.specs.Results.{import_of}
use Rattle.py_builtins.specs.Outcomes.{Outcome, finished}
use Rattle.cov_step.specs.Promises.{keeps, blamed, is_hungry}
use Rattle.cov_step.specs.Step.{IsSpelled}
use Rattle.cov_vault.specs.Answers.{IsListed, IsLoaded}
use Rattle.cov_vault.specs.Contents.{Contents}
use Rattle.cov_vault.specs.declared.vault.Content.TheVariants as stored
use Rattle.cov_vault.specs.declared.vault.VaultError.TheVariants as vault_error

-- files and data
abbrev pub Holding : Type 0
Holding = Files × Contents

-- what the answer of tests says of how their import ended
abbrev pub SaysOfImport : {A : Type 0} → Outcome → AfterImport A → Type 0
SaysOfImport outcome (came a) = outcome ≡ finished
SaysOfImport outcome not_imported = outcome ≢ finished
SaysOfImport outcome starved = Unit {0}

-- what they say of an answer
abbrev pub Says : Holding → (call : Call) → Answer call → Type 0
Says t (spells words) x = IsSpelled words x
Says t (checks bytes) x = Reads bytes x
Says t (reads name most) x = IsTold (t.0 name) most x
Says t (puts name bytes) x = Unit {0}
Says t (opens name script) x = LoadsTo (told_by t.0 (chars script)) (chars script) name x
Says t lists x = IsListed t.1 x
Says t (loads name) x = IsLoaded (get t.1 name) x
Says t (saves name content) x = (x ≡ Some vault_error.NotSchema7 → get t.1 name ≡ Some stored.NotSchema7) × ((i : ℕ) → x ≢ Some (vault_error.BadRow i))
Says t (removes name) x = Unit {0}
Says t (makes texts) x = (i : ℕ) → x ≡ Some (pattern_error.BadPattern i) → IsSomeAnd (slice_get texts i) IsNoPattern
Says t (writes bytes) x = Unit {0}
Says t (crosses modules words budget) x = Unit {0}
Says t (measures asked modules hook) x = Unit {0}
Says t (tries modules words budget) x = Unit {0}
Says t (tests asked modules) x = SaysOfImport (import_of modules asked.budget).outcome x
Says t (selects budget before after) x = SaysOfImport (import_of before budget).outcome x
Says t (judges budget modules) x = SaysOfImport (import_of modules budget).outcome x
Says t (says text) x = Unit {0}

-- it is answered so, for no want of memory and nobody's fault
pub record Answers (t : Holding) (call : Call) (x : Answer call) : Type 0 where
  pub says_so : Says t call x
  pub fed : is_hungry call x ≡ false
  pub fair : blamed call x ≡ None

-- what is held stays, unless the call changes it
abbrev pub told : Moves Call Answer Holding
told t call x u = Answers t call x × (keeps call x ≡ true → u ≡ t)

pub none-some : {A : Type 0} {a : A} → ◌≡◌ {A = Option A} None (Some a) → ⊥
none-some e = cc

pub some-none : {A : Type 0} {a : A} → ◌≡◌ {A = Option A} (Some a) None → ⊥
some-none e = cc

pub some-is : {A : Type 0} {a b : A} → ◌≡◌ {A = Option A} (Some a) (Some b) → a ≡ b
some-is e = cc

pub true-false : true ≡ false → ⊥
true-false e = cc

-- what holds of one value and one state, of equal ones
pub moved : {A : Type 0} (Q : A → Holding → Type 0) (a b : A) (u t : Holding) → a ≡ b → u ≡ t → Q b t → Q a u
moved Q a b u t e same q = subst (λ x. Q x u) (sym e) (subst (Q b) (sym same) q)
