-- What `combine` keeps, and what it may have changed when it is refused.
use Rattle.std.proofs.Common.{◌≡◌, Bool, true, false, true≢false, refl, List, [], ◌∷◌, ◌++◌, Option, Some, None}
use Rattle.cov_combine.specs.Aliases.{Rules, alias_of, rules_from}
use Rattle.cov_combine.specs.Combined.{combined}
use Rattle.cov_data.specs.DataSet.{DataSet}
use Rattle.cov_programs.specs.Programs.{give, bind}
use Rattle.cov_programs.specs.Laws.{OnlyKeeps, OnlyRefuses, IsLate}
use Rattle.cov_programs.proofs.Parts.{then-keeps, each-keeps}
use Rattle.cov_programs.proofs.Late.{then-refuses, each-refuses, then-late, refuses-late}
use Rattle.cov_vault.specs.declared.vault.VaultError.{VaultError}
use Rattle.cov_vault.specs.declared.vault.VaultError.TheVariants as vault_error
use Rattle.cov_words.specs.Values.{Word}
use Rattle.cov_step.specs.Calls.{Call, Answer, lists, saves, removes, Answered, Step}
use Rattle.cov_step.specs.Answers.{Before, vault_refusal, removed, on}
use Rattle.cov_step.specs.Combining.{leaves_files, after_changes, CombineLaw}
use Rattle.cov_step.specs.Commands as the
use Rattle.cov_step.specs.Names.{removable}
use Rattle.cov_step.specs.Phases.{needed, before, settings, own_name, inputs, has_own, own_input, some_input, same_kind, saving, removing, removing_all, done}
use Rattle.cov_step.specs.Promises.{keeps as keeps_both}
use Rattle.cov_step.proofs.Answering.{on-so, before-so, removed-so, inputs-so}
use Rattle.cov_step.proofs.Care.{keeps-reading}
use Rattle.cov_step.proofs.Keeping.{KeepReading, needed-keeps, settings-keeps, own_input-keeps, some_input-keeps, same_kind-keeps}

module _ (keeps : (call : Call) → Answer call → Bool) (r : KeepReading keeps) (at_lists : (x : Answer lists) → keeps lists x ≡ true)
    (at_saves : (name : Word) (content : DataSet) (x : Answer (saves name content)) → keeps (saves name content) x ≡ true) (at_removes : (name : Word) (x : Answer (removes name)) → keeps (removes name) x ≡ true) where
  all-go : (kept : Bool) (names : List Word) → OnlyKeeps keeps (removing_all kept names)
  all-go true names = tt
  all-go false names = each-keeps keeps removing (λ name x. (at_removes name x, removed-so keeps (give tt) tt x)) names

  combined-keeps : (own : Word) (rules : Rules) (kept : Bool) (others : List Word) (first : List DataSet) → OnlyKeeps keeps (the.combined_into own rules kept others first)
  combined-keeps own rules kept others first =
      then-keeps keeps _ _ (each-keeps keeps needed (needed-keeps keeps r) others) (λ rest.
      then-keeps keeps (same_kind (first ++ rest)) _ (same_kind-keeps keeps r (first ++ rest)) (λ all.
      then-keeps keeps (saving own (combined (alias_of rules) all)) _ (λ x. (at_saves own (combined (alias_of rules) all) x, on-so keeps (vault_refusal own) x)) (λ a.
      then-keeps keeps (removing_all kept (removable own [] others)) _ (all-go kept (removable own [] others)) (λ b. tt))))

  combine_by-keeps : (own : Word) (rules : Rules) (append kept : Bool) (named : List Word) → OnlyKeeps keeps (the.combine_by own rules append kept named)
  combine_by-keeps own rules append kept named =
      then-keeps keeps (before own) _ (λ x. (r.at_loads own x, before-so keeps own x)) (λ was.
      then-keeps keeps (inputs own named) _ (inputs-so keeps at_lists own named) (λ others.
      then-keeps keeps (some_input own (has_own append was) others) _ (some_input-keeps keeps r own (has_own append was) others) (λ a.
      then-keeps keeps (own_input append own was) _ (own_input-keeps keeps r append own was) (λ first. combined-keeps own rules kept others first))))

  pub combine-keeps : (append kept : Bool) (data_file rcfile : Option Word) (named : List Word) → OnlyKeeps keeps (the.combine append kept data_file rcfile named)
  combine-keeps append kept data_file rcfile named =
      then-keeps keeps (settings rcfile) _ (settings-keeps keeps r rcfile) (λ s. combine_by-keeps (own_name data_file s) (rules_from s.paths) append kept named)

-- ---- refusals

removed-refuses : (x : Option VaultError) → OnlyRefuses after_changes (removed (give (tt {0})) x)
removed-refuses None = tt
removed-refuses (Some vault_error.Absent) = tt
removed-refuses (Some vault_error.NotSchema7) = refl
removed-refuses (Some (vault_error.BadRow i)) = refl
removed-refuses (Some vault_error.Failed) = refl
removed-refuses (Some vault_error.NoMemory) = refl

all-refuse : (kept : Bool) (names : List Word) → OnlyRefuses after_changes (removing_all kept names)
all-refuse true names = tt
all-refuse false names = each-refuses after_changes removing (λ name x. removed-refuses x) names

abbrev Finishing : Bool → List Word → Step Answered
Finishing kept names = bind (removing_all kept names) (λ b. give done)

finishing-refuses : (kept : Bool) (names : List Word) → OnlyRefuses after_changes (Finishing kept names)
finishing-refuses kept names = then-refuses after_changes (removing_all kept names) (λ b. give done) (all-refuse kept names) (λ b. tt)

saved-so : (own : Word) (content : DataSet) (kept : Bool) (names : List Word) (x : Option VaultError)
    → (keeps_both (saves own content) x ≡ false → OnlyRefuses after_changes (bind (on (vault_refusal own) x) (λ a. Finishing kept names))) × IsLate keeps_both after_changes (bind (on (vault_refusal own) x) (λ a. Finishing kept names))
saved-so own content kept names None = ((λ e. finishing-refuses kept names), refuses-late after_changes keeps_both (Finishing kept names) (finishing-refuses kept names))
saved-so own content kept names (Some e) = ((λ h. absurd (true≢false h)), tt)

combined-late : (own : Word) (rules : Rules) (kept : Bool) (others : List Word) (first : List DataSet) → IsLate keeps_both after_changes (the.combined_into own rules kept others first)
combined-late own rules kept others first =
    then-late after_changes keeps_both _ _ (each-keeps keeps_both needed (needed-keeps keeps_both keeps-reading) others) (λ rest.
    then-late after_changes keeps_both (same_kind (first ++ rest)) _ (same_kind-keeps keeps_both keeps-reading (first ++ rest)) (λ all x. saved-so own (combined (alias_of rules) all) kept (removable own [] others) x))

combine_by-late : (own : Word) (rules : Rules) (append kept : Bool) (named : List Word) → IsLate keeps_both after_changes (the.combine_by own rules append kept named)
combine_by-late own rules append kept named =
    then-late after_changes keeps_both (before own) _ (λ x. (refl, before-so keeps_both own x)) (λ was.
    then-late after_changes keeps_both (inputs own named) _ (inputs-so keeps_both (λ x. refl) own named) (λ others.
    then-late after_changes keeps_both (some_input own (has_own append was) others) _ (some_input-keeps keeps_both keeps-reading own (has_own append was) others) (λ a.
    then-late after_changes keeps_both (own_input append own was) _ (own_input-keeps keeps_both keeps-reading append own was) (λ first. combined-late own rules kept others first))))

files-reading : KeepReading leaves_files
files-reading = record {
  at_reads = λ name most x. refl;
  at_opens = λ name script x. refl;
  at_checks = λ bytes x. refl;
  at_makes = λ texts x. refl;
  at_loads = λ name x. refl;
}

pub law_of_combine : CombineLaw
law_of_combine = record {
  early = λ append kept data_file rcfile named. then-late after_changes keeps_both (settings rcfile) _ (settings-keeps keeps_both keeps-reading rcfile) (λ s. combine_by-late (own_name data_file s) (rules_from s.paths) append kept named);
  files = λ append kept data_file rcfile named. combine-keeps leaves_files files-reading (λ x. refl) (λ name content x. refl) (λ name x. refl) append kept data_file rcfile named;
}
