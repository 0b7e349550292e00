-- Causes are of files, data and words: none is a fault of an object, nor want of memory. Only
-- commands that import tests are refused for an import.
use Rattle.std.proofs.Common.{◌≡◌, ◌⊎◌, inl, inr, ◌∙◌, refl, sym, ap, ℕ, Bool, true, false, if◌then◌else◌, List, [], ◌∷◌, ◌++◌, map, Option, Some, None}
use Rattle.std.specs.Prelude.{◌||◌}
use Rattle.std.specs.Bool.{beq}
use Rattle.std.specs.FinMap.{get}
use Rattle.cov_config.specs.Settings.{Settings, ReportSettings, no_cover, no_branch}
use Rattle.cov_outside.specs.Files.{Files}
use Rattle.cov_run.specs.Refusals.{limit_of, fault_of, refused_by}
use Rattle.cov_run.specs.Refusals as loading
use Rattle.cov_step.specs.Commands.{hook_named, usual_steps}
use Rattle.cov_step.specs.Names.{or_else}
use Rattle.cov_step.specs.Phases.{main_name, own_name}
use Rattle.cov_step.specs.Testing.{tests_name}
use Rattle.cov_vault.specs.Contents.{Contents}
use Rattle.cov_vault.specs.declared.vault.Content.{Content}
use Rattle.cov_vault.specs.declared.vault.Content.TheVariants as stored
use Rattle.cov_why.specs.Answers.{Refusal, usage, no_such_file, syntax, limit, bad_config, bad_pattern, pattern_size, no_function, no_data, mixed, bad_data, no_source, read_fault, write_fault, shelf_fault, vault_fault, no_memory, import_failed}
use Rattle.cov_why.specs.declared.why.LimitKind.{LimitKind}
use Rattle.cov_why.specs.declared.why.SyntaxKind.{SyntaxKind}
use Rattle.cov_words.specs.Commands.{PlainCommand, IsCommand}
use Rattle.cov_words.specs.Commands as plain
use Rattle.cov_words.specs.Values.{Word}
use Rattle.py_syntax.specs.Tree.{Text}
use Rattle.cov_complete_laws.proofs.Holding.{none-some, some-is, true-false}
use Rattle.cov_cause_laws.specs.Checks.{Check, SourceRefuses, absent, large, unreadable, unusable, unjoinable, Refuses, IsFirst}
use Rattle.cov_cause_laws.specs.Checks as check
use Rattle.cov_cause_laws.specs.Orders.{of_patterns, of_hook, of_target, of_run, of_suite, of_select, of_mutate, all_inputs, of_combine, paths_held, of_report, of_annotate}
use Rattle.cov_cause_laws.specs.Causes.{AreRefused, BySettings, IsRefusedIn, imported_by, has_cause}
use Rattle.cov_cause_laws.specs.Causes as causes
use Rattle.cov_cause_laws.specs.Laws.{OnlyCauses, OnlyImports}

-- whether it is a cause of another check than that of an import
abbrev is_common : Refusal → Bool
is_common (usage words) = true
is_common (no_such_file name) = true
is_common (syntax file line kind) = true
is_common (limit kind n) = true
is_common (bad_config key) = true
is_common (bad_pattern at) = true
is_common (pattern_size at) = false
is_common (no_function name) = true
is_common (no_data name) = true
is_common (mixed first other) = true
is_common (bad_data name kind) = true
is_common (no_source path) = true
is_common read_fault = false
is_common write_fault = false
is_common shelf_fault = false
is_common vault_fault = false
is_common no_memory = false
is_common (import_failed file) = false

common-cause : (r : Refusal) → is_common r ≡ true → has_cause r ≡ true
common-cause (usage words) e = refl
common-cause (no_such_file name) e = refl
common-cause (syntax file line kind) e = refl
common-cause (limit kind n) e = refl
common-cause (bad_config key) e = refl
common-cause (bad_pattern at) e = refl
common-cause (pattern_size at) e = e
common-cause (no_function name) e = refl
common-cause (no_data name) e = refl
common-cause (mixed first other) e = refl
common-cause (bad_data name kind) e = refl
common-cause (no_source path) e = refl
common-cause read_fault e = e
common-cause write_fault e = e
common-cause shelf_fault e = e
common-cause vault_fault e = e
common-cause no_memory e = e
common-cause (import_failed file) e = refl

by-source : (name : List ℕ) (passed : Option (LimitKind × ℕ)) (fault : Option (ℕ × SyntaxKind)) (r : Refusal) → refused_by name passed fault ≡ Some r → is_common r ≡ true
by-source name (Some p) fault r e = ap is_common (sym (some-is e))
by-source name None None r e = absurd (none-some e)
by-source name None (Some f) r e = ap is_common (sym (some-is e))

by-loading : (modules total : ℕ) (path : Text) (file : Option (List ℕ)) (r : Refusal) → loading.Refuses modules total path file r → is_common r ≡ true
by-loading modules total path file r (loading.absent e is) = ap is_common is
by-loading modules total path file r (loading.crowded bytes e more is) = ap is_common is
by-loading modules total path file r (loading.large bytes next more is) = ap is_common is
by-loading modules total path file r (loading.heavy bytes next small more is) = ap is_common is
by-loading modules total path file r (loading.unreadable bytes reading room read e) = by-source _ (limit_of reading) (fault_of reading) r e

by-file : (path : Word) (file : Option (List ℕ)) (r : Refusal) → SourceRefuses path file r → is_common r ≡ true
by-file path file r (absent e is) = ap is_common is
by-file path file r (large b e more is) = ap is_common is
by-file path file r (unreadable b reading e small h is) = by-source path (limit_of reading) (fault_of reading) r is

by-content : (name : Word) (c : Option Content) (r : Refusal) → unusable name c ≡ Some r → is_common r ≡ true
by-content name None r e = ap is_common (sym (some-is e))
by-content name (Some (stored.Good d)) r e = absurd (none-some e)
by-content name (Some stored.NotSchema7) r e = ap is_common (sym (some-is e))
by-content name (Some (stored.BadRow i)) r e = ap is_common (sym (some-is e))

by-flags : (a b same : Bool) (r : Refusal) → ◌≡◌ {A = Option Refusal} (if same then None else Some (mixed a b)) (Some r) → is_common r ≡ true
by-flags a b true r e = absurd (none-some e)
by-flags a b false r e = ap is_common (sym (some-is e))

by-joining : (name : Word) (arcs : Bool) (c : Option Content) (r : Refusal) → unjoinable name arcs c ≡ Some r → is_common r ≡ true
by-joining name arcs None r e = absurd (none-some e)
by-joining name arcs (Some (stored.Good d)) r e = by-flags arcs d.arcs (beq arcs d.arcs) r e
by-joining name arcs (Some stored.NotSchema7) r e = absurd (none-some e)
by-joining name arcs (Some (stored.BadRow i)) r e = ap is_common (sym (some-is e))

-- ---- checks but that of an import

abbrev is_import : Check → Bool
is_import (check.few texts) = false
is_import (check.short texts) = false
is_import (check.readable texts) = false
is_import (check.program name script) = false
is_import (check.function script name) = false
is_import (check.source path) = false
is_import (check.replaceable name) = false
is_import (check.needed name) = false
is_import (check.joinable name arcs) = false
is_import (check.some_of name found) = false
is_import (check.one_kind names) = false
is_import (check.imports file budget) = true

-- none of them is an import's
abbrev NoImport : List Check → Type 0
NoImport [] = Unit {0}
NoImport (k ∷ ks) = (is_import k ≡ false) × NoImport ks

none-both : (ks ls : List Check) → NoImport ks → NoImport ls → NoImport (ks ++ ls)
none-both [] ls h k = k
none-both (c ∷ cs) ls h k = (h.0, none-both cs ls h.1 k)

none-each : (f : Word → Check) → ((w : Word) → is_import (f w) ≡ false) → (ws : List Word) → NoImport (map f ws)
none-each f h [] = tt
none-each f h (w ∷ ws) = (h w, none-each f h ws)

none-hook : (hook : Option (Word × Word)) → NoImport (of_hook hook)
none-hook None = tt
none-hook (Some (script, name)) = (refl, (refl, tt))

none-target : (append : Bool) (own : Word) (arcs : Bool) → NoImport (of_target append own arcs)
none-target false own arcs = (refl, tt)
none-target true own arcs = (refl, (refl, tt))

none-run : (append : Bool) (own : Word) (arcs : Bool) (hook : Option (Word × Word)) (script : Word) → NoImport (of_run append own arcs hook script)
none-run append own arcs hook script = (refl, none-both (of_hook hook) (of_target append own arcs) (none-hook hook) (none-target append own arcs))

none-combine : (append : Bool) (contents : Contents) (own : Word) (named : List Word) → NoImport (of_combine append contents own named)
none-combine append contents own named =
    let all = all_inputs append contents own named in
    (refl, (refl, none-both (map check.needed all) (check.one_kind all ∷ []) (none-each check.needed (λ w. refl) all) (refl, tt)))

none-report : (s : ReportSettings) (contents : Contents) (own : Word) → NoImport (of_report s contents own)
none-report s contents own = (refl, (refl, (refl, (refl, (refl, (refl, (refl, none-each check.source (λ w. refl) (paths_held s.omit (get contents own)))))))))

none-annotate : (s : ReportSettings) (own path : Word) → NoImport (of_annotate s own path)
none-annotate s own path = (refl, (refl, (refl, (refl, (refl, (refl, (refl, tt)))))))

-- ---- commands

-- its cause is a common one, or the import of the file of tests that the command imports
abbrev Stems : PlainCommand → Refusal → Type 0
Stems c r = (is_common r ≡ true) ⊎ ((file : Word) × (imported_by c ≡ Some file) × (r ≡ import_failed file))

module _ (files : Files) (contents : Contents) where
  by-check : (c : Check) (r : Refusal) → is_import c ≡ false → Refuses files contents c r → is_common r ≡ true
  by-check (check.few texts) r n h = ap is_common h.1
  by-check (check.short texts) r n h = ap is_common h.2
  by-check (check.readable texts) r n h = ap is_common h.2
  by-check (check.program name script) r n h = by-loading _ _ _ _ r h.refuses
  by-check (check.function script name) r n h = ap is_common h.3
  by-check (check.source path) r n h = by-file path (files path) r h
  by-check (check.replaceable name) r n h = ap is_common h.1
  by-check (check.needed name) r n h = by-content name (get contents name) r h
  by-check (check.joinable name arcs) r n h = by-joining name arcs (get contents name) r h
  by-check (check.some_of name found) r n h = ap is_common h.1
  by-check (check.one_kind names) r n h = ap is_common h.3
  by-check (check.imports file budget) r n h = absurd (true-false n)

  by-first : (ks : List Check) (r : Refusal) → NoImport ks → IsFirst files contents ks r → is_common r ≡ true
  by-first [] r n h = absurd h
  by-first (k ∷ ks) r n (inl h) = by-check k r n.0 h
  by-first (k ∷ ks) r n (inr h) = by-first ks r n.1 h.1

  by-refused : (rcfile : Option Word) (r : Refusal) → AreRefused files rcfile r → is_common r ≡ true
  by-refused rcfile r (causes.absent name is e so) = ap is_common so
  by-refused rcfile r (causes.large b e more so) = ap is_common so
  by-refused rcfile r (causes.bad b key f e so) = ap is_common so

  by-settings : (rcfile : Option Word) (ks : Settings → List Check) (r : Refusal) → ((s : Settings) → NoImport (ks s)) → BySettings files contents rcfile ks r → is_common r ≡ true
  by-settings rcfile ks r n (inl h) = by-refused rcfile r h
  by-settings rcfile ks r n (inr (s, set, h)) = by-first (ks s) r (n s) h

  by-tests : (own file : Word) (budget : ℕ) (r : Refusal) → IsFirst files contents (of_suite own file budget) r → (is_common r ≡ true) ⊎ (r ≡ import_failed file)
  by-tests own file budget r (inl h) = inl (by-check (check.program tests_name file) r refl h)
  by-tests own file budget r (inr (p, inl h)) = inl (by-check (check.replaceable own) r refl h)
  by-tests own file budget r (inr (p, inr (q, inl h))) = inr h.3
  by-tests own file budget r (inr (p, inr (q, inr h))) = absurd h.1

  by-selected : (old new : Word) (budget : ℕ) (r : Refusal) → IsFirst files contents (of_select old new budget) r → (is_common r ≡ true) ⊎ (r ≡ import_failed old)
  by-selected old new budget r (inl h) = inl (by-check (check.program tests_name old) r refl h)
  by-selected old new budget r (inr (p, inl h)) = inl (by-check (check.program tests_name new) r refl h)
  by-selected old new budget r (inr (p, inr (q, inl h))) = inr h.3
  by-selected old new budget r (inr (p, inr (q, inr h))) = absurd h.1

  by-mutants : (file : Word) (budget : ℕ) (r : Refusal) → IsFirst files contents (of_mutate file budget) r → (is_common r ≡ true) ⊎ (r ≡ import_failed file)
  by-mutants file budget r (inl h) = inl (by-check (check.program tests_name file) r refl h)
  by-mutants file budget r (inr (p, inl h)) = inr h.3
  by-mutants file budget r (inr (p, inr h)) = absurd h.1

  by-import : (c : PlainCommand) (file : Word) (r : Refusal) → imported_by c ≡ Some file → (is_common r ≡ true) ⊎ (r ≡ import_failed file) → Stems c r
  by-import c file r e (inl k) = inl k
  by-import c file r e (inr is) = inr (file, e, is)

  by-command : (c : PlainCommand) (r : Refusal) → IsRefusedIn files contents c r → Stems c r
  by-command (plain.arcs budget script args) r h = inl (by-first (check.program main_name script ∷ []) r (refl, tt) h)
  by-command (plain.run branch append context budget hook data_file rcfile script args) r h =
      inl (by-settings rcfile (λ s. of_run append (own_name data_file s) (branch || s.run.branch) (hook_named hook s.run.hook) script) r
      (λ s. none-run append (own_name data_file s) (branch || s.run.branch) (hook_named hook s.run.hook) script) h)
  by-command (plain.combine append keep data_file rcfile names) r h =
      inl (by-settings rcfile (λ s. of_combine append contents (own_name data_file s) names) r (λ s. none-combine append contents (own_name data_file s) names) h)
  by-command (plain.report show_missing fail_under data_file rcfile) r h =
      inl (by-settings rcfile (λ s. of_report s.report contents (own_name data_file s)) r (λ s. none-report s.report contents (own_name data_file s)) h)
  by-command (plain.json name fail_under data_file rcfile) r h =
      inl (by-settings rcfile (λ s. of_report s.report contents (own_name data_file s)) r (λ s. none-report s.report contents (own_name data_file s)) h)
  by-command (plain.lcov name fail_under data_file rcfile) r h =
      inl (by-settings rcfile (λ s. of_report s.report contents (own_name data_file s)) r (λ s. none-report s.report contents (own_name data_file s)) h)
  by-command (plain.annotate data_file rcfile file) r h =
      inl (by-settings rcfile (λ s. of_annotate s.report (own_name data_file s) file) r (λ s. none-annotate s.report (own_name data_file s) file) h)
  by-command (plain.erase data_file rcfile) r h = inl (by-settings rcfile (λ s. []) r (λ s. tt) h)
  by-command (plain.script file) r h = absurd h
  by-command (plain.make seed size) r h = inl (by-first (of_patterns (no_cover ∷ []) (no_branch ∷ [])) r (refl, (refl, (refl, (refl, (refl, tt))))) h)
  by-command (plain.suite branch budget data_file rcfile file) r (inl h) = inl (by-refused rcfile r h)
  by-command (plain.suite branch budget data_file rcfile file) r (inr (s, set, h)) =
      by-import (plain.suite branch budget data_file rcfile file) file r refl (by-tests (own_name data_file s) file (or_else budget s.run.budget) r h)
  by-command (plain.select budget old new) r h = by-import (plain.select budget old new) old r refl (by-selected old new (or_else budget usual_steps) r h)
  by-command (plain.mutate budget file) r h = by-import (plain.mutate budget file) file r refl (by-mutants file (or_else budget usual_steps) r h)

stems-cause : (c : PlainCommand) (r : Refusal) → Stems c r → has_cause r ≡ true
stems-cause c r (inl e) = common-cause r e
stems-cause c r (inr (file, e, is)) = ap has_cause is

pub only-causes : OnlyCauses
only-causes files contents words why (inl (i, h, is)) = ap has_cause is
only-causes files contents words why (inr (c, h, k)) = stems-cause c why (by-command files contents c why k)

same-file : {a b : Word} → import_failed a ≡ import_failed b → a ≡ b
same-file e = cc

no-usage : {a : Word} {i : ℕ} → import_failed a ≡ usage i → ⊥
no-usage e = cc

import-only : (c : PlainCommand) (words : List Word) (file : Word) → IsCommand c words → Stems c (import_failed file) → (d : PlainCommand) × IsCommand d words × (imported_by d ≡ Some file)
import-only c words file h (inl e) = absurd (true-false (sym e))
import-only c words file h (inr (other, e, is)) = (c, h, e ∙ ap Some (sym (same-file is)))

pub only-imports : OnlyImports
only-imports files contents words file (inl (i, h, is)) = absurd (no-usage is)
only-imports files contents words file (inr (c, h, k)) = import-only c words file h (by-command files contents c (import_failed file) k)
