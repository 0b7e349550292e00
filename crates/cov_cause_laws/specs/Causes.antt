-- For which cause words are refused, by the files and the data that a command's objects hold.
--     settings_name, AreRefused        settings
--     BySettings                       a command with settings
--     IsRefusedIn, IsRefusedFor        a command, and words
--     imported_by                      the file of tests of a command
--     is_bad_pattern                   the one refusal that a maker may leave out
--     has_cause                        the refusals that files, data and words give
use Rattle.std.specs.Prelude.{◌≡◌, ◌⊎◌, ◌||◌, ◌<◌, ℕ, suc, Bool, true, false, List, [], ◌∷◌, length, Option, Some, None, Ok, Err}
use Rattle.cov_config.specs.Settings.{Settings, meaning_of, no_cover, no_branch}
use Rattle.cov_outside.specs.Files.{Files}
use Rattle.cov_run.specs.Loading.{most_bytes}
use Rattle.cov_step.specs.Commands.{hook_named, usual_steps}
use Rattle.cov_step.specs.Names.{or_else}
use Rattle.cov_step.specs.Phases.{main_name, own_name}
use Rattle.cov_step.specs.Step.{IsSpelled}
use Rattle.cov_vault.specs.Contents.{Contents}
use Rattle.cov_why.specs.Answers.{Refusal, usage, no_such_file, syntax, limit, bad_config, bad_pattern, pattern_size, no_function, no_data, mixed, bad_data, no_source, read_fault, write_fault, shelf_fault, vault_fault, no_memory, import_failed}
use Rattle.cov_why.specs.declared.why.LimitKind.TheVariants as limits
use Rattle.cov_words.specs.Commands.{PlainCommand}
use Rattle.cov_words.specs.Commands as plain
use Rattle.cov_words.specs.Values.{Word}
use Rattle.cov_complete_laws.specs.Premises.{usual, IsSettingsFile, AreSettings}
use Rattle.cov_cause_laws.specs.Checks.{Check, IsFirst}
use Rattle.cov_cause_laws.specs.Checks as check
use Rattle.cov_cause_laws.specs.Orders.{of_patterns, of_run, of_suite, of_select, of_mutate, of_combine, of_report, of_annotate}

-- ---- settings

-- the file that the words name, or else the usual one
abbrev pub settings_name : Option Word → Word
settings_name None = usual
settings_name (Some name) = name

-- settings refuse: a file that the words name isn't there, the file is too large, or a key is bad
pub data AreRefused (files : Files) (rcfile : Option Word) (why : Refusal) : Type 0 where
  absent : (name : Word) → rcfile ≡ Some name → files name ≡ None → why ≡ no_such_file name
      → AreRefused files rcfile why
  large : (bytes : List ℕ) → files (settings_name rcfile) ≡ Some bytes
      → most_bytes < length bytes → why ≡ limit limits.FileBytes (suc most_bytes)
      → AreRefused files rcfile why
  bad : (bytes key : List ℕ) → IsSettingsFile files rcfile bytes
      → meaning_of bytes ≡ Err key → why ≡ bad_config key → AreRefused files rcfile why

-- settings come first, and then the checks of what they set
abbrev pub BySettings : Files → Contents → Option Word → (Settings → List Check) → Refusal
    → Type 0
BySettings files contents rcfile order why =
    AreRefused files rcfile why
    ⊎ ((s : Settings) × AreSettings files rcfile s × IsFirst files contents (order s) why)

-- ---- commands

-- A command is refused for this cause. A script is refused by its file or by one of its lines, and
-- is no command here.
abbrev pub IsRefusedIn : Files → Contents → PlainCommand → Refusal → Type 0
IsRefusedIn files contents (plain.arcs budget script args) why =
    IsFirst files contents (check.program main_name script ∷ []) why
IsRefusedIn files contents
    (plain.run branch append context budget hook data_file rcfile script args) why =
    BySettings files contents rcfile
    (λ s. of_run append (own_name data_file s) (branch || s.run.branch)
    (hook_named hook s.run.hook) script) why
IsRefusedIn files contents (plain.combine append keep data_file rcfile names) why =
    BySettings files contents rcfile
    (λ s. of_combine append contents (own_name data_file s) names) why
IsRefusedIn files contents (plain.report show_missing fail_under data_file rcfile) why =
    BySettings files contents rcfile
    (λ s. of_report s.report contents (own_name data_file s)) why
IsRefusedIn files contents (plain.json name fail_under data_file rcfile) why =
    BySettings files contents rcfile
    (λ s. of_report s.report contents (own_name data_file s)) why
IsRefusedIn files contents (plain.lcov name fail_under data_file rcfile) why =
    BySettings files contents rcfile
    (λ s. of_report s.report contents (own_name data_file s)) why
IsRefusedIn files contents (plain.annotate data_file rcfile file) why =
    BySettings files contents rcfile
    (λ s. of_annotate s.report (own_name data_file s) file) why
IsRefusedIn files contents (plain.erase data_file rcfile) why =
    BySettings files contents rcfile (λ s. []) why
IsRefusedIn files contents (plain.script file) why = ⊥
IsRefusedIn files contents (plain.make seed size) why =
    IsFirst files contents (of_patterns (no_cover ∷ []) (no_branch ∷ [])) why
IsRefusedIn files contents (plain.suite branch budget data_file rcfile file) why =
    BySettings files contents rcfile
    (λ s. of_suite (own_name data_file s) file (or_else budget s.run.budget)) why
IsRefusedIn files contents (plain.select budget old new) why =
    IsFirst files contents (of_select old new (or_else budget usual_steps)) why
IsRefusedIn files contents (plain.mutate budget file) why =
    IsFirst files contents (of_mutate file (or_else budget usual_steps)) why

-- the file of tests that a command imports first
abbrev pub imported_by : PlainCommand → Option Word
imported_by (plain.arcs budget script args) = None
imported_by (plain.run branch append context budget hook data_file rcfile script args) = None
imported_by (plain.combine append keep data_file rcfile names) = None
imported_by (plain.report show_missing fail_under data_file rcfile) = None
imported_by (plain.json name fail_under data_file rcfile) = None
imported_by (plain.lcov name fail_under data_file rcfile) = None
imported_by (plain.annotate data_file rcfile file) = None
imported_by (plain.erase data_file rcfile) = None
imported_by (plain.script file) = None
imported_by (plain.make seed size) = None
imported_by (plain.suite branch budget data_file rcfile file) = Some file
imported_by (plain.select budget old new) = Some old
imported_by (plain.mutate budget file) = Some file

-- Words are refused: they are no command, or the command that they are is refused.
abbrev pub IsRefusedFor : Files → Contents → List Word → Refusal → Type 0
IsRefusedFor files contents words why =
    ((i : ℕ) × IsSpelled words (Err i) × (why ≡ usage i))
    ⊎ ((c : PlainCommand) × IsSpelled words (Ok c) × IsRefusedIn files contents c why)

-- A pattern that the grammar doesn't read. Only this refusal doesn't come wherever its cause holds,
-- since a maker may take such a text.
abbrev pub is_bad_pattern : Refusal → Bool
is_bad_pattern (usage words) = false
is_bad_pattern (no_such_file name) = false
is_bad_pattern (syntax file line kind) = false
is_bad_pattern (limit kind n) = false
is_bad_pattern (bad_config key) = false
is_bad_pattern (bad_pattern at) = true
is_bad_pattern (pattern_size at) = false
is_bad_pattern (no_function name) = false
is_bad_pattern (no_data name) = false
is_bad_pattern (mixed first other) = false
is_bad_pattern (bad_data name kind) = false
is_bad_pattern (no_source path) = false
is_bad_pattern read_fault = false
is_bad_pattern write_fault = false
is_bad_pattern shelf_fault = false
is_bad_pattern vault_fault = false
is_bad_pattern no_memory = false
is_bad_pattern (import_failed file) = false

-- What files, data and words are refused for. The others blame an object, its count or its memory.
abbrev pub has_cause : Refusal → Bool
has_cause (usage words) = true
has_cause (no_such_file name) = true
has_cause (syntax file line kind) = true
has_cause (limit kind n) = true
has_cause (bad_config key) = true
has_cause (bad_pattern at) = true
has_cause (pattern_size at) = false
has_cause (no_function name) = true
has_cause (no_data name) = true
has_cause (mixed first other) = true
has_cause (bad_data name kind) = true
has_cause (no_source path) = true
has_cause read_fault = false
has_cause write_fault = false
has_cause shelf_fault = false
has_cause vault_fault = false
has_cause no_memory = false
has_cause (import_failed file) = true
