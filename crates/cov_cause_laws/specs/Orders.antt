-- The one order of refusals: the checks of each command after its settings, from the first on.
--     of_patterns, of_report_settings       patterns
--     of_hook, of_target, of_run            a run
--     of_suite, of_select, of_mutate        tests
--     own_input, all_inputs, of_combine     what is combined
--     paths_held, of_report, of_annotate    reports
use Rattle.std.specs.Prelude.{ℕ, Bool, true, false, if◌then◌else◌, List, [], ◌∷◌, ◌++◌, map, Option, Some, None, is_some}
use Rattle.std.specs.FinMap.{get}
use Rattle.py_syntax.specs.Tree.{Text}
use Rattle.cov_config.specs.Settings.{ReportSettings}
use Rattle.cov_step.specs.Phases.{always, main_name}
use Rattle.cov_step.specs.Testing.{tests_name}
use Rattle.cov_vault.specs.Contents.{Contents}
use Rattle.cov_vault.specs.declared.vault.Content.{Content}
use Rattle.cov_vault.specs.declared.vault.Content.TheVariants as content
use Rattle.cov_words.specs.Values.{Word}
use Rattle.cov_complete_laws.specs.Premises.{inputs_of, paths_reported}
use Rattle.cov_cause_laws.specs.Checks.{Check}
use Rattle.cov_cause_laws.specs.Checks as check

-- of both lists first the counts, then the sizes, then each pattern by its number
abbrev pub of_patterns : List (List ℕ) → List (List ℕ) → List Check
of_patterns exclude partial =
    check.few exclude ∷ check.few partial ∷ check.short exclude ∷ check.short partial
    ∷ check.readable (exclude ++ (partial ++ always)) ∷ []

-- those of settings
abbrev pub of_report_settings : ReportSettings → List Check
of_report_settings s = of_patterns (s.exclude_lines ++ s.exclude_also) s.partial_branches

-- ---- a run

-- the files of a hook, where there is one, and then its function
abbrev pub of_hook : Option (Word × Word) → List Check
of_hook None = []
of_hook (Some (script, name)) =
    check.program main_name script ∷ check.function script name ∷ []

-- what stands under the name of the data, and whether a run that appends may join its rows to it
abbrev pub of_target : (append : Bool) (own : Word) (arcs : Bool) → List Check
of_target false own arcs = check.replaceable own ∷ []
of_target true own arcs = check.replaceable own ∷ check.joinable own arcs ∷ []

-- the script, the hook, and then the data
abbrev pub of_run : (append : Bool) (own : Word) (arcs : Bool) (hook : Option (Word × Word))
    (script : Word) → List Check
of_run append own arcs hook script =
    check.program main_name script ∷ (of_hook hook ++ of_target append own arcs)

-- ---- tests

-- the file, the data, and then the import within these steps
abbrev pub of_suite : (own file : Word) (budget : ℕ) → List Check
of_suite own file budget =
    check.program tests_name file ∷ check.replaceable own ∷ check.imports file budget ∷ []

-- the files of both versions, and then the import of the old one within these steps
abbrev pub of_select : (old new : Word) (budget : ℕ) → List Check
of_select old new budget =
    check.program tests_name old ∷ check.program tests_name new ∷ check.imports old budget ∷ []

-- the file, and then its import within these steps
abbrev pub of_mutate : (file : Word) (budget : ℕ) → List Check
of_mutate file budget = check.program tests_name file ∷ check.imports file budget ∷ []

-- ---- what is combined

-- the data file itself is the first input, where that is asked for and it is there
abbrev pub own_input : Bool → Contents → Word → List Word
own_input false contents own = []
own_input true contents own = if is_some (get contents own) then own ∷ [] else []

-- all inputs, in order
abbrev pub all_inputs : Bool → Contents → Word → List Word → List Word
all_inputs append contents own named =
    own_input append contents own ++ inputs_of contents own named

-- the target, that there is an input, the inputs in order, and their kinds
abbrev pub of_combine : (append : Bool) (contents : Contents) (own : Word) (named : List Word)
    → List Check
of_combine append contents own named =
    check.replaceable own ∷ check.some_of own (all_inputs append contents own named)
    ∷ (map check.needed (all_inputs append contents own named)
    ++ check.one_kind (all_inputs append contents own named) ∷ [])

-- ---- reports

-- the paths of the data that a name holds, without those that are omitted
abbrev pub paths_held : List Text → Option Content → List Word
paths_held omit None = []
paths_held omit (Some (content.Good d)) = paths_reported omit d
paths_held omit (Some content.NotSchema7) = []
paths_held omit (Some (content.BadRow i)) = []

-- the patterns, the data, that there is a path, and the sources in the order of their paths
abbrev pub of_report : ReportSettings → Contents → (own : Word) → List Check
of_report s contents own =
    of_report_settings s
    ++ (check.needed own ∷ check.some_of own (paths_held s.omit (get contents own))
    ∷ map check.source (paths_held s.omit (get contents own)))

-- the patterns, the data and the one source
abbrev pub of_annotate : ReportSettings → (own path : Word) → List Check
of_annotate s own path = of_report_settings s ++ (check.needed own ∷ check.source path ∷ [])
