-- What each command promises that did its work.
--     Loses            no data were saved
--     Promise          what a command promises
--     runs_of          the runs that it did
--     script_of        its file, where it is a script
use Rattle.std.specs.Prelude.{◌≡◌, ◌⊎◌, ◌||◌, [], ◌∷◌, Option, Some, None, codes}
use Rattle.std.specs.FinMap as finite
use Rattle.cov_contexts.specs.declared.plugins.Plugin.{Ghosts as PluginOf}
use Rattle.cov_combine.specs.Aliases.{rules_from}
use Rattle.cov_config.specs.Settings.{Settings}
use Rattle.cov_json.specs.Json.{json_bytes}
use Rattle.cov_lcov.specs.Lcov.{lcov_bytes}
use Rattle.cov_step.specs.Calls.{Answered}
use Rattle.cov_step.specs.Commands.{asked_by, hook_named, usual_steps}
use Rattle.cov_step.specs.Names.{or_else}
use Rattle.cov_step.specs.Phases.{own_name}
use Rattle.cov_step.specs.Testing.{tests_asked}
use Rattle.cov_vault.specs.Contents.{Contents}
use Rattle.cov_words.specs.Commands.{PlainCommand}
use Rattle.cov_words.specs.Commands as plain
use Rattle.cov_words.specs.Values.{Word}
use Rattle.cov_headline.specs.Promises.{IsSet, run_of, RunPromise, CombinePromise, ReportPromise, PutPromise}
use Rattle.cov_headline.specs.Told.{Held}
use Rattle.cov_headline.specs.Kept.{Recorded}
use Rattle.cov_headline.specs.Suites.{suite_runs, paired, SuitePromise}
use Rattle.cov_headline.specs.Retests.{SelectPromise, MutatePromise}

-- each name holds what it held, or nothing
abbrev pub Loses : Contents → Contents → Type 0
Loses old new =
    (name : Word) → (finite.get new name ≡ finite.get old name) ⊎ (finite.get new name ≡ None)

-- What a command promises that ended so: a run, a combine, a report as table, JSON or LCOV and a
-- suite by their settings, a selection and verdicts of mutants by their budget, and each other that
-- it saves no data. A report knows of these runs, and of what was there at first. A script is none of these.
abbrev pub Promise : {P : Type 0} → PluginOf P → Contents → Recorded → PlainCommand → Held P
    → Answered → Held P → Type 0
Promise plugin first runs (plain.arcs budget script args) old a new =
    Loses old.contents new.contents
Promise plugin first runs
    (plain.run branch append context budget hook data_file rcfile script args) old a new =
    (s : Settings) × IsSet plugin rcfile old s
    × RunPromise plugin (asked_by s branch context budget script args) (own_name data_file s) script
    append (hook_named hook s.run.hook) old a new
Promise plugin first runs (plain.combine append keep data_file rcfile names) old a new =
    (s : Settings) × IsSet plugin rcfile old s
    × CombinePromise (own_name data_file s) (rules_from s.paths) append names old a new
Promise plugin first runs (plain.report show_missing fail_under data_file rcfile) old a new =
    (s : Settings) × IsSet plugin rcfile old s
    × ReportPromise first runs s.report (own_name data_file s)
    (show_missing || s.report.show_missing) (or_else fail_under s.report.fail_under) old a new
Promise plugin first runs (plain.json name fail_under data_file rcfile) old a new =
    (s : Settings) × IsSet plugin rcfile old s
    × PutPromise first runs s.report (own_name data_file s) (or_else name (codes "coverage.json"))
    json_bytes (or_else fail_under s.report.fail_under) old a new
Promise plugin first runs (plain.lcov name fail_under data_file rcfile) old a new =
    (s : Settings) × IsSet plugin rcfile old s
    × PutPromise first runs s.report (own_name data_file s) (or_else name (codes "coverage.lcov"))
    lcov_bytes (or_else fail_under s.report.fail_under) old a new
Promise plugin first runs (plain.annotate data_file rcfile file) old a new =
    Loses old.contents new.contents
Promise plugin first runs (plain.erase data_file rcfile) old a new = Loses old.contents new.contents
Promise plugin first runs (plain.script file) old a new = ⊥
Promise plugin first runs (plain.make seed size) old a new = Loses old.contents new.contents
Promise plugin first runs (plain.suite branch budget data_file rcfile file) old a new =
    (s : Settings) × IsSet plugin rcfile old s
    × SuitePromise plugin (tests_asked s branch budget) (own_name data_file s) file old a new
Promise plugin first runs (plain.select budget old_file new_file) old a new =
    SelectPromise (or_else budget usual_steps) old_file new_file old a new
Promise plugin first runs (plain.mutate budget file) old a new =
    MutatePromise (or_else budget usual_steps) file old a new

-- the run that a command did, if it is one; of a suite the import and the tests
abbrev pub runs_of : {P : Type 0} (plugin : PluginOf P) (first : Contents) (runs : Recorded)
    (c : PlainCommand) (old : Held P) (a : Answered) (new : Held P)
    → Promise plugin first runs c old a new → Recorded
runs_of plugin first runs (plain.arcs budget script args) old a new p = []
runs_of plugin first runs
    (plain.run branch append context budget hook data_file rcfile script args) old a new p =
    (run_of (asked_by p.0 branch context budget script args) p.2.modules old.left, p.2.rows) ∷ []
runs_of plugin first runs (plain.combine append keep data_file rcfile names) old a new p = []
runs_of plugin first runs (plain.report show_missing fail_under data_file rcfile) old a new p = []
runs_of plugin first runs (plain.json name fail_under data_file rcfile) old a new p = []
runs_of plugin first runs (plain.lcov name fail_under data_file rcfile) old a new p = []
runs_of plugin first runs (plain.annotate data_file rcfile file) old a new p = []
runs_of plugin first runs (plain.erase data_file rcfile) old a new p = []
runs_of plugin first runs (plain.script file) old a new p = []
runs_of plugin first runs (plain.make seed size) old a new p = []
runs_of plugin first runs (plain.suite branch budget data_file rcfile file) old a new p =
    paired (suite_runs p.2.modules (tests_asked p.0 branch budget).budget)
    (p.2.of_import ∷ p.2.of_tests)
runs_of plugin first runs (plain.select budget old_file new_file) old a new p = []
runs_of plugin first runs (plain.mutate budget file) old a new p = []

-- the file of a command that is a script
abbrev pub script_of : PlainCommand → Option Word
script_of (plain.arcs budget script args) = None
script_of (plain.run branch append context budget hook data_file rcfile script args) = None
script_of (plain.combine append keep data_file rcfile names) = None
script_of (plain.report show_missing fail_under data_file rcfile) = None
script_of (plain.json name fail_under data_file rcfile) = None
script_of (plain.lcov name fail_under data_file rcfile) = None
script_of (plain.annotate data_file rcfile file) = None
script_of (plain.erase data_file rcfile) = None
script_of (plain.script file) = Some file
script_of (plain.make seed size) = None
script_of (plain.suite branch budget data_file rcfile file) = None
script_of (plain.select budget old new) = None
script_of (plain.mutate budget file) = None
