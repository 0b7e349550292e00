-- The commands. The lines of each, from the top, are the one order of its refusals.
--     arcs                             a program that runs
--     measured, run_by, run            one that is measured
--     combined_into, combine_by, combine    data that are joined
--     erase                            data that go
--     report, json, lcov, annotate     reports
use Rattle.std.specs.Prelude.{ℕ, ◌||◌, Bool, List, [], ◌∷◌, ◌++◌, map, Option, Some, None, codes}
use Rattle.std.specs.Str.{chars}
use Rattle.py_meaning.specs.Modules.{LoadedModule}
use Rattle.py_syntax.specs.Tree.{Text}
use Rattle.cov_combine.specs.Aliases.{Rules, alias_of, rules_from}
use Rattle.cov_combine.specs.Combined.{combined}
use Rattle.cov_config.specs.Settings.{Settings}
use Rattle.cov_data.specs.DataSet.{DataSet}
use Rattle.cov_json.specs.Json.{json_bytes}
use Rattle.cov_lcov.specs.Annotated.{annotated_bytes}
use Rattle.cov_lcov.specs.Lcov.{lcov_bytes}
use Rattle.cov_programs.specs.Programs.{give, ask, bind, ◌>>=◌, each}
use Rattle.cov_text.specs.Report.{text_bytes}
use Rattle.cov_words.specs.Values.{Word}
use Rattle.cov_step.specs.Calls.{Answered, HookFiles, Asked, crosses, measures, Step}
use Rattle.cov_step.specs.Answers.{given_or, run_refusal}
use Rattle.cov_step.specs.Names.{or_else, removable}
use Rattle.cov_step.specs.Phases.{needed, before, main_name, opened, settings, own_name, patterns, source, hook_of, joins, joined, inputs, has_own, own_input, some_input, same_kind, saving, removing_all, analysed, reported, done, judged, write_last, put_last, save_last, remove_last, answered_by}
use Rattle.cov_step.specs.Listing.{listing}

-- the words of a program: its script, and its arguments
abbrev pub words_of : Word → List Word → List Text
words_of script args = chars script ∷ map chars args

-- the steps of a run where the words name none
abbrev pub usual_steps : ℕ
usual_steps = 1000000

-- the script runs, and then its arcs are written
abbrev pub arcs : Option ℕ → Word → List Word → Step Answered
arcs steps script args = do
  let most = or_else steps usual_steps
  ms ← opened main_name script
  answer ← ask (crosses ms (words_of script args) most) give
  r ← given_or run_refusal answer
  write_last (listing r.rows) (answered_by most r.outcome)

-- what a run is asked
abbrev pub asked_by : Settings → Bool → Option Word → Option ℕ → Word → List Word → Asked
asked_by s branch context steps script args = record {
  arcs = branch || s.run.branch;
  context = or_else context s.run.context;
  by_name = s.run.dynamic_context;
  words = words_of script args;
  budget = or_else steps s.run.budget;
}

-- the hook that the words name, or else the settings
abbrev pub hook_named : Option (Word × Word) → Option (Word × Word) → Option (Word × Word)
hook_named None other = other
hook_named (Some h) other = Some h

-- a run that is measured, with what its rows are joined to, and then saved
abbrev pub measured : (own : Word) (asked : Asked) (ms : List LoadedModule)
    (hook : Option HookFiles) (old : Option DataSet) → Step Answered
measured own asked ms hook old = do
  answer ← ask (measures asked ms hook) give
  r ← given_or run_refusal answer
  save_last own (joined old r.rows) (answered_by asked.budget r.outcome)

-- The script, the hook's files, and what stands under the data file's name come before the run.
abbrev pub run_by : (own : Word) (append : Bool) (asked : Asked) (hook : Option (Word × Word))
    (script : Word) → Step Answered
run_by own append asked hook script = do
  ms ← opened main_name script
  h ← hook_of hook
  was ← before own
  old ← joins append own asked.arcs was
  measured own asked ms h old

-- words go before settings
abbrev pub run : (branch append : Bool) (context : Option Word) (steps : Option ℕ)
    (hook : Option (Word × Word)) (data_file rcfile : Option Word) (script : Word)
    (args : List Word) → Step Answered
run branch append context steps hook data_file rcfile script args = do
  s ← settings rcfile
  run_by (own_name data_file s) append (asked_by s branch context steps script args)
      (hook_named hook s.run.hook) script

-- the inputs are joined under their aliases, saved, and then removed
abbrev pub combined_into : (own : Word) (rules : Rules) (keep : Bool) (others : List Word)
    (first : List DataSet) → Step Answered
combined_into own rules keep others first = do
  rest ← each needed others
  all ← same_kind (first ++ rest)
  a ← saving own (combined (alias_of rules) all)
  b ← removing_all keep (removable own [] others)
  give done

-- what stands under the data file's name comes before the inputs
abbrev pub combine_by : (own : Word) (rules : Rules) (append keep : Bool) (named : List Word)
    → Step Answered
combine_by own rules append keep named = do
  was ← before own
  others ← inputs own named
  a ← some_input own (has_own append was) others
  first ← own_input append own was
  combined_into own rules keep others first

-- the settings name the data file and the aliases
abbrev pub combine : (append keep : Bool) (data_file rcfile : Option Word) (named : List Word)
    → Step Answered
combine append keep data_file rcfile named = do
  s ← settings rcfile
  combine_by (own_name data_file s) (rules_from s.paths) append keep named

-- the table of files is written
abbrev pub report : (show_missing : Bool) (fail_under : Option ℕ) (data_file rcfile : Option Word)
    → Step Answered
report show_missing fail_under data_file rcfile = do
  r ← reported data_file rcfile
  write_last (text_bytes r.files r.arcs (show_missing || r.settings.report.show_missing))
      (judged (or_else fail_under r.settings.report.fail_under) r.files)

-- the JSON report is put under a name
abbrev pub json : (name : Option Word) (fail_under : Option ℕ) (data_file rcfile : Option Word)
    → Step Answered
json name fail_under data_file rcfile = do
  r ← reported data_file rcfile
  put_last (or_else name (codes "coverage.json")) (json_bytes r.files r.arcs)
      (judged (or_else fail_under r.settings.report.fail_under) r.files)

-- the LCOV report is put under a name
abbrev pub lcov : (name : Option Word) (fail_under : Option ℕ) (data_file rcfile : Option Word)
    → Step Answered
lcov name fail_under data_file rcfile = do
  r ← reported data_file rcfile
  put_last (or_else name (codes "coverage.lcov")) (lcov_bytes r.files r.arcs)
      (judged (or_else fail_under r.settings.report.fail_under) r.files)

-- one source is written with its marks, whether there are rows of it or not
abbrev pub annotate : (data_file rcfile : Option Word) (path : Word) → Step Answered
annotate data_file rcfile path = do
  s ← settings rcfile
  p ← patterns s.report
  d ← needed (own_name data_file s)
  f ← source path
  write_last (annotated_bytes (analysed p d f) f.text) done

-- the data file is removed, where it is there
abbrev pub erase : (data_file rcfile : Option Word) → Step Answered
erase data_file rcfile = do
  s ← settings rcfile
  remove_last (own_name data_file s) done
