-- What is left to do of a run, after each of its parts.
--     targeted, hooked    after the hook, and after loading
--     run_set             after the settings
--     saved               after the run
--     kind_checked        data before it, of the same kind
--     RunAs               what a request of the code asks
use Rattle.std.specs.Prelude.{◌≡◌, ℕ, Bool, if◌then◌else◌, List, Option, Some, string_bytes}
use Rattle.std.specs.Bool.{beq}
use Rattle.py_meaning.specs.Modules.{LoadedModule}
use Rattle.cov_config.specs.Plain.{hook_view}
use Rattle.cov_config.specs.Settings.{Settings}
use Rattle.cov_data.specs.DataSet.{DataSet}
use Rattle.cov_measure.specs.declared.request.RunRequest.{RunRequest}
use Rattle.cov_measure.specs.Requests.{asked_in}
use Rattle.cov_programs.specs.Programs.{give, bind}
use Rattle.cov_step.specs.Calls.{Answered, Asked, HookFiles, Ran, Step, refuse}
use Rattle.cov_step.specs.Commands.{asked_by, hook_named, measured, run_by}
use Rattle.cov_step.specs.Phases.{before, hook_of, joins, joined, own_name, save_last, answered_by}
use Rattle.cov_streams.specs.Runs.{request_of}
use Rattle.cov_why.specs.Answers.{mixed}
use Rattle.cov_words.specs.Values.{Word}

-- after the hook
abbrev pub targeted : Word → Bool → Asked → List LoadedModule → Option HookFiles → Step Answered
targeted own append asked ms h =
    bind (before own) (λ was. bind (joins append own asked.arcs was) (measured own asked ms h))

-- after loading
abbrev pub hooked : Word → Bool → Asked → Option (Word × Word) → List LoadedModule → Step Answered
hooked own append asked hook ms = bind (hook_of hook) (targeted own append asked ms)

-- after the settings
abbrev pub run_set : (branch append : Bool) (context : Option Word) (steps : Option ℕ)
    (hook : Option (Word × Word)) (data_file : Option Word) (script : Word) (args : List Word)
    → Settings → Step Answered
run_set branch append context steps hook data_file script args s =
    run_by (own_name data_file s) append (asked_by s branch context steps script args)
    (hook_named hook s.run.hook) script

-- after the run
abbrev pub saved : Word → ℕ → Option DataSet → Ran → Step Answered
saved own budget old r = save_last own (joined old r.rows) (answered_by budget r.outcome)

-- data before it, of the same kind
abbrev pub kind_checked : Bool → DataSet → Step (Option DataSet)
kind_checked arcs d = if beq arcs d.arcs then give (Some d) else refuse (mixed arcs d.arcs)

-- a request of the code asks this, with this hook and this script
pub record RunAs (r : RunRequest) (asked : Asked) (named : Option (Word × Word)) (file : Word)
    : Type 0 where
  pub asks : asked_in r ≡ request_of asked
  pub hook : hook_view r.hook ≡ named
  pub script : string_bytes r.script ≡ file
