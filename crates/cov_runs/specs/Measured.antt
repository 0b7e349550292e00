-- What was measured, in the words of commands.
--     ran_view, ran_answer  what a run came to
--     measuring             a run that is measured
--     HoldPossible          sets of what is possible in modules
use Rattle.std.specs.Prelude.{◌≡◌, ℕ, ◌<◌, List, Option, Result, Ok, Err, length}
use Rattle.py_builtins.specs.declared.fault.RunFault.{RunFault}
use Rattle.py_machine.specs.Outcomes.{plain_outcome}
use Rattle.py_meaning.specs.Modules.{LoadedModule, body_of}
use Rattle.py_syntax.specs.Prediction.{Arc, possible}
use Rattle.cov_measure.specs.declared.request.Measured.{Measured}
use Rattle.cov_programs.specs.Programs.{give, ask, bind}
use Rattle.cov_recorder.specs.Plan.{set_at}
use Rattle.cov_step.specs.Answers.{given_or, run_refusal}
use Rattle.cov_step.specs.Calls.{Asked, HookFiles, Ran, measures, Step}

-- what a run came to
abbrev pub ran_view : Measured → Ran
ran_view m = record { outcome = plain_outcome m.outcome; steps = m.steps; rows = m.rows }

-- that, or the fault that it was given up for
abbrev pub ran_answer : Result Measured RunFault → Result Ran RunFault
ran_answer (Ok m) = Ok (ran_view m)
ran_answer (Err fault) = Err fault

-- what follows from the answer to a run
abbrev pub ran_of : Result Ran RunFault → Step Ran
ran_of = given_or run_refusal

-- a run that is measured
abbrev pub measuring : Asked → List LoadedModule → Option HookFiles → Step Ran
measuring asked ms hook = bind (ask (measures asked ms hook) give) ran_of

-- each set is what is possible in its module
abbrev pub HoldPossible : List LoadedModule → List (List Arc) → Type 0
HoldPossible ms sets = (m : ℕ) → m < length ms → set_at sets m ≡ possible (body_of ms m)
