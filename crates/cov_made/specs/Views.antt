-- What the types of the code stand for.
--     source_view             a source that is made up
--     IsOneModule             it is the only module of its program
--     ran_view, tried_view    what a run came to
use Rattle.std.specs.Prelude.{◌≡◌, [], ◌∷◌, Option, Some, None, Result, Ok, Err, string_bytes}
use Rattle.py_builtins.specs.declared.fault.RunFault.{RunFault}
use Rattle.py_machine.specs.Outcomes.{plain_outcome}
use Rattle.py_meaning.specs.Modules.{body_of}
use Rattle.cov_measure.specs.declared.request.Measured.{Measured}
use Rattle.cov_run.specs.Loads.{loaded_modules}
use Rattle.cov_step.specs.Calls.{PlainSource, Ran}
use Rattle.cov_step.specs.Making.{made_path, made_module}
use Rattle.cov_made.specs.declared.sources.MadeSource.{MadeSource}

-- a source, with the tree of its first module
abbrev pub source_view : MadeSource → PlainSource
source_view s = record {
  path = made_path;
  text = string_bytes s.text;
  body = body_of (loaded_modules s.loaded) 0;
}

-- no other module is loaded with it
abbrev pub IsOneModule : MadeSource → Type 0
IsOneModule s = loaded_modules s.loaded ≡ made_module (source_view s) ∷ []

-- what a run came to
abbrev pub ran_view : Measured → Ran
ran_view m = record { outcome = plain_outcome m.outcome; steps = m.steps; rows = m.rows }

-- and of one that reads and writes without a fault: nothing, where memory was wanting
abbrev pub tried_view : Result Measured RunFault → Option Ran
tried_view (Ok m) = Some (ran_view m)
tried_view (Err fault) = None
