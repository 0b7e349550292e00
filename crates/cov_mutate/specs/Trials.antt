-- What mutants are tried on, as the code has it.
use Rattle.cov_mutate.specs.Code.{Tried}
use Rattle.cov_mutate.specs.declared.trial.Trial.{Trial}
use Rattle.py_code.specs.Loaded.{modules_of}

-- the code of all modules, the tests that passed, and the budget
abbrev pub tried_of : Trial → Tried
tried_of t = record { code = modules_of t.programs; names = t.names.items; budget = t.budget }
