-- How programs and calls end, as the definitions have it.
use Rattle.py_value.specs.View.{plain}
use Rattle.py_builtins.specs.Outcomes.{Outcome, finished, exited, raised, cut}
use Rattle.py_builtins.specs.Returns as returns
use Rattle.py_machine.specs.declared.outcome.Outcome.{Outcome as RawOutcome}
use Rattle.py_machine.specs.declared.outcome.Outcome.TheVariants.{Finished, Exited, Raised, Cut}
use Rattle.py_machine.specs.declared.outcome.Called.{Called}
use Rattle.py_machine.specs.declared.outcome.Called.TheVariants.{Gave, Raised as CallRaised, Cut as CallCut}

-- the outcome of a program
abbrev pub plain_outcome : RawOutcome → Outcome
plain_outcome Finished = finished
plain_outcome (Exited status text) = exited status text
plain_outcome (Raised kind text) = raised kind text
plain_outcome Cut = cut

-- what came of a call
abbrev pub plain_called : Called → returns.Returned
plain_called (Gave v) = returns.gave (plain v)
plain_called (CallRaised kind text) = returns.raised kind text
plain_called CallCut = returns.cut
