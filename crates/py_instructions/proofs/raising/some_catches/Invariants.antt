use Rattle.std.proofs.Common.{◌≡◌, Ok, drop}
use Rattle.std.specs.Prelude.{◌||◌}
use Rattle.py_value.specs.Answers.{◌>>=◌}
use Rattle.py_value.specs.Plain.{packed}
use Rattle.py_value.specs.View.{plains}
use Rattle.py_builtins.specs.Catching.{some_catches}
use Rattle.py_instructions.proofs.raising.some_catches.Given as goal

abbrev pub invariant-loop-value : goal.invariant-loop-value
invariant-loop-value l = (some_catches (packed (plains (drop l.value-index l.values))) l.kind >>= λ b. Ok (l.holds || b)) ≡ some_catches (packed (plains l.values)) l.kind
