-- Rows of compiled code: the machine does what the source means.
use Rattle.std.proofs.Common.{[], ◌∷◌, refl}
use Rattle.py_meaning.proofs.Sources.{runs, alone}
use Rattle.py_meaning.proofs.MatchRows.{match_statement_source, patterns_source}
use Rattle.py_code.proofs.Rows.{runs as machine_runs}
use Rattle.py_compile.proofs.Agreement.{Agrees}

match_statement : Agrees (alone match_statement_source) ("a.py" ∷ []) [] 100
unfolding runs machine_runs
match_statement = refl

patterns : Agrees (alone patterns_source) ("a.py" ∷ []) [] 100
unfolding runs machine_runs
patterns = refl
