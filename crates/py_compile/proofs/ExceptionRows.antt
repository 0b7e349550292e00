-- Rows of compiled code: the machine does what the source means.
use Rattle.std.proofs.Common.{[], ◌∷◌, refl}
use Rattle.py_meaning.proofs.Sources.{runs, alone}
use Rattle.py_meaning.proofs.ExceptionRows.{two_returns_source, handlers_source, uncaught_source, unset_name_of_a_clause_source, two_try_in_a_loop_source, raise_again_source, no_clause_matches_source, no_kind_source}
use Rattle.py_code.proofs.Rows.{runs as machine_runs}
use Rattle.py_compile.proofs.Agreement.{Agrees}

two_returns : Agrees (alone two_returns_source) ("a.py" ∷ []) [] 100
unfolding runs machine_runs
two_returns = refl

handlers : Agrees (alone handlers_source) ("a.py" ∷ []) [] 100
unfolding runs machine_runs
handlers = refl

uncaught : Agrees (alone uncaught_source) ("a.py" ∷ []) [] 100
unfolding runs machine_runs
uncaught = refl

unset_name_of_a_clause : Agrees (alone unset_name_of_a_clause_source) ("a.py" ∷ []) [] 100
unfolding runs machine_runs
unset_name_of_a_clause = refl

two_try_in_a_loop : Agrees (alone two_try_in_a_loop_source) ("a.py" ∷ []) [] 100
unfolding runs machine_runs
two_try_in_a_loop = refl

raise_again : Agrees (alone raise_again_source) ("a.py" ∷ []) [] 100
unfolding runs machine_runs
raise_again = refl

no_clause_matches : Agrees (alone no_clause_matches_source) ("a.py" ∷ []) [] 100
unfolding runs machine_runs
no_clause_matches = refl

no_kind : Agrees (alone no_kind_source) ("a.py" ∷ []) [] 100
unfolding runs machine_runs
no_kind = refl
