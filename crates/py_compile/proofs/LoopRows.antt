-- Rows of compiled code: the machine does what the source means.
use Rattle.std.proofs.Common.{[], ◌∷◌, refl}
use Rattle.py_meaning.proofs.Sources.{runs, alone}
use Rattle.py_meaning.proofs.LoopRows.{loop_else_source, continue_through_finally_source, break_in_finally_source, defaults_in_a_loop_source, module_that_raises_files}
use Rattle.py_code.proofs.Rows.{runs as machine_runs}
use Rattle.py_compile.proofs.Agreement.{Agrees}

loop_else : Agrees (alone loop_else_source) ("a.py" ∷ []) [] 100
unfolding runs machine_runs
loop_else = refl

continue_through_finally : Agrees (alone continue_through_finally_source) ("a.py" ∷ []) [] 100
unfolding runs machine_runs
continue_through_finally = refl

break_in_finally : Agrees (alone break_in_finally_source) ("a.py" ∷ []) [] 100
unfolding runs machine_runs
break_in_finally = refl

defaults_in_a_loop : Agrees (alone defaults_in_a_loop_source) ("a.py" ∷ []) [] 100
unfolding runs machine_runs
defaults_in_a_loop = refl

module_that_raises : Agrees module_that_raises_files ("a.py" ∷ []) [] 200
unfolding runs machine_runs
module_that_raises = refl

module_that_raises_inside : Agrees module_that_raises_files ("a.py" ∷ []) [] 200
unfolding runs machine_runs
module_that_raises_inside = refl
