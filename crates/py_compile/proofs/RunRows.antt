-- Rows of compiled code: the machine does what the source means.
use Rattle.std.proofs.Common.{[], ◌∷◌, refl}
use Rattle.py_meaning.proofs.Sources.{runs, alone}
use Rattle.py_meaning.proofs.RunRows.{first_run_source, empty_file_source, docstring_alone_source, one_line_loop_source, endless_loop_source, counting_loop_source, unset_name_source, a_list_alone_source, made_of_nothing_source, made_of_one_source, pragma_source, numbers_source, calls_of_tests_source}
use Rattle.py_code.proofs.Rows.{runs as machine_runs}
use Rattle.py_compile.proofs.Agreement.{Agrees}

first_run : Agrees (alone first_run_source) ("a.py" ∷ []) [] 100
unfolding runs machine_runs
first_run = refl

first_run_by_default : Agrees (alone first_run_source) ("a.py" ∷ []) [] 1000000
unfolding runs machine_runs
first_run_by_default = refl

empty_file : Agrees (alone empty_file_source) ("a.py" ∷ []) [] 1
unfolding runs machine_runs
empty_file = refl

empty_file_cut : Agrees (alone empty_file_source) ("a.py" ∷ []) [] 0
unfolding runs machine_runs
empty_file_cut = refl

docstring_alone : Agrees (alone docstring_alone_source) ("a.py" ∷ []) [] 100
unfolding runs machine_runs
docstring_alone = refl

one_line_loop : Agrees (alone one_line_loop_source) ("a.py" ∷ []) [] 9
unfolding runs machine_runs
one_line_loop = refl

one_line_loop_cut : Agrees (alone one_line_loop_source) ("a.py" ∷ []) [] 8
unfolding runs machine_runs
one_line_loop_cut = refl

endless_loop : Agrees (alone endless_loop_source) ("a.py" ∷ []) [] 5
unfolding runs machine_runs
endless_loop = refl

counting_loop : Agrees (alone counting_loop_source) ("a.py" ∷ []) [] 8
unfolding runs machine_runs
counting_loop = refl

unset_name : Agrees (alone unset_name_source) ("a.py" ∷ []) [] 100
unfolding runs machine_runs
unset_name = refl

a_list_alone : Agrees (alone a_list_alone_source) ("a.py" ∷ []) [] 100
unfolding runs machine_runs
a_list_alone = refl

made_of_nothing : Agrees (alone made_of_nothing_source) ("a.py" ∷ []) [] 100
unfolding runs machine_runs
made_of_nothing = refl

made_of_one : Agrees (alone made_of_one_source) ("a.py" ∷ []) [] 100
unfolding runs machine_runs
made_of_one = refl

pragma : Agrees (alone pragma_source) ("a.py" ∷ []) [] 100
unfolding runs machine_runs
pragma = refl

numbers : Agrees (alone numbers_source) ("a.py" ∷ []) [] 100
unfolding runs machine_runs
numbers = refl

calls_of_tests : Agrees (alone calls_of_tests_source) ("a.py" ∷ []) [] 100
unfolding runs machine_runs
calls_of_tests = refl
