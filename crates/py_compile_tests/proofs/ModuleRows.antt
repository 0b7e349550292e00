-- Rows of compiled code: the machine does what the source means.
use Rattle.std.proofs.Common.{[], ◌∷◌, refl}
use Rattle.py_meaning.proofs.Sources.{runs, alone}
use Rattle.py_meaning.proofs.ModuleRows.{absent_module_source, ordinary_use_files, modules_in_a_circle_files}
use Rattle.py_code.proofs.Rows.{runs as machine_runs}
use Rattle.py_compile.proofs.Agreement.{Agrees}

absent_module : Agrees (alone absent_module_source) ("a.py" ∷ []) [] 100
unfolding runs machine_runs
absent_module = refl

ordinary_use : Agrees ordinary_use_files ("a.py" ∷ []) [] 200
unfolding runs machine_runs
ordinary_use = refl

ordinary_use_inside : Agrees ordinary_use_files ("a.py" ∷ []) [] 200
unfolding runs machine_runs
ordinary_use_inside = refl

modules_in_a_circle : Agrees modules_in_a_circle_files ("a.py" ∷ []) [] 200
unfolding runs machine_runs
modules_in_a_circle = refl
