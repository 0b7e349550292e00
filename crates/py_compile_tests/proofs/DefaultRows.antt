-- Rows of compiled code: the machine does what the source means.
use Rattle.std.proofs.Common.{◌≡◌, [], ◌∷◌, map, refl}
use Rattle.py_meaning.proofs.Sources.{runs, alone}
use Rattle.py_meaning.proofs.DefaultRows.{default_that_raises_source, one_list_of_defaults_source, last_defaults_source, too_few_values_source}
use Rattle.py_code.proofs.Rows.{runs as machine_runs}
use Rattle.py_compile.proofs.Agreement.{Agrees}
use Rattle.py_compile.specs.Units.{units_code}

-- two of three parameters have defaults; a module has none
numbers_of_defaults : map (λ u. u.defaults) (units_code last_defaults_source) ≡ 0 ∷ 2 ∷ []
numbers_of_defaults = refl

default_that_raises : Agrees (alone default_that_raises_source) ("a.py" ∷ []) [] 100
unfolding runs machine_runs
default_that_raises = refl

one_list_of_defaults : Agrees (alone one_list_of_defaults_source) ("a.py" ∷ []) [] 100
unfolding runs machine_runs
one_list_of_defaults = refl

last_defaults : Agrees (alone last_defaults_source) ("a.py" ∷ []) [] 100
unfolding runs machine_runs
last_defaults = refl

too_few_values : Agrees (alone too_few_values_source) ("a.py" ∷ []) [] 100
unfolding runs machine_runs
too_few_values = refl
