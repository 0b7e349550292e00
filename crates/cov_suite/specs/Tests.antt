-- The tests of a script: its `def`s whose names begin with `test`, in the order of the text.
--     is_test, test_names       names of tests, among names
--     tests_of_code, tests_of   the tests of a script, by its code and by its tree
use Rattle.std.specs.Prelude.{nat_eq, Bool, List, [], ◌∷◌, map, filter, codes, encode_utf8_all}
use Rattle.std.specs.List.{starts_with}
use Rattle.py_code.specs.Units.{Code, Module}
use Rattle.py_meaning.specs.Modules.{LoadedModule}
use Rattle.py_syntax.specs.Names.{distinct}
use Rattle.py_syntax.specs.Tree.{Text}
use Rattle.cov_hook_laws.specs.MeantHooks.{def_names}

-- whether a name begins with `test`
abbrev pub is_test : Text → Bool
is_test name = starts_with nat_eq (encode_utf8_all name) (codes "test")

-- those names that do, each once, where it first stands
abbrev pub test_names : List Text → List Text
test_names names = distinct (filter is_test names)

-- the name of a unit
abbrev pub unit_name : Code → Text
unit_name u = u.name

-- the names of the units of `def`s: unit 0 is the body
abbrev pub def_units : List Code → List Text
def_units [] = []
def_units (body ∷ defs) = map unit_name defs

-- the tests of code, of which the script is the first module
abbrev pub tests_of_code : List Module → List Text
tests_of_code [] = []
tests_of_code (script ∷ others) = test_names (def_units script.units)

-- the tests of trees
abbrev pub tests_of : List LoadedModule → List Text
tests_of ms = test_names (def_names ms)
