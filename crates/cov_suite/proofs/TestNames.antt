-- The tests of code are those of the trees to which it is faithful.
use Rattle.std.proofs.Common.{◌≡◌, List, [], ◌∷◌, map, refl, ap, ◌∙◌}
use Rattle.py_code.specs.Units.{Code, Module}
use Rattle.py_compile.specs.Definitions.{Definition, function_of, definitions}
use Rattle.py_compile.specs.Laws.{UnitsAreFaithful}
use Rattle.py_compile.specs.ProgramRuns.{HasFunctions, HasUnits, AreFaithful}
use Rattle.py_meaning.specs.Modules.{LoadedModule}
use Rattle.py_syntax.specs.Functions.{Function, functions}
use Rattle.py_syntax.specs.Tree.{Stmts}
use Rattle.cov_hook_laws.specs.MeantHooks.{name_of}
use Rattle.cov_suite.specs.Tests.{test_names, unit_name, def_units, tests_of_code, tests_of}

module _ (law : UnitsAreFaithful) where
  function-names : (all : List Function) (ds : List Definition) (us : List Code) → HasFunctions all ds us → map unit_name us ≡ map name_of (map function_of ds)
  function-names all [] [] h = refl
  function-names all [] (u ∷ us) h = absurd h
  function-names all (d ∷ ds) [] h = absurd h
  function-names all (d ∷ ds) (u ∷ us) h = ap (λ n. n ∷ map unit_name us) h.0.name ∙ ap (λ ns. name_of (function_of d) ∷ ns) (function-names all ds us h.1)

  unit-names : (b : Stmts) (us : List Code) → HasUnits b us → def_units us ≡ map name_of (functions b)
  unit-names b [] h = absurd h
  unit-names b (u ∷ us) h = function-names (functions b) (definitions b) us h.1 ∙ ap (map name_of) (law.functions b)

  pub same-tests : (cs : List Module) (ms : List LoadedModule) → AreFaithful cs ms → tests_of_code cs ≡ tests_of ms
  same-tests [] [] h = refl
  same-tests [] (m ∷ ms) h = absurd h
  same-tests (c ∷ cs) [] h = absurd h
  same-tests (c ∷ cs) (m ∷ ms) h = ap test_names (unit-names m.body c.units h.1)
