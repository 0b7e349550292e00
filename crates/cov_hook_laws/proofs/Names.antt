-- The names of the units after the body of faithful code are those of the `def`s.
use Rattle.std.proofs.Common.{◌≡◌, List, [], ◌∷◌, map, refl, ap, ◌∙◌}
use Rattle.py_code.specs.Units.{Code, Module}
use Rattle.py_compile.specs.Definitions.{Definition, function_of, definitions}
use Rattle.py_compile.specs.Laws.{UnitsAreFaithful}
use Rattle.py_compile.specs.ProgramRuns.{HasFunctions, HasUnits, AreFaithful}
use Rattle.py_meaning.specs.Modules.{LoadedModule}
use Rattle.py_syntax.specs.Functions.{Function, functions}
use Rattle.py_syntax.specs.Tree.{Stmts}
use Rattle.cov_hook.specs.Functions as code
use Rattle.cov_hook_laws.specs.MeantHooks.{name_of, def_names}

-- unit by unit
functions_named : (all : List Function) (ds : List Definition) (us : List Code) → HasFunctions all ds us
    → map code.name_of us ≡ map name_of (map function_of ds)
functions_named all [] [] h = refl
functions_named all [] (u ∷ us) h = absurd h
functions_named all (d ∷ ds) [] h = absurd h
functions_named all (d ∷ ds) (u ∷ us) h =
    ap (λ x. x ∷ map code.name_of us) h.0.name
    ∙ ap (λ xs. d.function.name ∷ xs) (functions_named all ds us h.1)

module _ (law : UnitsAreFaithful) where
  -- of one module
  units_named : (b : Stmts) (us : List Code) → HasUnits b us
      → code.names_after_body us ≡ map name_of (functions b)
  units_named b [] h = absurd h
  units_named b (u ∷ us) h =
      functions_named (functions b) (definitions b) us h.1 ∙ ap (map name_of) (law.functions b)

  -- of the script
  pub names : (cs : List Module) (ms : List LoadedModule) → AreFaithful cs ms
      → code.function_names cs ≡ def_names ms
  names [] [] h = refl
  names [] (l ∷ ls) h = absurd h
  names (c ∷ cs) [] h = absurd h
  names (c ∷ cs) (l ∷ ls) h = units_named l.body c.units h.1
