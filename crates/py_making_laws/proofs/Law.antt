-- Faithful code of modules without a fault of scope makes functions as its units ask.
use Rattle.std.proofs.Common.{◌≡◌, ℕ, zero, suc, List, [], ◌∷◌, map, Some, sym, subst}
use Rattle.std.specs.Prelude.{slice_get}
use Rattle.py_syntax.specs.Functions.{Function, functions, without_docstring}
use Rattle.py_syntax.specs.Names.{local_names}
use Rattle.py_syntax.specs.Tree.{Stmts}
use Rattle.py_meaning.specs.Modules.{LoadedModule}
use Rattle.py_scope.specs.Faults.{module_place, late_globals, findings, IsWellFormed}
use Rattle.py_scope.specs.Occurrences.{occurrences}
use Rattle.py_code.specs.Units.{Code, Module, units_of}
use Rattle.py_compile.specs.Definitions.{Definition, function_of, definitions}
use Rattle.py_compile.specs.Laws.{SizesHold, UnitsAreFaithful}
use Rattle.py_compile.specs.Proper.{AreProper}
use Rattle.py_compile.specs.ProgramRuns.{HasFunctions, HasUnits, AreFaithful, AreProperFunctions, AreProperModules}
use Rattle.py_compile.specs.Units.{body_function}
use Rattle.py_world_laws.specs.Making.{MakesFunctions}
use Rattle.py_compile_laws.specs.Traces.{AreWellFormed, ScopesAreProper}
use Rattle.py_line_laws.specs.OwnLines.{HaveOwnLines}
use Rattle.py_making_laws.specs.Makers.{AreOnOwnLines, CodeMakesFunctions}
use Rattle.py_making_laws.proofs.Bodies.{unit_makes}
use Rattle.py_making_laws.proofs.Defaults.{AllAnswered, numbered}
use Rattle.py_making_laws.proofs.Nested.{AreFlat, back_none, flat}

-- ---- the functions of a module

module _ (sizes : SizesHold) (us : List Code) (fs : List Function) where
  function_makes : (d : Definition) (u : Code) → AreProper (without_docstring d.function.body) → definitions d.function.body ≡ [] → HasFunctions fs (d ∷ []) (u ∷ []) → MakesFunctions us u
  function_makes d u ok none has = unit_makes sizes us u fs d.function d.defaults (local_names d.function.params d.function.body) has.0 ok (subst (AllAnswered us fs) (sym none) tt)

  functions_make : (ds : List Definition) (vs : List Code) → HasFunctions fs ds vs → AreProperFunctions (map function_of ds) → AreFlat ds → (k : ℕ) (u : Code) → slice_get vs k ≡ Some u → MakesFunctions us u
  functions_make [] [] has ok flat_ones k u is = absurd cc
  functions_make [] (v ∷ vs) has ok flat_ones k u is = absurd has
  functions_make (d ∷ ds) [] has ok flat_ones k u is = absurd cc
  functions_make (d ∷ ds) (v ∷ vs) has ok flat_ones zero u is = let same : v ≡ u = cc in subst (MakesFunctions us) same (function_makes d v ok.0 flat_ones.0 (has.0, tt))
  functions_make (d ∷ ds) (v ∷ vs) has ok flat_ones (suc k) u is = functions_make ds vs has.1 ok.1 flat_ones.1 k u is

-- ---- a module

module _ (sizes : SizesHold) (faithful : UnitsAreFaithful) (b : Stmts) (well : IsWellFormed b) (own : HaveOwnLines (functions b)) (body : AreProper (without_docstring b)) (rest : AreProperFunctions (functions b)) where
  answers : (u : Code) (us : List Code) → HasUnits b (u ∷ us) → AllAnswered (u ∷ us) (functions b) (definitions b)
  answers u us has =
      subst (λ fs. AllAnswered (u ∷ us) fs (definitions b)) (faithful.functions b)
      (numbered (functions b) (definitions b) us u has.1 (subst HaveOwnLines (sym (faithful.functions b)) own))

  flat_all : AreFlat (definitions b)
  flat_all = flat module_place b (back_none (late_globals [] (occurrences b)) (findings module_place b).faults well)

  pub module_makes : (us : List Code) → HasUnits b us → (k : ℕ) (u : Code) → slice_get us k ≡ Some u → MakesFunctions us u
  module_makes [] has k u is = absurd has
  module_makes (v ∷ vs) has zero u is =
      let same : v ≡ u = cc in
      subst (MakesFunctions (v ∷ vs)) same (unit_makes sizes (v ∷ vs) v (functions b) (body_function b) 0 [] has.0 body (answers v vs has))
  module_makes (v ∷ vs) has (suc k) u is =
      functions_make sizes (v ∷ vs) (functions b) (definitions b) vs has.1 (subst AreProperFunctions (sym (faithful.functions b)) rest) flat_all k u is

-- ---- all modules

modules_make : SizesHold → UnitsAreFaithful → (cs : List Module) (ms : List LoadedModule) → AreFaithful cs ms → AreWellFormed ms → AreOnOwnLines ms → AreProperModules ms → (m k : ℕ) (u : Code) → slice_get (units_of (slice_get cs m)) k ≡ Some u
    → MakesFunctions (units_of (slice_get cs m)) u
modules_make sizes faithful [] [] are well own ok m k u is = absurd cc
modules_make sizes faithful [] (l ∷ ls) are well own ok m k u is = absurd are
modules_make sizes faithful (c ∷ cs) [] are well own ok m k u is = absurd are
modules_make sizes faithful (c ∷ cs) (l ∷ ls) are well own ok zero k u is = module_makes sizes faithful l.body well.0 own.0 ok.0 ok.1 c.units are.1 k u is
modules_make sizes faithful (c ∷ cs) (l ∷ ls) are well own ok (suc m) k u is = modules_make sizes faithful cs ls are.2 well.1 own.1 ok.2 m k u is

pub law : SizesHold → UnitsAreFaithful → ScopesAreProper → CodeMakesFunctions
law sizes faithful premises = λ cs ms are well own. record { units = λ code u is. modules_make sizes faithful cs ms are well own (premises.proper ms well) code.module code.unit u is }
