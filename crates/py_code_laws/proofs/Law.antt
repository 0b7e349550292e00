-- The units of a module that is well formed are a code.
use Rattle.std.proofs.Common.{◌≡◌, ℕ, zero, suc, ◌<◌, ◌≤◌, Bool, true, false, List, [], ◌∷◌, length, map, Some, refl, sym, ap, ◌∙◌, subst, arith}
use Rattle.std.specs.Prelude.{slice_get, if◌then◌else◌}
use Rattle.std.proofs.lemmas.List.{length-map}
use Rattle.py_syntax.specs.Functions.{Function, functions, without_docstring, is_docstring}
use Rattle.py_syntax.specs.Tree.{Stmts, no_stmts, stmt}
use Rattle.py_code.specs.Units.{Code}
use Rattle.py_code.specs.Valid.{most_units, IsValid, IsCode}
use Rattle.py_compile.specs.Definitions.{Definition, function_of, definitions, definitions_in}
use Rattle.py_compile.specs.Laws.{UnitsAreFaithful}
use Rattle.py_compile.specs.Proper.{AreProper}
use Rattle.py_compile.specs.ProgramRuns.{AreProperFunctions}
use Rattle.py_compile.specs.Units.{body_cells, module_code, function_code, units_code}
use Rattle.py_meaning.specs.Modules.{LoadedModule}
use Rattle.py_compile_laws.specs.Traces.{ScopesAreProper}
use Rattle.py_code_laws.specs.Fits.{CodeFits}
use Rattle.py_code_laws.proofs.AllStatements.{Room, room_last, stmts_fit}
use Rattle.py_code_laws.proofs.Bodies.{HasDepths, body_whole, unit_valid}

-- ---- a list of units that are valid

abbrev pub AllHave : ℕ → List Code → Type 0
AllHave units [] = Unit {0}
AllHave units (u ∷ us) = HasDepths u units × AllHave units us

abbrev pub chosen : (units : ℕ) (us : List Code) → AllHave units us → ℕ → List ℕ
chosen units [] h k = []
chosen units (u ∷ us) h zero = h.0.depths
chosen units (u ∷ us) h (suc k) = chosen units us h.1 k

chosen_valid : (units : ℕ) (us : List Code) (h : AllHave units us) (k : ℕ) (u : Code) → slice_get us k ≡ Some u → IsValid u units (chosen units us h k)
chosen_valid units [] h k u e = absurd cc
chosen_valid units (x ∷ us) h zero u e = let same : x ≡ u = cc in subst (λ v. IsValid v units h.0.depths) same h.0.valid
chosen_valid units (x ∷ us) h (suc k) u e = chosen_valid units us h.1 k u e

-- ---- docstrings

room_without : (b : Stmts) (fs : List Function) → Room (definitions b) fs → Room (definitions (without_docstring b)) fs
room_without no_stmts fs room = room
room_without (stmt first last k end rest) fs room = by_case (is_docstring k)
  where
    by_case : (d : Bool) → Room (definitions (if d then rest else stmt first last k end rest)) fs
    by_case true = room_last (definitions_in first k) (definitions rest) fs room
    by_case false = room

-- ---- units

module _ (faithful : UnitsAreFaithful) (b : Stmts) where
  abbrev fs : List Function
  fs = functions b

  many : length fs ≡ length (definitions b)
  many = sym (ap length (faithful.functions b)) ∙ length-map (definitions b) function_of

  module _ (units : ℕ) (small : length fs < units) where
    body_has : AreProper (without_docstring b) → HasDepths (module_code b) units
    body_has ok =
        let f = faithful.body b in
        let room : Room (definitions b) fs = λ some. subst (λ n. 0 < n) (sym many) some in
        unit_valid (module_code b) units _ (body_cells fs (without_docstring b)) f.has f.whole refl
        (body_whole fs (without_docstring b) (stmts_fit fs small (without_docstring b) ok (room_without b fs room)))

    function_has : 0 < length fs → (d : Definition) → AreProper (without_docstring d.function.body) → HasDepths (function_code fs d) units
    function_has some d ok =
        let f = faithful.function b d in
        unit_valid (function_code fs d) units _ (body_cells fs (without_docstring d.function.body)) f.has f.whole refl
        (body_whole fs (without_docstring d.function.body) (stmts_fit fs small (without_docstring d.function.body) ok (λ h. some)))

    functions_have : (ds : List Definition) → length ds ≤ length fs → AreProperFunctions (map function_of ds) → AllHave units (map (function_code fs) ds)
    functions_have [] le ok = tt
    functions_have (d ∷ ds) le ok = (function_has (omega (arith, le)) d ok.0, functions_have ds (omega (arith, le)) ok.1)

  is_code : length (definitions b) < most_units → AreProper (without_docstring b) → AreProperFunctions fs → IsCode (units_code b)
  is_code few body rest =
      let us = units_code b in
      let count : length us ≡ suc (length (definitions b)) = ap suc (length-map (definitions b) (function_code fs)) in
      let small : length fs < length us = omega (arith, count, many) in
      let proper : AreProperFunctions (map function_of (definitions b)) = subst AreProperFunctions (sym (faithful.functions b)) rest in
      let all : AllHave (length us) us = (body_has (length us) small body, functions_have (length us) small (definitions b) (omega (arith, many)) proper) in
      (chosen (length us) us all, record { units = λ k u e. chosen_valid (length us) us all k u e; body = omega (arith, count); few = omega (arith, count, few) })

pub law : UnitsAreFaithful → ScopesAreProper → CodeFits
law faithful premises = λ b well few.
    let module_of : LoadedModule = record { name = []; path = []; body = b } in
    let proper = premises.proper (module_of ∷ []) (well, tt) in
    is_code faithful b few proper.0 proper.1
