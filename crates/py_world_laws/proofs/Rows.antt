-- Small worlds and codes: which fit, and what each sentence refuses.
use Rattle.std.proofs.Common.{◌≡◌, ℕ, List, [], ◌∷◌, length, Option, Some, None, false, refl, ap, arith}
use Rattle.std.specs.Prelude.{pos}
use Rattle.py_value.specs.declared.value.ModId.TheVariants.{Loaded}
use Rattle.py_value.specs.Heaps.{items_of}
use Rattle.py_value.specs.Plain.{PlainValue, int_value, list_at, dict_at, func_value, module_value, tuple_of, list_object, PlainHeap}
use Rattle.py_builtins.specs.World.{World}
use Rattle.py_code.specs.declared.instr.Instr.{Instr}
use Rattle.py_code.specs.declared.instr.Instr.TheVariants.{Constant, Copy, List as MakeList, FunctionWith, StoreGlobal, Return}
use Rattle.py_code.specs.Units.{Code, Module}
use Rattle.py_world_laws.specs.Fits.{Fits}
use Rattle.py_world_laws.specs.Making.{MakesFunctions, AreMakers}
use Rattle.py_world_laws.proofs.Checking.{are_makers, makers}

-- a script whose one function has one default
abbrev unit_of : ℕ → List Instr → Code
unit_of n is = record { name = []; first = 1; params = []; defaults = n; locals = []; names = []; constants = []; instrs = is; lines = []; handlers = [] }

abbrev ms : List Module
ms = record { name = []; units = unit_of 0 [] ∷ unit_of 1 [] ∷ [] } ∷ []

abbrev function_at : ℕ → Option ℕ → PlainValue
function_at k a = func_value (record { «module» = 0; unit = k }) a

-- the words are at 0, and one number at 1; the script has these two globals
abbrev world : ℕ → PlainValue → PlainValue → PlainHeap → World
world words v x h = record { globals = ((102 ∷ [], v) ∷ (103 ∷ [], x) ∷ []) ∷ []; begun = []; heap = h; words = words }

abbrev heap : PlainHeap
heap = list_object [] ∷ list_object (int_value (pos 7) ∷ []) ∷ []

abbrev good : World
good = world 0 (function_at 1 (Some 1)) (list_at 0) heap

fits : Fits ms good []
fits = record {
  known = (tt, (tt, (tt, tt)));
  addressed = (tt, (tt, (tt, tt)));
  filled = ((int_value (pos 7) ∷ [], refl, refl), (tt, (tt, tt)));
  unnamed = ((tt, ((λ same. absurd (omega (arith, same))), (tt, tt))), (tt, (tt, tt)));
  unlike_words = ((λ same. absurd (omega (arith, same))), (tt, (tt, tt)));
  placed = (tt, (omega arith, (tt, tt)));
  words_placed = omega arith;
}

-- ---- what the sentences refuse

no_such_unit : Fits ms (world 0 (function_at 2 None) (list_at 0) heap) [] → ⊥
no_such_unit f = f.known.0

no_such_module : Fits ms (world 0 (module_value (Loaded 1)) (list_at 0) heap) [] → ⊥
no_such_module f = let lt = f.known.0 in absurd (omega (arith, lt))

no_address : Fits ms (world 0 (function_at 1 None) (list_at 0) heap) [] → ⊥
no_address f = f.addressed.0

no_defaults : Fits ms (world 0 (function_at 0 (Some 1)) (list_at 0) heap) [] → ⊥
no_defaults f = f.addressed.0

two_of_one : (vs : List PlainValue) → Some (list_object []) ≡ Some (list_object vs) → length vs ≡ 1 → ⊥
two_of_one vs e n = let same : list_object [] ≡ list_object vs = cc in let long : 0 ≡ length vs = ap (λ o. length (items_of o)) same in absurd (omega (arith, long, n))

too_few : Fits ms (world 0 (function_at 1 (Some 1)) (list_at 0) (list_object [] ∷ list_object [] ∷ [])) [] → ⊥
too_few f = let l = f.filled.0 in two_of_one l.0 l.1 l.2

named_by_list : Fits ms (world 0 (function_at 1 (Some 1)) (list_at 1) heap) [] → ⊥
named_by_list f = f.unnamed.0.1.0 refl

-- also by a value within a tuple, or by one that is handed in
named_within : Fits ms (world 0 (function_at 1 (Some 1)) (tuple_of (dict_at 1 ∷ [])) heap) [] → ⊥
named_within f = f.unnamed.0.1.0.1.0 refl

named_besides : Fits ms good (list_at 1 ∷ []) → ⊥
named_besides f = f.unnamed.0.1.1.1.0 refl

words_as_defaults : Fits ms (world 1 (function_at 1 (Some 1)) (list_at 0) heap) [] → ⊥
words_as_defaults f = f.unlike_words.0 refl

beyond : Fits ms (world 0 (function_at 1 (Some 1)) (list_at 2) heap) [] → ⊥
beyond f = let lt = f.placed.1.0 in absurd (omega (arith, lt))

-- ---- code

-- makes a function right after the list of its defaults
abbrev maker : Code
maker = unit_of 0 (Constant 0 ∷ MakeList 1 ∷ FunctionWith 1 ∷ StoreGlobal 0 ∷ Constant 1 ∷ Return ∷ [])

-- keeps the list besides
abbrev keeper : Code
keeper = unit_of 0 (Constant 0 ∷ MakeList 1 ∷ Copy 0 ∷ FunctionWith 1 ∷ Return ∷ [])

abbrev units : Code → List Code
units u = u ∷ unit_of 1 [] ∷ []

abbrev script_of : Code → List Module
script_of u = record { name = []; units = units u } ∷ []

makes : AreMakers (script_of maker)
makes = makers (script_of maker) refl

keeps_not : are_makers (script_of keeper) ≡ false
keeps_not = refl

keeps_list : MakesFunctions (units keeper) keeper → ⊥
keeps_list m = let other = (m.each 2 (Copy 0) refl).0 in absurd cc
