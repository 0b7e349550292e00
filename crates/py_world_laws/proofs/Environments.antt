-- A world that fits suits an environment, and one that suits an environment fits.
use Rattle.std.proofs.Common.{◌≡◌, ℕ, zero, suc, List, [], ◌∷◌, ◌++◌, length, Option, Some, None, ap, arith}
use Rattle.py_value.specs.Plain.{PlainValue, list_at, dict_at, func_value, module_value, PlainHeap}
use Rattle.py_builtins.specs.World.{World, Names}
use Rattle.py_code.specs.Machine.{code_of}
use Rattle.py_code.specs.Units.{Code, Module, unit_at}
use Rattle.py_world_laws.specs.Everywhere.{values_of_names, values_of_globals, values_of_object, values_of_heap, values_in, Everywhere}
use Rattle.py_world_laws.specs.Fits.{IsUnit, LiesIn, IsAddressed, HasAddress, HasDefaults, DoesNotName, IsUnnamed, IsNotAt, HasPlace, Fits}
use Rattle.py_world_laws.specs.Making.{defaults_in}
use Rattle.py_world_laws.specs.Suits.{Environment, AreDefaults, SuitsUnit, Suits, SuitAll, GlobalsSuit, ObjectsSuit, WorldSuits}
use Rattle.py_world_laws.proofs.Values.{each_of, all_append, all_left, all_right}

-- ---- values of a world one after another, or in their places

module _ (ms : List Module) (e : Environment) where
  pub globals_suit : (gs : List Names) → SuitAll ms e (values_of_globals gs) → GlobalsSuit ms e gs
  globals_suit [] h = tt
  globals_suit (g ∷ gs) h = (all_left (Suits ms e) (values_of_names g) (values_of_globals gs) h, globals_suit gs (all_right (Suits ms e) (values_of_names g) (values_of_globals gs) h))

  all_globals : (gs : List Names) → GlobalsSuit ms e gs → SuitAll ms e (values_of_globals gs)
  all_globals [] h = tt
  all_globals (g ∷ gs) h = all_append (Suits ms e) (values_of_names g) (values_of_globals gs) h.0 (all_globals gs h.1)

  pub objects_suit : (os : PlainHeap) → SuitAll ms e (values_of_heap os) → ObjectsSuit ms e os
  objects_suit [] h = tt
  objects_suit (o ∷ os) h = (all_left (Suits ms e) (values_of_object o) (values_of_heap os) h, objects_suit os (all_right (Suits ms e) (values_of_object o) (values_of_heap os) h))

  all_objects : (os : PlainHeap) → ObjectsSuit ms e os → SuitAll ms e (values_of_heap os)
  all_objects [] h = tt
  all_objects (o ∷ os) h = all_append (Suits ms e) (values_of_object o) (values_of_heap os) h.0 (all_objects os h.1)

  pub all_suit : (w : World) (more : List PlainValue) → WorldSuits ms e w → SuitAll ms e more → Everywhere (Suits ms e) w more
  all_suit w more g k =
      all_append (Suits ms e) (values_in w) more (all_append (Suits ms e) (values_of_globals w.globals) (values_of_heap w.heap) (all_globals w.globals g.globals) (all_objects w.heap g.heap.objects)) k

-- ---- from an environment

module _ (ms : List Module) (e : Environment) (w : World) (more : List PlainValue) (g : WorldSuits ms e w) (k : SuitAll ms e more) where
  every : Everywhere (Suits ms e) w more
  every = all_suit ms e w more g k

  knows_unit : (o : Option Code) (a : Option ℕ) → SuitsUnit e o a → IsUnit o
  knows_unit None a h = h
  knows_unit (Some u) a h = tt

  knows : (v : PlainValue) → Suits ms e v → LiesIn ms v
  knows (func_value f a) h = knows_unit (unit_at ms (code_of f)) a h
  knows (module_value m) h = h
  knows other h = tt

  addressed_by : (n : ℕ) (a : Option ℕ) → AreDefaults e n a → IsAddressed n a
  addressed_by zero None h = tt
  addressed_by zero (Some a) h = h
  addressed_by (suc n) None h = h
  addressed_by (suc n) (Some a) h = tt

  addressed_unit : (o : Option Code) (a : Option ℕ) → SuitsUnit e o a → IsAddressed (defaults_in o) a
  addressed_unit None a h = absurd h
  addressed_unit (Some u) a h = addressed_by u.defaults a h

  has_address : (v : PlainValue) → Suits ms e v → HasAddress ms v
  has_address (func_value f a) h = addressed_unit (unit_at ms (code_of f)) a h
  has_address other h = tt

  listed_by : (n a : ℕ) → AreDefaults e n (Some a) → e.lists a ≡ Some n
  listed_by zero a h = absurd h
  listed_by (suc n) a h = h

  listed_unit : (o : Option Code) (a : ℕ) → SuitsUnit e o (Some a) → e.lists a ≡ Some (defaults_in o)
  listed_unit None a h = absurd h
  listed_unit (Some u) a h = listed_by u.defaults a h

  has_defaults : (v : PlainValue) → Suits ms e v → HasDefaults ms w.heap v
  has_defaults (func_value f (Some a)) h = g.heap.lists a _ (listed_unit (unit_at ms (code_of f)) a h)
  has_defaults (func_value f None) h = tt
  has_defaults other h = tt

  differs : (a b n : ℕ) → e.lists a ≡ Some n → e.lists b ≡ None → a ≡ b → ⊥
  differs a b n h i same = let j : e.lists a ≡ e.lists b = ap e.lists same in absurd cc

  does_not_name : (a n : ℕ) → e.lists a ≡ Some n → (v : PlainValue) → Suits ms e v → DoesNotName a v
  does_not_name a n is (list_at b) h = λ same. differs a b n is h.1 same
  does_not_name a n is (dict_at b) h = λ same. differs a b n is h.1 same
  does_not_name a n is other h = tt

  is_unnamed : (v : PlainValue) → Suits ms e v → IsUnnamed w more v
  is_unnamed (func_value f (Some a)) h = each_of (Suits ms e) (DoesNotName a) (does_not_name a _ (listed_unit (unit_at ms (code_of f)) a h)) (values_in w ++ more) every
  is_unnamed (func_value f None) h = tt
  is_unnamed other h = tt

  is_not_at : (v : PlainValue) → Suits ms e v → IsNotAt w.words v
  is_not_at (func_value f (Some a)) h = λ same. differs a w.words _ (listed_unit (unit_at ms (code_of f)) a h) g.words.1 same
  is_not_at (func_value f None) h = tt
  is_not_at other h = tt

  placed_at : (v : PlainValue) → Suits ms e v → HasPlace (length w.heap) v
  placed_at (list_at a) h = let r = g.heap.room in let lt = h.0 in omega arith
  placed_at (dict_at a) h = let r = g.heap.room in let lt = h.0 in omega arith
  placed_at other h = tt

  pub fits_so : Fits ms w more
  fits_so = record {
    known = each_of (Suits ms e) (LiesIn ms) knows (values_in w ++ more) every;
    addressed = each_of (Suits ms e) (HasAddress ms) has_address (values_in w ++ more) every;
    filled = each_of (Suits ms e) (HasDefaults ms w.heap) has_defaults (values_in w ++ more) every;
    unnamed = each_of (Suits ms e) (IsUnnamed w more) is_unnamed (values_in w ++ more) every;
    unlike_words = each_of (Suits ms e) (IsNotAt w.words) is_not_at (values_in w ++ more) every;
    placed = each_of (Suits ms e) (HasPlace (length w.heap)) placed_at (values_in w ++ more) every;
    words_placed = let r = g.heap.room in let lt = g.words.0 in omega arith;
  }
