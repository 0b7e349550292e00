-- Names: globals, attributes, modules and what is predefined.
use Rattle.std.proofs.Common.{◌≡◌, ℕ, zero, suc, ◌+◌, ◌<◌, List, [], ◌∷◌, ◌++◌, length, map, Option, Some, None, Bool, true, false, refl, arith}
use Rattle.std.specs.Prelude.{if◌then◌else◌, Ok, codes}
use Rattle.py_value.specs.declared.builtin.Builtin.{Builtin}
use Rattle.py_value.specs.declared.builtin.Builtin.TheVariants.{Exit}
use Rattle.py_value.specs.declared.builtin.Method.{Method}
use Rattle.py_value.specs.declared.exception.ExcKind.{ExcKind}
use Rattle.py_value.specs.declared.value.ModId.{ModId}
use Rattle.py_value.specs.declared.value.ModId.TheVariants.{Loaded, Sys}
use Rattle.py_text.specs.Comparison.{is_same_text}
use Rattle.py_value.specs.Plain.{PlainValue, list_at, module_value, builtin_value, PlainRaised}
use Rattle.py_builtins.specs.Attributes.{or_raise, module_global, attribute, method_named}
use Rattle.py_builtins.specs.Callees.{Callee, a_value, a_method, as_method, as_value, callee_of, taken, or_builtin}
use Rattle.py_builtins.specs.Predefined.{builtins, kinds, builtin_pair, kind_pair, predefined}
use Rattle.py_builtins.specs.World.{World, Names, value_of, with_name, without_name, names_at, with_names_at, global_of, sys_name}
use Rattle.py_code.specs.Machine.{imported, module_of}
use Rattle.py_code.specs.Units.{Module, number_from, imported_number}
use Rattle.py_world_laws.specs.Suits.{Environment, Suits, Suit, SuitsRaised, NamesSuit, GlobalsSuit, WorldSuits}
use Rattle.py_world_laws.proofs.Values.{either, ThroughOption}
use Rattle.py_world_laws.proofs.Results.{ResultSuits}

first_inside : (b : Bool) (n m l : ℕ) (o : Option ℕ) → (o ≡ Some m → m < suc n + l) → (if b then Some n else o) ≡ Some m → m < n + suc l
first_inside true n m l o h e = let same : n ≡ m = cc in omega arith
first_inside false n m l o h e = let le = h e in omega arith

module _ (ms : List Module) (e : Environment) where
  pub name_suits : (x : List ℕ) (ns : Names) → NamesSuit ms e ns → ThroughOption (Suits ms e) (value_of x ns)
  unfolding value_of
  name_suits x [] k = tt
  name_suits x (n ∷ ns) k = either (ThroughOption (Suits ms e)) (is_same_text x n.0) (Some n.1) (value_of x ns) k.0 (name_suits x ns k.1)

  pub name_set : (x : List ℕ) (v : PlainValue) (ns : Names) → Suit ms e v → NamesSuit ms e ns → NamesSuit ms e (with_name x v ns)
  unfolding with_name
  name_set x v [] i k = (i, tt)
  name_set x v (n ∷ ns) i k = either (NamesSuit ms e) (is_same_text x n.0) ((x, v) ∷ ns) (n ∷ with_name x v ns) (i, k.1) (k.0, name_set x v ns i k.1)

  pub name_unset : (x : List ℕ) (ns : Names) → NamesSuit ms e ns → NamesSuit ms e (without_name x ns)
  unfolding without_name
  name_unset x [] k = tt
  name_unset x (n ∷ ns) k = either (NamesSuit ms e) (is_same_text x n.0) (without_name x ns) (n ∷ without_name x ns) (name_unset x ns k.1) (k.0, name_unset x ns k.1)

  names_suit : (m : ℕ) (gs : List Names) → GlobalsSuit ms e gs → NamesSuit ms e (names_at m gs)
  unfolding names_at
  names_suit m [] k = tt
  names_suit zero (g ∷ gs) k = k.0
  names_suit (suc m) (g ∷ gs) k = names_suit m gs k.1

  pub names_changed : (m : ℕ) (f : Names → Names) (gs : List Names) → ((ns : Names) → NamesSuit ms e ns → NamesSuit ms e (f ns)) → GlobalsSuit ms e gs → GlobalsSuit ms e (with_names_at m f gs)
  unfolding with_names_at
  names_changed zero f [] h k = (h [] tt, tt)
  names_changed (suc m) f [] h k = (tt, names_changed m f [] h tt)
  names_changed zero f (g ∷ gs) h k = (h g k.0, k.1)
  names_changed (suc m) f (g ∷ gs) h k = (k.0, names_changed m f gs h k.1)

  builtins_suit : (fs : List Builtin) (ns : Names) → NamesSuit ms e ns → NamesSuit ms e (map builtin_pair fs ++ ns)
  builtins_suit [] ns k = k
  builtins_suit (f ∷ fs) ns k = (tt, builtins_suit fs ns k)

  kinds_suit : (ks : List ExcKind) → NamesSuit ms e (map kind_pair ks)
  kinds_suit [] = tt
  kinds_suit (k ∷ ks) = (tt, kinds_suit ks)

  pub or_raise_suits : (raised : PlainRaised) (o : Option PlainValue) → SuitsRaised ms e raised → ThroughOption (Suits ms e) o → ResultSuits ms e (Suit ms e) (or_raise raised o)
  or_raise_suits raised None i k = i
  or_raise_suits raised (Some v) i k = k

  pub predefined_suits : (x : List ℕ) (o : Option PlainValue) → ThroughOption (Suits ms e) o → ResultSuits ms e (Suit ms e) (or_builtin x o)
  predefined_suits x None k = or_raise_suits _ (value_of x predefined) tt (name_suits x predefined (builtins_suit builtins (map kind_pair kinds) (kinds_suit kinds)))
  predefined_suits x (Some v) k = k

  abbrev pub CalleeSuits : Callee → Type 0
  CalleeSuits (a_value v) = Suit ms e v
  CalleeSuits (a_method m v) = Suit ms e v

  -- ---- modules

  number_inside : (n : ℕ) (ks : List Module) (x : List ℕ) (m : ℕ) → number_from n ks x ≡ Some m → m < n + length ks
  unfolding number_from
  number_inside n [] x m h = absurd cc
  number_inside n (k ∷ ks) x m h = first_inside (is_same_text x k.name) n m (length ks) (number_from (suc n) ks x) (number_inside (suc n) ks x m) h

  imported_inside : (ks : List Module) (x : List ℕ) (m : ℕ) → imported_number ks x ≡ Some m → m < length ks
  imported_inside [] x m h = absurd cc
  imported_inside (k ∷ ks) x m h = let le = number_inside 1 ks x m h in omega arith

  module_suits : (x : List ℕ) (o : Option ℕ) → ((m : ℕ) → o ≡ Some m → m < length ms) → ResultSuits ms e (Suit ms e) (module_of x o)
  module_suits x None h = tt
  module_suits x (Some m) h = h m refl

  pub imported_suits : (x : List ℕ) → ResultSuits ms e (Suit ms e) (imported ms x)
  imported_suits x = either (ResultSuits ms e (Suit ms e)) (is_same_text x (codes "sys")) (Ok (module_value Sys)) _ tt (module_suits x (imported_number ms x) (imported_inside ms x))

  module _ (w : World) (g : WorldSuits ms e w) where
    pub global_suits : (m : ℕ) (x : List ℕ) → ThroughOption (Suits ms e) (global_of m x w)
    global_suits m x = name_suits x (names_at m w.globals) (names_suit m w.globals g.globals)

    sys_suits : (x : List ℕ) → ThroughOption (Suits ms e) (sys_name w x)
    sys_suits x =
        either (ThroughOption (Suits ms e)) (is_same_text x (codes "argv")) (Some (list_at w.words)) _ g.words
        (either (ThroughOption (Suits ms e)) (is_same_text x (codes "exit")) (Some (builtin_value Exit)) None tt tt)

    module_global_suits : (m : ModId) (x : List ℕ) → ThroughOption (Suits ms e) (module_global m x w)
    module_global_suits (Loaded m) x = global_suits m x
    module_global_suits Sys x = sys_suits x

    pub attribute_suits : (v : PlainValue) (x : List ℕ) → ResultSuits ms e (Suit ms e) (attribute v x w)
    attribute_suits (module_value m) x = or_raise_suits _ (module_global m x w) tt (module_global_suits m x)
    attribute_suits v x = tt

    pub taken_suits : (from : List ℕ) (v : PlainValue) (x : List ℕ) → ResultSuits ms e (Suit ms e) (taken from v x w)
    taken_suits from (module_value m) x = or_raise_suits _ (module_global m x w) tt (module_global_suits m x)
    taken_suits from v x = tt

    value_called : (raised : PlainRaised) (o : Option PlainValue) → SuitsRaised ms e raised → ThroughOption (Suits ms e) o → ResultSuits ms e CalleeSuits (or_raise raised (as_value o))
    value_called raised None i k = i
    value_called raised (Some v) i k = k

    method_called : (raised : PlainRaised) (v : PlainValue) (o : Option Method) → SuitsRaised ms e raised → Suit ms e v → ResultSuits ms e CalleeSuits (or_raise raised (as_method v o))
    method_called raised v None i k = i
    method_called raised v (Some m) i k = k

    pub callee_suits : (v : PlainValue) (x : List ℕ) → Suit ms e v → ResultSuits ms e CalleeSuits (callee_of v x w)
    callee_suits (module_value m) x k = value_called _ (module_global m x w) tt (module_global_suits m x)
    callee_suits v x k = method_called _ v (method_named v x) tt k
