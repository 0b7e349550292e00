-- Heaps and environments: new objects, and objects changed.
use Rattle.std.proofs.Common.{◌≡◌, ℕ, zero, suc, ◌<◌, ◌≤◌, List, [], ◌∷◌, ◌++◌, length, Option, Some, None, Bool, true, false, refl, ap, ◌∙◌, arith}
use Rattle.std.specs.Prelude.{slice_get, slice_set, if◌then◌else◌, nat_eq}
use Rattle.std.proofs.lemmas.Bool.Decides.{nat_tests}
use Rattle.std.proofs.lemmas.List.{length-append, length-set}
use Rattle.std.proofs.lemmas.Option.{slice_get_past}
use Rattle.py_value.specs.Heaps.{object_at, with_object}
use Rattle.py_value.specs.Plain.{PlainValue, list_at, dict_at, func_value, module_value, PlainObject, list_object, PlainHeap, PlainArgument}
use Rattle.py_builtins.specs.World.{Names}
use Rattle.py_code.specs.Machine.{code_of}
use Rattle.py_code.specs.Units.{Code, Module, unit_at}
use Rattle.py_world_laws.specs.Everywhere.{ThroughArgument, values_of_names, values_of_object}
use Rattle.py_world_laws.specs.Fits.{IsListOf}
use Rattle.py_world_laws.specs.Suits.{Environment, IsOther, AreDefaults, SuitsUnit, Suits, Suit, SuitAll, GlobalsSuit, ObjectSuits, ObjectsSuit, HeapSuits, Widens}
use Rattle.py_world_laws.proofs.Values.{each, each_argument, each_of}

pub widens_same : (e : Environment) → Widens e e
widens_same e = record { more = omega arith; kept = λ a n h. h; other = λ a lt h. h }

pub widens_then : (e f g : Environment) → Widens e f → Widens f g → Widens e g
widens_then e f g h k =
    record { more = let p = h.more in let q = k.more in omega arith; kept = λ a n i. k.kept a n (h.kept a n i); other = λ a lt i. k.other a (let p = h.more in omega arith) (h.other a lt i) }

module _ (ms : List Module) (e f : Environment) (w : Widens e f) where
  pub wider_other : (a : ℕ) → IsOther e a → IsOther f a
  wider_other a h = (let p = w.more in let q = h.0 in omega arith, w.other a h.0 h.1)

  wider_defaults : (n : ℕ) (a : Option ℕ) → AreDefaults e n a → AreDefaults f n a
  wider_defaults zero None h = tt
  wider_defaults zero (Some a) h = h
  wider_defaults (suc n) None h = h
  wider_defaults (suc n) (Some a) h = w.kept a (suc n) h

  wider_unit : (o : Option Code) (a : Option ℕ) → SuitsUnit e o a → SuitsUnit f o a
  wider_unit None a h = h
  wider_unit (Some u) a h = wider_defaults u.defaults a h

  wider_suits : (v : PlainValue) → Suits ms e v → Suits ms f v
  wider_suits (func_value g a) h = wider_unit (unit_at ms (code_of g)) a h
  wider_suits (module_value m) h = h
  wider_suits (list_at a) h = wider_other a h
  wider_suits (dict_at a) h = wider_other a h
  wider_suits other h = tt

  pub wider : (v : PlainValue) → Suit ms e v → Suit ms f v
  wider v h = each (Suits ms e) (Suits ms f) wider_suits v h

  pub wider_argument : (arg : PlainArgument) → ThroughArgument (Suits ms e) arg → ThroughArgument (Suits ms f) arg
  wider_argument arg h = each_argument (Suits ms e) (Suits ms f) wider_suits arg h

  pub wider_all : (vs : List PlainValue) → SuitAll ms e vs → SuitAll ms f vs
  wider_all vs h = each_of (Suits ms e) (Suits ms f) wider_suits vs h

  pub wider_globals : (gs : List Names) → GlobalsSuit ms e gs → GlobalsSuit ms f gs
  wider_globals [] h = tt
  wider_globals (g ∷ gs) h = (wider_all (values_of_names g) h.0, wider_globals gs h.1)

  pub wider_objects : (os : PlainHeap) → ObjectsSuit ms e os → ObjectsSuit ms f os
  wider_objects [] h = tt
  wider_objects (o ∷ os) h = (wider_all (values_of_object o) h.0, wider_objects os h.1)

module _ (ms : List Module) (e : Environment) where
  pub object_suits : (h : PlainHeap) (a : ℕ) → ObjectsSuit ms e h → ObjectSuits ms e (object_at h a)
  object_suits [] a g = tt
  object_suits (o ∷ h) zero g = g.0
  object_suits (o ∷ h) (suc a) g = object_suits h a g.1

  objects_set : (h : PlainHeap) (a : ℕ) (o : PlainObject) → ObjectsSuit ms e h → ObjectSuits ms e o → ObjectsSuit ms e (slice_set h a o)
  objects_set [] a o g k = tt
  objects_set (p ∷ h) zero o g k = (k, g.1)
  objects_set (p ∷ h) (suc a) o g k = (g.0, objects_set h a o g.1 k)

  objects_append : (h : PlainHeap) (o : PlainObject) → ObjectsSuit ms e h → ObjectSuits ms e o → ObjectsSuit ms e (h ++ o ∷ [])
  objects_append [] o g k = (k, tt)
  objects_append (p ∷ h) o g k = (g.0, objects_append h o g.1 k)

get_other : {A : Type 0} (xs : List A) (a b : ℕ) (x : A) → (a ≡ b → ⊥) → slice_get (slice_set xs a x) b ≡ slice_get xs b
get_other [] a b x h = refl
get_other (y ∷ xs) zero zero x h = absurd (h refl)
get_other (y ∷ xs) zero (suc b) x h = refl
get_other (y ∷ xs) (suc a) zero x h = refl
get_other (y ∷ xs) (suc a) (suc b) x h = get_other xs a b x (λ i. h (ap suc i))

get_appended : {A : Type 0} (xs ys : List A) (a : ℕ) (x : A) → slice_get xs a ≡ Some x → slice_get (xs ++ ys) a ≡ Some x
get_appended [] ys a x h = absurd cc
get_appended (y ∷ xs) ys zero x h = h
get_appended (y ∷ xs) ys (suc a) x h = get_appended xs ys a x h

pub get_last : {A : Type 0} (xs : List A) (x : A) → slice_get (xs ++ x ∷ []) (length xs) ≡ Some x
get_last [] x = refl
get_last (y ∷ xs) x = get_last xs x

some_none : {A : Type 0} (o : Option A) (x : A) → o ≡ None → o ≡ Some x → ⊥
some_none o x h k = absurd cc

same_number : (a b : ℕ) → nat_eq a b ≡ true → a ≡ b
same_number a b h = grind (arith, nat_tests)

if_same : (a b n : ℕ) (o : Option ℕ) → a ≡ b → (if nat_eq a b then Some n else o) ≡ Some n
if_same a b n o h = by_case (nat_eq a b) refl
  where
    by_case : (c : Bool) → nat_eq a b ≡ c → (if c then Some n else o) ≡ Some n
    by_case true q = refl
    by_case false q = absurd (grind (arith, nat_tests))

-- an address that no object has yet is no defaults'
none_at : (e : Environment) (a : ℕ) (o : Option ℕ) → e.lists a ≡ o → ((n : ℕ) → e.lists a ≡ Some n → ⊥) → e.lists a ≡ None
none_at e a None h k = h
none_at e a (Some n) h k = absurd (k n h)

module _ (ms : List Module) (e : Environment) (h : PlainHeap) (g : HeapSuits ms e h) where
  pub is_free : (a : ℕ) → length h ≤ a → e.lists a ≡ None
  is_free a le = none_at e a (e.lists a) refl (λ n i. let l = g.lists a n i in some_none (slice_get h a) _ (slice_get_past h a le) l.1)

  -- a list or a dict that isn't one of defaults is changed
  pub heap_set : (a : ℕ) (o : PlainObject) → IsOther e a → ObjectSuits ms e o → HeapSuits ms e (slice_set h a o)
  heap_set a o other k = record {
    objects = objects_set ms e h a o g.objects k;
    room = length-set h a o ∙ g.room;
    lists = λ b n i. let l = g.lists b n i in (l.0, get_other h a b o (λ same. some_none (e.lists a) n other.1 (ap e.lists same ∙ i)) ∙ l.1, l.2);
  }

  -- one more object
  abbrev pub one_more : Environment
  one_more = record { room = suc e.room; lists = e.lists }

  pub widens_more : Widens e one_more
  widens_more = record { more = omega arith; kept = λ a n i. i; other = λ a lt i. i }

  pub heap_more : (o : PlainObject) → ObjectSuits ms e o → HeapSuits ms one_more (with_object h o)
  heap_more o k = record {
    objects = objects_append ms one_more h o (wider_objects ms e one_more widens_more h g.objects) (wider_all ms e one_more widens_more (values_of_object o) k);
    room = let p = length-append h (o ∷ []) in let q = g.room in omega arith;
    lists = λ a n i. let l = g.lists a n i in (l.0, get_appended h (o ∷ []) a _ l.1, l.2);
  }

  pub more_other : IsOther one_more (length h)
  more_other = (let q = g.room in omega arith, is_free (length h) (omega arith))

  -- one more list, which is of defaults
  abbrev pub with_defaults : ℕ → Environment
  with_defaults n = record { room = suc e.room; lists = λ a. if nat_eq a (length h) then Some n else e.lists a }

  pub lists_defaults : (n : ℕ) → (with_defaults n).lists (length h) ≡ Some n
  lists_defaults n = if_same (length h) (length h) n (e.lists (length h)) refl

  kept_defaults : (n a m : ℕ) (b : Bool) → nat_eq a (length h) ≡ b → e.lists a ≡ Some m → (if b then Some n else e.lists a) ≡ Some m
  kept_defaults n a m true q i = absurd (some_none (e.lists a) m (is_free a (let s = same_number a (length h) q in omega arith)) i)
  kept_defaults n a m false q i = i

  other_defaults : (n a : ℕ) (b : Bool) → nat_eq a (length h) ≡ b → a < e.room → e.lists a ≡ None → (if b then Some n else e.lists a) ≡ None
  other_defaults n a true q lt i = absurd (let s = same_number a (length h) q in let r = g.room in omega arith)
  other_defaults n a false q lt i = i

  pub widens_defaults : (n : ℕ) → Widens e (with_defaults n)
  widens_defaults n =
      record { more = omega arith; kept = λ a m i. kept_defaults n a m (nat_eq a (length h)) refl i; other = λ a lt i. other_defaults n a (nat_eq a (length h)) refl lt i }

  module _ (vs : List PlainValue) (k : SuitAll ms e vs) where
    list_defaults : (a m : ℕ) (b : Bool) → nat_eq a (length h) ≡ b → (if b then Some (length vs) else e.lists a) ≡ Some m → IsListOf (with_object h (list_object vs)) m a
    list_defaults a m true q i = (vs, ap (slice_get (with_object h (list_object vs))) (same_number a (length h) q) ∙ get_last h (list_object vs), cc)
    list_defaults a m false q i = let l = g.lists a m i in (l.0, get_appended h (list_object vs ∷ []) a _ l.1, l.2)

    pub heap_defaults : HeapSuits ms (with_defaults (length vs)) (with_object h (list_object vs))
    heap_defaults =
        let w = widens_defaults (length vs) in
        record {
          objects = objects_append ms (with_defaults (length vs)) h (list_object vs) (wider_objects ms e (with_defaults (length vs)) w h g.objects) (wider_all ms e (with_defaults (length vs)) w vs k);
          room = let p = length-append h (list_object vs ∷ []) in let q = g.room in omega arith;
          lists = λ a m i. list_defaults a m (nat_eq a (length h)) refl i;
        }
