-- The environment of a world that fits: which addresses its functions name.
use Rattle.std.proofs.Common.{◌≡◌, ℕ, zero, suc, List, [], ◌∷◌, ◌++◌, length, Option, Some, None, Bool, true, false, refl, sym, ap, ◌∙◌, subst, ◌⊎◌, inl, inr, arith}
use Rattle.std.specs.Prelude.{nat_eq, if◌then◌else◌, ◌||◌}
use Rattle.std.proofs.lemmas.Bool.Decides.{nat_tests}
use Rattle.std.proofs.lemmas.Option.{get_or_from_slice_get}
use Rattle.py_value.specs.Heaps.{items_of, list_items}
use Rattle.py_value.specs.Plain.{PlainValue, none_value, bool_value, int_value, str_value, tuple_value, list_at, dict_at, func_value, module_value, kind_value, exc_value, builtin_value, PlainValues, no_values, value_then, PlainArgument, no_argument, argument, list_object}
use Rattle.py_value.specs.declared.value.FuncId.{FuncId}
use Rattle.py_builtins.specs.World.{World}
use Rattle.py_code.specs.Machine.{code_of}
use Rattle.py_code.specs.Units.{Code, Module, unit_at}
use Rattle.py_world_laws.specs.Everywhere.{Throughout, ThroughItems, ThroughArgument, ThroughAll, values_of_globals, values_of_heap, values_in}
use Rattle.py_world_laws.specs.Fits.{IsUnit, LiesIn, IsAddressed, HasAddress, IsListOf, HasDefaults, DoesNotName, IsUnnamed, IsNotAt, HasPlace, Fits}
use Rattle.py_world_laws.specs.Making.{defaults_in}
use Rattle.py_world_laws.specs.Suits.{Environment, AreDefaults, SuitsUnit, Suits, SuitAll, WorldSuits}
use Rattle.py_world_laws.proofs.Values.{join_all, each_of, all_left, all_right}
use Rattle.py_world_laws.proofs.Environments.{globals_suit, objects_suit}

-- ---- whether some function in values has an address

abbrev mutual
  named : ℕ → PlainValue → Bool
  named a (tuple_value vs) = named_items a vs
  named a (func_value f (Some b)) = nat_eq a b
  named a (exc_value kind arg) = named_argument a arg
  named a other = false

  named_items : ℕ → PlainValues → Bool
  named_items a no_values = false
  named_items a (value_then v vs) = named a v || named_items a vs

  named_argument : ℕ → PlainArgument → Bool
  named_argument a no_argument = false
  named_argument a (argument v) = named a v

abbrev named_all : ℕ → List PlainValue → Bool
named_all a [] = false
named_all a (v ∷ vs) = named a v || named_all a vs

or_true : (b c : Bool) → (b || c) ≡ true → (b ≡ true) ⊎ (c ≡ true)
or_true true c h = inl refl
or_true false c h = inr h

or_left : (b c : Bool) → b ≡ true → (b || c) ≡ true
or_left true c h = refl
or_left false c h = absurd cc

or_right : (b c : Bool) → c ≡ true → (b || c) ≡ true
or_right true c h = refl
or_right false c h = h

same_number : (a b : ℕ) → nat_eq a b ≡ true → b ≡ a
same_number a b h = grind (arith, nat_tests)

own_number : (a : ℕ) → nat_eq a a ≡ true
own_number a = by_case (nat_eq a a) refl
  where
    by_case : (b : Bool) → nat_eq a a ≡ b → b ≡ true
    by_case true h = refl
    by_case false h = absurd (grind (arith, nat_tests))

-- then what holds throughout holds of such a function
module _ (P : PlainValue → Type 0) (a : ℕ) where
  abbrev Of : Type 0
  Of = (f : FuncId) × P (func_value f (Some a))

  either_of : {A B : Type 0} → (A → Of) → (B → Of) → A ⊎ B → Of
  either_of f g (inl x) = f x
  either_of f g (inr y) = g y

  mutual
    of_value : (v : PlainValue) → Throughout P v → named a v ≡ true → Of
    of_value (tuple_value vs) h n = of_items vs h.1 n
    of_value (func_value f (Some b)) h n = (f, subst (λ c. P (func_value f (Some c))) (same_number a b n) h)
    of_value (func_value f None) h n = absurd cc
    of_value (exc_value kind arg) h n = of_argument arg h.1 n
    of_value none_value h n = absurd cc
    of_value (bool_value b) h n = absurd cc
    of_value (int_value i) h n = absurd cc
    of_value (str_value s) h n = absurd cc
    of_value (list_at b) h n = absurd cc
    of_value (dict_at b) h n = absurd cc
    of_value (module_value m) h n = absurd cc
    of_value (kind_value kind) h n = absurd cc
    of_value (builtin_value which) h n = absurd cc

    of_items : (vs : PlainValues) → ThroughItems P vs → named_items a vs ≡ true → Of
    of_items no_values h n = absurd cc
    of_items (value_then v vs) h n = either_of (λ q. of_value v h.0 q) (λ q. of_items vs h.1 q) (or_true (named a v) (named_items a vs) n)

    of_argument : (arg : PlainArgument) → ThroughArgument P arg → named_argument a arg ≡ true → Of
    of_argument no_argument h n = absurd cc
    of_argument (argument v) h n = of_value v h n

  of_all : (vs : List PlainValue) → ThroughAll P vs → named_all a vs ≡ true → Of
  of_all [] h n = absurd cc
  of_all (v ∷ vs) h n = either_of (λ q. of_value v h.0 q) (λ q. of_all vs h.1 q) (or_true (named a v) (named_all a vs) n)

-- each function is one of those whose address is named
abbrev IsMarked : (ℕ → Bool) → PlainValue → Type 0
IsMarked among (func_value f (Some a)) = among a ≡ true
IsMarked among other = Unit {0}

module _ (among : ℕ → Bool) where
  mutual
    marks : (v : PlainValue) → ((a : ℕ) → named a v ≡ true → among a ≡ true) → Throughout (IsMarked among) v
    marks (tuple_value vs) h = (tt, marks_items vs h)
    marks (func_value f (Some a)) h = h a (own_number a)
    marks (func_value f None) h = tt
    marks (exc_value kind arg) h = (tt, marks_argument arg h)
    marks none_value h = tt
    marks (bool_value b) h = tt
    marks (int_value i) h = tt
    marks (str_value s) h = tt
    marks (list_at b) h = tt
    marks (dict_at b) h = tt
    marks (module_value m) h = tt
    marks (kind_value kind) h = tt
    marks (builtin_value which) h = tt

    marks_items : (vs : PlainValues) → ((a : ℕ) → named_items a vs ≡ true → among a ≡ true) → ThroughItems (IsMarked among) vs
    marks_items no_values h = tt
    marks_items (value_then v vs) h = (marks v (λ a q. h a (or_left (named a v) (named_items a vs) q)), marks_items vs (λ a q. h a (or_right (named a v) (named_items a vs) q)))

    marks_argument : (arg : PlainArgument) → ((a : ℕ) → named_argument a arg ≡ true → among a ≡ true) → ThroughArgument (IsMarked among) arg
    marks_argument no_argument h = tt
    marks_argument (argument v) h = marks v h

  marks_all : (vs : List PlainValue) → ((a : ℕ) → named_all a vs ≡ true → among a ≡ true) → ThroughAll (IsMarked among) vs
  marks_all [] h = tt
  marks_all (v ∷ vs) h = (marks v (λ a q. h a (or_left (named a v) (named_all a vs) q)), marks_all vs (λ a q. h a (or_right (named a v) (named_all a vs) q)))

-- ---- the environment

-- what is known of each value
data Fact : Type 0 where
  lies : Fact
  has : Fact
  fills : Fact
  marked : Fact
  stands : Fact
  differs : (a : ℕ) → Fact

module _ (ms : List Module) (w : World) (more : List PlainValue) (fits : Fits ms w more) where
  abbrev all : List PlainValue
  all = values_in w ++ more

  abbrev pub env_of : Environment
  env_of = record { room = length w.heap; lists = λ a. if named_all a all then Some (length (list_items w.heap a)) else None }

  abbrev Known : Fact → PlainValue → Type 0
  Known lies v = LiesIn ms v
  Known has v = HasAddress ms v
  Known fills v = HasDefaults ms w.heap v
  Known marked v = IsMarked (λ a. named_all a all) v
  Known stands v = HasPlace (length w.heap) v
  Known (differs a) v = named_all a all ≡ true → DoesNotName a v

  different : (a : ℕ) (b : Bool) → named_all a all ≡ b → ThroughAll (Known (differs a)) all
  different a true q =
      let f = of_all (IsUnnamed w more) a all fits.unnamed q in each_of (DoesNotName a) (Known (differs a)) (λ v h r. h) all f.1
  different a false q = each_of (LiesIn ms) (Known (differs a)) (λ v h r. absurd cc) all fits.known

  facts : (i : Fact) → ThroughAll (Known i) all
  facts lies = fits.known
  facts has = fits.addressed
  facts fills = fits.filled
  facts marked = marks_all (λ a. named_all a all) all (λ a q. q)
  facts stands = fits.placed
  facts (differs a) = different a (named_all a all) refl

  items_are : (n a : ℕ) → IsListOf w.heap n a → length (list_items w.heap a) ≡ n
  items_are n a l = ap (λ o. length (items_of o)) (get_or_from_slice_get w.heap a (list_object l.0) (list_object []) l.1) ∙ l.2

  listed_there : (n a : ℕ) → IsListOf w.heap n a → (b : Bool) → b ≡ true → (if b then Some (length (list_items w.heap a)) else None) ≡ Some n
  listed_there n a l true q = ap (λ k. Some k) (items_are n a l)
  listed_there n a l false q = absurd cc

  abbrev FilledAt : ℕ → Option ℕ → Type 0
  FilledAt n None = Unit {0}
  FilledAt n (Some a) = IsListOf w.heap n a

  abbrev MarkedAt : Option ℕ → Type 0
  MarkedAt None = Unit {0}
  MarkedAt (Some a) = named_all a all ≡ true

  suits_number : (n : ℕ) (a : Option ℕ) → IsAddressed n a → FilledAt n a → MarkedAt a → AreDefaults env_of n a
  suits_number zero None i j k = tt
  suits_number zero (Some a) i j k = i
  suits_number (suc n) None i j k = i
  suits_number (suc n) (Some a) i j k = listed_there (suc n) a j (named_all a all) k

  suits_unit : (o : Option Code) (a : Option ℕ) → IsUnit o → IsAddressed (defaults_in o) a → FilledAt (defaults_in o) a → MarkedAt a → SuitsUnit env_of o a
  suits_unit None a h i j k = h
  suits_unit (Some u) a h i j k = suits_number u.defaults a i j k

  is_other : (a : ℕ) (b : Bool) → named_all a all ≡ b → (named_all a all ≡ true → ⊥) → (if b then Some (length (list_items w.heap a)) else None) ≡ None
  is_other a true q h = absurd (h q)
  is_other a false q h = refl

  suits : (v : PlainValue) → ((i : Fact) → Known i v) → Suits ms env_of v
  suits (func_value f None) k = suits_unit (unit_at ms (code_of f)) None (k lies) (k has) tt tt
  suits (func_value f (Some a)) k = suits_unit (unit_at ms (code_of f)) (Some a) (k lies) (k has) (k fills) (k marked)
  suits (module_value m) k = k lies
  suits (list_at a) k = (k stands, is_other a (named_all a all) refl (λ q. k (differs a) q refl))
  suits (dict_at a) k = (k stands, is_other a (named_all a all) refl (λ q. k (differs a) q refl))
  suits other k = tt

  all_suits : SuitAll ms env_of all
  all_suits = join_all Known (Suits ms env_of) suits all facts

  pub more_suit : SuitAll ms env_of more
  more_suit = all_right (Suits ms env_of) (values_in w) more all_suits

  values_suit : SuitAll ms env_of (values_in w)
  values_suit = all_left (Suits ms env_of) (values_in w) more all_suits

  lists_are : (a n : ℕ) (b : Bool) → named_all a all ≡ b → (if b then Some (length (list_items w.heap a)) else None) ≡ Some n → IsListOf w.heap n a
  lists_are a n true q h =
      let f = of_all (HasDefaults ms w.heap) a all fits.filled q in
      let l = f.1 in
      let is : length (list_items w.heap a) ≡ n = cc in
      (l.0, l.1, l.2 ∙ sym (items_are _ a l) ∙ is)
  lists_are a n false q h = absurd cc

  pub world_suits : WorldSuits ms env_of w
  world_suits = record {
    globals = globals_suit ms env_of w.globals (all_left (Suits ms env_of) (values_of_globals w.globals) (values_of_heap w.heap) values_suit);
    heap = record {
      objects = objects_suit ms env_of w.heap (all_right (Suits ms env_of) (values_of_globals w.globals) (values_of_heap w.heap) values_suit);
      room = refl;
      lists = λ a n h. lists_are a n (named_all a all) refl h;
    };
    words = (fits.words_placed, is_other w.words (named_all w.words all) refl (λ q. let f = of_all (IsNotAt w.words) w.words all fits.unlike_words q in f.1 refl));
  }
