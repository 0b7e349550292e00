-- What holds throughout values, and of lists of them.
use Rattle.std.proofs.Common.{ℕ, zero, suc, List, [], ◌∷◌, ◌++◌, take, drop, Option, Some, None, Bool, true, false}
use Rattle.std.specs.Prelude.{slice_get, slice_set, remove, if◌then◌else◌}
use Rattle.py_value.specs.Plain.{PlainValue, none_value, bool_value, int_value, str_value, tuple_value, list_at, dict_at, func_value, module_value, kind_value, exc_value, builtin_value, PlainValues, no_values, value_then, PlainArgument, no_argument, argument, listed, packed}
use Rattle.py_value.specs.Sequences.{repeat}
use Rattle.py_world_laws.specs.Everywhere.{Throughout, ThroughItems, ThroughArgument, ThroughAll}

-- what follows at each value from what holds of it, holds throughout
module _ {I : Type 0} (P : I → PlainValue → Type 0) (R : PlainValue → Type 0) (k : (v : PlainValue) → ((i : I) → P i v) → R v) where
  mutual
    pub join : (v : PlainValue) → ((i : I) → Throughout (P i) v) → Throughout R v
    join none_value h = k none_value h
    join (bool_value b) h = k (bool_value b) h
    join (int_value n) h = k (int_value n) h
    join (str_value s) h = k (str_value s) h
    join (tuple_value vs) h = (k (tuple_value vs) (λ i. (h i).0), join_items vs (λ i. (h i).1))
    join (list_at a) h = k (list_at a) h
    join (dict_at a) h = k (dict_at a) h
    join (func_value f a) h = k (func_value f a) h
    join (module_value m) h = k (module_value m) h
    join (kind_value kind) h = k (kind_value kind) h
    join (exc_value kind arg) h = (k (exc_value kind arg) (λ i. (h i).0), join_argument arg (λ i. (h i).1))
    join (builtin_value which) h = k (builtin_value which) h

    pub join_items : (vs : PlainValues) → ((i : I) → ThroughItems (P i) vs) → ThroughItems R vs
    join_items no_values h = tt
    join_items (value_then v vs) h = (join v (λ i. (h i).0), join_items vs (λ i. (h i).1))

    pub join_argument : (arg : PlainArgument) → ((i : I) → ThroughArgument (P i) arg) → ThroughArgument R arg
    join_argument no_argument h = tt
    join_argument (argument v) h = join v h

  pub join_all : (vs : List PlainValue) → ((i : I) → ThroughAll (P i) vs) → ThroughAll R vs
  join_all [] h = tt
  join_all (v ∷ vs) h = (join v (λ i. (h i).0), join_all vs (λ i. (h i).1))

module _ (P R : PlainValue → Type 0) (k : (v : PlainValue) → P v → R v) where
  pub each : (v : PlainValue) → Throughout P v → Throughout R v
  each v h = join (λ (i : Unit {0}). P) R (λ w f. k w (f tt)) v (λ i. h)

  pub each_argument : (arg : PlainArgument) → ThroughArgument P arg → ThroughArgument R arg
  each_argument arg h = join_argument (λ (i : Unit {0}). P) R (λ w f. k w (f tt)) arg (λ i. h)

  pub each_of : (vs : List PlainValue) → ThroughAll P vs → ThroughAll R vs
  each_of vs h = join_all (λ (i : Unit {0}). P) R (λ w f. k w (f tt)) vs (λ i. h)

-- of a value that may be there
abbrev pub ThroughOption : (PlainValue → Type 0) → Option PlainValue → Type 0
ThroughOption P None = Unit {0}
ThroughOption P (Some v) = Throughout P v

module _ (P : PlainValue → Type 0) where
  pub all_append : (vs ws : List PlainValue) → ThroughAll P vs → ThroughAll P ws → ThroughAll P (vs ++ ws)
  all_append [] ws h k = k
  all_append (v ∷ vs) ws h k = (h.0, all_append vs ws h.1 k)

  pub all_left : (vs ws : List PlainValue) → ThroughAll P (vs ++ ws) → ThroughAll P vs
  all_left [] ws h = tt
  all_left (v ∷ vs) ws h = (h.0, all_left vs ws h.1)

  pub all_right : (vs ws : List PlainValue) → ThroughAll P (vs ++ ws) → ThroughAll P ws
  all_right [] ws h = h
  all_right (v ∷ vs) ws h = all_right vs ws h.1

  pub all_take : (n : ℕ) (vs : List PlainValue) → ThroughAll P vs → ThroughAll P (take n vs)
  all_take zero vs h = tt
  all_take (suc n) [] h = tt
  all_take (suc n) (v ∷ vs) h = (h.0, all_take n vs h.1)

  pub all_drop : (n : ℕ) (vs : List PlainValue) → ThroughAll P vs → ThroughAll P (drop n vs)
  all_drop zero vs h = h
  all_drop (suc n) [] h = tt
  all_drop (suc n) (v ∷ vs) h = all_drop n vs h.1

  pub all_remove : (n : ℕ) (vs : List PlainValue) → ThroughAll P vs → ThroughAll P (remove vs n)
  all_remove n vs h = all_append (take n vs) (drop (suc n) vs) (all_take n vs h) (all_drop (suc n) vs h)

  pub all_set : (n : ℕ) (v : PlainValue) (vs : List PlainValue) → Throughout P v → ThroughAll P vs → ThroughAll P (slice_set vs n v)
  all_set n v [] g h = tt
  all_set zero v (w ∷ vs) g h = (g, h.1)
  all_set (suc n) v (w ∷ vs) g h = (h.0, all_set n v vs g h.1)

  pub all_get : (n : ℕ) (vs : List PlainValue) → ThroughAll P vs → ThroughOption P (slice_get vs n)
  all_get n [] h = tt
  all_get zero (v ∷ vs) h = h.0
  all_get (suc n) (v ∷ vs) h = all_get n vs h.1

  pub all_repeat : (n : ℕ) (vs : List PlainValue) → ThroughAll P vs → ThroughAll P (repeat n vs)
  all_repeat zero vs h = tt
  all_repeat (suc n) vs h = all_append vs (repeat n vs) h (all_repeat n vs h)

  pub all_listed : (vs : PlainValues) → ThroughItems P vs → ThroughAll P (listed vs)
  all_listed no_values h = tt
  all_listed (value_then v vs) h = (h.0, all_listed vs h.1)

  pub items_packed : (vs : List PlainValue) → ThroughAll P vs → ThroughItems P (packed vs)
  items_packed [] h = tt
  items_packed (v ∷ vs) h = (h.0, items_packed vs h.1)

-- whichever way a test goes
pub either : {A : Type 0} (Q : A → Type 0) (b : Bool) (x y : A) → Q x → Q y → Q (if b then x else y)
either Q true x y h k = h
either Q false x y h k = k
