-- What operations give: values and heaps, or exceptions, that suit.
use Rattle.std.proofs.Common.{List, [], length}
use Rattle.std.specs.Prelude.{nat_le, Result, Ok, Err}
use Rattle.py_value.specs.declared.cause.Cause.{Cause}
use Rattle.py_value.specs.declared.cause.Cause.TheVariants.{TooManyItems}
use Rattle.py_value.specs.Answers.{◌>>=◌, in_words}
use Rattle.py_value.specs.Causes.{raised_by, key_error}
use Rattle.py_value.specs.Heaps.{with_object}
use Rattle.py_value.specs.Plain.{PlainValue, list_at, dict_at, list_object, dict_object, may_nest, PlainHeap, PlainRaised}
use Rattle.py_value.specs.Sequences.{within_limit, most_items}
use Rattle.py_code.specs.Units.{Module}
use Rattle.py_world_laws.specs.Suits.{Environment, Suit, SuitAll, SuitsRaised, HeapSuits, Widens}
use Rattle.py_world_laws.proofs.Values.{either}
use Rattle.py_world_laws.proofs.Heaps.{widens_same, widens_more, one_more, heap_more, more_other}

-- a value, and a heap that may have more objects
pub record Makes (ms : List Module) (e : Environment) (v : PlainValue) (h : PlainHeap) : Type 0 where
  pub env : Environment
  pub widens : Widens e env
  pub heap : HeapSuits ms env h
  pub value : Suit ms env v

-- what is answered, or the exception that is raised
abbrev pub ResultSuits : {A : Type 0} → List Module → Environment → (A → Type 0) → Result A PlainRaised → Type 0
ResultSuits ms e Q (Ok a) = Q a
ResultSuits ms e Q (Err raised) = SuitsRaised ms e raised

abbrev pub AnswerSuits : List Module → Environment → Result (PlainValue × PlainHeap) PlainRaised → Type 0
AnswerSuits ms e r = ResultSuits ms e (λ p. Makes ms e p.0 p.1) r

-- what is answered, where it isn't a cause
abbrev pub OkSuits : {A : Type 0} → (A → Type 0) → Result A Cause → Type 0
OkSuits Q (Ok a) = Q a
OkSuits Q (Err cause) = Unit {0}

abbrev pub Making : List Module → Environment → PlainValue × PlainHeap → Type 0
Making ms e p = Makes ms e p.0 p.1

module _ (ms : List Module) (e : Environment) where
  pub raised_suits : (cause : Cause) → SuitsRaised ms e (raised_by cause)
  raised_suits TooManyItems = tt
  raised_suits cause = tt

  pub said : {A : Type 0} (Q : A → Type 0) (r : Result A Cause) → OkSuits Q r → ResultSuits ms e Q (in_words raised_by r)
  said Q (Ok a) h = h
  said Q (Err cause) h = raised_suits cause

  pub answered : {A B : Type 0} (Q : A → Type 0) (R : B → Type 0) (r : Result A PlainRaised) (f : A → Result B PlainRaised) → ResultSuits ms e Q r → ((a : A) → Q a → ResultSuits ms e R (f a)) → ResultSuits ms e R (r >>= f)
  answered Q R (Ok a) f h k = k a h
  answered Q R (Err raised) f h k = h

  pub key_error_suits : (key : PlainValue) → Suit ms e key → SuitsRaised ms e (key_error key)
  key_error_suits key h = either (SuitsRaised ms e) (may_nest key) _ _ h tt

pub then_ok : {A B : Type 0} (Q : A → Type 0) (R : B → Type 0) (r : Result A Cause) (f : A → Result B Cause) → OkSuits Q r → ((a : A) → Q a → OkSuits R (f a)) → OkSuits R (r >>= f)
then_ok Q R (Ok a) f h k = k a h
then_ok Q R (Err cause) f h k = tt

-- of anything
pub any_ok : {A : Type 0} (r : Result A Cause) → OkSuits (λ (a : A). Unit {0}) r
any_ok (Ok a) = tt
any_ok (Err cause) = tt

pub limited : {A : Type 0} (Q : List A → Type 0) (xs : List A) → Q xs → OkSuits Q (within_limit xs)
limited Q xs h = either (OkSuits Q) (nat_le (length xs) most_items) (Ok xs) (Err TooManyItems) h tt

module _ (ms : List Module) (e : Environment) (h : PlainHeap) (g : HeapSuits ms e h) where
  -- a value, and the heap as it was
  pub stays : (v : PlainValue) → Suit ms e v → Makes ms e v h
  stays v k = record { env = e; widens = widens_same e; heap = g; value = k }

  -- a value, and a heap with as many objects
  pub keeps : (v : PlainValue) (new : PlainHeap) → HeapSuits ms e new → Suit ms e v → Makes ms e v new
  keeps v new i k = record { env = e; widens = widens_same e; heap = i; value = k }

  pub makes_list : (vs : List PlainValue) → SuitAll ms e vs → Makes ms e (list_at (length h)) (with_object h (list_object vs))
  makes_list vs k = record { env = one_more ms e h g; widens = widens_more ms e h g; heap = heap_more ms e h g (list_object vs) k; value = more_other ms e h g }

  pub makes_dict : Makes ms e (dict_at (length h)) (with_object h (dict_object []))
  makes_dict = record { env = one_more ms e h g; widens = widens_more ms e h g; heap = heap_more ms e h g (dict_object []) tt; value = more_other ms e h g }
