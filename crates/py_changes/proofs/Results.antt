-- What operations give: values and heaps, or exceptions, of whose functions something holds.
use Rattle.std.proofs.Common.{List, [], length}
use Rattle.std.specs.Prelude.{nat_le, Result, Ok, Err}
use Rattle.py_value.specs.declared.cause.Cause.{Cause}
use Rattle.py_value.specs.declared.cause.Cause.TheVariants.{TooManyItems}
use Rattle.py_value.specs.declared.value.FuncId.{FuncId}
use Rattle.py_value.specs.Answers.{◌>>=◌, in_words}
use Rattle.py_value.specs.Causes.{raised_by, key_error}
use Rattle.py_value.specs.Heaps.{with_object}
use Rattle.py_value.specs.Plain.{PlainValue, list_at, dict_at, list_object, dict_object, may_nest, PlainHeap, PlainRaised}
use Rattle.py_value.specs.Sequences.{within_limit, most_items}
use Rattle.py_changes.proofs.Kept.{Suit, SuitAll, SuitsRaised, HeapSuits}
use Rattle.py_changes.proofs.Values.{either}
use Rattle.py_changes.proofs.Heaps.{heap_more}

-- what is answered, or the exception that is raised
abbrev pub ResultSuits : {A : Type 0} → (FuncId → Type 0) → (A → Type 0) → Result A PlainRaised
    → Type 0
ResultSuits K Q (Ok a) = Q a
ResultSuits K Q (Err raised) = SuitsRaised K raised

-- a value and a heap
abbrev pub Making : (FuncId → Type 0) → PlainValue × PlainHeap → Type 0
Making K p = Suit K p.0 × HeapSuits K p.1

-- a value and a heap, or an exception
abbrev pub AnswerSuits : (FuncId → Type 0) → Result (PlainValue × PlainHeap) PlainRaised → Type 0
AnswerSuits K r = ResultSuits K (Making K) r

-- what is answered, where it isn't a cause
abbrev pub OkSuits : {A : Type 0} → (A → Type 0) → Result A Cause → Type 0
OkSuits Q (Ok a) = Q a
OkSuits Q (Err cause) = Unit {0}

module _ (K : FuncId → Type 0) where
  pub raised_suits : (cause : Cause) → SuitsRaised K (raised_by cause)
  raised_suits TooManyItems = tt
  raised_suits cause = tt

  pub said : {A : Type 0} (Q : A → Type 0) (r : Result A Cause) → OkSuits Q r
      → ResultSuits K Q (in_words raised_by r)
  said Q (Ok a) h = h
  said Q (Err cause) h = raised_suits cause

  pub answered : {A B : Type 0} (Q : A → Type 0) (R : B → Type 0) (r : Result A PlainRaised)
      (f : A → Result B PlainRaised) → ResultSuits K Q r → ((a : A) → Q a → ResultSuits K R (f a))
      → ResultSuits K R (r >>= f)
  answered Q R (Ok a) f h k = k a h
  answered Q R (Err raised) f h k = h

  pub key_error_suits : (key : PlainValue) → Suit K key → SuitsRaised K (key_error key)
  key_error_suits key h = either (SuitsRaised K) (may_nest key) _ _ h tt

pub then_ok : {A B : Type 0} (Q : A → Type 0) (R : B → Type 0) (r : Result A Cause)
    (f : A → Result B Cause) → OkSuits Q r → ((a : A) → Q a → OkSuits R (f a)) → OkSuits R (r >>= f)
then_ok Q R (Ok a) f h k = k a h
then_ok Q R (Err cause) f h k = tt

-- of anything
pub any_ok : {A : Type 0} (r : Result A Cause) → OkSuits (λ (a : A). Unit {0}) r
any_ok (Ok a) = tt
any_ok (Err cause) = tt

pub limited : {A : Type 0} (Q : List A → Type 0) (xs : List A) → Q xs → OkSuits Q (within_limit xs)
limited Q xs h = either (OkSuits Q) (nat_le (length xs) most_items) (Ok xs) (Err TooManyItems) h tt

module _ (K : FuncId → Type 0) (h : PlainHeap) (g : HeapSuits K h) where
  -- a value, and the heap as it was
  pub stays : (v : PlainValue) → Suit K v → Making K (v, h)
  stays v k = (k, g)

  -- a value, and a heap with an object changed
  pub keeps : (v : PlainValue) (new : PlainHeap) → HeapSuits K new → Suit K v → Making K (v, new)
  keeps v new i k = (k, i)

  pub makes_list : (vs : List PlainValue) → SuitAll K vs
      → Making K (list_at (length h), with_object h (list_object vs))
  makes_list vs k = (tt, heap_more K h (list_object vs) g k)

  pub makes_dict : Making K (dict_at (length h), with_object h (dict_object []))
  makes_dict = (tt, heap_more K h (dict_object []) g tt)
