-- Built-in functions, displays, slices and walks: their values come from their arguments, from
-- numbers and texts, or are new objects.
use Rattle.py_value.specs.declared.value.FuncId.{FuncId}
use Rattle.std.proofs.Common.{ℕ, zero, suc, List, [], ◌∷◌, length, Option, Some, None, Bool, true, false}
use Rattle.std.specs.Prelude.{nat_eq, pos, ◌+ℤ◌, Result, Ok, Err, ℤ}
use Rattle.py_value.specs.declared.builtin.Builtin.{Builtin}
use Rattle.py_value.specs.declared.builtin.Builtin.TheVariants.{Print, Len, Range, Str, Repr, Int, Input, Exit}
use Rattle.py_value.specs.declared.cause.Cause.{Cause}
use Rattle.py_value.specs.declared.cause.Cause.TheVariants.{TooManyItems, ZeroStep, TooDeep, WrongValueCount, DictChangedSize, NotSubscriptable}
use Rattle.py_value.specs.declared.exception.ExcKind.{ExcKind}
use Rattle.py_value.specs.declared.exception.ExcKind.TheVariants.{AssertionError}
use Rattle.py_value.specs.Answers.{◌>>=◌, in_words}
use Rattle.py_value.specs.Causes.{raised_by}
use Rattle.py_value.specs.Numbers.{number_of, is_zero}
use Rattle.py_value.specs.Operators.{items_to_append, store_of, compare_answer}
use Rattle.py_value.specs.Plain.{PlainValue, none_value, bool_value, int_value, str_value, tuple_value, list_at, kind_value, exc_value, argument, may_nest, PlainValues, no_values, value_then, PlainHeap, PlainRaised}
use Rattle.py_value.specs.Sequences.{most_items, joined, within_limit}
use Rattle.py_builtins.specs.Arguments.{raises}
use Rattle.py_builtins.specs.Builtins.{str_texts, printed, size_of, len_of, is_before, numbers_before, is_too_long, range_between, bounds_of, range_within, number_in, int_of, line_read, asked, input_of, raised_with, exception_of, builtin_of}
use Rattle.py_builtins.specs.Catching.{some_catches, catches, assertion_error}
use Rattle.py_builtins.specs.Items.{items_or, items_in, unpacked, walk_length, has_changed, item_of, sequence_items, of_length}
use Rattle.py_builtins.specs.Making.{extended, may_all_nest, new_tuple, stored, number_or, slice_bound, sliced}
use Rattle.py_builtins.specs.Texts.{str_text, repr_text}
use Rattle.py_value.specs.Compared.{Comparison, relates, is_it, is_not_it, is_answer, compared}
use Rattle.py_changes.proofs.Kept.{Suits, Suit, SuitAll, SuitsRaised, HeapSuits}
use Rattle.py_changes.proofs.Values.{either, ThroughOption, all_get, all_listed, items_packed}
use Rattle.py_changes.proofs.Objects.{list_suits}
use Rattle.py_changes.proofs.Operators.{OptionSuits, items_to_append_suit, slice_suits, store_suits}
use Rattle.py_changes.proofs.Methods.{on_one, new_list_suits}
use Rattle.py_changes.proofs.Results.{Making, ResultSuits, AnswerSuits, raised_suits, said, answered, then_ok, any_ok, limited, stays}

module _ (K : FuncId → Type 0) where
  -- what gives nothing that has to suit
  abbrev pub Plainly : {A : Type 0} → Result A PlainRaised → Type 0
  Plainly {A} r = ResultSuits K (λ (a : A). Unit {0}) r

  pub plainly_said : {A : Type 0} (r : Result A Cause) → Plainly (in_words raised_by r)
  plainly_said r = said K _ r (any_ok r)

  pub text_plainly : (v : PlainValue) (h : PlainHeap) → Plainly (str_text v h)
  unfolding str_text
  text_plainly v h = plainly_said _

  repr_plainly : (v : PlainValue) (h : PlainHeap) → Plainly (repr_text v h)
  unfolding repr_text
  repr_plainly v h = plainly_said _

  texts_plainly : (vs : List PlainValue) (h : PlainHeap) → Plainly (str_texts vs h)
  texts_plainly [] h = tt
  texts_plainly (v ∷ vs) h =
      answered K (λ t. Unit {0}) (λ ts. Unit {0}) (str_text v h) _ (text_plainly v h)
      (λ t i. answered K (λ ts. Unit {0}) (λ ts. Unit {0}) (str_texts vs h) _ (texts_plainly vs h)
      (λ ts j. tt))

  pub extended_plainly : (s t : List ℕ) → Plainly (extended s t)
  extended_plainly s t = plainly_said (joined s t)

  is_plainly : (v w : PlainValue) → Plainly (is_answer v w)
  is_plainly v none_value = tt
  is_plainly v (bool_value b) = tt
  is_plainly v w = tt

  pub compared_plainly : (q : Comparison) (v w : PlainValue) (h : PlainHeap)
      → Plainly (compared q v w h)
  compared_plainly (relates op) v w h = plainly_said (compare_answer op v w h)
  compared_plainly is_it v w h = is_plainly v w
  compared_plainly is_not_it v w h =
      answered K (λ b. Unit {0}) (λ b. Unit {0}) (is_answer v w) _ (is_plainly v w) (λ b i. tt)

  some_plainly : (vs : PlainValues) (kind : ExcKind) → Plainly (some_catches vs kind)
  some_plainly no_values kind = tt
  some_plainly (value_then (kind_value k) vs) kind =
      answered K (λ b. Unit {0}) (λ b. Unit {0}) (some_catches vs kind) _ (some_plainly vs kind)
      (λ b i. tt)
  some_plainly (value_then v vs) kind = tt

  pub catches_plainly : (v : PlainValue) (kind : ExcKind) → Plainly (catches v kind)
  catches_plainly (kind_value k) kind = tt
  catches_plainly (tuple_value vs) kind = some_plainly vs kind
  catches_plainly v kind = tt

  -- ---- exceptions

  raised_with_suits : (kind : ExcKind) (args : List PlainValue) → SuitAll K args
      → SuitsRaised K (raised_with kind args)
  raised_with_suits kind [] k = tt
  raised_with_suits kind (x ∷ []) k =
      either (SuitsRaised K) (may_nest x) (record { kind = kind; arg = argument x })
      (raised_by TooDeep) k.0 tt
  raised_with_suits kind (x ∷ (y ∷ ys)) k = tt

  pub exception_suits : (kind : ExcKind) (args : List PlainValue) → SuitAll K args
      → ResultSuits K (Suit K) (exception_of kind args)
  exception_suits kind [] k = (tt, tt)
  exception_suits kind (x ∷ []) k =
      either (ResultSuits K (Suit K)) (may_nest x) (Ok (exc_value kind (argument x)))
      (Err (raised_by TooDeep)) (tt, k.0) tt
  exception_suits kind (x ∷ (y ∷ ys)) k = tt

  pub assertion_suits : (v : PlainValue) → Suit K v
      → ResultSuits K (SuitsRaised K) (assertion_error v)
  assertion_suits v k =
      either (ResultSuits K (SuitsRaised K)) (may_nest v)
      (Ok (record { kind = AssertionError; arg = argument v })) (Err (raised_by TooDeep)) k tt

  pub tuple_made : (vs : List PlainValue) → SuitAll K vs → ResultSuits K (Suit K) (new_tuple vs)
  tuple_made vs k =
      either (ResultSuits K (Suit K)) (may_all_nest vs) _ (Err (raised_by TooDeep))
      (said K (Suit K) _
      (then_ok (SuitAll K) (Suit K) (within_limit vs) _ (limited (SuitAll K) vs k)
      (λ ws i. (tt, items_packed (Suits K) ws i))))
      tt

  numbers_suit : (most : ℕ) (bound step n : ℤ) → SuitAll K (numbers_before most bound step n)
  unfolding numbers_before
  numbers_suit zero bound step n = tt
  numbers_suit (suc most) bound step n =
      by_case (is_before step n bound) (numbers_before most bound step (n +ℤ step))
      (numbers_suit most bound step (n +ℤ step))
    where
      by_case : (b : Bool) (vs : List PlainValue) → SuitAll K vs
          → SuitAll K (elim b [ true ↦ int_value n ∷ vs | false ↦ [] ])
      by_case true vs k = (tt, k)
      by_case false vs k = tt

module _ (K : FuncId → Type 0) (h : PlainHeap) (g : HeapSuits K h) where
  -- ---- the table of built-in functions

  printed_suits : (r : Result (List (List ℕ)) PlainRaised) (input : List ℕ) → Plainly K r
      → AnswerSuits K (printed r h input).answer
  printed_suits (Ok ts) input k = stays K h g none_value tt
  printed_suits (Err raised) input k = k

  len_suits : (args : List PlainValue) → SuitAll K args → AnswerSuits K (len_of args h)
  len_suits args k =
      on_one K args _ k
      (λ x j. said K (Making K) _
      (then_ok (λ n. Unit {0}) (Making K) (size_of x h) _ (any_ok (size_of x h))
      (λ n i. stays K h g (int_value (pos n)) tt)))

  range_suits : (a b s : Option ℤ) → AnswerSuits K (range_between a b s h)
  range_suits (Some a) (Some b) (Some s) =
      either (AnswerSuits K) (is_zero s) (raises ZeroStep) _ tt
      (either (AnswerSuits K) (is_too_long s a b) (raises TooManyItems) _ tt
      (new_list_suits K h g (numbers_before most_items b s a) (numbers_suit K most_items b s a)))
  range_suits (Some a) (Some b) None = tt
  range_suits (Some a) None s = tt
  range_suits None b s = tt

  within_suits : (o : Option (Option ℤ × Option ℤ × Option ℤ)) → AnswerSuits K (range_within o h)
  within_suits (Some bounds) = range_suits bounds.0 bounds.1 bounds.2
  within_suits None = tt

  text_suits : (r : Result (List ℕ) PlainRaised) → Plainly K r
      → AnswerSuits K (r >>= λ t. Ok (str_value t, h))
  text_suits r k = answered K (λ t. Unit {0}) (Making K) r _ k (λ t i. stays K h g (str_value t) tt)

  int_suits : (args : List PlainValue) → SuitAll K args → AnswerSuits K (int_of args h)
  int_suits args k =
      on_one K args _ k
      (λ x j. said K (Making K) _ (then_ok (λ n. Unit {0}) (Making K) (number_in x (number_of x)) _
      (any_ok (number_in x (number_of x))) (λ n i. stays K h g (int_value n) tt)))

  asked_suits : (r : Result (List ℕ) PlainRaised) (input : List ℕ) → Plainly K r
      → AnswerSuits K (asked r h input).answer
  asked_suits (Ok prompt) input k =
      said K (Making K) _
      (then_ok (λ s. Unit {0}) (Making K) (line_read input).0 _ (any_ok (line_read input).0)
      (λ s i. stays K h g (str_value s) tt))
  asked_suits (Err raised) input k = k

  input_suits : (args : List PlainValue) (input : List ℕ)
      → AnswerSuits K (input_of args h input).answer
  input_suits [] input = asked_suits (Ok []) input tt
  input_suits (p ∷ []) input = asked_suits (str_text p h) input (text_plainly K p h)
  input_suits (p ∷ (q ∷ qs)) input = tt

  pub builtin_suits : (which : Builtin) (args : List PlainValue) (input : List ℕ) → SuitAll K args
      → AnswerSuits K (builtin_of which args h input).answer
  builtin_suits Print args input k = printed_suits (str_texts args h) input (texts_plainly K args h)
  builtin_suits Len args input k = len_suits args k
  builtin_suits Range args input k = within_suits (bounds_of args)
  builtin_suits Str args input k =
      on_one K args _ k (λ x j. text_suits (str_text x h) (text_plainly K x h))
  builtin_suits Repr args input k =
      on_one K args _ k (λ x j. text_suits (repr_text x h) (repr_plainly K x h))
  builtin_suits Int args input k = int_suits args k
  builtin_suits Input args input k = input_suits args input
  builtin_suits Exit args input k = raised_with_suits K _ args k

  -- ---- stores and slices

  pub stored_suits : (v at w : PlainValue) → Suit K v → Suit K at → Suit K w
      → ResultSuits K (λ p. HeapSuits K p.1) (stored v at w h)
  stored_suits v at w i j k =
      answered K (HeapSuits K) (λ p. HeapSuits K p.1) (store_of v at w h) _
      (store_suits K h g v at w i j k) (λ new l. l)

  number_plainly : (cause : Cause) (n : Option ℤ) → Plainly K (number_or cause n)
  number_plainly cause None = raised_suits K cause
  number_plainly cause (Some n) = tt

  bound_plainly : (o : Option PlainValue) → Plainly K (slice_bound o)
  bound_plainly None = tt
  bound_plainly (Some v) = number_plainly NotSubscriptable (number_of v)

  pub sliced_suits : (v : PlainValue) (from to : Option PlainValue) → Suit K v
      → AnswerSuits K (sliced v from to h)
  sliced_suits v from to k =
      answered K (λ a. Unit {0}) (Making K) (slice_bound from) _ (bound_plainly from)
      (λ a i. answered K (λ b. Unit {0}) (Making K) (slice_bound to) _ (bound_plainly to)
      (λ b j. slice_suits K h g v a b k))

  -- ---- items

  items_suit : (o : Option (List PlainValue)) → OptionSuits K h g o
      → ResultSuits K (SuitAll K) (items_or o)
  items_suit None k = tt
  items_suit (Some vs) k = k

  items_in_suit : (v : PlainValue) → Suit K v → ResultSuits K (SuitAll K) (items_in v h)
  items_in_suit v k = items_suit (items_to_append h v) (items_to_append_suit K h g v k)

  pub unpacked_suit : (n : ℕ) (v : PlainValue) → Suit K v
      → ResultSuits K (SuitAll K) (unpacked n v h)
  unpacked_suit n v k =
      answered K (SuitAll K) (SuitAll K) (items_in v h) _ (items_in_suit v k)
      (λ vs i. either (ResultSuits K (SuitAll K)) (nat_eq (length vs) n) (Ok vs)
      (Err (raised_by WrongValueCount)) i tt)

  pub length_plainly : (v : PlainValue) → Suit K v → Plainly K (walk_length v h)
  length_plainly v k =
      answered K (SuitAll K) (λ n. Unit {0}) (items_in v h) _ (items_in_suit v k) (λ vs i. tt)

  pub item_suits : (v : PlainValue) (n i : ℕ) → Suit K v
      → ResultSuits K (ThroughOption (Suits K)) (item_of v n i h)
  item_suits v n i k =
      either (ResultSuits K (ThroughOption (Suits K))) (has_changed v n h)
      (Err (raised_by DictChangedSize)) _ tt
      (answered K (SuitAll K) (ThroughOption (Suits K)) (items_in v h) _ (items_in_suit v k)
      (λ vs j. all_get (Suits K) i vs j))

  pub sequence_suits : (v : PlainValue) → Suit K v → OptionSuits K h g (sequence_items v h)
  sequence_suits (list_at a) k = list_suits K h g a
  sequence_suits (tuple_value vs) k = all_listed (Suits K) vs k.1
  sequence_suits v k = tt

  pub of_length_suits : (n : ℕ) (o : Option (List PlainValue)) → OptionSuits K h g o
      → OptionSuits K h g (of_length n o)
  of_length_suits n None k = tt
  of_length_suits n (Some vs) k =
      either (OptionSuits K h g) (nat_eq (length vs) n) (Some vs) None k tt
