-- Built-in functions, displays, slices and walks: their values come from their arguments, from
-- numbers and texts, or are new objects.
use Rattle.std.proofs.Common.{ℕ, zero, suc, List, [], ◌∷◌, length, Option, Some, None, Bool, true, false}
use Rattle.std.specs.Prelude.{nat_eq, pos, ◌+ℤ◌, Result, Ok, Err, ℤ}
use Rattle.py_value.specs.declared.builtin.Builtin.{Builtin}
use Rattle.py_value.specs.declared.builtin.Builtin.TheVariants.{Print, Len, Range, Str, Repr, Int, Input, Exit}
use Rattle.py_value.specs.declared.cause.Cause.{Cause}
use Rattle.py_value.specs.declared.cause.Cause.TheVariants.{TooManyItems, ZeroStep, TooDeep, WrongValueCount, DictChangedSize, NotSubscriptable}
use Rattle.py_value.specs.declared.exception.ExcKind.{ExcKind}
use Rattle.py_value.specs.declared.exception.ExcKind.TheVariants.{AssertionError}
use Rattle.py_value.specs.Answers.{◌>>=◌, in_words}
use Rattle.py_value.specs.Causes.{raised_by}
use Rattle.py_value.specs.Numbers.{number_of, is_zero}
use Rattle.py_value.specs.Operators.{items_to_append, store_of}
use Rattle.py_value.specs.Plain.{PlainValue, none_value, bool_value, int_value, str_value, tuple_value, list_at, kind_value, exc_value, argument, may_nest, PlainValues, no_values, value_then, PlainHeap, PlainRaised}
use Rattle.py_value.specs.Sequences.{most_items, joined, within_limit}
use Rattle.py_builtins.specs.Arguments.{raises}
use Rattle.py_builtins.specs.Builtins.{str_texts, printed, size_of, len_of, is_before, numbers_before, is_too_long, range_between, bounds_of, range_within, number_in, int_of, line_read, asked, input_of, raised_with, exception_of, builtin_of}
use Rattle.py_builtins.specs.Catching.{some_catches, catches, assertion_error}
use Rattle.py_builtins.specs.Items.{items_or, items_in, unpacked, walk_length, has_changed, item_of, sequence_items, of_length}
use Rattle.py_builtins.specs.Making.{extended, may_all_nest, new_tuple, stored, number_or, slice_bound, sliced}
use Rattle.py_builtins.specs.Texts.{str_text, repr_text}
use Rattle.py_value.specs.Compared.{Comparison, relates, is_it, is_not_it, is_answer, compared}
use Rattle.py_value.specs.Operators.{compare_answer}
use Rattle.py_code.specs.Units.{Module}
use Rattle.py_world_laws.specs.Suits.{Environment, Suits, Suit, SuitAll, SuitsRaised, HeapSuits}
use Rattle.py_world_laws.proofs.Values.{either, ThroughOption, all_get, all_listed, items_packed}
use Rattle.py_world_laws.proofs.Objects.{list_suits}
use Rattle.py_world_laws.proofs.Operators.{OptionSuits, items_to_append_suit, slice_suits, store_suits}
use Rattle.py_world_laws.proofs.Methods.{on_one, new_list_suits}
use Rattle.py_world_laws.proofs.Results.{Making, ResultSuits, AnswerSuits, raised_suits, said, answered, then_ok, any_ok, limited, stays}

module _ (ms : List Module) (e : Environment) where
  -- what gives nothing that has to suit
  abbrev pub Plainly : {A : Type 0} → Result A PlainRaised → Type 0
  Plainly {A} r = ResultSuits ms e (λ (a : A). Unit {0}) r

  pub plainly_said : {A : Type 0} (r : Result A Cause) → Plainly (in_words raised_by r)
  plainly_said r = said ms e _ r (any_ok r)

  pub text_plainly : (v : PlainValue) (h : PlainHeap) → Plainly (str_text v h)
  unfolding str_text
  text_plainly v h = plainly_said _

  repr_plainly : (v : PlainValue) (h : PlainHeap) → Plainly (repr_text v h)
  unfolding repr_text
  repr_plainly v h = plainly_said _

  texts_plainly : (vs : List PlainValue) (h : PlainHeap) → Plainly (str_texts vs h)
  texts_plainly [] h = tt
  texts_plainly (v ∷ vs) h =
      answered ms e (λ t. Unit {0}) (λ ts. Unit {0}) (str_text v h) _ (text_plainly v h)
      (λ t i. answered ms e (λ ts. Unit {0}) (λ ts. Unit {0}) (str_texts vs h) _ (texts_plainly vs h) (λ ts j. tt))

  pub extended_plainly : (s t : List ℕ) → Plainly (extended s t)
  extended_plainly s t = plainly_said (joined s t)

  is_plainly : (v w : PlainValue) → Plainly (is_answer v w)
  is_plainly v none_value = tt
  is_plainly v (bool_value b) = tt
  is_plainly v w = tt

  pub compared_plainly : (q : Comparison) (v w : PlainValue) (h : PlainHeap) → Plainly (compared q v w h)
  compared_plainly (relates op) v w h = plainly_said (compare_answer op v w h)
  compared_plainly is_it v w h = is_plainly v w
  compared_plainly is_not_it v w h = answered ms e (λ b. Unit {0}) (λ b. Unit {0}) (is_answer v w) _ (is_plainly v w) (λ b i. tt)

  some_plainly : (vs : PlainValues) (kind : ExcKind) → Plainly (some_catches vs kind)
  some_plainly no_values kind = tt
  some_plainly (value_then (kind_value k) vs) kind = answered ms e (λ b. Unit {0}) (λ b. Unit {0}) (some_catches vs kind) _ (some_plainly vs kind) (λ b i. tt)
  some_plainly (value_then v vs) kind = tt

  pub catches_plainly : (v : PlainValue) (kind : ExcKind) → Plainly (catches v kind)
  catches_plainly (kind_value k) kind = tt
  catches_plainly (tuple_value vs) kind = some_plainly vs kind
  catches_plainly v kind = tt

  -- ---- exceptions

  raised_with_suits : (kind : ExcKind) (args : List PlainValue) → SuitAll ms e args → SuitsRaised ms e (raised_with kind args)
  raised_with_suits kind [] k = tt
  raised_with_suits kind (x ∷ []) k = either (SuitsRaised ms e) (may_nest x) (record { kind = kind; arg = argument x }) (raised_by TooDeep) k.0 tt
  raised_with_suits kind (x ∷ (y ∷ ys)) k = tt

  pub exception_suits : (kind : ExcKind) (args : List PlainValue) → SuitAll ms e args → ResultSuits ms e (Suit ms e) (exception_of kind args)
  exception_suits kind [] k = (tt, tt)
  exception_suits kind (x ∷ []) k = either (ResultSuits ms e (Suit ms e)) (may_nest x) (Ok (exc_value kind (argument x))) (Err (raised_by TooDeep)) (tt, k.0) tt
  exception_suits kind (x ∷ (y ∷ ys)) k = tt

  pub assertion_suits : (v : PlainValue) → Suit ms e v → ResultSuits ms e (SuitsRaised ms e) (assertion_error v)
  assertion_suits v k = either (ResultSuits ms e (SuitsRaised ms e)) (may_nest v) (Ok (record { kind = AssertionError; arg = argument v })) (Err (raised_by TooDeep)) k tt

  pub tuple_made : (vs : List PlainValue) → SuitAll ms e vs → ResultSuits ms e (Suit ms e) (new_tuple vs)
  tuple_made vs k =
      either (ResultSuits ms e (Suit ms e)) (may_all_nest vs) _ (Err (raised_by TooDeep))
      (said ms e (Suit ms e) _ (then_ok (SuitAll ms e) (Suit ms e) (within_limit vs) _ (limited (SuitAll ms e) vs k) (λ ws i. (tt, items_packed (Suits ms e) ws i))))
      tt

  numbers_suit : (most : ℕ) (bound step n : ℤ) → SuitAll ms e (numbers_before most bound step n)
  unfolding numbers_before
  numbers_suit zero bound step n = tt
  numbers_suit (suc most) bound step n = by_case (is_before step n bound) (numbers_before most bound step (n +ℤ step)) (numbers_suit most bound step (n +ℤ step))
    where
      by_case : (b : Bool) (vs : List PlainValue) → SuitAll ms e vs → SuitAll ms e (elim b [ true ↦ int_value n ∷ vs | false ↦ [] ])
      by_case true vs k = (tt, k)
      by_case false vs k = tt

module _ (ms : List Module) (e : Environment) (h : PlainHeap) (g : HeapSuits ms e h) where
  -- ---- the table of built-in functions

  printed_suits : (r : Result (List (List ℕ)) PlainRaised) (input : List ℕ) → Plainly ms e r → AnswerSuits ms e (printed r h input).answer
  printed_suits (Ok ts) input k = stays ms e h g none_value tt
  printed_suits (Err raised) input k = k

  len_suits : (args : List PlainValue) → SuitAll ms e args → AnswerSuits ms e (len_of args h)
  len_suits args k =
      on_one ms e args _ k
      (λ x j. said ms e (Making ms e) _ (then_ok (λ n. Unit {0}) (Making ms e) (size_of x h) _ (any_ok (size_of x h)) (λ n i. stays ms e h g (int_value (pos n)) tt)))

  range_suits : (a b s : Option ℤ) → AnswerSuits ms e (range_between a b s h)
  range_suits (Some a) (Some b) (Some s) =
      either (AnswerSuits ms e) (is_zero s) (raises ZeroStep) _ tt
      (either (AnswerSuits ms e) (is_too_long s a b) (raises TooManyItems) _ tt (new_list_suits ms e h g (numbers_before most_items b s a) (numbers_suit ms e most_items b s a)))
  range_suits (Some a) (Some b) None = tt
  range_suits (Some a) None s = tt
  range_suits None b s = tt

  within_suits : (o : Option (Option ℤ × Option ℤ × Option ℤ)) → AnswerSuits ms e (range_within o h)
  within_suits (Some bounds) = range_suits bounds.0 bounds.1 bounds.2
  within_suits None = tt

  text_suits : (r : Result (List ℕ) PlainRaised) → Plainly ms e r → AnswerSuits ms e (r >>= λ t. Ok (str_value t, h))
  text_suits r k = answered ms e (λ t. Unit {0}) (Making ms e) r _ k (λ t i. stays ms e h g (str_value t) tt)

  int_suits : (args : List PlainValue) → SuitAll ms e args → AnswerSuits ms e (int_of args h)
  int_suits args k =
      on_one ms e args _ k
      (λ x j. said ms e (Making ms e) _ (then_ok (λ n. Unit {0}) (Making ms e) (number_in x (number_of x)) _ (any_ok (number_in x (number_of x))) (λ n i. stays ms e h g (int_value n) tt)))

  asked_suits : (r : Result (List ℕ) PlainRaised) (input : List ℕ) → Plainly ms e r → AnswerSuits ms e (asked r h input).answer
  asked_suits (Ok prompt) input k =
      said ms e (Making ms e) _ (then_ok (λ s. Unit {0}) (Making ms e) (line_read input).0 _ (any_ok (line_read input).0) (λ s i. stays ms e h g (str_value s) tt))
  asked_suits (Err raised) input k = k

  input_suits : (args : List PlainValue) (input : List ℕ) → AnswerSuits ms e (input_of args h input).answer
  input_suits [] input = asked_suits (Ok []) input tt
  input_suits (p ∷ []) input = asked_suits (str_text p h) input (text_plainly ms e p h)
  input_suits (p ∷ (q ∷ qs)) input = tt

  pub builtin_suits : (which : Builtin) (args : List PlainValue) (input : List ℕ) → SuitAll ms e args → AnswerSuits ms e (builtin_of which args h input).answer
  builtin_suits Print args input k = printed_suits (str_texts args h) input (texts_plainly ms e args h)
  builtin_suits Len args input k = len_suits args k
  builtin_suits Range args input k = within_suits (bounds_of args)
  builtin_suits Str args input k = on_one ms e args _ k (λ x j. text_suits (str_text x h) (text_plainly ms e x h))
  builtin_suits Repr args input k = on_one ms e args _ k (λ x j. text_suits (repr_text x h) (repr_plainly ms e x h))
  builtin_suits Int args input k = int_suits args k
  builtin_suits Input args input k = input_suits args input
  builtin_suits Exit args input k = raised_with_suits ms e _ args k

  -- ---- stores and slices

  pub stored_suits : (v at w : PlainValue) → Suit ms e v → Suit ms e at → Suit ms e w → ResultSuits ms e (λ p. HeapSuits ms e p.1) (stored v at w h)
  stored_suits v at w i j k = answered ms e (HeapSuits ms e) (λ p. HeapSuits ms e p.1) (store_of v at w h) _ (store_suits ms e h g v at w i j k) (λ new l. l)

  number_plainly : (cause : Cause) (n : Option ℤ) → Plainly ms e (number_or cause n)
  number_plainly cause None = raised_suits ms e cause
  number_plainly cause (Some n) = tt

  bound_plainly : (o : Option PlainValue) → Plainly ms e (slice_bound o)
  bound_plainly None = tt
  bound_plainly (Some v) = number_plainly NotSubscriptable (number_of v)

  pub sliced_suits : (v : PlainValue) (from to : Option PlainValue) → Suit ms e v → AnswerSuits ms e (sliced v from to h)
  sliced_suits v from to k =
      answered ms e (λ a. Unit {0}) (Making ms e) (slice_bound from) _ (bound_plainly from)
      (λ a i. answered ms e (λ b. Unit {0}) (Making ms e) (slice_bound to) _ (bound_plainly to) (λ b j. slice_suits ms e h g v a b k))

  -- ---- items

  items_suit : (o : Option (List PlainValue)) → OptionSuits ms e h g o → ResultSuits ms e (SuitAll ms e) (items_or o)
  items_suit None k = tt
  items_suit (Some vs) k = k

  items_in_suit : (v : PlainValue) → Suit ms e v → ResultSuits ms e (SuitAll ms e) (items_in v h)
  items_in_suit v k = items_suit (items_to_append h v) (items_to_append_suit ms e h g v k)

  pub unpacked_suit : (n : ℕ) (v : PlainValue) → Suit ms e v → ResultSuits ms e (SuitAll ms e) (unpacked n v h)
  unpacked_suit n v k =
      answered ms e (SuitAll ms e) (SuitAll ms e) (items_in v h) _ (items_in_suit v k)
      (λ vs i. either (ResultSuits ms e (SuitAll ms e)) (nat_eq (length vs) n) (Ok vs) (Err (raised_by WrongValueCount)) i tt)

  pub length_plainly : (v : PlainValue) → Suit ms e v → Plainly ms e (walk_length v h)
  length_plainly v k = answered ms e (SuitAll ms e) (λ n. Unit {0}) (items_in v h) _ (items_in_suit v k) (λ vs i. tt)

  pub item_suits : (v : PlainValue) (n i : ℕ) → Suit ms e v → ResultSuits ms e (ThroughOption (Suits ms e)) (item_of v n i h)
  item_suits v n i k =
      either (ResultSuits ms e (ThroughOption (Suits ms e))) (has_changed v n h) (Err (raised_by DictChangedSize)) _ tt
      (answered ms e (SuitAll ms e) (ThroughOption (Suits ms e)) (items_in v h) _ (items_in_suit v k) (λ vs j. all_get (Suits ms e) i vs j))

  pub sequence_suits : (v : PlainValue) → Suit ms e v → OptionSuits ms e h g (sequence_items v h)
  sequence_suits (list_at a) k = list_suits ms e h g a
  sequence_suits (tuple_value vs) k = all_listed (Suits ms e) vs k.1
  sequence_suits v k = tt

  pub of_length_suits : (n : ℕ) (o : Option (List PlainValue)) → OptionSuits ms e h g o → OptionSuits ms e h g (of_length n o)
  of_length_suits n None k = tt
  of_length_suits n (Some vs) k = either (OptionSuits ms e h g) (nat_eq (length vs) n) (Some vs) None k tt
