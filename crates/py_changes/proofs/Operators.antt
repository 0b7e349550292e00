-- Operators: their values come from their operands, from numbers and texts, or are new objects.
use Rattle.py_value.specs.declared.value.FuncId.{FuncId}
use Rattle.std.proofs.Common.{ℕ, ◌+◌, List, [], ◌∷◌, ◌++◌, length, Option, Some, None}
use Rattle.std.specs.Prelude.{slice_set, nat_le, nat_lt, is_some, ◌||◌, Result, Ok, Err, ℤ}
use Rattle.py_operator.specs.declared.operator.BinOp.{BinOp}
use Rattle.py_operator.specs.declared.operator.BinOp.TheVariants.{Add, Mul}
use Rattle.py_value.specs.declared.cause.Cause.{Cause}
use Rattle.py_value.specs.declared.cause.Cause.TheVariants.{TooManyItems, UnhashableKey, ListIndex, TupleIndex, StringIndex}
use Rattle.py_value.specs.Answers.{◌>>=◌}
use Rattle.py_value.specs.Causes.{raised_by}
use Rattle.py_value.specs.Heaps.{list_items, dict_pairs, change_list, change_dict}
use Rattle.py_value.specs.Keys.{is_key, value_at, with_value}
use Rattle.py_value.specs.Numbers.{number_of}
use Rattle.py_value.specs.Operators.{gives, gives_list, number_result, repeated_sequence, binary_answer, binary_of, characters, items_to_append, appended, repeated_in_place, in_place_answer, in_place_of, item_at, found, item_answer, character_answer, value_found, value_answer, index_of, slice_of, stored_at, stored_item, stored_value, store_answer, store_of}
use Rattle.py_value.specs.Plain.{PlainValue, int_value, str_value, tuple_value, list_at, dict_at, listed, tuple_of, PlainHeap, PlainRaised}
use Rattle.py_value.specs.Sequences.{joined, repeated, repeat, times, most_items, place_among, part, first_bound}
use Rattle.py_changes.proofs.Kept.{Suits, Suit, SuitAll, HeapSuits}
use Rattle.py_changes.proofs.Values.{either, ThroughOption, all_append, all_take, all_drop, all_set, all_get, all_repeat, all_listed, items_packed}
use Rattle.py_changes.proofs.Objects.{list_suits, dict_suits, dict_keys_suit, list_changed, dict_changed, value_suits, with_value_suits}
use Rattle.py_changes.proofs.Results.{Making, ResultSuits, AnswerSuits, OkSuits, said, key_error_suits, then_ok, any_ok, limited, stays, keeps, makes_list}

module _ (K : FuncId → Type 0) (h : PlainHeap) (g : HeapSuits K h) where
  -- a value and a heap, where there is no cause
  abbrev Made : Result (PlainValue × PlainHeap) Cause → Type 0
  Made r = OkSuits (Making K) r

  number_made : (r : Result ℤ Cause) → Made (r >>= λ n. gives h (int_value n))
  number_made r =
      then_ok (λ n. Unit {0}) (Making K) r _ (any_ok r) (λ n k. stays K h g (int_value n) tt)

  text_made : (r : Result (List ℕ) Cause) → Made (r >>= λ s. gives h (str_value s))
  text_made r =
      then_ok (λ s. Unit {0}) (Making K) r _ (any_ok r) (λ s k. stays K h g (str_value s) tt)

  tuple_suits : (vs : List PlainValue) → SuitAll K vs → Suit K (tuple_of vs)
  tuple_suits vs k = (tt, items_packed (Suits K) vs k)

  tuple_made : (r : Result (List PlainValue) Cause) → OkSuits (SuitAll K) r
      → Made (r >>= λ vs. gives h (tuple_of vs))
  tuple_made r k =
      then_ok (SuitAll K) (Making K) r _ k (λ vs i. stays K h g (tuple_of vs) (tuple_suits vs i))

  list_made : (r : Result (List PlainValue) Cause) → OkSuits (SuitAll K) r
      → Made (r >>= λ vs. gives_list h vs)
  list_made r k = then_ok (SuitAll K) (Making K) r _ k (λ vs i. makes_list K h g vs i)

  items_suit : (a : ℕ) → SuitAll K (list_items h a)
  items_suit a = list_suits K h g a

  pub repeated_suits : (n : ℤ) (vs : List PlainValue) → SuitAll K vs
      → OkSuits (SuitAll K) (repeated n vs)
  repeated_suits n [] k = tt
  repeated_suits n (v ∷ vs) k =
      either (OkSuits (SuitAll K)) (nat_le _ most_items) (Ok (repeat (times n) (v ∷ vs)))
      (Err TooManyItems) (all_repeat (Suits K) (times n) (v ∷ vs) k) tt

  joined_suits : (vs ws : List PlainValue) → SuitAll K vs → SuitAll K ws
      → OkSuits (SuitAll K) (joined vs ws)
  joined_suits vs ws k l = limited (SuitAll K) (vs ++ ws) (all_append (Suits K) vs ws k l)

  text_repeats : (s : List ℕ) (n : Option ℤ) → Made (repeated_sequence h (str_value s) n)
  text_repeats s None = tt
  text_repeats s (Some n) = text_made (repeated n s)

  tuple_repeats : (vs : _) (n : Option ℤ) → Suit K (tuple_value vs)
      → Made (repeated_sequence h (tuple_value vs) n)
  tuple_repeats vs None k = tt
  tuple_repeats vs (Some n) k =
      tuple_made (repeated n (listed vs))
      (repeated_suits n (listed vs) (all_listed (Suits K) vs k.1))

  list_repeats : (a : ℕ) (n : Option ℤ) → Made (repeated_sequence h (list_at a) n)
  list_repeats a None = tt
  list_repeats a (Some n) =
      list_made (repeated n (list_items h a)) (repeated_suits n (list_items h a) (items_suit a))

  binary_made : (op : BinOp) (a b : PlainValue) → Suit K a → Suit K b
      → Made (binary_answer op a b h)
  binary_made Add (str_value s) (str_value t) i j = text_made (joined s t)
  binary_made Add (tuple_value vs) (tuple_value ws) i j =
      tuple_made (joined (listed vs) (listed ws))
      (joined_suits (listed vs) (listed ws) (all_listed (Suits K) vs i.1)
      (all_listed (Suits K) ws j.1))
  binary_made Add (list_at a) (list_at b) i j =
      list_made (joined (list_items h a) (list_items h b))
      (joined_suits (list_items h a) (list_items h b) (items_suit a) (items_suit b))
  binary_made Mul (str_value s) b i j = text_repeats s (number_of b)
  binary_made Mul (tuple_value vs) b i j = tuple_repeats vs (number_of b) i
  binary_made Mul (list_at a) b i j = list_repeats a (number_of b)
  binary_made Mul a (str_value s) i j = text_repeats s (number_of a)
  binary_made Mul a (tuple_value vs) i j = tuple_repeats vs (number_of a) j
  binary_made Mul a (list_at b) i j = list_repeats b (number_of a)
  binary_made op a b i j = number_made (number_result op (number_of a) (number_of b))

  pub binary_suits : (op : BinOp) (a b : PlainValue) → Suit K a → Suit K b
      → AnswerSuits K (binary_of op a b h)
  binary_suits op a b i j = said K (Making K) (binary_answer op a b h) (binary_made op a b i j)

  characters_suit : (s : List ℕ) → SuitAll K (characters s)
  characters_suit [] = tt
  characters_suit (c ∷ cs) = (tt, characters_suit cs)

  -- several values that may be there
  abbrev pub OptionSuits : Option (List PlainValue) → Type 0
  OptionSuits None = Unit {0}
  OptionSuits (Some vs) = SuitAll K vs

  pub items_to_append_suit : (v : PlainValue) → Suit K v → OptionSuits (items_to_append h v)
  items_to_append_suit (list_at a) k = items_suit a
  items_to_append_suit (tuple_value vs) k = all_listed (Suits K) vs k.1
  items_to_append_suit (str_value s) k = characters_suit s
  items_to_append_suit (dict_at a) k = dict_keys_suit K h g a
  items_to_append_suit other k = tt

  appended_made : (a : ℕ) (o : Option (List PlainValue)) → Unit {0} → OptionSuits o
      → Made (appended a h o)
  appended_made a None i j = tt
  appended_made a (Some vs) i j =
      either (OkSuits (Making K)) (nat_le (length (list_items h a) + length vs) most_items)
      (Ok (list_at a, change_list h a (λ us. us ++ vs))) (Err TooManyItems)
      (keeps K h g (list_at a) _
      (list_changed K h g a (λ us. us ++ vs) i (λ us k. all_append (Suits K) us vs k j)) i)
      tt

  repeated_made : (a : ℕ) (n : Option ℤ) → Unit {0} → Made (repeated_in_place a h n)
  repeated_made a None i = tt
  repeated_made a (Some n) i =
      then_ok (SuitAll K) (Making K) (repeated n (list_items h a)) _
      (repeated_suits n (list_items h a) (items_suit a))
      (λ vs k. keeps K h g (list_at a) _ (list_changed K h g a (λ us. vs) i (λ us l. k)) i)

  in_place_made : (op : BinOp) (a b : PlainValue) → Suit K a → Suit K b
      → Made (in_place_answer op a b h)
  in_place_made Add (list_at a) b i j =
      appended_made a (items_to_append h b) i (items_to_append_suit b j)
  in_place_made Mul (list_at a) b i j = repeated_made a (number_of b) i
  in_place_made op a b i j = binary_made op a b i j

  pub in_place_suits : (op : BinOp) (a b : PlainValue) → Suit K a → Suit K b
      → AnswerSuits K (in_place_of op a b h)
  in_place_suits op a b i j =
      said K (Making K) (in_place_answer op a b h) (in_place_made op a b i j)

  -- ---- items

  -- a value, or an exception
  abbrev pub ValueSuits : Result PlainValue PlainRaised → Type 0
  ValueSuits r = ResultSuits K (Suit K) r

  found_suits : (cause : Cause) (o : Option PlainValue) → ThroughOption (Suits K) o
      → OkSuits (Suit K) (found cause o)
  found_suits cause None k = tt
  found_suits cause (Some v) k = k

  pub item_suits : (vs : List PlainValue) (o : Option ℕ) → SuitAll K vs
      → ThroughOption (Suits K) (item_at vs o)
  item_suits vs None k = tt
  item_suits vs (Some n) k = all_get (Suits K) n vs k

  item_answer_suits : (cause : Cause) (vs : List PlainValue) (o : Option ℤ) → SuitAll K vs
      → OkSuits (Suit K) (item_answer cause vs o)
  item_answer_suits cause vs None k = tt
  item_answer_suits cause vs (Some i) k =
      found_suits cause _ (item_suits vs (place_among (length vs) i) k)

  value_found_suits : (key : PlainValue) (o : Option PlainValue) → Suit K key
      → ThroughOption (Suits K) o → ValueSuits (value_found key o)
  value_found_suits key None i k = key_error_suits K key i
  value_found_suits key (Some v) i k = k

  value_answer_suits : (key : PlainValue) (a : ℕ) → Suit K key
      → ValueSuits (value_answer key (dict_pairs h a))
  value_answer_suits key a i =
      either ValueSuits (is_key key) (value_found key (value_at key (dict_pairs h a)))
      (Err (raised_by UnhashableKey))
      (value_found_suits key (value_at key (dict_pairs h a)) i
      (value_suits K key (dict_pairs h a) (dict_suits K h g a))) tt

  pub index_suits : (v at : PlainValue) → Suit K v → Suit K at → ValueSuits (index_of v at h)
  index_suits (list_at a) at i j =
      said K (Suit K) _ (item_answer_suits ListIndex (list_items h a) (number_of at) (items_suit a))
  index_suits (tuple_value vs) at i j =
      said K (Suit K) _
      (item_answer_suits TupleIndex (listed vs) (number_of at) (all_listed (Suits K) vs i.1))
  index_suits (str_value s) at i j =
      said K (Suit K) (character_answer s (number_of at))
      (then_ok (λ c. Unit {0}) (Suit K) (item_answer StringIndex s (number_of at)) _
      (any_ok (item_answer StringIndex s (number_of at))) (λ c k. tt))
  index_suits (dict_at a) key i j = value_answer_suits key a j
  index_suits v at i j = tt

  part_suits : (from to : Option ℤ) (vs : List PlainValue) → SuitAll K vs
      → SuitAll K (part from to vs)
  part_suits from to vs k =
      all_take (Suits K) _ _ (all_drop (Suits K) (first_bound (length vs) from) vs k)

  pub slice_suits : (v : PlainValue) (from to : Option ℤ) → Suit K v
      → AnswerSuits K (slice_of v from to h)
  slice_suits (list_at a) from to i =
      makes_list K h g (part from to (list_items h a))
      (part_suits from to (list_items h a) (items_suit a))
  slice_suits (tuple_value vs) from to i =
      stays K h g (tuple_of (part from to (listed vs)))
      (tuple_suits (part from to (listed vs))
      (part_suits from to (listed vs) (all_listed (Suits K) vs i.1)))
  slice_suits (str_value s) from to i = stays K h g (str_value (part from to s)) tt
  slice_suits v from to i = tt

  -- ---- storing

  -- a heap, where there is no cause
  abbrev pub StoreSuits : Result PlainHeap Cause → Type 0
  StoreSuits r = OkSuits (HeapSuits K) r

  stored_at_suits : (a : ℕ) (v : PlainValue) (o : Option ℕ) → Unit {0} → Suit K v
      → StoreSuits (stored_at a v h o)
  stored_at_suits a v None i j = tt
  stored_at_suits a v (Some n) i j =
      list_changed K h g a (λ vs. slice_set vs n v) i (λ vs k. all_set (Suits K) n v vs j k)

  stored_item_suits : (a : ℕ) (v : PlainValue) (o : Option ℤ) → Unit {0} → Suit K v
      → StoreSuits (stored_item a v h o)
  stored_item_suits a v None i j = tt
  stored_item_suits a v (Some n) i j =
      stored_at_suits a v (place_among (length (list_items h a)) n) i j

  stored_value_suits : (a : ℕ) (key v : PlainValue) → Unit {0} → Suit K key → Suit K v
      → StoreSuits (stored_value a key v h)
  stored_value_suits a key v i j k =
      either StoreSuits (is_key key) _ (Err UnhashableKey)
      (either StoreSuits
      (is_some (value_at key (dict_pairs h a)) || nat_lt (length (dict_pairs h a)) most_items)
      (Ok (change_dict h a (with_value key v))) (Err TooManyItems)
      (dict_changed K h g a (with_value key v) i (λ ps l. with_value_suits K key v ps j k l)) tt)
      tt

  store_answer_suits : (v at w : PlainValue) → Suit K v → Suit K at → Suit K w
      → StoreSuits (store_answer v at w h)
  store_answer_suits (list_at a) at w i j k = stored_item_suits a w (number_of at) i k
  store_answer_suits (dict_at a) key w i j k = stored_value_suits a key w i j k
  store_answer_suits v at w i j k = tt

  pub store_suits : (v at w : PlainValue) → Suit K v → Suit K at → Suit K w
      → ResultSuits K (HeapSuits K) (store_of v at w h)
  store_suits v at w i j k =
      said K (HeapSuits K) (store_answer v at w h) (store_answer_suits v at w i j k)
