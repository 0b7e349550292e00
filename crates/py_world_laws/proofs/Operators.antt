-- Operators: their values come from their operands, from numbers and texts, or are new objects.
use Rattle.std.proofs.Common.{ℕ, ◌+◌, List, [], ◌∷◌, ◌++◌, length, Option, Some, None}
use Rattle.std.specs.Prelude.{slice_set, nat_le, nat_lt, is_some, ◌||◌, Result, Ok, Err, ℤ}
use Rattle.py_operator.specs.declared.operator.BinOp.{BinOp}
use Rattle.py_operator.specs.declared.operator.BinOp.TheVariants.{Add, Mul}
use Rattle.py_value.specs.declared.cause.Cause.{Cause}
use Rattle.py_value.specs.declared.cause.Cause.TheVariants.{TooManyItems, UnhashableKey, ListIndex, TupleIndex, StringIndex}
use Rattle.py_value.specs.Answers.{◌>>=◌}
use Rattle.py_value.specs.Causes.{raised_by}
use Rattle.py_value.specs.Heaps.{list_items, dict_pairs, change_list, change_dict}
use Rattle.py_value.specs.Keys.{is_key, value_at, with_value}
use Rattle.py_value.specs.Numbers.{number_of}
use Rattle.py_value.specs.Operators.{gives, gives_list, number_result, repeated_sequence, binary_answer, binary_of, characters, items_to_append, appended, repeated_in_place, in_place_answer, in_place_of, item_at, found, item_answer, character_answer, value_found, value_answer, index_of, slice_of, stored_at, stored_item, stored_value, store_answer, store_of}
use Rattle.py_value.specs.Plain.{PlainValue, int_value, str_value, tuple_value, list_at, dict_at, listed, tuple_of, PlainHeap, PlainRaised}
use Rattle.py_value.specs.Sequences.{joined, repeated, repeat, times, most_items, place_among, part, first_bound}
use Rattle.py_code.specs.Units.{Module}
use Rattle.py_world_laws.specs.Suits.{Environment, IsOther, Suits, Suit, SuitAll, HeapSuits}
use Rattle.py_world_laws.proofs.Values.{either, ThroughOption, all_append, all_take, all_drop, all_set, all_get, all_repeat, all_listed, items_packed}
use Rattle.py_world_laws.proofs.Objects.{list_suits, dict_suits, dict_keys_suit, list_changed, dict_changed, value_suits, with_value_suits}
use Rattle.py_world_laws.proofs.Results.{Making, ResultSuits, AnswerSuits, OkSuits, said, key_error_suits, then_ok, any_ok, limited, stays, keeps, makes_list}

module _ (ms : List Module) (e : Environment) (h : PlainHeap) (g : HeapSuits ms e h) where
  abbrev Made : Result (PlainValue × PlainHeap) Cause → Type 0
  Made r = OkSuits (Making ms e) r

  number_made : (r : Result ℤ Cause) → Made (r >>= λ n. gives h (int_value n))
  number_made r = then_ok (λ n. Unit {0}) (Making ms e) r _ (any_ok r) (λ n k. stays ms e h g (int_value n) tt)

  text_made : (r : Result (List ℕ) Cause) → Made (r >>= λ s. gives h (str_value s))
  text_made r = then_ok (λ s. Unit {0}) (Making ms e) r _ (any_ok r) (λ s k. stays ms e h g (str_value s) tt)

  tuple_suits : (vs : List PlainValue) → SuitAll ms e vs → Suit ms e (tuple_of vs)
  tuple_suits vs k = (tt, items_packed (Suits ms e) vs k)

  tuple_made : (r : Result (List PlainValue) Cause) → OkSuits (SuitAll ms e) r → Made (r >>= λ vs. gives h (tuple_of vs))
  tuple_made r k = then_ok (SuitAll ms e) (Making ms e) r _ k (λ vs i. stays ms e h g (tuple_of vs) (tuple_suits vs i))

  list_made : (r : Result (List PlainValue) Cause) → OkSuits (SuitAll ms e) r → Made (r >>= λ vs. gives_list h vs)
  list_made r k = then_ok (SuitAll ms e) (Making ms e) r _ k (λ vs i. makes_list ms e h g vs i)

  items_suit : (a : ℕ) → SuitAll ms e (list_items h a)
  items_suit a = list_suits ms e h g a

  pub repeated_suits : (n : ℤ) (vs : List PlainValue) → SuitAll ms e vs → OkSuits (SuitAll ms e) (repeated n vs)
  repeated_suits n [] k = tt
  repeated_suits n (v ∷ vs) k = either (OkSuits (SuitAll ms e)) (nat_le _ most_items) (Ok (repeat (times n) (v ∷ vs))) (Err TooManyItems) (all_repeat (Suits ms e) (times n) (v ∷ vs) k) tt

  joined_suits : (vs ws : List PlainValue) → SuitAll ms e vs → SuitAll ms e ws → OkSuits (SuitAll ms e) (joined vs ws)
  joined_suits vs ws k l = limited (SuitAll ms e) (vs ++ ws) (all_append (Suits ms e) vs ws k l)

  text_repeats : (s : List ℕ) (n : Option ℤ) → Made (repeated_sequence h (str_value s) n)
  text_repeats s None = tt
  text_repeats s (Some n) = text_made (repeated n s)

  tuple_repeats : (vs : _) (n : Option ℤ) → Suit ms e (tuple_value vs) → Made (repeated_sequence h (tuple_value vs) n)
  tuple_repeats vs None k = tt
  tuple_repeats vs (Some n) k = tuple_made (repeated n (listed vs)) (repeated_suits n (listed vs) (all_listed (Suits ms e) vs k.1))

  list_repeats : (a : ℕ) (n : Option ℤ) → Made (repeated_sequence h (list_at a) n)
  list_repeats a None = tt
  list_repeats a (Some n) = list_made (repeated n (list_items h a)) (repeated_suits n (list_items h a) (items_suit a))

  binary_made : (op : BinOp) (a b : PlainValue) → Suit ms e a → Suit ms e b → Made (binary_answer op a b h)
  binary_made Add (str_value s) (str_value t) i j = text_made (joined s t)
  binary_made Add (tuple_value vs) (tuple_value ws) i j = tuple_made (joined (listed vs) (listed ws)) (joined_suits (listed vs) (listed ws) (all_listed (Suits ms e) vs i.1) (all_listed (Suits ms e) ws j.1))
  binary_made Add (list_at a) (list_at b) i j = list_made (joined (list_items h a) (list_items h b)) (joined_suits (list_items h a) (list_items h b) (items_suit a) (items_suit b))
  binary_made Mul (str_value s) b i j = text_repeats s (number_of b)
  binary_made Mul (tuple_value vs) b i j = tuple_repeats vs (number_of b) i
  binary_made Mul (list_at a) b i j = list_repeats a (number_of b)
  binary_made Mul a (str_value s) i j = text_repeats s (number_of a)
  binary_made Mul a (tuple_value vs) i j = tuple_repeats vs (number_of a) j
  binary_made Mul a (list_at b) i j = list_repeats b (number_of a)
  binary_made op a b i j = number_made (number_result op (number_of a) (number_of b))

  pub binary_suits : (op : BinOp) (a b : PlainValue) → Suit ms e a → Suit ms e b → AnswerSuits ms e (binary_of op a b h)
  binary_suits op a b i j = said ms e (Making ms e) (binary_answer op a b h) (binary_made op a b i j)

  characters_suit : (s : List ℕ) → SuitAll ms e (characters s)
  characters_suit [] = tt
  characters_suit (c ∷ cs) = (tt, characters_suit cs)

  -- several values that may be there
  abbrev pub OptionSuits : Option (List PlainValue) → Type 0
  OptionSuits None = Unit {0}
  OptionSuits (Some vs) = SuitAll ms e vs

  pub items_to_append_suit : (v : PlainValue) → Suit ms e v → OptionSuits (items_to_append h v)
  items_to_append_suit (list_at a) k = items_suit a
  items_to_append_suit (tuple_value vs) k = all_listed (Suits ms e) vs k.1
  items_to_append_suit (str_value s) k = characters_suit s
  items_to_append_suit (dict_at a) k = dict_keys_suit ms e h g a
  items_to_append_suit other k = tt

  appended_made : (a : ℕ) (o : Option (List PlainValue)) → IsOther e a → OptionSuits o → Made (appended a h o)
  appended_made a None i j = tt
  appended_made a (Some vs) i j =
      either (OkSuits (Making ms e)) (nat_le (length (list_items h a) + length vs) most_items) (Ok (list_at a, change_list h a (λ us. us ++ vs))) (Err TooManyItems)
      (keeps ms e h g (list_at a) _ (list_changed ms e h g a (λ us. us ++ vs) i (λ us k. all_append (Suits ms e) us vs k j)) i)
      tt

  repeated_made : (a : ℕ) (n : Option ℤ) → IsOther e a → Made (repeated_in_place a h n)
  repeated_made a None i = tt
  repeated_made a (Some n) i =
      then_ok (SuitAll ms e) (Making ms e) (repeated n (list_items h a)) _ (repeated_suits n (list_items h a) (items_suit a))
      (λ vs k. keeps ms e h g (list_at a) _ (list_changed ms e h g a (λ us. vs) i (λ us l. k)) i)

  in_place_made : (op : BinOp) (a b : PlainValue) → Suit ms e a → Suit ms e b → Made (in_place_answer op a b h)
  in_place_made Add (list_at a) b i j = appended_made a (items_to_append h b) i (items_to_append_suit b j)
  in_place_made Mul (list_at a) b i j = repeated_made a (number_of b) i
  in_place_made op a b i j = binary_made op a b i j

  pub in_place_suits : (op : BinOp) (a b : PlainValue) → Suit ms e a → Suit ms e b → AnswerSuits ms e (in_place_of op a b h)
  in_place_suits op a b i j = said ms e (Making ms e) (in_place_answer op a b h) (in_place_made op a b i j)

  -- ---- items

  abbrev pub ValueSuits : Result PlainValue PlainRaised → Type 0
  ValueSuits r = ResultSuits ms e (Suit ms e) r

  found_suits : (cause : Cause) (o : Option PlainValue) → ThroughOption (Suits ms e) o → OkSuits (Suit ms e) (found cause o)
  found_suits cause None k = tt
  found_suits cause (Some v) k = k

  pub item_suits : (vs : List PlainValue) (o : Option ℕ) → SuitAll ms e vs → ThroughOption (Suits ms e) (item_at vs o)
  item_suits vs None k = tt
  item_suits vs (Some n) k = all_get (Suits ms e) n vs k

  item_answer_suits : (cause : Cause) (vs : List PlainValue) (o : Option ℤ) → SuitAll ms e vs → OkSuits (Suit ms e) (item_answer cause vs o)
  item_answer_suits cause vs None k = tt
  item_answer_suits cause vs (Some i) k = found_suits cause _ (item_suits vs (place_among (length vs) i) k)

  value_found_suits : (key : PlainValue) (o : Option PlainValue) → Suit ms e key → ThroughOption (Suits ms e) o → ValueSuits (value_found key o)
  value_found_suits key None i k = key_error_suits ms e key i
  value_found_suits key (Some v) i k = k

  value_answer_suits : (key : PlainValue) (a : ℕ) → Suit ms e key → ValueSuits (value_answer key (dict_pairs h a))
  value_answer_suits key a i =
      either ValueSuits (is_key key) (value_found key (value_at key (dict_pairs h a))) (Err (raised_by UnhashableKey))
      (value_found_suits key (value_at key (dict_pairs h a)) i (value_suits ms e key (dict_pairs h a) (dict_suits ms e h g a))) tt

  pub index_suits : (v at : PlainValue) → Suit ms e v → Suit ms e at → ValueSuits (index_of v at h)
  index_suits (list_at a) at i j = said ms e (Suit ms e) _ (item_answer_suits ListIndex (list_items h a) (number_of at) (items_suit a))
  index_suits (tuple_value vs) at i j = said ms e (Suit ms e) _ (item_answer_suits TupleIndex (listed vs) (number_of at) (all_listed (Suits ms e) vs i.1))
  index_suits (str_value s) at i j = said ms e (Suit ms e) (character_answer s (number_of at)) (then_ok (λ c. Unit {0}) (Suit ms e) (item_answer StringIndex s (number_of at)) _ (any_ok (item_answer StringIndex s (number_of at))) (λ c k. tt))
  index_suits (dict_at a) key i j = value_answer_suits key a j
  index_suits v at i j = tt

  part_suits : (from to : Option ℤ) (vs : List PlainValue) → SuitAll ms e vs → SuitAll ms e (part from to vs)
  part_suits from to vs k = all_take (Suits ms e) _ _ (all_drop (Suits ms e) (first_bound (length vs) from) vs k)

  pub slice_suits : (v : PlainValue) (from to : Option ℤ) → Suit ms e v → AnswerSuits ms e (slice_of v from to h)
  slice_suits (list_at a) from to i = makes_list ms e h g (part from to (list_items h a)) (part_suits from to (list_items h a) (items_suit a))
  slice_suits (tuple_value vs) from to i = stays ms e h g (tuple_of (part from to (listed vs))) (tuple_suits (part from to (listed vs)) (part_suits from to (listed vs) (all_listed (Suits ms e) vs i.1)))
  slice_suits (str_value s) from to i = stays ms e h g (str_value (part from to s)) tt
  slice_suits v from to i = tt

  -- ---- storing

  abbrev pub StoreSuits : Result PlainHeap Cause → Type 0
  StoreSuits r = OkSuits (HeapSuits ms e) r

  stored_at_suits : (a : ℕ) (v : PlainValue) (o : Option ℕ) → IsOther e a → Suit ms e v → StoreSuits (stored_at a v h o)
  stored_at_suits a v None i j = tt
  stored_at_suits a v (Some n) i j = list_changed ms e h g a (λ vs. slice_set vs n v) i (λ vs k. all_set (Suits ms e) n v vs j k)

  stored_item_suits : (a : ℕ) (v : PlainValue) (o : Option ℤ) → IsOther e a → Suit ms e v → StoreSuits (stored_item a v h o)
  stored_item_suits a v None i j = tt
  stored_item_suits a v (Some n) i j = stored_at_suits a v (place_among (length (list_items h a)) n) i j

  stored_value_suits : (a : ℕ) (key v : PlainValue) → IsOther e a → Suit ms e key → Suit ms e v → StoreSuits (stored_value a key v h)
  stored_value_suits a key v i j k =
      either StoreSuits (is_key key) _ (Err UnhashableKey)
      (either StoreSuits (is_some (value_at key (dict_pairs h a)) || nat_lt (length (dict_pairs h a)) most_items) (Ok (change_dict h a (with_value key v))) (Err TooManyItems)
      (dict_changed ms e h g a (with_value key v) i (λ ps l. with_value_suits ms e key v ps j k l)) tt)
      tt

  store_answer_suits : (v at w : PlainValue) → Suit ms e v → Suit ms e at → Suit ms e w → StoreSuits (store_answer v at w h)
  store_answer_suits (list_at a) at w i j k = stored_item_suits a w (number_of at) i k
  store_answer_suits (dict_at a) key w i j k = stored_value_suits a key w i j k
  store_answer_suits v at w i j k = tt

  pub store_suits : (v at w : PlainValue) → Suit ms e v → Suit ms e at → Suit ms e w → ResultSuits ms e (HeapSuits ms e) (store_of v at w h)
  store_suits v at w i j k = said ms e (HeapSuits ms e) (store_answer v at w h) (store_answer_suits v at w i j k)
