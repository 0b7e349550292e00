-- Methods: their values come from the value that they are called on, from their arguments, or are
-- new objects.
use Rattle.std.proofs.Common.{ℕ, List, [], ◌∷◌, ◌++◌, length, Option, Some, None, Bool, true, false}
use Rattle.std.specs.Prelude.{nat_lt, remove, negsuc, Ok, Err, ℤ}
use Rattle.py_value.specs.declared.builtin.Method.{Method}
use Rattle.py_value.specs.declared.builtin.Method.TheVariants.{Append, Pop, Get, Keys, StartsWith, Join, Split}
use Rattle.py_value.specs.declared.cause.Cause.TheVariants.{UnhashableKey, TooManyItems}
use Rattle.py_value.specs.Causes.{key_error}
use Rattle.py_value.specs.Heaps.{list_items, dict_pairs, dict_keys, change_list}
use Rattle.py_value.specs.Keys.{is_key, value_at}
use Rattle.py_value.specs.Numbers.{number_of}
use Rattle.py_value.specs.Operators.{item_at}
use Rattle.py_value.specs.Plain.{PlainValue, none_value, str_value, tuple_value, list_at, dict_at, listed, PlainHeap}
use Rattle.py_value.specs.Sequences.{most_items, place_among, within_limit}
use Rattle.py_builtins.specs.Arguments.{Answer, raises, only, pair, are_none, for_none, for_one, for_none_or_one, for_one_or_two}
use Rattle.py_builtins.specs.Methods.{new_list, append_value, taken, take_item, take_value, with_key, pop_key, pop_key_or, without_key, value_or, get_or, starts_with, joined_texts, join_items, join, texts, split_at, nonempty, white_parts, parts_between, list_method, dict_method, text_method, method_of}
use Rattle.py_code.specs.Units.{Module}
use Rattle.py_world_laws.specs.Suits.{Environment, IsOther, Suits, Suit, SuitAll, HeapSuits}
use Rattle.py_world_laws.proofs.Values.{either, ThroughOption, all_append, all_remove}
use Rattle.py_world_laws.proofs.Objects.{list_suits, dict_suits, dict_keys_suit, list_changed, dict_changed, value_suits, without_key_suits}
use Rattle.py_world_laws.proofs.Operators.{item_suits}
use Rattle.py_world_laws.proofs.Results.{Making, AnswerSuits, said, key_error_suits, then_ok, any_ok, limited, stays, keeps, makes_list}

module _ (ms : List Module) (e : Environment) where
  abbrev Good : Answer → Type 0
  Good r = AnswerSuits ms e r

  -- ---- arguments

  pub on_one : (args : List PlainValue) (f : PlainValue → Answer) → SuitAll ms e args → ((x : PlainValue) → Suit ms e x → Good (f x)) → Good (for_one (only args) f)
  on_one [] f h k = tt
  on_one (x ∷ []) f h k = k x h.0
  on_one (x ∷ (y ∷ ys)) f h k = tt

  pub on_none_or_one : (args : List PlainValue) (answer : Answer) (f : PlainValue → Answer) → SuitAll ms e args → Good answer → ((x : PlainValue) → Suit ms e x → Good (f x)) → Good (for_none_or_one (only args) (are_none args) answer f)
  on_none_or_one [] answer f h i k = i
  on_none_or_one (x ∷ []) answer f h i k = k x h.0
  on_none_or_one (x ∷ (y ∷ ys)) answer f h i k = tt

  on_one_or_two : (args : List PlainValue) (f : PlainValue → Answer) (p : PlainValue → PlainValue → Answer) → SuitAll ms e args
      → ((x : PlainValue) → Suit ms e x → Good (f x)) → ((x y : PlainValue) → Suit ms e x → Suit ms e y → Good (p x y)) → Good (for_one_or_two (only args) (pair args) f p)
  on_one_or_two [] f p h k l = tt
  on_one_or_two (x ∷ []) f p h k l = k x h.0
  on_one_or_two (x ∷ (y ∷ [])) f p h k l = l x y h.0 h.1.0
  on_one_or_two (x ∷ (y ∷ (z ∷ zs))) f p h k l = tt

  on_none : (b : Bool) (answer : Answer) → Good answer → Good (for_none b answer)
  on_none true answer h = h
  on_none false answer h = tt

module _ (ms : List Module) (e : Environment) (h : PlainHeap) (g : HeapSuits ms e h) where
  pub new_list_suits : (vs : List PlainValue) → SuitAll ms e vs → AnswerSuits ms e (new_list vs h)
  new_list_suits vs k =
      said ms e (Making ms e) _
      (then_ok (SuitAll ms e) (Making ms e) (within_limit vs) _ (limited (SuitAll ms e) vs k) (λ ws i. makes_list ms e h g ws i))

  texts_suit : (ts : List (List ℕ)) → SuitAll ms e (texts ts)
  texts_suit [] = tt
  texts_suit (t ∷ ts) = (tt, texts_suit ts)

  -- ---- lists

  append_suits : (a : ℕ) (x : PlainValue) → IsOther e a → Suit ms e x → AnswerSuits ms e (append_value a x h)
  append_suits a x i k =
      either (AnswerSuits ms e) (nat_lt (length (list_items h a)) most_items) (Ok (none_value, change_list h a (λ vs. vs ++ x ∷ []))) (raises TooManyItems)
      (keeps ms e h g none_value _ (list_changed ms e h g a (λ vs. vs ++ x ∷ []) i (λ vs j. all_append (Suits ms e) vs (x ∷ []) j (k, tt))) tt) tt

  taken_suits : (a : ℕ) (o : Option ℕ) (v : Option PlainValue) → IsOther e a → ThroughOption (Suits ms e) v → AnswerSuits ms e (taken a h o v)
  taken_suits a (Some n) (Some v) i k = keeps ms e h g v _ (list_changed ms e h g a (λ vs. remove vs n) i (λ vs j. all_remove (Suits ms e) n vs j)) k
  taken_suits a (Some n) None i k = tt
  taken_suits a None v i k = tt

  take_suits : (a : ℕ) (o : Option ℤ) → IsOther e a → AnswerSuits ms e (take_item a h o)
  take_suits a (Some n) i =
      let place = place_among (length (list_items h a)) n in
      taken_suits a place (item_at (list_items h a) place) i (item_suits ms e h g (list_items h a) place (list_suits ms e h g a))
  take_suits a None i = tt

  -- ---- dicts

  key_suits : (key : PlainValue) (r : Answer) → AnswerSuits ms e r → AnswerSuits ms e (with_key key r)
  key_suits key r k = either (AnswerSuits ms e) (is_key key) r (raises UnhashableKey) k tt

  take_value_suits : (a : ℕ) (key : PlainValue) (o : Option PlainValue) (r : Answer) → IsOther e a → ThroughOption (Suits ms e) o → AnswerSuits ms e r → AnswerSuits ms e (take_value a h key o r)
  take_value_suits a key (Some v) r i k l = keeps ms e h g v _ (dict_changed ms e h g a (without_key key) i (λ ps j. without_key_suits ms e key ps j)) k
  take_value_suits a key None r i k l = l

  found : (a : ℕ) (key : PlainValue) → ThroughOption (Suits ms e) (value_at key (dict_pairs h a))
  found a key = value_suits ms e key (dict_pairs h a) (dict_suits ms e h g a)

  pop_key_suits : (a : ℕ) (key : PlainValue) → IsOther e a → Suit ms e key → AnswerSuits ms e (pop_key a key h)
  pop_key_suits a key i k = key_suits key _ (take_value_suits a key (value_at key (dict_pairs h a)) (Err (key_error key)) i (found a key) (key_error_suits ms e key k))

  pop_key_or_suits : (a : ℕ) (key x : PlainValue) → IsOther e a → Suit ms e x → AnswerSuits ms e (pop_key_or a key x h)
  pop_key_or_suits a key x i k = key_suits key _ (take_value_suits a key (value_at key (dict_pairs h a)) (Ok (x, h)) i (found a key) (stays ms e h g x k))

  value_or_suits : (x : PlainValue) (o : Option PlainValue) → Suit ms e x → ThroughOption (Suits ms e) o → Suit ms e (value_or x o)
  value_or_suits x None i k = i
  value_or_suits x (Some v) i k = k

  get_suits : (a : ℕ) (key x : PlainValue) → Suit ms e x → AnswerSuits ms e (get_or a key x h)
  get_suits a key x i = key_suits key _ (stays ms e h g (value_or x (value_at key (dict_pairs h a))) (value_or_suits x (value_at key (dict_pairs h a)) i (found a key)))

  -- ---- texts

  starts_suits : (s : List ℕ) (x : PlainValue) → AnswerSuits ms e (starts_with s x h)
  starts_suits s (str_value t) = stays ms e h g _ tt
  starts_suits s x = tt

  join_items_suits : (s : List ℕ) (vs : List PlainValue) → AnswerSuits ms e (join_items s vs h)
  join_items_suits s vs =
      said ms e (Making ms e) _ (then_ok (λ t. Unit {0}) (Making ms e) (joined_texts s vs) _ (any_ok (joined_texts s vs)) (λ t i. stays ms e h g (str_value t) tt))

  join_suits : (s : List ℕ) (x : PlainValue) → AnswerSuits ms e (join s x h)
  join_suits s (list_at a) = join_items_suits s (list_items h a)
  join_suits s (tuple_value vs) = join_items_suits s (listed vs)
  join_suits s x = tt

  split_suits : (s : List ℕ) (x : PlainValue) → AnswerSuits ms e (split_at s x h)
  split_suits s (str_value []) = tt
  split_suits s (str_value (c ∷ cs)) = new_list_suits (texts (parts_between (c ∷ cs) 0 s)) (texts_suit (parts_between (c ∷ cs) 0 s))
  split_suits s x = tt

  -- ---- the table

  list_method_suits : (m : Method) (a : ℕ) (args : List PlainValue) → IsOther e a → SuitAll ms e args → AnswerSuits ms e (list_method m a args h)
  list_method_suits Append a args i k = on_one ms e args (λ x. append_value a x h) k (λ x j. append_suits a x i j)
  list_method_suits Pop a args i k = on_none_or_one ms e args (take_item a h (Some (negsuc 0))) (λ x. take_item a h (number_of x)) k (take_suits a (Some (negsuc 0)) i) (λ x j. take_suits a (number_of x) i)
  list_method_suits m a args i k = tt

  dict_method_suits : (m : Method) (a : ℕ) (args : List PlainValue) → IsOther e a → SuitAll ms e args → AnswerSuits ms e (dict_method m a args h)
  dict_method_suits Pop a args i k = on_one_or_two ms e args (λ key. pop_key a key h) (λ key x. pop_key_or a key x h) k (λ key j. pop_key_suits a key i j) (λ key x j l. pop_key_or_suits a key x i l)
  dict_method_suits Get a args i k = on_one_or_two ms e args (λ key. get_or a key none_value h) (λ key x. get_or a key x h) k (λ key j. get_suits a key none_value tt) (λ key x j l. get_suits a key x l)
  dict_method_suits Keys a args i k = on_none ms e (are_none args) _ (makes_list ms e h g (dict_keys h a) (dict_keys_suit ms e h g a))
  dict_method_suits m a args i k = tt

  text_method_suits : (m : Method) (s : List ℕ) (args : List PlainValue) → SuitAll ms e args → AnswerSuits ms e (text_method m s args h)
  text_method_suits StartsWith s args k = on_one ms e args (λ x. starts_with s x h) k (λ x j. starts_suits s x)
  text_method_suits Join s args k = on_one ms e args (λ x. join s x h) k (λ x j. join_suits s x)
  text_method_suits Split s args k =
      on_none_or_one ms e args (new_list (texts (nonempty (white_parts s))) h) (λ t. split_at s t h) k (new_list_suits (texts (nonempty (white_parts s))) (texts_suit (nonempty (white_parts s)))) (λ t j. split_suits s t)
  text_method_suits m s args k = tt

  pub method_suits : (m : Method) (v : PlainValue) (args : List PlainValue) → Suit ms e v → SuitAll ms e args → AnswerSuits ms e (method_of m v args h)
  method_suits m (list_at a) args i k = list_method_suits m a args i k
  method_suits m (dict_at a) args i k = dict_method_suits m a args i k
  method_suits m (str_value s) args i k = text_method_suits m s args k
  method_suits m v args i k = tt
