-- Objects of heaps: their items, pairs and keys.
use Rattle.std.proofs.Common.{ℕ, List, [], ◌∷◌, map, Some}
use Rattle.py_value.specs.Heaps.{items_of, pairs_of, object_at, list_items, dict_pairs, dict_keys, with_items, with_pairs, change_list, change_dict}
use Rattle.py_value.specs.Keys.{is_same_key, value_at, with_value}
use Rattle.py_value.specs.Plain.{PlainValue, PlainObject, list_object, dict_object, PlainHeap}
use Rattle.py_builtins.specs.Methods.{without_key}
use Rattle.py_code.specs.Units.{Module}
use Rattle.py_world_laws.specs.Everywhere.{values_of_pairs}
use Rattle.py_world_laws.specs.Suits.{Environment, IsOther, Suits, Suit, SuitAll, ObjectSuits, HeapSuits}
use Rattle.py_world_laws.proofs.Values.{either, ThroughOption}
use Rattle.py_world_laws.proofs.Heaps.{object_suits, heap_set}

module _ (ms : List Module) (e : Environment) where
  items_suit : (o : PlainObject) → ObjectSuits ms e o → SuitAll ms e (items_of o)
  items_suit (list_object vs) h = h
  items_suit (dict_object ps) h = tt

  abbrev pub PairsSuit : List (PlainValue × PlainValue) → Type 0
  PairsSuit ps = SuitAll ms e (values_of_pairs ps)

  pairs_suit : (o : PlainObject) → ObjectSuits ms e o → PairsSuit (pairs_of o)
  pairs_suit (list_object vs) h = tt
  pairs_suit (dict_object ps) h = h

  keys_suit : (ps : List (PlainValue × PlainValue)) → PairsSuit ps → SuitAll ms e (map (λ p. p.0) ps)
  keys_suit [] h = tt
  keys_suit (p ∷ ps) h = (h.0, keys_suit ps h.1.1)

  pub value_suits : (key : PlainValue) (ps : List (PlainValue × PlainValue)) → PairsSuit ps → ThroughOption (Suits ms e) (value_at key ps)
  value_suits key [] h = tt
  value_suits key (p ∷ ps) h = either (ThroughOption (Suits ms e)) (is_same_key key p.0) (Some p.1) (value_at key ps) h.1.0 (value_suits key ps h.1.1)

  pub with_value_suits : (key v : PlainValue) (ps : List (PlainValue × PlainValue)) → Suit ms e key → Suit ms e v → PairsSuit ps → PairsSuit (with_value key v ps)
  with_value_suits key v [] i j h = (i, (j, tt))
  with_value_suits key v (p ∷ ps) i j h = either PairsSuit (is_same_key key p.0) ((p.0, v) ∷ ps) (p ∷ with_value key v ps) (h.0, (j, h.1.1)) (h.0, (h.1.0, with_value_suits key v ps i j h.1.1))

  pub without_key_suits : (key : PlainValue) (ps : List (PlainValue × PlainValue)) → PairsSuit ps → PairsSuit (without_key key ps)
  without_key_suits key [] h = tt
  without_key_suits key (p ∷ ps) h = either PairsSuit (is_same_key key p.0) ps (p ∷ without_key key ps) h.1.1 (h.0, (h.1.0, without_key_suits key ps h.1.1))

  with_items_suits : (f : List PlainValue → List PlainValue) (o : PlainObject) → ((vs : List PlainValue) → SuitAll ms e vs → SuitAll ms e (f vs)) → ObjectSuits ms e o → ObjectSuits ms e (with_items f o)
  with_items_suits f (list_object vs) k h = k vs h
  with_items_suits f (dict_object ps) k h = h

  with_pairs_suits : (f : List (PlainValue × PlainValue) → List (PlainValue × PlainValue)) (o : PlainObject) → ((ps : List (PlainValue × PlainValue)) → PairsSuit ps → PairsSuit (f ps)) → ObjectSuits ms e o → ObjectSuits ms e (with_pairs f o)
  with_pairs_suits f (list_object vs) k h = h
  with_pairs_suits f (dict_object ps) k h = k ps h

  module _ (h : PlainHeap) (g : HeapSuits ms e h) (a : ℕ) where
    pub list_suits : SuitAll ms e (list_items h a)
    list_suits = items_suit (object_at h a) (object_suits ms e h a g.objects)

    pub dict_suits : PairsSuit (dict_pairs h a)
    dict_suits = pairs_suit (object_at h a) (object_suits ms e h a g.objects)

    pub dict_keys_suit : SuitAll ms e (dict_keys h a)
    dict_keys_suit = keys_suit (dict_pairs h a) dict_suits

    pub list_changed : (f : List PlainValue → List PlainValue) → IsOther e a → ((vs : List PlainValue) → SuitAll ms e vs → SuitAll ms e (f vs)) → HeapSuits ms e (change_list h a f)
    list_changed f other k = heap_set ms e h g a (with_items f (object_at h a)) other (with_items_suits f (object_at h a) k (object_suits ms e h a g.objects))

    pub dict_changed : (f : List (PlainValue × PlainValue) → List (PlainValue × PlainValue)) → IsOther e a → ((ps : List (PlainValue × PlainValue)) → PairsSuit ps → PairsSuit (f ps)) → HeapSuits ms e (change_dict h a f)
    dict_changed f other k = heap_set ms e h g a (with_pairs f (object_at h a)) other (with_pairs_suits f (object_at h a) k (object_suits ms e h a g.objects))
