-- What a heap has at an address. An address beyond the heap is that of an empty list.
use Rattle.std.specs.Prelude.{ℕ, Bool, true, false, List, [], ◌∷◌, ◌++◌, length, map, slice_set, remove}
use Rattle.std.specs.List.{slice_index_or}
use Rattle.py_value.specs.Plain.{PlainValue, PlainObject, list_object, dict_object, PlainHeap}

-- the items of a list; a dict has none
abbrev pub items_of : PlainObject → List PlainValue
items_of (list_object vs) = vs
items_of (dict_object ps) = []

-- the pairs of a dict; a list has none
abbrev pub pairs_of : PlainObject → List (PlainValue × PlainValue)
pairs_of (list_object vs) = []
pairs_of (dict_object ps) = ps

-- the object at an address
abbrev pub object_at : PlainHeap → ℕ → PlainObject
object_at h a = slice_index_or h a (list_object [])

-- the items of the list at an address
abbrev pub list_items : PlainHeap → ℕ → List PlainValue
list_items h a = items_of (object_at h a)

-- the pairs of the dict at an address
abbrev pub dict_pairs : PlainHeap → ℕ → List (PlainValue × PlainValue)
dict_pairs h a = pairs_of (object_at h a)

-- the keys of the dict at an address
abbrev pub dict_keys : PlainHeap → ℕ → List PlainValue
dict_keys h a = map (λ p. p.0) (dict_pairs h a)

-- the number of items of a list or of pairs of a dict
abbrev pub length_of : PlainObject → ℕ
length_of (list_object vs) = length vs
length_of (dict_object ps) = length ps

-- a list with its items changed; a dict stays as it is
abbrev pub with_items : (List PlainValue → List PlainValue) → PlainObject → PlainObject
with_items f (list_object vs) = list_object (f vs)
with_items f (dict_object ps) = dict_object ps

-- a dict with its pairs changed; a list stays as it is
abbrev pub with_pairs : (List (PlainValue × PlainValue) → List (PlainValue × PlainValue))
    → PlainObject → PlainObject
with_pairs f (list_object vs) = list_object vs
with_pairs f (dict_object ps) = dict_object (f ps)

-- a heap with the object at an address changed
abbrev pub change : PlainHeap → ℕ → (PlainObject → PlainObject) → PlainHeap
change h a f = slice_set h a (f (object_at h a))

-- a heap with the list at an address changed
abbrev pub change_list : PlainHeap → ℕ → (List PlainValue → List PlainValue) → PlainHeap
change_list h a f = slice_set h a (with_items f (object_at h a))

-- a heap with the dict at an address changed
abbrev pub change_dict : PlainHeap → ℕ
    → (List (PlainValue × PlainValue) → List (PlainValue × PlainValue)) → PlainHeap
change_dict h a f = slice_set h a (with_pairs f (object_at h a))

-- the heap with a new object at its end
abbrev pub with_object : PlainHeap → PlainObject → PlainHeap
with_object h o = h ++ o ∷ []

-- whether an object is a list
abbrev pub is_list_object : PlainObject → Bool
is_list_object (list_object vs) = true
is_list_object (dict_object ps) = false

-- the items of a list, and the values of a dict
abbrev pub values_of : PlainObject → List PlainValue
values_of (list_object vs) = vs
values_of (dict_object ps) = map (λ p. p.1) ps

-- a list without the item at a place, a dict without the pair there
abbrev pub without : ℕ → PlainObject → PlainObject
without at (list_object vs) = list_object (remove vs at)
without at (dict_object ps) = dict_object (remove ps at)
