-- The plain view of the heap's objects.
use Rattle.std.specs.Prelude.{List, map}
use Rattle.py_value.specs.declared.heap.Object.{Object}
use Rattle.py_value.specs.declared.heap.Object.TheVariants.{List as ListObject, Dict as DictObject}
use Rattle.py_value.specs.declared.pairs.Pairs.{Pairs}
use Rattle.py_value.specs.Plain.{PlainValue, PlainObject, list_object, dict_object, PlainHeap}
use Rattle.py_value.specs.Pairs.{plain_pair}
use Rattle.py_value.specs.View.{plains}

-- the pairs of a dict, each by its key and its value
abbrev pub plain_pairs : Pairs → List (PlainValue × PlainValue)
plain_pairs ps = map plain_pair ps.pairs.items

-- a list by its items, and a dict by its pairs
abbrev pub plain_object : Object → PlainObject
plain_object (ListObject vs) = list_object (plains vs.items)
plain_object (DictObject ps) = dict_object (plain_pairs ps)

-- each object of a heap
abbrev pub plain_objects : List Object → PlainHeap
plain_objects os = map plain_object os
