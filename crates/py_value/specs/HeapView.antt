-- The plain view of a heap.
use Rattle.py_value.specs.declared.heap.Heap.{Heap}
use Rattle.py_value.specs.Plain.{PlainHeap}
use Rattle.py_value.specs.Objects.{plain_objects}

-- the objects of a heap, each at its address
abbrev pub plain_heap : Heap → PlainHeap
plain_heap h = plain_objects h.objects.items
