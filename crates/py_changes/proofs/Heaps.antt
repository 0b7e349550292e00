-- Heaps of whose functions something holds: new objects, and objects changed.
use Rattle.std.proofs.Common.{ℕ, zero, suc, [], ◌∷◌}
use Rattle.std.specs.Prelude.{slice_set}
use Rattle.py_value.specs.declared.value.FuncId.{FuncId}
use Rattle.py_value.specs.Heaps.{object_at, with_object}
use Rattle.py_value.specs.Plain.{PlainObject, PlainHeap}
use Rattle.py_changes.proofs.Kept.{ObjectSuits, HeapSuits}

module _ (K : FuncId → Type 0) where
  pub object_suits : (h : PlainHeap) (a : ℕ) → HeapSuits K h → ObjectSuits K (object_at h a)
  object_suits [] a g = tt
  object_suits (o ∷ h) zero g = g.0
  object_suits (o ∷ h) (suc a) g = object_suits h a g.1

  pub heap_set : (h : PlainHeap) (a : ℕ) (o : PlainObject) → HeapSuits K h → ObjectSuits K o
      → HeapSuits K (slice_set h a o)
  heap_set [] a o g k = tt
  heap_set (p ∷ h) zero o g k = (k, g.1)
  heap_set (p ∷ h) (suc a) o g k = (g.0, heap_set h a o g.1 k)

  pub heap_more : (h : PlainHeap) (o : PlainObject) → HeapSuits K h → ObjectSuits K o
      → HeapSuits K (with_object h o)
  heap_more [] o g k = (k, tt)
  heap_more (p ∷ h) o g k = (g.0, heap_more h o g.1 k)
