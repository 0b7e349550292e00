-- A heap with one object changed.
use Rattle.std.proofs.Common.{◌≡◌, ℕ, zero, suc, ◌<◌, ◌≤◌, List, [], ◌∷◌, length, get_or, refl, ap, ◌∙◌, OnErr, Result, Ok, Err, arith}
use Rattle.std.proofs.Math.ListN.{set}
use Rattle.std.proofs.lemmas.List.{map-set}
use Rattle.py_value.specs.declared.heap.Object.{Object}
use Rattle.py_value.specs.Plain.{PlainObject, PlainHeap}
use Rattle.py_value.specs.Objects.{plain_object, plain_objects}
use Rattle.py_value.specs.Heaps.{object_at}

-- the object at a place in the heap
pub object_is : (os : List Object) (a : ℕ) (o : Object) → a < length os → o ≡ get_or os a o → plain_object o ≡ object_at (plain_objects os) a
object_is [] a o l e = absurd (omega arith)
object_is (x ∷ os) zero o l e = ap plain_object e
object_is (x ∷ os) (suc a) o l e = object_is os a o (omega arith) e

-- it is changed by f
pub changed : (f : PlainObject → PlainObject) (os : List Object) (a : ℕ) (o new : Object) → a < length os → o ≡ get_or os a o → plain_object new ≡ f (plain_object o)
    → plain_objects (set os a new) ≡ set (plain_objects os) a (f (object_at (plain_objects os) a))
changed f os a o new l e h = map-set plain_object os a new ∙ ap (set (plain_objects os) a) (h ∙ ap f (object_is os a o l e))

-- it stays
pub unchanged : (os : List Object) (a : ℕ) (o new : Object) → a < length os → o ≡ get_or os a o → plain_object new ≡ plain_object o → plain_objects (set os a new) ≡ plain_objects os
unchanged [] a o new l e h = refl
unchanged (x ∷ os) zero o new l e h = ap (λ y. y ∷ plain_objects os) (h ∙ ap plain_object e)
unchanged (x ∷ os) (suc a) o new l e h = ap (λ ys. plain_object x ∷ ys) (unchanged os a o new (omega arith) e h)

-- beyond the heap nothing changes
pub beyond : (h : PlainHeap) (a : ℕ) (o : PlainObject) → length h ≤ a → set h a o ≡ h
beyond [] a o l = refl
beyond (x ∷ h) zero o l = absurd (omega arith)
beyond (x ∷ h) (suc a) o l = ap (λ ys. x ∷ ys) (beyond h a o (omega arith))

pub on_err : {A E : Type 0} (r : Result A E) (P : Type 0) → P → OnErr r P
on_err (Ok x) P p = tt
on_err (Err e) P p = p
