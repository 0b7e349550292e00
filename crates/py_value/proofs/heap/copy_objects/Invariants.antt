use Rattle.std.proofs.Common.{◌≡◌, ◌++◌, drop}
use Rattle.py_value.specs.Objects.{plain_objects}
use Rattle.py_value.proofs.heap.copy_objects.Given as goal

abbrev pub invariant-loop-object : goal.invariant-loop-object
invariant-loop-object l = plain_objects l.copies.items ++ plain_objects (drop l.object-index l.objects) ≡ plain_objects l.objects
