use Rattle.std.proofs.Common.{◌≡◌, drop}
use Rattle.py_builtins.specs.Attributes.{method_among}
use Rattle.py_world.proofs.attributes.method_among.Given as goal

abbrev pub invariant-loop-method : goal.invariant-loop-method
invariant-loop-method l = method_among (drop l.method-index l.all) l.name ≡ method_among l.all l.name
