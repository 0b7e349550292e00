use Rattle.std.proofs.Common.{◌≡◌, drop}
use Rattle.py_value.specs.View.{plains}
use Rattle.py_builtins.specs.Making.{may_all_nest}
use Rattle.py_instructions.proofs.making.may_all_nest.Given as goal

abbrev pub invariant-loop-value : goal.invariant-loop-value
invariant-loop-value l = may_all_nest (plains (drop l.value-index l.values)) ≡ may_all_nest (plains l.values)
