use Rattle.std.proofs.Common.{map, take}
use Rattle.py_value.specs.Pairs.{plain_pair}
use Rattle.py_value.specs.Hashes.{IsIndex}
use Rattle.py_value.proofs.pairs.index_of.Given as goal

abbrev pub invariant-loop-i : goal.invariant-loop-i
invariant-loop-i l = IsIndex l.index (map plain_pair (take l.i l.pairs))
