use Rattle.std.proofs.Common.{◌≡◌, ◌++◌, drop, map}
use Rattle.py_value.specs.Pairs.{plain_pair}
use Rattle.py_value.proofs.pairs.copy_pairs.Given as goal

abbrev pub invariant-loop-pair : goal.invariant-loop-pair
invariant-loop-pair l = map plain_pair l.copies.items ++ map plain_pair (drop l.pair-index l.pairs) ≡ map plain_pair l.pairs
