use Rattle.std.proofs.Common.{◌≡◌, ◌++◌, drop, map}
use Rattle.py_value.specs.View.{plains}
use Rattle.py_value.specs.Pairs.{plain_pair}
use Rattle.py_value.proofs.sequences.keys_of.Given as goal

abbrev pub invariant-loop-pair : goal.invariant-loop-pair
invariant-loop-pair l = plains l.keys.items ++ map (λ p. p.0) (map plain_pair (drop l.pair-index l.pairs)) ≡ map (λ p. p.0) (map plain_pair l.pairs)
