use Rattle.std.proofs.Common.{◌≡◌, drop, map}
use Rattle.py_value.specs.Pairs.{plain_pair}
use Rattle.py_value.specs.View.{plain}
use Rattle.py_value.specs.Hashes.{first_with}
use Rattle.py_value.proofs.pairs.place_in.Given as goal

abbrev pub invariant-loop-place : goal.invariant-loop-place
invariant-loop-place l = first_with (plain l.key) (map plain_pair l.pairs) (drop l.place-index l.places) ≡ first_with (plain l.key) (map plain_pair l.pairs) l.places
