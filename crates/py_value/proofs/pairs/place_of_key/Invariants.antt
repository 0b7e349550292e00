use Rattle.std.proofs.Common.{◌≡◌, ◌+◌, drop, map}
use Rattle.std.specs.Option.{option_map}
use Rattle.py_value.specs.Pairs.{plain_pair}
use Rattle.py_value.specs.View.{plain}
use Rattle.py_value.specs.Keys.{place_of_key}
use Rattle.py_value.proofs.pairs.place_of_key.Given as goal

abbrev pub invariant-loop-i : goal.invariant-loop-i
invariant-loop-i l =
    option_map (λ k. l.i + k) (place_of_key (plain l.key) (map plain_pair (drop l.i l.pairs))) ≡ place_of_key (plain l.key) (map plain_pair l.pairs)
