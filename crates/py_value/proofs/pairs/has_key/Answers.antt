use Rattle.std.proofs.Common.{arith, ◌∙◌}
use Rattle.py_value.specs.View.{plain}
use Rattle.py_value.proofs.Hashing.{key-there, no-key-there}
use Rattle.py_value.proofs.pairs.has_key.Goals as goal

pub returns-then-place-pairs : goal.returns-then-place-pairs
returns-then-place-pairs c = c.is_same_key.ensures ∙ key-there (plain c.args.key.now) c.args.pairs.now c.args.place c.index-pairs-place.result (omega arith)

pub returns-else-place-pairs : goal.returns-else-place-pairs
returns-else-place-pairs c = no-key-there (plain c.args.key.now) c.args.pairs.now c.args.place (omega arith)
