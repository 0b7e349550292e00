use Rattle.std.proofs.Common.{ap, ◌∙◌, arith}
use Rattle.py_value.specs.View.{plain}
use Rattle.py_value.specs.Objects.{plain_pairs}
use Rattle.py_value.specs.Hashes.{first_with, named}
use Rattle.py_value.proofs.Hashing.{found_by_index}
use Rattle.py_value.proofs.pairs.Pairs.place_of.Goals as goal

pub returns-else-len-eq0 : goal.returns-else-len-eq0
returns-else-len-eq0 c =
    c.place_in.ensures
    ∙ ap (λ ps. first_with (plain c.args.key.now) ps c.places.result.now) c.as_slice-else-len-eq0.ensures
    ∙ ap (first_with (plain c.args.key.now) (plain_pairs c.args.self.now)) (c.places.ensures ∙ ap (named c.args.self.now.index) c.hash_of.ensures)
    ∙ found_by_index (plain c.args.key.now) (plain_pairs c.args.self.now) c.args.self.now.index c.args.self.now.distinct_keys c.args.self.now.indexed (omega arith)
