use Rattle.std.proofs.Common.{◌≡◌, ◌≤◌, ◌++◌, ◌∷◌, [], length, rules, arith}
use Rattle.std.proofs.lemmas.List.{length-map}
use Rattle.py_value.specs.HeapView.{plain_heap}
use Rattle.py_value.specs.Heaps.{dict_keys, dict_pairs}
use Rattle.py_value.specs.View.{plains}
use Rattle.py_builtins.proofs.Lists.{key_pushed}
use Rattle.py_world.proofs.Keys.{keys_end}
use Rattle.py_world.proofs.items.keys_of.Goals as goal

pub loop-at-preserved : goal.loop-at-preserved
loop-at-preserved c =
    let pushed : c.push.new.self.items ≡ c.loop-at.keys.items ++ c.in_ok-key.field-0 ∷ [] = search rules in
    key_pushed (dict_keys (plain_heap c.args.heap.now) c.args.dict.place) c.loop-at.keys.items c.push.new.self.items c.in_ok-key.field-0 c.loop-at.at pushed c.in_ok-key.ensures c.loop-at.invariant

pub returns : goal.returns
returns c =
    let long : length (dict_keys (plain_heap c.args.heap.now) c.args.dict.place) ≤ c.loop-at.at = omega (arith, length-map (dict_pairs (plain_heap c.args.heap.now) c.args.dict.place) (λ p. p.0), c.key_count-count.ensures, c.loop-at-test.false) in
    keys_end (dict_keys (plain_heap c.args.heap.now) c.args.dict.place) (plains c.loop-at.keys.items) c.loop-at.at long c.loop-at.invariant
