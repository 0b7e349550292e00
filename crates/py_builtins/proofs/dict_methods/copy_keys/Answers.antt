use Rattle.std.proofs.lemmas.Grind.{common_steps}
use Rattle.std.proofs.Common.{◌≡◌, ◌++◌, ◌∷◌, [], rules, arith}
use Rattle.py_value.specs.HeapView.{plain_heap}
use Rattle.py_value.specs.Heaps.{dict_keys}
use Rattle.py_builtins.proofs.Lists.{key_pushed}
use Rattle.py_builtins.proofs.dict_methods.copy_keys.Goals as goal

pub loop-at-preserved : goal.loop-at-preserved
loop-at-preserved c =
    let pushed : c.push.new.self.items ≡ c.loop-at.keys.items ++ c.in_ok-key.field-0 ∷ [] = search rules in
    key_pushed (dict_keys (plain_heap c.args.heap.now) c.args.dict.place) c.loop-at.keys.items c.push.new.self.items c.in_ok-key.field-0 c.loop-at.at pushed c.in_ok-key.ensures c.loop-at.invariant

pub returns : goal.returns
returns c = grind (arith, common_steps)
