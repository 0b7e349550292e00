use Rattle.std.proofs.lemmas.Grind.{common_steps}
use Rattle.std.proofs.Common.{arith}
use Rattle.py_value.proofs.Hashing.{index-step}
use Rattle.py_value.proofs.pairs.index_of.Goals as goal

pub loop-i-preserved : goal.loop-i-preserved
loop-i-preserved c =
    index-step c.loop-i.index c.add.new.self c.args.pairs.now c.loop-i.i c.hash_of.result c.index-pairs-i.result (omega arith) c.hash_of.ensures c.in_ok-add.ensures.ok c.loop-i.invariant

pub returns : goal.returns
returns c = grind (arith, common_steps)
