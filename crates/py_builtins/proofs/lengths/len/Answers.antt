use Rattle.std.proofs.Common.{arith, rules}
use Rattle.std.proofs.lemmas.Grind.{common_steps}
use Rattle.py_value.specs.HeapView.{plain_heap}
use Rattle.py_builtins.proofs.lengths.len.Goals as goal

pub returns-in-None-size_of : goal.returns-in-None-size_of
returns-in-None-size_of c = c.raise-in-None-size_of.ensures.answer (plain_heap c.args.heap.now) _ (first_of (search rules, grind (arith, common_steps)))
