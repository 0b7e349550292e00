use Rattle.std.proofs.Common.{arith, rules}
use Rattle.std.proofs.lemmas.Grind.{common_steps}
use Rattle.py_value.specs.HeapView.{plain_heap}
use Rattle.py_builtins.proofs.text_methods.join_list.Goals as goal

pub returns-in_default : goal.returns-in_default
returns-in_default c = c.raise.ensures.answer (plain_heap c.args.heap.now) _ (first_of (search rules, grind (arith, common_steps)))
