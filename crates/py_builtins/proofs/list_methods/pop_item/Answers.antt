use Rattle.std.proofs.Common.{arith, rules}
use Rattle.std.proofs.lemmas.Grind.{common_steps}
use Rattle.py_value.specs.HeapView.{plain_heap}
use Rattle.py_builtins.proofs.list_methods.pop_item.Goals as goal

pub returns-in-None-number-clause-answer : goal.returns-in-None-number-clause-answer
returns-in-None-number-clause-answer c = c.raise.ensures.answer (plain_heap c.args.heap.now) _ (first_of (search rules, grind (arith, common_steps)))

pub returns-else-are_none-clause-answer : goal.returns-else-are_none-clause-answer
returns-else-are_none-clause-answer c = c.raise-else-are_none.ensures.answer (plain_heap c.args.heap.now) _ (first_of (search rules, grind (arith, common_steps)))
