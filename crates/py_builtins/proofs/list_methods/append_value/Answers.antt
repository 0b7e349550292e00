use Rattle.std.proofs.Common.{arith, rules}
use Rattle.std.proofs.lemmas.Grind.{common_steps}
use Rattle.py_value.specs.HeapView.{plain_heap}
use Rattle.py_builtins.proofs.list_methods.append_value.Goals as goal

pub returns-then-items-ge-MOST_ITEMS-clause-answer : goal.returns-then-items-ge-MOST_ITEMS-clause-answer
returns-then-items-ge-MOST_ITEMS-clause-answer c = c.raise.ensures.answer (plain_heap c.args.heap.now) _ (first_of (search rules, grind (arith, common_steps)))

pub returns-clause-answer : goal.returns-clause-answer
returns-clause-answer c = grind (arith, common_steps)
