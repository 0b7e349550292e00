use Rattle.std.proofs.Common.{arith, rules}
use Rattle.std.proofs.lemmas.Grind.{common_steps}
use Rattle.py_value.specs.HeapView.{plain_heap}
use Rattle.py_builtins.proofs.list_methods.take_item.Goals as goal

pub returns-in-None-clause-answer : goal.returns-in-None-clause-answer
returns-in-None-clause-answer c = c.raise.ensures.answer (plain_heap c.args.heap.now) _ (first_of (search rules, grind (arith, common_steps)))

pub take-requires-clause-place : goal.take-requires-clause-place
take-requires-clause-place c = grind (arith, common_steps)

pub returns-in-Some-clause-answer : goal.returns-in-Some-clause-answer
returns-in-Some-clause-answer c = grind (arith, common_steps)

pub take-requires-clause-inside : goal.take-requires-clause-inside
take-requires-clause-inside c = grind (arith, common_steps)
