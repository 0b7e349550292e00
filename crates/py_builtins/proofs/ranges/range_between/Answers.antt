use Rattle.std.proofs.Common.{arith, rules}
use Rattle.std.proofs.lemmas.Grind.{common_steps}
use Rattle.py_value.specs.HeapView.{plain_heap}
use Rattle.py_builtins.proofs.ranges.range_between.Goals as goal

pub returns-in_default-clause-answer : goal.returns-in_default-clause-answer
returns-in_default-clause-answer c = c.raise.ensures.answer (plain_heap c.args.heap.now) _ (first_of (search rules, grind (arith, common_steps)))

pub returns-then-step-eq0-clause-answer : goal.returns-then-step-eq0-clause-answer
returns-then-step-eq0-clause-answer c = c.raise-then-step-eq0.ensures.answer (plain_heap c.args.heap.now) _ (first_of (search rules, grind (arith, common_steps)))

pub returns-then-is_too_long-clause-answer : goal.returns-then-is_too_long-clause-answer
returns-then-is_too_long-clause-answer c = c.raise-then-is_too_long.ensures.answer (plain_heap c.args.heap.now) _ (first_of (search rules, grind (arith, common_steps)))
