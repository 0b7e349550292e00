use Rattle.std.proofs.lemmas.Grind.{common_steps}
use Rattle.std.proofs.Common.{arith}
use Rattle.cov_words.proofs.operands.extends.Goals as goal

pub returns-else-is_empty : goal.returns-else-is_empty
returns-else-is_empty c = grind (arith, common_steps)

pub returns-else-not-is_empty : goal.returns-else-not-is_empty
returns-else-not-is_empty c = grind (arith, common_steps)

pub returns-then-is_empty-3 : goal.returns-then-is_empty-3
returns-then-is_empty-3 c = grind (arith, common_steps)

pub returns-else-operands-lt2 : goal.returns-else-operands-lt2
returns-else-operands-lt2 c = grind (arith, common_steps)

pub returns-then-is_empty : goal.returns-then-is_empty
returns-then-is_empty c = grind (arith, common_steps)

pub returns-else-is_empty-3 : goal.returns-else-is_empty-3
returns-else-is_empty-3 c = grind (arith, common_steps)

pub returns-else-is_empty-4 : goal.returns-else-is_empty-4
returns-else-is_empty-4 c = grind (arith, common_steps)

pub returns-then-operands-lt2 : goal.returns-then-operands-lt2
returns-then-operands-lt2 c = grind (arith, common_steps)

pub returns-then-is_empty-4 : goal.returns-then-is_empty-4
returns-then-is_empty-4 c = grind (arith, common_steps)

pub returns-then-not-is_empty : goal.returns-then-not-is_empty
returns-then-not-is_empty c = grind (arith, common_steps)

pub returns-else-is_empty-2 : goal.returns-else-is_empty-2
returns-else-is_empty-2 c = grind (arith, common_steps)

pub returns-then-is_empty-2 : goal.returns-then-is_empty-2
returns-then-is_empty-2 c = grind (arith, common_steps)
