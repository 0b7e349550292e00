use Rattle.std.proofs.lemmas.Grind.{common_steps}
use Rattle.std.proofs.Common.{arith}
use Rattle.py_token.proofs.words.keyword_in.Goals as goal

pub returns-then-eq : goal.returns-then-eq
returns-then-eq c = grind (arith, common_steps)

pub loop-spelling-preserved : goal.loop-spelling-preserved
loop-spelling-preserved c = grind (arith, common_steps)
