use Rattle.std.proofs.lemmas.Grind.{common_steps}
use Rattle.std.proofs.Common.{arith}
use Rattle.py_parse_pattern.proofs.reader.open.Goals as goal

pub next-requires-clause-rows : goal.next-requires-clause-rows
next-requires-clause-rows c = grind (arith, common_steps)

pub returns : goal.returns
returns c = grind (arith, common_steps)
