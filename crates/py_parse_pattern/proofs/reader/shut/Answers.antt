use Rattle.std.proofs.lemmas.Grind.{common_steps}
use Rattle.std.proofs.Common.{arith}
use Rattle.py_parse_pattern.proofs.reader.shut.Goals as goal

pub returns-then-not-same_bracket : goal.returns-then-not-same_bracket
returns-then-not-same_bracket c = grind (arith, common_steps)
