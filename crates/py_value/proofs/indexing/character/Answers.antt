use Rattle.std.proofs.Common.{arith}
use Rattle.std.proofs.lemmas.Grind.{common_steps}
use Rattle.py_value.proofs.indexing.character.Goals as goal

pub returns-in-None : goal.returns-in-None
returns-in-None c = grind (arith, common_steps)

pub returns-in-None-place_among : goal.returns-in-None-place_among
returns-in-None-place_among c = grind (arith, common_steps)

pub returns-in-None-char_at : goal.returns-in-None-char_at
returns-in-None-char_at c = grind (arith, common_steps)

pub returns-in_ok-of_char-in-Some-char_at : goal.returns-in_ok-of_char-in-Some-char_at
returns-in_ok-of_char-in-Some-char_at c = grind (arith, common_steps)
