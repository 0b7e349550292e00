use Rattle.std.proofs.Common.{arith}
use Rattle.py_parse_fields.proofs.Offers.{given}
use Rattle.py_parse_fields.proofs.replies.chain.Goals as goal

pub returns-in_default : goal.returns-in_default
returns-in_default c = grind (arith, given)

pub returns-in_default-2 : goal.returns-in_default-2
returns-in_default-2 c = grind (arith, given)
