use Rattle.std.proofs.Common.{arith}
use Rattle.py_parse_fields.proofs.Offers.{given_open}
use Rattle.py_parse_fields.proofs.reader.after_comma.Goals as goal

pub returns : goal.returns
returns c = grind (arith, given_open)
