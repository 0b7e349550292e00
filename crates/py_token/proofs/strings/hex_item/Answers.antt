use Rattle.std.proofs.Common.{arith}
use Rattle.py_token.proofs.Escapes.{hex_found}
use Rattle.py_token.proofs.strings.hex_item.Goals as goal

pub returns-in-Some : goal.returns-in-Some
returns-in-Some c = hex_found c.args.line c.args.n c.in-Some.c c.digits_value.result c.args.chars.now (omega arith) c.if-not-are_hexadecimal.ensures c.digits_value.ensures c.in-Some.ensures.0 c.in-Some.ensures.1
