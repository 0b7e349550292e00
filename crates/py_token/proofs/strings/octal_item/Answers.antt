use Rattle.std.proofs.lemmas.Grind.{common_steps}
use Rattle.std.proofs.Common.{arith}
use Rattle.py_token.proofs.Escapes.{octal_found, octal_fits}
use Rattle.py_token.proofs.strings.octal_item.Goals as goal

pub returns-in-Some : goal.returns-in-Some
returns-in-Some c = octal_found c.args.line c.in-Some.c c.octal_len-n.result c.digits_value.result c.args.chars.now c.octal_len-n.ensures c.digits_value.ensures c.in-Some.ensures.1

pub returns-in-None : goal.returns-in-None
returns-in-None c = absurd (c.in-None.ensures (octal_fits c.octal_len-n.result c.digits_value.result c.args.chars.now c.octal_len-n.ensures c.digits_value.ensures))

pub slice_bounds-digits_value-end : goal.slice_bounds-digits_value-end
slice_bounds-digits_value-end c = grind (arith, common_steps)
