use Rattle.std.proofs.lemmas.Grind.{common_steps}
use Rattle.std.proofs.Common.{arith, ap}
use Rattle.py_token.specs.Source.{line_count}
use Rattle.py_token.proofs.Lines.{line_count-cons}
use Rattle.py_token.proofs.plain.raw_string.Goals as goal

pub string_at-requires : goal.string_at-requires
string_at-requires c = let h = line_count-cons c.in-Some.quote c.in-Some.rest.now in let e = ap line_count c.in-Some.ensures in let r = c.requires in omega (arith, h.0, e, r)

pub returns : goal.returns
returns c = grind (arith, common_steps)
