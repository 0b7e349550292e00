use Rattle.std.proofs.Common.{arith, ap}
use Rattle.py_token.specs.Source.{line_count}
use Rattle.py_token.proofs.Lines.{line_count-take}
use Rattle.py_token.proofs.Reaches.{reach_within}
use Rattle.py_token.proofs.fstrings.field_at.Goals as goal

pub after-requires : goal.after-requires
after-requires c = let h = reach_within c.args.opening.quote c.args.opening.triple c.args.others.now in let e = c.requires.reached in omega (arith, h, e)

pub front-requires : goal.front-requires
front-requires c = let h = reach_within c.args.opening.quote c.args.opening.triple c.args.others.now in let e = c.requires.reached in omega (arith, h, e)

pub field_tokens-requires-clause-lines : goal.field_tokens-requires-clause-lines
field_tokens-requires-clause-lines c = let h = line_count-take c.args.n c.args.others.now in let e = ap line_count c.front.ensures in let r = c.requires.lines in omega (arith, h, e, r)
