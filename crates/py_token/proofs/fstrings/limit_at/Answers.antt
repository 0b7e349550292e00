use Rattle.std.proofs.Common.{arith}
use Rattle.py_token.proofs.Reaches.{reach_within}
use Rattle.py_token.proofs.fstrings.limit_at.Goals as goal

pub overflow_sub-result : goal.overflow_sub-result
overflow_sub-result c = let h = reach_within c.args.opening.quote c.args.opening.triple c.args.others.now in let e = c.reach.ensures in omega (arith, h, e)

pub returns : goal.returns
returns c = let h = reach_within c.args.opening.quote c.args.opening.triple c.args.others.now in let e = c.reach.ensures in omega (arith, h, e)
