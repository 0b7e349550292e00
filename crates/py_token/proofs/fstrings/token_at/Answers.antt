use Rattle.std.proofs.Common.{arith, ap}
use Rattle.py_token.specs.Source.{line_count}
use Rattle.py_token.proofs.Lines.{line_count-drop}
use Rattle.py_token.proofs.fstrings.token_at.Goals as goal

pub fstring_at-requires-clause-lines : goal.fstring_at-requires-clause-lines
fstring_at-requires-clause-lines c = let h = line_count-drop 1 c.args.chars.now in let e = ap line_count c.after-others.ensures in let r = c.requires.lines in omega (arith, h, e, r)
