use Rattle.std.proofs.Common.{arith, ap}
use Rattle.py_token.specs.Source.{line_count}
use Rattle.py_token.proofs.Lines.{line_count-drop}
use Rattle.py_token.proofs.plain.plain_token.Goals as goal

pub string_at-requires : goal.string_at-requires
string_at-requires c = let h = line_count-drop 1 c.args.chars.now in let e = ap line_count c.after-others.ensures in let r = c.requires.lines in omega (arith, h, e, r)

pub raw_string-requires : goal.raw_string-requires
raw_string-requires c = let h = line_count-drop 1 c.args.chars.now in let e = ap line_count c.after-others.ensures in let r = c.requires.lines in omega (arith, h, e, r)
