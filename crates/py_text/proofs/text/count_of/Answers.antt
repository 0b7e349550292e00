use Rattle.std.proofs.lemmas.Str.{chars_from_encodes}
use Rattle.std.proofs.Common.{rules}
use Rattle.py_text.proofs.text.count_of.Goals as goal

pub returns : goal.returns
returns c = let u = c.utf8.s in search (rules, chars_from_encodes)
