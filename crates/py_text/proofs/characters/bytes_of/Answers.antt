use Rattle.py_text.proofs.TextLaws.{ascii_part}
use Rattle.py_text.proofs.characters.bytes_of.Goals as goal

pub returns : goal.returns
returns c = ascii_part c.args.s.now c.range.result.now c.min-from.result c.min.result c.args.first c.args.count c.requires c.min-from.ensures c.min.ensures c.range.ensures.value
