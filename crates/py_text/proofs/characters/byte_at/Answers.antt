use Rattle.std.proofs.Common.{arith}
use Rattle.py_text.proofs.TextLaws.{ascii_item, no_ascii_item}
use Rattle.py_text.proofs.characters.byte_at.Goals as goal

pub returns-then-at-s : goal.returns-then-at-s
returns-then-at-s c = ascii_item c.as_bytes.result.now c.args.s.now c.args.at c.as_bytes.ensures.value c.requires (omega arith)

pub returns-else-at-s : goal.returns-else-at-s
returns-else-at-s c = no_ascii_item c.args.s.now c.args.at c.requires (omega arith)
