use Rattle.py_text.proofs.TextLaws.{empty_text}
use Rattle.py_text.proofs.text.Text.is_empty.Goals as goal

pub returns : goal.returns
returns c = rw c.is_empty.ensures (empty_text c.as_str.result.now c.args.self.now c.as_str.ensures.bytes c.as_str.ensures.characters)
