use Rattle.std.specs.Str.Iter.{HasSubslice}
use Rattle.std.proofs.lemmas.Str.Pattern.{contains_text}
use Rattle.py_text.specs.Parts.{is_part}
use Rattle.py_text.proofs.SameTexts.{same_answer}
use Rattle.py_text.proofs.Parts.{part_from_bytes, bytes_from_part}
use Rattle.py_text.proofs.text.Text.contains.Goals as goal

pub returns : goal.returns
returns c =
    let t = contains_text c.contains.result c.as_str-2.result.now c.as_str.result.now c.contains.ensures.cases in
    same_answer c.contains.result (is_part c.args.part.now c.args.self.now) (HasSubslice c.as_str.result.now c.as_str-2.result.now) t.0 t.1
    (bytes_from_part c.as_str.result.now c.as_str-2.result.now c.args.part.now c.args.self.now c.as_str.ensures.bytes c.as_str-2.ensures.bytes)
    (part_from_bytes c.as_str.result.now c.as_str-2.result.now c.args.part.now c.args.self.now c.as_str.utf8 c.as_str-2.utf8 c.as_str.ensures.characters c.as_str-2.ensures.characters c.as_str-2.ensures.bytes)
