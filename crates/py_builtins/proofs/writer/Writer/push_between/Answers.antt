use Rattle.std.proofs.Common.{◌≡◌, IsTrue, ap, sym, ◌∙◌, rules}
use Rattle.std.specs.Str.{chars}
use Rattle.py_builtins.specs.Displays.{all_escaped}
use Rattle.py_builtins.specs.Writing.{whole}
use Rattle.py_builtins.proofs.Pieces.{written_same}
use Rattle.py_builtins.proofs.writer.Writer.push_between.Goals as goal

pub returns-then-is_plain : goal.returns-then-is_plain
returns-then-is_plain c =
    let plain : IsTrue c.is_plain.result = search rules in
    let same : chars c.as_str.result.now ≡ c.args.text.now = c.as_str.ensures.characters in
    written_same c.push_text.result c.args.self.now.text c.push_text.new.self.text (whole c.args.text.now) (whole (all_escaped c.args.mark c.args.text.now))
    (ap whole (sym same ∙ sym (c.is_plain.ensures plain) ∙ ap (all_escaped c.args.mark) same)) c.push_text.ensures
