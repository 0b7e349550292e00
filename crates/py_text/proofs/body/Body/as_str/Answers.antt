use Rattle.std.proofs.Common.{ap, sym, ◌∙◌}
use Rattle.std.specs.Str.{encode_utf8_all}
use Rattle.std.specs.String.{string_bytes}
use Rattle.std.proofs.lemmas.Str.{IsUtf8-string_bytes, encodes-chars}
use Rattle.py_text.proofs.body.Body.as_str.Goals as goal

pub returns-clause-bytes : goal.returns-clause-bytes
returns-clause-bytes c =
    c.as_str.ensures.value
    ∙ sym (encodes-chars (string_bytes c.self.inside.utf8) (IsUtf8-string_bytes c.self.inside.utf8))
    ∙ ap encode_utf8_all c.self.view_is
