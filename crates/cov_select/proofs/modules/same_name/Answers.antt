use Rattle.std.proofs.Common.{◌∙◌, string_bytes, ap}
use Rattle.std.specs.Str.{chars}
use Rattle.py_text.specs.Comparison.{is_same_text}
use Rattle.cov_select.proofs.Places.{same-names}
use Rattle.cov_select.proofs.modules.same_name.Goals as goal

pub returns : goal.returns
returns c =
    c.eq.ensures ∙ same-names c.as_str.result.now c.as_str-2.result.now c.as_str.utf8 c.as_str-2.utf8
    ∙ ap (λ bytes. is_same_text (chars bytes) (chars c.as_str-2.result.now)) c.as_str.ensures.value
    ∙ ap (λ bytes. is_same_text (chars (string_bytes c.args.one.now.name)) (chars bytes)) c.as_str-2.ensures.value
