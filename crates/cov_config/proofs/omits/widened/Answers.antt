use Rattle.std.proofs.Common.{◌++◌, ap, ◌∙◌, codes}
use Rattle.std.proofs.lemmas.Str.Pattern.{starts_text, ends_text}
use Rattle.cov_config.proofs.Wide.{widened-is}
use Rattle.cov_config.proofs.omits.widened.Goals as goal

pub returns : goal.returns
returns c =
    let pattern = c.args.pattern.now in
    let back = c.star_if-back.result.now in
    widened-is _ c.star_if-front.result.now pattern back c.starts_with.result c.ends_with.result
    (starts_text _ (codes "*/") pattern c.starts_with.ensures.cases) (ends_text _ (codes "/*") pattern c.ends_with.ensures.cases)
    c.star_if-front.ensures c.star_if-back.ensures
    (c.in_ok-push_str-2.ensures.bytes ∙ ap (λ t. t ++ back) (c.in_ok-push_str.ensures.bytes ∙ ap (λ t. t ++ pattern) c.in_ok-text.ensures.ok))
