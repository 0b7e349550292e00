use Rattle.std.proofs.Common.{◌++◌, ◌∙◌, ap, codes, rules}
use Rattle.cov_runs.proofs.KindNames.{line-with-text}
use Rattle.cov_runs.proofs.Lines.{text-is}
use Rattle.cov_runs.proofs.ending.uncaught_line.Goals as goal

pub returns : goal.returns
returns c =
    text-is c.format-2.result _ _ c.format-2.ensures.ok
    (ap (λ n. n ++ (codes ": " ++ (c.as_str-text.result.now ++ codes "\n"))) c.kind_name-kind.ensures ∙ line-with-text c.args.kind c.args.text.now c.as_str-text.result.now (λ e. search (rules, c.if-is_empty.ensures, c.if-is_empty.false, e)) c.as_str-text.ensures.bytes)
