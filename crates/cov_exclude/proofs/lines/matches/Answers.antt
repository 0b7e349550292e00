use Rattle.std.proofs.Common.{ap, ◌∙◌}
use Rattle.std.specs.Prelude.{is_some}
use Rattle.regex.specs.Patterns.{find_str}
use Rattle.cov_exclude.proofs.Matching.{matched}
use Rattle.cov_exclude.proofs.lines.matches.Goals as goal

pub returns-clause-found : goal.returns-clause-found
returns-clause-found c =
    c.is_match.ensures.found ∙ ap (λ p. is_some (find_str p c.args.line.now 0)) c.requires.alike
    ∙ matched c.args.regex.now c.args.line.now c.requires.made (λ k. (c.type_inv.line k).fits)
