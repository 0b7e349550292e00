use Rattle.std.proofs.Common.{not, string_bytes, String, Global, ap, sym, ◌∙◌}
use Rattle.cov_config.specs.Omits.{omits}
use Rattle.cov_reports.proofs.Lists.{list_any-map}
use Rattle.cov_reports.proofs.paths.is_kept.Goals as goal

pub returns : goal.returns
returns c = ap not (c.in_ok-omitted.ensures ∙ sym (list_any-map (λ pattern. omits pattern c.args.path.now) (λ (t : String Global). string_bytes t) c.args.omit.now))
