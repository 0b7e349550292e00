use Rattle.std.proofs.Common.{w32, sym, ap, ◌∙◌}
use Rattle.std.proofs.lemmas.Int.{to_z-of_z}
use Rattle.cov_analysis.specs.Lookups.{line_at}
use Rattle.cov_analysis.proofs.Branching.{end_at, end_outside}
use Rattle.cov_analysis.proofs.branches.is_excluded_end.Goals as goal

pub returns-in-Some : goal.returns-in-Some
returns-in-Some c =
    c.is_among.ensures ∙ end_at c.args.excluded.now c.args.end c.in-Some.line (ap line_at (sym (to_z-of_z w32 c.args.end c.ranges.end)) ∙ sym c.line_of.ensures ∙ c.in-Some.is)

pub returns-in-None : goal.returns-in-None
returns-in-None c = end_outside c.args.excluded.now c.args.end (ap line_at (sym (to_z-of_z w32 c.args.end c.ranges.end)) ∙ sym c.line_of.ensures ∙ c.in-None.is)
