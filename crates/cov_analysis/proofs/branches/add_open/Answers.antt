use Rattle.std.proofs.Common.{w32, sym, ap, ◌∙◌}
use Rattle.std.proofs.lemmas.Int.{to_z-of_z}
use Rattle.cov_analysis.specs.Lookups.{line_at}
use Rattle.cov_analysis.proofs.Branching.{opened, opened-none}
use Rattle.cov_analysis.proofs.branches.add_open.Goals as goal

pub returns-in-Some : goal.returns-in-Some
returns-in-Some c =
    opened c.push_if.result c.args.excluded.now c.args.from c.args.to c.in-Some.line c.is_open.result c.args.out.now.items _ _ (to_z-of_z w32 c.args.to c.ranges.to)
    (ap line_at (sym (to_z-of_z w32 c.args.from c.ranges.from)) ∙ sym c.line_of.ensures ∙ c.in-Some.is) c.is_open.ensures c.push_if.ensures

pub returns-in-None : goal.returns-in-None
returns-in-None c =
    opened-none c.args.excluded.now c.args.from c.args.to c.args.out.now.items (ap line_at (sym (to_z-of_z w32 c.args.from c.ranges.from)) ∙ sym c.line_of.ensures ∙ c.in-None.is)
