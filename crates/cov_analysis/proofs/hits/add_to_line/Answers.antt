use Rattle.std.proofs.Common.{◌≡◌, w32, to_z, of_z, sym, ap, ◌∙◌, arith}
use Rattle.std.proofs.lemmas.Int.{to_z-of_z}
use Rattle.cov_analysis.specs.Lookups.{line_at}
use Rattle.cov_analysis.proofs.Raising.{by_line, by_no_line}
use Rattle.cov_analysis.proofs.hits.add_to_line.Goals as goal

pub returns-in-Some : goal.returns-in-Some
returns-in-Some c =
    let to = c.args.row.now.to in
    let read : to_z w32 (of_z w32 to) ≡ to = grind (arith, to_z-of_z) in
    by_line c.raise.result c.args.counts.now c.raise.new.counts to c.in-Some.line c.args.row.now.count (ap line_at (sym read) ∙ sym c.line_of.ensures ∙ c.in-Some.is) c.raise.ensures

pub returns-in-None : goal.returns-in-None
returns-in-None c =
    let to = c.args.row.now.to in
    let read : to_z w32 (of_z w32 to) ≡ to = grind (arith, to_z-of_z) in
    by_no_line c.args.counts.now to c.args.row.now.count (ap line_at (sym read) ∙ sym c.line_of.ensures ∙ c.in-None.is)
