use Rattle.std.proofs.Common.{◌≡◌, Some, None, w32, to_z, of_z, sym, ap, ◌∙◌, arith}
use Rattle.std.proofs.lemmas.Int.{to_z-of_z}
use Rattle.cov_analysis.specs.Lookups.{line_at}
use Rattle.cov_analysis.proofs.Raising.{counted_by, taken_by, counted_by_none, taken_by_none}
use Rattle.cov_analysis.proofs.hits.add_to_branch.Goals as goal

pub returns-in-Some : goal.returns-in-Some
returns-in-Some c =
    let row = c.args.row.now in
    let from : to_z w32 (of_z w32 row.from) ≡ row.from = grind (arith, to_z-of_z) in
    let to : to_z w32 (of_z w32 row.to) ≡ row.to = grind (arith, to_z-of_z) in
    let is : line_at row.from ≡ Some c.in-Some.line = ap line_at (sym from) ∙ sym c.line_of.ensures ∙ c.in-Some.is in
    record {
      taken = taken_by row.from row.to c.args.counts.now row.count c.raise_branch.result c.raise_branch.new.counts c.in-Some.line _ to is c.raise_branch.ensures.taken;
      count = counted_by row.from row.to c.args.counts.now row.count c.raise_branch.result c.raise_branch.new.counts c.in-Some.line _ to is c.raise_branch.ensures.count;
    }

pub returns-in-None : goal.returns-in-None
returns-in-None c =
    let row = c.args.row.now in
    let from : to_z w32 (of_z w32 row.from) ≡ row.from = grind (arith, to_z-of_z) in
    let is : line_at row.from ≡ None = ap line_at (sym from) ∙ sym c.line_of.ensures ∙ c.in-None.is in
    record { taken = taken_by_none row.from row.to c.args.counts.now row.count is; count = counted_by_none row.from row.to c.args.counts.now row.count is }
