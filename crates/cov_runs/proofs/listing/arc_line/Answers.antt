use Rattle.std.proofs.Common.{◌≡◌, w32, to_z, of_z, arith, ap, ◌∙◌}
use Rattle.std.proofs.lemmas.Int.{to_z-of_z}
use Rattle.cov_step.specs.Listing.{arc_line}
use Rattle.cov_runs.proofs.Lines.{text-is}
use Rattle.cov_runs.proofs.listing.arc_line.Goals as goal

pub returns : goal.returns
returns c =
    let first : to_z w32 (of_z w32 c.args.from) ≡ c.args.from = grind (arith, to_z-of_z) in
    let second : to_z w32 (of_z w32 c.args.to) ≡ c.args.to = grind (arith, to_z-of_z) in
    text-is c.format.result (arc_line c.args.path.now (to_z w32 (of_z w32 c.args.from), to_z w32 (of_z w32 c.args.to))) (arc_line c.args.path.now (c.args.from, c.args.to)) c.format.ensures.ok
    (ap (λ x. arc_line c.args.path.now (x, to_z w32 (of_z w32 c.args.to))) first ∙ ap (λ y. arc_line c.args.path.now (c.args.from, y)) second)
