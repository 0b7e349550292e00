use Rattle.std.proofs.Common.{◌≡◌, ◌∙◌, ap, ap₂, w32, to_z, of_z, arith}
use Rattle.std.specs.BTreeSet.{insert_key}
use Rattle.std.proofs.lemmas.Int.{to_z-of_z}
use Rattle.cov_lcov.specs.Lcov.{Entry, entry_cmp, is_exit}
use Rattle.cov_lcov.proofs.branches.add_entry.Goals as goal

pub returns : goal.returns
returns c =
    let to : to_z w32 (of_z w32 c.args.branch.1) ≡ c.args.branch.1 = grind (arith, to_z-of_z) in
    c.in_ok-insert.ensures.keys
    ∙ ap₂ (λ exit to. insert_key {K = Entry} entry_cmp c.args.set.now.keys (c.args.branch.0, exit, to, c.args.hits)) (c.is_exit.ensures ∙ ap is_exit to) to
