use Rattle.std.proofs.Common.{rules, ◌≡◌, map, string_bytes, ap, ◌∙◌}
use Rattle.cov_data.specs.DataSet.{Text, text_cmp}
use Rattle.cov_data.specs.Rows.{distinct_in_order}
use Rattle.cov_vault.proofs.Named.{Pair, names_in_order, names_so}
use Rattle.cov_vault.proofs.entries.Entries.names.Goals as goal

abbrev name_of : Pair → Text
name_of e = string_bytes e.0

pub returns : goal.returns
returns c =
    let pairs = c.args.self.now.pairs.items in
    let same : c.deref.result.now ≡ pairs = search rules in
    names_so c.names_of.result _ _ (ap (λ ps. distinct_in_order text_cmp (map name_of ps)) same ∙ names_in_order pairs) c.names_of.ensures
