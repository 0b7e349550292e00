use Rattle.std.proofs.Common.{rules, arith, ◌≡◌, refl, map, string_bytes, ap, ◌∙◌}
use Rattle.cov_data.specs.DataSet.{Text, text_cmp}
use Rattle.cov_data.specs.Rows.{distinct_in_order}
use Rattle.cov_sql.specs.Bases.{Base}
use Rattle.cov_sql.proofs.BaseContents.{bases_names}
use Rattle.cov_sql.proofs.memory.SqlVaultVault.names.Goals as goal

abbrev name_of : Base → Text
name_of b = string_bytes b.0

pub returns-clause-names : goal.returns-clause-names
returns-clause-names c = λ _.
    let bases = c.args.self.now.bases.items in
    let same : c.deref.result.now ≡ bases = search rules in
    c.in_ok-names_of.ensures ∙ ap (λ bs. distinct_in_order text_cmp (map name_of bs)) same ∙ bases_names bases

pub returns-clause-moved : goal.returns-clause-moved
returns-clause-moved c =
    let bases = c.args.self.now.bases.items in
    let same : c.deref.result.now ≡ bases = search rules in
    record {
      told = c.in_ok-names_of.ensures ∙ ap (λ bs. distinct_in_order text_cmp (map name_of bs)) same ∙ bases_names bases;
      kept = refl;
      tells = λ all. all;
      call = record { count = omega arith; refused = λ is. absurd cc };
    }
