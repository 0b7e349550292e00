use Rattle.std.proofs.Common.{rules, ◌≡◌, ap, sym, ◌∙◌, refl, Some}
use Rattle.cov_vault.specs.declared.vault.Content.TheVariants.{Good, NotSchema7}
use Rattle.std.specs.List.{position}
use Rattle.cov_sql.specs.Content.{content_in}
use Rattle.cov_sql.specs.Bases.{kept_in}
use Rattle.cov_sql.proofs.BaseCalls.{on_ok, ok_then, err_then, declared_after}
use Rattle.cov_sql.proofs.BaseContents.{has_name, bases_absent, bases_present, bases_kept, bases_replaced, declared_at, declared_set}
use Rattle.cov_sql.specs.Bases.{bases_contents}
use Rattle.cov_sql.proofs.VaultCalls.{told_save, told_refusal}
use Rattle.cov_sql.proofs.memory.SqlVaultVault.save.Goals as goal

pub returns-in_default-clause-replaces : goal.returns-in_default-clause-replaces
returns-in_default-clause-replaces c = λ _. on_ok c.save_new.result (λ h. let none = bases_absent c.args.name.now c.args.self.now.bases.items (search rules) in cc)

pub returns-clause-ok : goal.returns-clause-ok
returns-clause-ok c = λ all.
    let bases = c.args.self.now.bases.items in
    let b = c.index_mut.result.now in
    let found : position (has_name c.args.name.now) bases ≡ Some c.in-Some.at = ap (position (has_name c.args.name.now)) (sym c.deref.ensures.value) ∙ sym c.first_named.ensures ∙ c.in-Some.is in
    let declared = declared_at c.args.name.now bases c.in-Some.at b found c.index_mut.ensures.value all in
    ok_then c.write_base.result (bases_replaced c.args.name.now bases c.in-Some.at b found c.index_mut.ensures.value (Good c.args.content.now) c.write_base.new.base) (c.write_base.ensures.saves declared).saved

pub returns-clause-replaces : goal.returns-clause-replaces
returns-clause-replaces c = λ all.
    let bases = c.args.self.now.bases.items in
    let b = c.index_mut.result.now in
    let found : position (has_name c.args.name.now) bases ≡ Some c.in-Some.at = ap (position (has_name c.args.name.now)) (sym c.deref.ensures.value) ∙ sym c.first_named.ensures ∙ c.in-Some.is in
    let declared = declared_at c.args.name.now bases c.in-Some.at b found c.index_mut.ensures.value all in
    ok_then c.write_base.result
    (λ no h. no (let had = bases_present c.args.name.now bases c.in-Some.at b found c.index_mut.ensures.value in let is : content_in (kept_in b.1) ≡ NotSchema7 = cc in is))
    ((c.write_base.ensures.saves declared).replaces refl)

pub returns-clause-not_schema : goal.returns-clause-not_schema
returns-clause-not_schema c = λ all is.
    let bases = c.args.self.now.bases.items in
    let b = c.index_mut.result.now in
    let found : position (has_name c.args.name.now) bases ≡ Some c.in-Some.at = ap (position (has_name c.args.name.now)) (sym c.deref.ensures.value) ∙ sym c.first_named.ensures ∙ c.in-Some.is in
    let declared = declared_at c.args.name.now bases c.in-Some.at b found c.index_mut.ensures.value all in
    bases_present c.args.name.now bases c.in-Some.at b found c.index_mut.ensures.value ∙ ap Some ((c.write_base.ensures.saves declared).not_schema is).1

pub returns-clause-err : goal.returns-clause-err
returns-clause-err c = λ all.
    let bases = c.args.self.now.bases.items in
    let b = c.index_mut.result.now in
    let found : position (has_name c.args.name.now) bases ≡ Some c.in-Some.at = ap (position (has_name c.args.name.now)) (sym c.deref.ensures.value) ∙ sym c.first_named.ensures ∙ c.in-Some.is in
    let declared = declared_at c.args.name.now bases c.in-Some.at b found c.index_mut.ensures.value all in
    err_then c.write_base.result (bases_kept c.args.name.now bases c.in-Some.at b found c.index_mut.ensures.value c.write_base.new.base) (c.write_base.ensures.saves declared).kept

pub returns-clause-tells : goal.returns-clause-tells
returns-clause-tells c = λ all.
    let bases = c.args.self.now.bases.items in
    let b = c.index_mut.result.now in
    let found : position (has_name c.args.name.now) bases ≡ Some c.in-Some.at = ap (position (has_name c.args.name.now)) (sym c.deref.ensures.value) ∙ sym c.first_named.ensures ∙ c.in-Some.is in
    let declared = declared_at c.args.name.now bases c.in-Some.at b found c.index_mut.ensures.value all in
    let saved = c.write_base.ensures.saves declared in
    declared_set bases c.in-Some.at (b.0, c.write_base.new.base) all (declared_after c.write_base.result (kept_in b.1) (kept_in c.write_base.new.base) saved.declared saved.kept declared)

pub returns-in_default-clause-moved : goal.returns-in_default-clause-moved
returns-in_default-clause-moved c = record {
  saved = λ all. told_save _ _ c.args.name.now c.args.content.now c.save_new.result c.save_new.ensures.ok (returns-in_default-clause-replaces c all) (λ is. absurd (c.save_new.ensures.not_schema is)) (err_then c.save_new.result (ap bases_contents) c.save_new.ensures.err)
      c.save_new.ensures.not_absent c.save_new.ensures.not_bad_row;
  tells = c.save_new.ensures.tells;
  call = record { count = c.save_new.ensures.count; refused = told_refusal c.save_new.result c.save_new.ensures.failed };
}

pub returns-clause-moved : goal.returns-clause-moved
returns-clause-moved c = record {
  saved = λ all. told_save _ _ c.args.name.now c.args.content.now c.write_base.result (returns-clause-ok c all) (returns-clause-replaces c all) (returns-clause-not_schema c all) (returns-clause-err c all) c.write_base.ensures.not_absent c.write_base.ensures.not_bad_row;
  tells = returns-clause-tells c;
  call = record { count = c.write_base.ensures.count; refused = told_refusal c.write_base.result c.write_base.ensures.failed };
}
