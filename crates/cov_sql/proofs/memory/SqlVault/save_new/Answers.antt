use Rattle.std.proofs.Common.{sym, ap, subst, ◌∙◌}
use Rattle.cov_vault.specs.declared.vault.Content.TheVariants.{Good}
use Rattle.cov_sql.specs.Bases.{AreAsDeclared, bases_contents}
use Rattle.cov_sql.proofs.BaseCalls.{empty_savable}
use Rattle.cov_sql.proofs.BaseContents.{bases_added, declared_push}
use Rattle.cov_sql.proofs.memory.SqlVault.save_new.Goals as goal

pub returns-clause-ok : goal.returns-clause-ok
returns-clause-ok c =
    let saved = c.in_ok-write_base.ensures.saves (empty_savable c.in_ok-base.base c.in_ok-base.ensures.empty) in
    ap bases_contents c.in_ok-add.ensures.ok
    ∙ bases_added c.args.name.now (Good c.args.content.now) c.args.self.now.bases.items (c.in_ok-name.name, c.write_base.new.base) c.in_ok-name.ensures.ok saved.saved c.requires

pub returns-clause-tells : goal.returns-clause-tells
returns-clause-tells c = λ all.
    let saved = c.in_ok-write_base.ensures.saves (empty_savable c.in_ok-base.base c.in_ok-base.ensures.empty) in
    subst AreAsDeclared (sym c.in_ok-add.ensures.ok) (declared_push c.args.self.now.bases.items (c.in_ok-name.name, c.write_base.new.base) all saved.declared)
