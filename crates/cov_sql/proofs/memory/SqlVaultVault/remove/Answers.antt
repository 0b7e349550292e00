use Rattle.std.proofs.Common.{rules, arith, refl, ap, sym, subst, ◌∙◌, All}
use Rattle.std.proofs.lemmas.Fn.{filter_same}
use Rattle.cov_sql.specs.Bases.{IsIdle, kept_in, IsAsDeclared, AreAsDeclared, bases_contents}
use Rattle.cov_sql.proofs.BaseContents.{is_another, bases_absent, bases_held, bases_removed, each_filter, idle_filter}
use Rattle.cov_sql.proofs.memory.SqlVaultVault.remove.Goals as goal

pub returns-in_default-clause-absent : goal.returns-in_default-clause-absent
returns-in_default-clause-absent c = λ _ _. bases_absent c.args.name.now c.args.self.now.bases.items (search rules)

pub invariant_of-self : goal.invariant_of-self
invariant_of-self c = record {
  idle = subst (All IsIdle) (sym (filter_same _ (is_another c.args.name.now) _ (λ x b f' k. search rules) _ _ c.retain.ensures.filtered)) (idle_filter (is_another c.args.name.now) c.args.self.now.bases.items c.args.self.now.idle);
}

pub returns-clause-ok : goal.returns-clause-ok
returns-clause-ok c = λ _.
    ap bases_contents (filter_same _ (is_another c.args.name.now) _ (λ x b f' k. search rules) _ _ c.retain.ensures.filtered) ∙ bases_removed c.args.name.now c.args.self.now.bases.items

pub returns-clause-removes : goal.returns-clause-removes
returns-clause-removes c = λ _ none. bases_held c.args.name.now c.args.self.now.bases.items c.in-Some._first (search rules) none

pub returns-clause-tells : goal.returns-clause-tells
returns-clause-tells c = λ all.
    subst AreAsDeclared (sym (filter_same _ (is_another c.args.name.now) _ (λ x b f' k. search rules) _ _ c.retain.ensures.filtered))
    (each_filter (λ b. IsAsDeclared (kept_in b.1)) (is_another c.args.name.now) c.args.self.now.bases.items all)

pub returns-in_default-clause-moved : goal.returns-in_default-clause-moved
returns-in_default-clause-moved c = record {
  removed = (bases_absent c.args.name.now c.args.self.now.bases.items (search rules), refl);
  tells = λ all. all;
  call = record { count = omega arith; refused = λ is. absurd cc };
}

pub returns-clause-moved : goal.returns-clause-moved
returns-clause-moved c = record {
  removed = (
    λ none. bases_held c.args.name.now c.args.self.now.bases.items c.in-Some._first (search rules) none,
    ap bases_contents (filter_same _ (is_another c.args.name.now) _ (λ x b f' k. search rules) _ _ c.retain.ensures.filtered) ∙ bases_removed c.args.name.now c.args.self.now.bases.items,
  );
  tells = returns-clause-tells c;
  call = record { count = omega arith; refused = λ is. absurd cc };
}
