use Rattle.std.proofs.Common.{rules, arith, ◌≡◌, refl, ap, sym, subst, ◌∙◌, Some}
use Rattle.std.specs.List.{position}
use Rattle.cov_sql.specs.Content.{content_in}
use Rattle.cov_sql.specs.Bases.{kept_in, IsAsDeclared}
use Rattle.cov_sql.proofs.BaseCalls.{found_then}
use Rattle.cov_sql.proofs.BaseContents.{has_name, bases_absent, bases_present, bases_kept, declared_at, declared_set}
use Rattle.cov_sql.proofs.VaultCalls.{told_load}
use Rattle.cov_sql.proofs.memory.SqlVaultVault.load.Goals as goal

pub returns-in_default-clause-absent : goal.returns-in_default-clause-absent
returns-in_default-clause-absent c = λ _ _. bases_absent c.args.name.now c.args.self.now.bases.items (search rules)

pub returns-clause-found : goal.returns-clause-found
returns-clause-found c = λ all.
    let bases = c.args.self.now.bases.items in
    let b = c.index_mut.result.now in
    let found : position (has_name c.args.name.now) bases ≡ Some c.in-Some.place = ap (position (has_name c.args.name.now)) (sym c.deref.ensures.value) ∙ sym c.first_named.ensures ∙ c.in-Some.is in
    let declared = declared_at c.args.name.now bases c.in-Some.place b found c.index_mut.ensures.value all in
    found_then c.read_base.result _ (content_in (kept_in b.1)) (bases_present c.args.name.now bases c.in-Some.place b found c.index_mut.ensures.value) (c.read_base.ensures.loads declared).found

pub returns-clause-not_schema : goal.returns-clause-not_schema
returns-clause-not_schema c = λ all is.
    let bases = c.args.self.now.bases.items in
    let b = c.index_mut.result.now in
    let found : position (has_name c.args.name.now) bases ≡ Some c.in-Some.place = ap (position (has_name c.args.name.now)) (sym c.deref.ensures.value) ∙ sym c.first_named.ensures ∙ c.in-Some.is in
    let declared = declared_at c.args.name.now bases c.in-Some.place b found c.index_mut.ensures.value all in
    bases_present c.args.name.now bases c.in-Some.place b found c.index_mut.ensures.value ∙ ap Some ((c.read_base.ensures.loads declared).not_schema is)

pub returns-clause-bad_row : goal.returns-clause-bad_row
returns-clause-bad_row c = λ all row is.
    let bases = c.args.self.now.bases.items in
    let b = c.index_mut.result.now in
    let found : position (has_name c.args.name.now) bases ≡ Some c.in-Some.place = ap (position (has_name c.args.name.now)) (sym c.deref.ensures.value) ∙ sym c.first_named.ensures ∙ c.in-Some.is in
    let declared = declared_at c.args.name.now bases c.in-Some.place b found c.index_mut.ensures.value all in
    bases_present c.args.name.now bases c.in-Some.place b found c.index_mut.ensures.value ∙ ap Some ((c.read_base.ensures.loads declared).bad_row row is)

pub returns-clause-kept : goal.returns-clause-kept
returns-clause-kept c = λ all.
    let bases = c.args.self.now.bases.items in
    let b = c.index_mut.result.now in
    let found : position (has_name c.args.name.now) bases ≡ Some c.in-Some.place = ap (position (has_name c.args.name.now)) (sym c.deref.ensures.value) ∙ sym c.first_named.ensures ∙ c.in-Some.is in
    let declared = declared_at c.args.name.now bases c.in-Some.place b found c.index_mut.ensures.value all in
    bases_kept c.args.name.now bases c.in-Some.place b found c.index_mut.ensures.value c.read_base.new.base (c.read_base.ensures.loads declared).kept

pub returns-clause-tells : goal.returns-clause-tells
returns-clause-tells c = λ all.
    let bases = c.args.self.now.bases.items in
    let b = c.index_mut.result.now in
    let found : position (has_name c.args.name.now) bases ≡ Some c.in-Some.place = ap (position (has_name c.args.name.now)) (sym c.deref.ensures.value) ∙ sym c.first_named.ensures ∙ c.in-Some.is in
    let declared = declared_at c.args.name.now bases c.in-Some.place b found c.index_mut.ensures.value all in
    declared_set bases c.in-Some.place (b.0, c.read_base.new.base) all (subst IsAsDeclared (sym (c.read_base.ensures.loads declared).kept) declared)

pub returns-in_default-clause-moved : goal.returns-in_default-clause-moved
returns-in_default-clause-moved c = record {
  told = λ _. bases_absent c.args.name.now c.args.self.now.bases.items (search rules);
  kept = λ _. refl;
  tells = λ all. all;
  call = record { count = omega arith; refused = λ is. absurd cc };
}

pub returns-clause-moved : goal.returns-clause-moved
returns-clause-moved c =
    let bases = c.args.self.now.bases.items in
    let b = c.index_mut.result.now in
    let found : position (has_name c.args.name.now) bases ≡ Some c.in-Some.place = ap (position (has_name c.args.name.now)) (sym c.deref.ensures.value) ∙ sym c.first_named.ensures ∙ c.in-Some.is in
    let here = bases_present c.args.name.now bases c.in-Some.place b found c.index_mut.ensures.value in
    record {
      told = λ all. let loads = c.read_base.ensures.loads (declared_at c.args.name.now bases c.in-Some.place b found c.index_mut.ensures.value all) in
          told_load _ c.read_base.result (found_then c.read_base.result _ (content_in (kept_in b.1)) here loads.found) (λ absent. absurd (c.read_base.ensures.not_absent absent)) (λ none. here ∙ ap Some (loads.not_schema none))
          (λ row bad. here ∙ ap Some (loads.bad_row row bad));
      kept = returns-clause-kept c;
      tells = returns-clause-tells c;
      call = record { count = c.read_base.ensures.count; refused = c.read_base.ensures.failed };
    }
