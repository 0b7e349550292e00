use Rattle.std.proofs.Common.{rules, ◌≡◌, true, false, Err, refl, sym, subst, ◌∙◌}
use Rattle.sqlite.specs.Held.{state}
use Rattle.cov_tables.specs.Content.{is_schema_7}
use Rattle.cov_tables.specs.Given.{tables}
use Rattle.cov_sql.specs.Committed.{IsReadyFor}
use Rattle.cov_sql.proofs.CellFields.{found_content}
use Rattle.cov_sql.proofs.Judging.{not_seven, seven, stop_judged, fits_found}
use Rattle.cov_sql.proofs.Stepping.{keeps_itself}
use Rattle.cov_sql.proofs.Committing.{keeps_ended}
use Rattle.cov_sql.proofs.Version.{is_ready}
use Rattle.cov_sql.proofs.writing.judged.Goals as goal

pub returns-then-fresh-clause-told : goal.returns-then-fresh-clause-told
returns-then-fresh-clause-told g c tells clean =
    let is : c.args.fresh ≡ true = c.if-fresh.true in
    let old = (state g.S.Store c.args.base.now).now in
    record { missing = λ no. absurd cc; there = λ not. absurd (let both : true ≡ false = sym is ∙ not in cc); fits = tt; ready = λ ready. subst (λ b. IsReadyFor b old) is ready; begins = λ _. refl; same = (refl, refl); kept = keeps_itself (state g.S.Store c.args.base.now) }

pub returns-then-not-is_schema_7-clause-told : goal.returns-then-not-is_schema_7-clause-told
returns-then-not-is_schema_7-clause-told g c tells clean =
    let old = (state g.S.Store c.args.base.now).now in
    let found = c.in_ok-found.ensures.told tells clean in
    let none : is_schema_7 (tables c.in_ok-found.found.tables).coverage_schema ≡ false = search rules in
    let is = found_content old c.in_ok-found.found found.rows ∙ not_seven (tables c.in_ok-found.found.tables) none in
    record {
      missing = λ _. (c.if-fresh.false, is);
      there = tt;
      fits = tt;
      ready = tt;
      begins = λ begins. absurd (let both : true ≡ false = sym begins ∙ c.if-fresh.false in cc);
      same = tt;
      kept = keeps_ended (state g.S.Store c.args.base.now) (state g.S.Store c.read_tables.new.base) found.ends;
    }

pub returns-clause-told : goal.returns-clause-told
returns-clause-told g c tells clean =
    let old = (state g.S.Store c.args.base.now).now in
    let found = c.in_ok-found.ensures.told tells clean in
    let all : is_schema_7 (tables c.in_ok-found.found.tables).coverage_schema ≡ true = search rules in
    let not : c.args.fresh ≡ false = c.if-fresh.false in
    record {
      missing = λ no. absurd cc;
      there = λ _ none. seven (tables c.in_ok-found.found.tables) all (sym (found_content old c.in_ok-found.found found.rows) ∙ none);
      fits = fits_found old c.in_ok-found.found found.rows;
      ready = λ ready. is_ready old c.in_ok-found.found.has_hits _ c.in_ok-found.found.tables.coverage_schema.items found.rows.hits found.rows.coverage_schema all (subst (λ b. IsReadyFor b old) not ready);
      begins = λ begins. absurd (let both : true ≡ false = sym begins ∙ not in cc);
      same = (found.kept.0.now_is, found.kept.0.committed_is);
      kept = keeps_ended (state g.S.Store c.args.base.now) (state g.S.Store c.read_tables.new.base) found.ends;
    }

pub returns-in_err-found-clause-told : goal.returns-in_err-found-clause-told
returns-in_err-found-clause-told g c tells clean =
    let is : c.from_residual.result ≡ Err c.in_err-found.field-0.0 = search rules in
    stop_judged c.args.fresh (state g.S.Store c.args.base.now) (state g.S.Store c.read_tables.new.base) c.in_err-found.field-0.0 c.from_residual.result is c.if-fresh.false (c.in_err-found.ensures.told tells clean)
