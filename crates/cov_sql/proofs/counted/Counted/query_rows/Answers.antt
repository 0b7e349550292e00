use Rattle.std.proofs.Common.{◌≡◌, inl, subst}
use Rattle.sqlite.specs.Held.{state}
use Rattle.cov_sql.specs.declared.statements.StatementError.TheVariants.{Missing}
use Rattle.cov_sql.specs.Shown.{StopsAs}
use Rattle.cov_sql.proofs.ReadTexts.{asked_as}
use Rattle.cov_sql.proofs.counted.Counted.query_rows.Goals as goal

pub returns-in-Ok-clause-shows : goal.returns-in-Ok-clause-shows
returns-in-Ok-clause-shows g c clean plain =
    let told = c.in-Ok.ensures.shown clean plain in
    record { shown = told; missing = λ no. absurd cc; asked = inl (told.0, told.1) }

pub returns-in-Err-clause-shows : goal.returns-in-Err-clause-shows
returns-in-Err-clause-shows g c clean plain =
    let old = state g.S.Store c.args.base.now in
    let new = state g.S.Store c.shown_rows.new.base in
    let stops = c.in-Err.ensures.stops clean plain in
    record {
      shown = tt;
      missing = λ no. let same : c.stopped.result ≡ Missing = cc in let m = c.stopped.ensures.missing same in (m.0, m.1, subst (StopsAs c.args.sql.now old new) m.2 stops);
      asked = asked_as c.args.sql.now old new c.in-Err.why stops;
    }
