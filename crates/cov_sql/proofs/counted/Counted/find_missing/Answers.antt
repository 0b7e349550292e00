use Rattle.std.proofs.Common.{subst}
use Rattle.sqlite_value.specs.Order.{Row}
use Rattle.sqlite.specs.Held.{state}
use Rattle.sqlite.specs.State.{IsNotRun}
use Rattle.cov_sql.proofs.ReadTexts.{unprepared, misread}
use Rattle.cov_sql.proofs.counted.Counted.find_missing.Goals as goal

pub returns-in-SqlInputError-clause-unfound : goal.returns-in-SqlInputError-clause-unfound
returns-in-SqlInputError-clause-unfound g c clean _ =
    let old = state g.S.Store c.args.base.now in
    let new = state g.S.Store c.prepare.new.self in
    let unrun = subst (λ e. (params : Row) → IsNotRun old new c.args.sql.now params e) c.in-SqlInputError.is (c.in-Err.ensures.err clean) in
    misread c.args.sql.now old new c.in-SqlInputError.field-0 unrun

pub returns-in-SqlInputError-clause-ends : goal.returns-in-SqlInputError-clause-ends
returns-in-SqlInputError-clause-ends g c clean =
    unprepared c.args.sql.now (state g.S.Store c.args.base.now) (state g.S.Store c.prepare.new.self) c.in-Err.error (c.in-Err.ensures.err clean)

pub returns-in_default-error : goal.returns-in_default-error
returns-in_default-error g c = record {
  unfound = λ clean no. absurd (c.count_other.ensures.not_missing no);
  ends = λ clean. unprepared c.args.sql.now (state g.S.Store c.args.base.now) (state g.S.Store c.prepare.new.self) c.in-Err.error (c.in-Err.ensures.err clean);
  survives = c.prepare.ensures.survives;
  mode = c.prepare.ensures.mode;
  counts = c.count_other.ensures.counts;
}
