use Rattle.std.proofs.Common.{rules, ◌≡◌, Err, sym, subst}
use Rattle.sqlite.specs.Held.{state}
use Rattle.cov_sql.specs.Content.{IsFound}
use Rattle.cov_sql.specs.Finds.{Finds, IsMeasured, LacksOne}
use Rattle.cov_sql.proofs.Seeking.{later, stopped, went}
use Rattle.cov_sql.proofs.reading.read_tables.Goals as goal

pub returns-in_err-measured-clause-told : goal.returns-in_err-measured-clause-told
returns-in_err-measured-clause-told g c tells clean =
    let s0 = state g.S.Store c.args.base.now in
    let s1 = state g.S.Store c.read_named.new.base in
    let s2 = state g.S.Store c.read_measured.new.base in
    let f1 = c.in_ok-named.ensures.told tells (c.read_measured.ensures.reads.asks.clean clean) in
    let f2 = later IsMeasured LacksOne s0 s1 s2 _ f1.kept (c.in_err-measured.ensures.told (c.read_named.ensures.reads.goes_on.tells tells) clean) in
    let is : c.from_residual-in_err-measured.result ≡ Err c.in_err-measured.field-0.0 = search rules in
    subst (λ r. Finds IsFound LacksOne s0 s2 r) (sym is) (stopped IsMeasured LacksOne IsFound LacksOne s0 s2 _ (λ lacks. lacks) f2)

pub returns-clause-told : goal.returns-clause-told
returns-clause-told g c tells clean =
    let s0 = state g.S.Store c.args.base.now in
    let s1 = state g.S.Store c.read_named.new.base in
    let s2 = state g.S.Store c.read_measured.new.base in
    let f1 = c.in_ok-named.ensures.told tells (c.read_measured.ensures.reads.asks.clean clean) in
    let f2 = later IsMeasured LacksOne s0 s1 s2 _ f1.kept (c.in_ok-measured.ensures.told (c.read_named.ensures.reads.goes_on.tells tells) clean) in
    went IsFound LacksOne s0 s2 _ (c.found_in.ensures s0.now f1.rows f2.rows) f2.kept
