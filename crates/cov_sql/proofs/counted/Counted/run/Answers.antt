use Rattle.std.proofs.Common.{◌≡◌, Ok, Err}
use Rattle.sqlite.specs.Held.{state}
use Rattle.sqlite.specs.Values.{bound}
use Rattle.cov_sql.specs.declared.statements.StatementError.TheVariants.{Missing}
use Rattle.cov_sql.proofs.Inside.{was_absent, keeps}
use Rattle.cov_sql.proofs.counted.Counted.run.Goals as goal

pub returns-in-Err-clause-missing : goal.returns-in-Err-clause-missing
returns-in-Err-clause-missing g c clean inside is =
    let same : c.count.result ≡ Missing = cc in
    let m = c.count.ensures.missing same in
    was_absent _ _ _ _ c.in-Err.error (c.in-Err.ensures.runs clean inside) m.0 m.1 m.2

pub returns-in-Ok-clause-kept : goal.returns-in-Ok-clause-kept
returns-in-Ok-clause-kept g c clean inside = keeps c.args.sql.now (bound c.args.params.now) (state g.S.Store c.args.work.now.conn.now) (state g.S.Store c.execute.new.self.conn.now) (Ok c.in-Ok.field-0) (c.in-Ok.ensures.runs clean inside)

pub returns-in-Err-clause-kept : goal.returns-in-Err-clause-kept
returns-in-Err-clause-kept g c clean inside = keeps c.args.sql.now (bound c.args.params.now) (state g.S.Store c.args.work.now.conn.now) (state g.S.Store c.execute.new.self.conn.now) (Err c.in-Err.error) (c.in-Err.ensures.runs clean inside)
