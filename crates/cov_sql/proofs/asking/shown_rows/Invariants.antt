use Rattle.std.proofs.Common.{◌≡◌, [], false}
use Rattle.sqlite.specs.State.{HasCleanDisk, Survives, CommitsShowing}
use Rattle.sqlite.specs.Held.{state}
use Rattle.cov_sql.specs.Shown.{NeverReturns}
use Rattle.cov_sql.proofs.Streaming.{IsUnderWay}
use Rattle.cov_sql.proofs.asking.shown_rows.Given as goal

abbrev pub invariant-reading : goal.invariant-reading
invariant-reading g l =
    let old = state g.S.Store l.fn.base in
    let now = state g.S.Store l.rows.conn.now in record {
      same_reference : l.rows.conn.ghost_name ≡ l.initial.rows.conn.ghost_name;
      survives : Survives old now (CommitsShowing l.sql [] old);
      mode : l.fn.base.in_transaction ≡ false → l.rows.conn.now.in_transaction ≡ false;
      told : HasCleanDisk now → NeverReturns l.sql old → IsUnderWay g.S.Store l.sql l.fn.base l.rows.conn.now l.all.items;
    }
