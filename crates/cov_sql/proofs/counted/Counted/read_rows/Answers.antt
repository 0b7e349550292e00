use Rattle.std.proofs.Common.{rules, ◌≡◌, [], not, false, is_some, ap, ◌∙◌}
use Rattle.sqlite_schema.specs.Names.{table_named}
use Rattle.sqlite.specs.Held.{state}
use Rattle.sqlite.specs.State.{CommitsShowing}
use Rattle.sqlite.proofs.StateLemmas.{survives_weaker}
use Rattle.cov_sql.specs.Shown.{CommitsAsking}
use Rattle.cov_sql.proofs.ReadTexts.{there_by}
use Rattle.cov_sql.proofs.counted.Counted.read_rows.Goals as goal

pub returns-clause-survives : goal.returns-clause-survives
returns-clause-survives g c =
    let old = state g.S.Store c.args.base.now in
    let name = c.args.table.now in
    let same : c.table_named.result ≡ table_named old.now.schema name =
    c.table_named.ensures ∙ ap (λ s. table_named s c.as_bytes.result.now) c.schema.ensures.value ∙ ap (table_named old.now.schema) c.as_bytes.ensures.value in
    let some : not (is_some c.table_named.result) ≡ false = search rules in
    let has = there_by old.now.schema name c.table_named.result same some in
    survives_weaker old (state g.S.Store c.query_rows.new.base) (CommitsShowing c.args.sql.now [] old) (CommitsAsking name c.args.sql.now old) (λ _ db may. (has, may)) c.query_rows.ensures.survives
