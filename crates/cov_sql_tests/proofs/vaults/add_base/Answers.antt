use Rattle.std.proofs.Common.{rules, ◌≡◌, true, is_ok}
use Rattle.cov_sql_tests.proofs.Idle.{idle_pushed, idle_by}
use Rattle.cov_sql_tests.proofs.vaults.add_base.Goals as goal

pub returns : goal.returns
returns c =
    let said : c.is_autocommit.result ≡ true = search rules in
    idle_pushed (is_ok c.push.result) c.args.bases.now.items c.push.new.self.items _ c.push.ensures.items c.requires (idle_by c.is_autocommit.result _ c.is_autocommit.ensures.value said)

pub returns-in_err-push : goal.returns-in_err-push
returns-in_err-push c =
    let said : c.is_autocommit.result ≡ true = search rules in
    idle_pushed (is_ok c.push.result) c.args.bases.now.items c.push.new.self.items _ c.push.ensures.items c.requires (idle_by c.is_autocommit.result _ c.is_autocommit.ensures.value said)
