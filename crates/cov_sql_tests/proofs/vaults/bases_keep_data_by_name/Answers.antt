use Rattle.cov_sql_tests.proofs.Idle.{idle_none}
use Rattle.cov_sql_tests.proofs.vaults.bases_keep_data_by_name.Goals as goal

pub add_base-requires : goal.add_base-requires
add_base-requires g c = idle_none c.new-bases.result.items c.new-bases.ensures.items
