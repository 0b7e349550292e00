use Rattle.cov_tables.proofs.Columns.{entry_cmp-total, entry_cmp-same}
use Rattle.cov_tables.proofs.InOrder.{in_order-when}
use Rattle.cov_tables.specs.Entries.{entry_cmp}
use Rattle.cov_tables.proofs.laws.entries_in_order.Goals as goal

pub returns : goal.returns
returns c = in_order-when entry_cmp entry_cmp-total entry_cmp-same
