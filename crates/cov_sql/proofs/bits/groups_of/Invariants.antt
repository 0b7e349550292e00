use Rattle.std.proofs.Common.{◌≡◌, ◌++◌, map, drop}
use Rattle.cov_sql.specs.Groups.{group_view, groups_from, groups}
use Rattle.cov_sql.proofs.bits.groups_of.Given as goal

abbrev pub invariant-loop-row : goal.invariant-loop-row
invariant-loop-row l = map group_view l.done.items ++ groups_from (group_view l.group) (drop l.row-index l.others) ≡ groups l.rows
