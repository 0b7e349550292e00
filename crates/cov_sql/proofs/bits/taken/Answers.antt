use Rattle.std.proofs.Common.{rules, ◌≡◌, true, false, map}
use Rattle.cov_sql.specs.Groups.{group_view, is_of}
use Rattle.cov_sql.proofs.Grouping.{taken_in, taken_next}
use Rattle.cov_sql.proofs.bits.taken.Goals as goal

pub returns-then-is_of : goal.returns-then-is_of
returns-then-is_of c =
    let is : is_of (group_view c.args.group) c.args.row.now ≡ true = search rules in
    taken_in (map group_view c.args.done.now.items) (group_view c.args.group) (group_view c.add.new.self) c.args.row.now is c.in_ok-add.ensures

pub returns : goal.returns
returns c =
    let is : is_of (group_view c.args.group) c.args.row.now ≡ false = search rules in
    taken_next c.args.done.now.items c.push.new.self.items c.args.group c.args.row.now c.of.result c.in_ok-push.ensures.items is c.of.ensures
