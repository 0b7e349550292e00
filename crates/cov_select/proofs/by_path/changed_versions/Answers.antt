use Rattle.std.proofs.Common.{map}
use Rattle.cov_select.specs.Paths.{version_view}
use Rattle.cov_select.proofs.Paths.{compared-so, marks-so}
use Rattle.cov_select.proofs.by_path.changed_versions.Goals as goal

pub returns-then-are_compared : goal.returns-then-are_compared
returns-then-are_compared c =
    compared-so c.compared_by_path.result (map version_view c.args.before.now) (map version_view c.args.after.now) c.are_compared.result c.are_compared.ensures c.if-are_compared.true c.compared_by_path.ensures

pub returns : goal.returns
returns c =
    marks-so c.marks_by_path.result (map version_view c.args.before.now) (map version_view c.args.after.now) c.are_compared.result c.are_compared.ensures c.if-are_compared.false c.marks_by_path.ensures
