use Rattle.std.proofs.Common.{ap, not}
use Rattle.std.specs.Ordering.{is_lt, is_gt}
use Rattle.py_operator.specs.declared.operator.CmpOp.TheVariants.{Eq, Ne, Lt, Le, Gt, Ge}
use Rattle.py_value.proofs.WholeNumbers.{answered, equal-now, tested-equal, tested-order}
use Rattle.py_value.proofs.comparisons.compare_whole_numbers.Goals as goal

pub returns-in-Eq : goal.returns-in-Eq
returns-in-Eq c = λ h. answered c.args.op Eq c.args.left c.args.right h (equal-now h c.args.left c.args.right c.ranges.left c.ranges.right) c.in-Eq.is

pub returns-in-Ne : goal.returns-in-Ne
returns-in-Ne c = λ h. answered c.args.op Ne c.args.left c.args.right h (tested-equal not h c.args.left c.args.right c.ranges.left c.ranges.right) c.in-Ne.is

pub returns-in-Lt : goal.returns-in-Lt
returns-in-Lt c =
    λ h. answered c.args.op Lt c.args.left c.args.right h
    (tested-order is_lt h c.args.left c.args.right c.cmp-order.result c.is_lt.result c.ranges.left c.ranges.right c.cmp-order.ensures c.is_lt.ensures) c.in-Lt.is

pub returns-in-Le : goal.returns-in-Le
returns-in-Le c =
    λ h. answered c.args.op Le c.args.left c.args.right h
    (tested-order (λ o. not (is_gt o)) h c.args.left c.args.right c.cmp-order.result (not c.is_gt.result) c.ranges.left c.ranges.right c.cmp-order.ensures (ap not c.is_gt.ensures)) c.in-Le.is

pub returns-in-Gt : goal.returns-in-Gt
returns-in-Gt c =
    λ h. answered c.args.op Gt c.args.left c.args.right h
    (tested-order is_gt h c.args.left c.args.right c.cmp-order.result c.is_gt-in-Gt.result c.ranges.left c.ranges.right c.cmp-order.ensures c.is_gt-in-Gt.ensures) c.in-Gt.is

pub returns-in-Ge : goal.returns-in-Ge
returns-in-Ge c =
    λ h. answered c.args.op Ge c.args.left c.args.right h
    (tested-order (λ o. not (is_lt o)) h c.args.left c.args.right c.cmp-order.result (not c.is_lt-in-Ge.result) c.ranges.left c.ranges.right c.cmp-order.ensures (ap not c.is_lt-in-Ge.ensures)) c.in-Ge.is
