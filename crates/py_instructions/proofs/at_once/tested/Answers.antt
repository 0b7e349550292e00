use Rattle.std.proofs.Common.{not, sym, ap, ◌∙◌}
use Rattle.std.specs.Ordering.{is_lt, is_gt}
use Rattle.py_value.specs.Answers.{in_words}
use Rattle.py_value.specs.Causes.{raised_by}
use Rattle.py_value.specs.Compared.{compared}
use Rattle.py_value.specs.Plain.{int_value}
use Rattle.py_value.proofs.WholeNumbers.{equal-now, tested-equal, tested-order}
use Rattle.py_code.specs.Operands.{asked}
use Rattle.py_instructions.proofs.at_once.tested.Goals as goal

pub returns-in-Eq : goal.returns-in-Eq
returns-in-Eq c = λ h.
    ap (λ q. compared (asked q) (int_value c.args.left) (int_value c.args.right) h) c.in-Eq.is
    ∙ ap (in_words raised_by) (sym (equal-now h c.args.left c.args.right c.ranges.left c.ranges.right))

pub returns-in-Ne : goal.returns-in-Ne
returns-in-Ne c = λ h.
    ap (λ q. compared (asked q) (int_value c.args.left) (int_value c.args.right) h) c.in-Ne.is
    ∙ ap (in_words raised_by) (sym (tested-equal not h c.args.left c.args.right c.ranges.left c.ranges.right))

pub returns-in-Lt : goal.returns-in-Lt
returns-in-Lt c = λ h.
    ap (λ q. compared (asked q) (int_value c.args.left) (int_value c.args.right) h) c.in-Lt.is
    ∙ ap (in_words raised_by) (sym (tested-order is_lt h c.args.left c.args.right c.cmp-order.result c.is_lt.result c.ranges.left c.ranges.right c.cmp-order.ensures c.is_lt.ensures))

pub returns-in-Le : goal.returns-in-Le
returns-in-Le c = λ h.
    ap (λ q. compared (asked q) (int_value c.args.left) (int_value c.args.right) h) c.in-Le.is
    ∙ ap (in_words raised_by) (sym (tested-order (λ o. not (is_gt o)) h c.args.left c.args.right c.cmp-order.result (not c.is_gt.result) c.ranges.left c.ranges.right c.cmp-order.ensures (ap not c.is_gt.ensures)))

pub returns-in-Gt : goal.returns-in-Gt
returns-in-Gt c = λ h.
    ap (λ q. compared (asked q) (int_value c.args.left) (int_value c.args.right) h) c.in-Gt.is
    ∙ ap (in_words raised_by) (sym (tested-order is_gt h c.args.left c.args.right c.cmp-order.result c.is_gt-in-Gt.result c.ranges.left c.ranges.right c.cmp-order.ensures c.is_gt-in-Gt.ensures))

pub returns-in-Ge : goal.returns-in-Ge
returns-in-Ge c = λ h.
    ap (λ q. compared (asked q) (int_value c.args.left) (int_value c.args.right) h) c.in-Ge.is
    ∙ ap (in_words raised_by) (sym (tested-order (λ o. not (is_lt o)) h c.args.left c.args.right c.cmp-order.result (not c.is_lt-in-Ge.result) c.ranges.left c.ranges.right c.cmp-order.ensures (ap not c.is_lt-in-Ge.ensures)))
