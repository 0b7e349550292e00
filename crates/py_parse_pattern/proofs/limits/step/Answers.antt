use Rattle.std.proofs.Common.{arith}
use Rattle.py_parse_pattern.proofs.View.Heights.{stays}
use Rattle.py_syntax.specs.Kinds.{bare_kind}
use Rattle.py_token.specs.View.{view_kind}
use Rattle.py_parse_pattern.specs.Views.{view_class}
use Rattle.py_parse_pattern.proofs.limits.step.Goals as goal

pub returns-else-height-gt-HEIGHT_LIMIT : goal.returns-else-height-gt-HEIGHT_LIMIT
returns-else-height-gt-HEIGHT_LIMIT c = stays c.args.reader c.in-Next.next (bare_kind (view_kind c.args.kind.now)) (view_class c.in_ok-class_of.field-0) c.in_ok-next.field-0 c.height.result c.requires.low c.in_ok-class_of.ensures c.in-Next.is c.in_ok-next.ensures c.height.ensures (omega arith)
