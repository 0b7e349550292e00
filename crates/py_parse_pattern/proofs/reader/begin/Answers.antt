use Rattle.std.proofs.Common.{ap, subst}
use Rattle.py_syntax.specs.Tree.{Pattern}
use Rattle.py_syntax.specs.Normal.{pattern_height}
use Rattle.py_parse_pattern.specs.Machine.{Have, Next}
use Rattle.py_parse_pattern.specs.Rows.{view_rows, ActsAs}
use Rattle.py_parse_pattern.proofs.reader.begin.Goals as goal

pub returns-in-Name : goal.returns-in-Name
returns-in-Name c = rw c.in-Name.is c.next.ensures

pub returns-in-Minus : goal.returns-in-Minus
returns-in-Minus c = rw c.in-Minus.is c.next-in-Minus.ensures

pub returns-in-Open : goal.returns-in-Open
returns-in-Open c = rw c.in-Open.is c.open.ensures

pub returns-in-NoneWord : goal.returns-in-NoneWord
returns-in-NoneWord c = rw c.in-NoneWord.is (subst (λ (p : Pattern). ActsAs (Next (Have p (view_rows c.args.rows))) c.one_node-in-NoneWord.result) c.literal-in-NoneWord.ensures c.one_node-in-NoneWord.ensures)

pub one_node-requires-clause-node : goal.one_node-requires-clause-node
one_node-requires-clause-node c = ap pattern_height c.literal.ensures

pub one_node-requires-in-NoneWord-clause-node : goal.one_node-requires-in-NoneWord-clause-node
one_node-requires-in-NoneWord-clause-node c = ap pattern_height c.literal-in-NoneWord.ensures

pub one_node-requires-in-Bool-clause-node : goal.one_node-requires-in-Bool-clause-node
one_node-requires-in-Bool-clause-node c = ap pattern_height c.literal-in-Bool.ensures
