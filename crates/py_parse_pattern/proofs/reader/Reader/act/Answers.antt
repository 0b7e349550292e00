use Rattle.std.proofs.Common.{ap}
use Rattle.py_syntax.specs.Normal.{pattern_height}
use Rattle.py_parse_pattern.proofs.reader.Reader.act.Goals as goal

pub returns-in-Want : goal.returns-in-Want
returns-in-Want c = rw c.in-Want.is c.begin.ensures

pub returns-in-Have : goal.returns-in-Have
returns-in-Have c = rw c.in-Have.is c.give-in-Have.ensures

pub returns-in-Naming : goal.returns-in-Naming
returns-in-Naming c = rw c.in-Naming.is c.rename.ensures

pub returns-in-Item : goal.returns-in-Item
returns-in-Item c = rw c.in-Item.is c.offer.ensures

pub one_node-requires-clause-node : goal.one_node-requires-clause-node
one_node-requires-clause-node c = ap pattern_height c.literal.ensures
