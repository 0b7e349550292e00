use Rattle.std.proofs.Common.{sym, ◌∙◌}
use Rattle.py_parse_pattern.proofs.View.Heights.{at_want, at_again, at_minus, at_named, at_dotted, at_strings, at_have, at_naming, at_item}
use Rattle.py_parse_pattern.proofs.limits.height.Goals as goal

pub returns-then-is_some : goal.returns-then-is_some
returns-then-is_some c = at_again c.args.reader.now c.closed_height.result c.in-Want.is c.requires (sym c.is_some.ensures ∙ c.if-is_some.true) c.closed_height.ensures

pub returns-else-is_some : goal.returns-else-is_some
returns-else-is_some c = at_want c.args.reader.now c.row_height.result c.in-Want.is c.requires (sym c.is_some.ensures ∙ c.if-is_some.false) c.row_height.ensures

pub returns-in-Minus : goal.returns-in-Minus
returns-in-Minus c = at_minus c.args.reader.now c.closed_height-in-Minus.result c.in-Minus.is c.requires c.closed_height-in-Minus.ensures

pub returns-in-Named : goal.returns-in-Named
returns-in-Named c = at_named c.args.reader.now _ c.closed_height-in-Named.result c.in-Named.is c.requires c.closed_height-in-Named.ensures

pub returns-in-Dotted : goal.returns-in-Dotted
returns-in-Dotted c = at_dotted c.args.reader.now _ c.closed_height-in-Dotted.result c.in-Dotted.is c.requires c.closed_height-in-Dotted.ensures

pub returns-in-Strings : goal.returns-in-Strings
returns-in-Strings c = at_strings c.args.reader.now _ c.closed_height-in-Strings.result c.in-Strings.is c.requires c.closed_height-in-Strings.ensures

pub returns-in-Have : goal.returns-in-Have
returns-in-Have c = at_have c.args.reader.now c.in-Have.measured c.closed_height-in-Have.result c.in-Have.is c.requires c.closed_height-in-Have.ensures

pub returns-in-Naming : goal.returns-in-Naming
returns-in-Naming c = at_naming c.args.reader.now c.in-Naming.measured c.item_height.result c.in-Naming.is c.requires c.item_height.ensures

pub returns-in-Item : goal.returns-in-Item
returns-in-Item c = at_item c.args.reader.now c.in-Item.measured c.item_height-in-Item.result c.in-Item.is c.requires c.item_height-in-Item.ensures
