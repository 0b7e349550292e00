use Rattle.py_parse_fields.proofs.reader.act.Goals as goal

pub returns-in-Want : goal.returns-in-Want
returns-in-Want c = rw c.in-Want.is c.begin.ensures

pub returns-in-Have : goal.returns-in-Have
returns-in-Have c = rw c.in-Have.is c.give.ensures

pub returns-in-Strings : goal.returns-in-Strings
returns-in-Strings c = rw c.in-Strings.is c.strings.ensures

pub returns-in-AfterComma : goal.returns-in-AfterComma
returns-in-AfterComma c = rw c.in-AfterComma.is c.after_comma.ensures

pub returns-in-ItemsOpen : goal.returns-in-ItemsOpen
returns-in-ItemsOpen c = rw c.in-ItemsOpen.is c.items.ensures.open

pub returns-in-ItemsComma : goal.returns-in-ItemsComma
returns-in-ItemsComma c = rw c.in-ItemsComma.is c.items-in-ItemsComma.ensures.comma

pub returns-in-DictOpen : goal.returns-in-DictOpen
returns-in-DictOpen c = rw c.in-DictOpen.is c.entries.ensures.open

pub returns-in-DictComma : goal.returns-in-DictComma
returns-in-DictComma c = rw c.in-DictComma.is c.entries-in-DictComma.ensures.comma

pub returns-in-AfterNot : goal.returns-in-AfterNot
returns-in-AfterNot c = rw c.in-AfterNot.is c.after_not.ensures

pub returns-in-AfterIs : goal.returns-in-AfterIs
returns-in-AfterIs c = rw c.in-AfterIs.is c.after_is.ensures

pub returns-in-AfterIsNot : goal.returns-in-AfterIsNot
returns-in-AfterIsNot c = rw c.in-AfterIsNot.is c.after_is_not.ensures

pub returns-in-Linked : goal.returns-in-Linked
returns-in-Linked c = rw c.in-Linked.is c.linked.ensures
