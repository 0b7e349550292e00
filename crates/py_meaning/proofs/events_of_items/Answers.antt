use Rattle.py_meaning.proofs.EventLaws.{events_law}
use Rattle.py_meaning.proofs.events_of_items.Goals as goal

pub returns : goal.returns
returns c = events_law
