use Rattle.py_meaning.proofs.names_set_and_unset.Goals as goal
use Rattle.py_builtins.proofs.NameLaws.{name_law}

pub returns : goal.returns
returns c = name_law
