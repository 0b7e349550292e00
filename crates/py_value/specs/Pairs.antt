-- The plain view of a pair.
use Rattle.py_value.specs.declared.pairs.Pair.{Pair}
use Rattle.py_value.specs.Plain.{PlainValue}
use Rattle.py_value.specs.View.{plain}

-- the key and the value of a dict's pair
abbrev pub plain_pair : Pair → PlainValue × PlainValue
plain_pair p = (plain p.key, plain p.value)
