-- How a run ends in memory, as the definition has it.
use Rattle.py_value.specs.View.{plain, plain_raised}
use Rattle.py_code.specs.Configurations.{Ended, gave, failed, spent, stuck}
use Rattle.py_machine.specs.declared.ending.Ending.{Ending}
use Rattle.py_machine.specs.declared.ending.Ending.TheVariants.{Gave, Failed, Spent, Stuck}

-- each end as such
abbrev pub plain_ended : Ending → Ended
plain_ended (Gave v) = gave (plain v)
plain_ended (Failed e) = failed (plain_raised e)
plain_ended Spent = spent
plain_ended Stuck = stuck
