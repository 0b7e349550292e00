use Rattle.cov_make_laws.proofs.Machines as machines
use Rattle.cov_make_laws.proofs.made_finish_on_machine.Goals as goal

pub returns : goal.returns
returns c = machines.made_finish_on_machine c.traces_kept.ensures
