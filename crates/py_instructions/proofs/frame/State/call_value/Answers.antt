use Rattle.py_value.specs.View.{plain, plains}
use Rattle.py_code.specs.Loaded.{modules_of}
use Rattle.py_code.specs.Machine.{reach}
use Rattle.py_instructions.specs.Reaching.{plain_reach}
use Rattle.py_instructions.proofs.Leading.{leads_as}
use Rattle.py_instructions.proofs.frame.State.call_value.Goals as goal

pub returns : goal.returns
returns c = leads_as (modules_of c.args.programs.now) (reach (modules_of c.args.programs.now) (plain c.args.value) (plains c.args.values.items)) (plain_reach c.in_ok-reach.reach) c.args.self.now c.lead_to.new.self c.args.store.now c.lead_to.new.store c.in_ok-reach.ensures.leads c.lead_to.result c.lead_to.ensures
