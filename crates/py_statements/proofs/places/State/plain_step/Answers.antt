use Rattle.py_statements.proofs.View.Stepping.{choosing}
use Rattle.py_statements.proofs.places.State.plain_step.Goals as goal

pub returns-in-Choosing : goal.returns-in-Choosing
returns-in-Choosing c = choosing c.args.token.now c.args.self _ c.choose.result c.turned.result c.in-Choosing.is c.choose.ensures c.turned.ensures
