use Rattle.py_statements.proofs.View.Acts.{turns_so}
use Rattle.py_statements.proofs.in_statement.turned.Goals as goal

pub returns-in-Ok : goal.returns-in-Ok
returns-in-Ok c = turns_so c.args.made c.in-Ok.state c.turn.result c.in-Ok.is c.turn.ensures

pub returns-in-Err : goal.returns-in-Err
returns-in-Err c t o m = tt
