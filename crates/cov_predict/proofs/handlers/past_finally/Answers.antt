use Rattle.cov_predict.proofs.Rows.{past-none, past-some}
use Rattle.cov_predict.proofs.handlers.past_finally.Goals as goal

pub returns-in-None : goal.returns-in-None
returns-in-None c = past-none c.args.came c.args.left c.args.finally.now c.in-None.is

pub returns-in-Some : goal.returns-in-Some
returns-in-Some c = past-some c.args.came c.args.left c.through.result c.args.finally.now c.in-Some.suite c.deref.result.now c.first_of.result c.is_none.result c.in-Some.is c.deref.ensures.value c.first_of.ensures c.is_none.ensures c.through.ensures
