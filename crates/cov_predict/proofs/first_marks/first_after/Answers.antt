use Rattle.cov_predict.proofs.First.{pass-on}
use Rattle.cov_predict.proofs.first_marks.first_after.Goals as goal

pub returns-in-Some : goal.returns-in-Some
returns-in-Some c = λ h. c.first_of.ensures

pub returns-in-None : goal.returns-in-None
returns-in-None c = pass-on c.args.s.now c.args.rest.now c.args.from c.in-None.ensures
