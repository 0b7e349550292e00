-- How a command ends that isn't refused for a cause.
use Rattle.std.proofs.Common.{◌≡◌, refl, sym, subst, Result, Ok, Err}
use Rattle.cov_complete_laws.specs.Complete.{EndsWell}
use Rattle.cov_step.specs.Calls.{Answered}
use Rattle.cov_why.specs.Answers.{PlainWhy}
use Rattle.cov_app.specs.Ending.{IsDone}
use Rattle.cov_app.specs.Taken.{why_of}

pub done-so : (e : Result Answered PlainWhy) (why : PlainWhy) → why ≡ why_of e → EndsWell e → IsDone why
done-so (Ok a) why is h = subst IsDone (sym is) tt
done-so (Err w) why is h = subst IsDone (sym is) (subst IsDone (sym h) refl)
