-- What a `?` hands on from a call that was refused.
use Rattle.std.specs.Result.{IsErr, IsErrAnd}
use Rattle.std.proofs.Common.{◌≡◌, sym, subst, Result, Ok, Err}
use Rattle.cov_programs.specs.Programs.{Program, bind}
use Rattle.cov_programs.specs.Objects.{Moves}
use Rattle.cov_programs.specs.Ends.{IsOpen, Follows}
use Rattle.cov_programs.proofs.Composing.{stops}
use Rattle.cov_programs.proofs.Results.{handed}
use Rattle.cov_why.specs.Answers.{Refusal, PlainWhy, plain_why}
use Rattle.cov_why.specs.declared.why.Why.{Why}
use Rattle.cov_step.specs.Answers.{given_or}
use Rattle.cov_step.specs.Calls.{seen}

-- the answer of a command is that of the call that was refused
pub hands-on-why : {C : Type 0} {Answer : C → Type 0} {W A B X : Type 0} {moves : Moves C Answer W} {wants : PlainWhy → Type 0} {p : Program C Answer PlainWhy A} {old new : W} (w : Why) (next : A → Program C Answer PlainWhy B) (view : X → B)
    → Follows moves wants p old (Err (plain_why w)) new → ((a : A) → IsOpen (next a)) → (d : Result X Why) → IsErr d × IsErrAnd d (λ e. e ≡ w) → Follows moves wants (bind p next) old (seen view d) new
hands-on-why {moves = moves} {wants = wants} {p = p} {old = old} {new = new} w next view f o d h = subst (λ e. Follows moves wants (bind p next) old (seen view e) new) (sym (handed d w h)) (stops next f o)

-- what a result gives, or why not
pub given-open : {A E : Type 0} (why : E → Refusal) (r : Result A E) → IsOpen (given_or why r)
given-open why (Ok a) = tt
given-open why (Err e) = tt
