use Rattle.std.proofs.Common.{◌≡◌, ◌∙◌, ◌++◌, string_bytes, codes, Ok, refl, ap, subst}
use Rattle.std.specs.Prelude.{decimal}
use Rattle.cov_programs.specs.Programs.{ask}
use Rattle.cov_programs.proofs.Composing.{followed-so, asks, on-left}
use Rattle.cov_step.specs.Objects.{on_err, on_sink}
use Rattle.cov_app.specs.Objects.{saying}
use Rattle.std.proofs.Common.{inr}
use Rattle.cov_calls.specs.Views.{ended_view}
use Rattle.cov_step.specs.Answers.{on, sink_refusal}
use Rattle.cov_step.specs.Calls.{writes}
use Rattle.cov_step.specs.Objects.{SayOf}
use Rattle.cov_why.specs.Answers.{plain_why}
use Rattle.cov_why.specs.Messages.{message_of}
use Rattle.cov_why.specs.Statuses.{status_of}
use Rattle.cov_app.proofs.scripts.ended_in.Goals as goal

pub returns : goal.returns
returns g c =
    let why : plain_why c.why_of-why.result ≡ Ok (ended_view c.args.answered.ended) = c.why_of-why.ensures in
    let said : SayOf g.E.Sink (saying c.args.err.now c.args.told.now) (message_of (Ok (ended_view c.args.answered.ended)) (string_bytes c.args.answered.ending)) (saying c.tell.new.err c.tell.result) =
    subst (λ w. SayOf g.E.Sink (saying c.args.err.now c.args.told.now) (message_of w (string_bytes c.args.answered.ending)) (saying c.tell.new.err c.tell.result)) why
    (subst (λ t. SayOf g.E.Sink (saying c.args.err.now c.args.told.now) (message_of (plain_why c.why_of-why.result) t) (saying c.tell.new.err c.tell.result)) c.as_str.ensures.value c.tell.ensures) in
    asks tt (c.args.out.now, saying c.tell.new.err c.tell.result) (inr (said, refl))
    (on-left (on_sink g.O.Sink) (on_err g.E.Sink) _
    (followed-so (on_sink g.O.Sink) (ap (λ n. ask (writes (codes "= " ++ (decimal n ++ codes "\n"))) (on sink_refusal)) (c.status.ensures ∙ ap status_of why)) refl c.write_status.ensures))
