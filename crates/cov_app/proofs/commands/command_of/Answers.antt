use Rattle.std.proofs.Common.{map, string_bytes, Ok, Err, subst}
use Rattle.cov_programs.proofs.Composing.{asks, gives, refuses}
use Rattle.cov_words.specs.Plain.{Answers, command_view}
use Rattle.cov_app.proofs.Sizes.{has-small-size}
use Rattle.cov_app.proofs.commands.command_of.Goals as goal

pub returns-in-Ok-clause-follows : goal.returns-in-Ok-clause-follows
returns-in-Ok-clause-follows c = asks (Ok (command_view c.in-Ok.command)) tt c.in-Ok.ensures gives

pub returns-in-Err-Usage-clause-follows : goal.returns-in-Err-Usage-clause-follows
returns-in-Err-Usage-clause-follows c =
    asks (Err c.in-Err-Usage.passed) tt
    (subst (λ e. Answers (map string_bytes c.args.words.now) (Err e)) c.in-Err-Usage.field-0-is c.in-Err-Usage.ensures) refuses

pub returns-in-Ok-clause-small : goal.returns-in-Ok-clause-small
returns-in-Ok-clause-small c = has-small-size (command_view c.in-Ok.command) (map string_bytes c.args.words.now) c.in-Ok.ensures
