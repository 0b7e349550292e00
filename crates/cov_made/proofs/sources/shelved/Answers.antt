use Rattle.std.proofs.Common.{Some, ap, ◌∙◌}
use Rattle.cov_made.proofs.Opening.{is-put, path-utf8, wanting}
use Rattle.cov_made.proofs.sources.shelved.Goals as goal

pub opened-requires-clause-held : goal.opened-requires-clause-held
opened-requires-clause-held c =
    is-put _ _ _ _ path-utf8 (c.in-Ok.ensures.ok tt)
    ∙ ap Some (c.as_bytes.ensures.value ∙ c.requires.text)

pub returns-in-Err : goal.returns-in-Err
returns-in-Err c = wanting c.args.seed c.args.size

pub returns-in-Ok : goal.returns-in-Ok
returns-in-Ok c = c.opened.ensures
