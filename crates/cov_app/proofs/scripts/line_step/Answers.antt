use Rattle.std.proofs.Common.{◌∙◌, map, string_bytes, refl, sym, ap}
use Rattle.cov_programs.proofs.Composing.{followed-so, gives, starves}
use Rattle.cov_step.specs.Scripts.{words_done}
use Rattle.cov_app.specs.Objects.{on_command}
use Rattle.cov_app.proofs.Opening.{if-comment, line-open}
use Rattle.cov_app.proofs.scripts.line_step.Goals as goal

pub returns-then-is_comment : goal.returns-then-is_comment
returns-then-is_comment g c = followed-so (on_command g.H.Shelf g.V.Vault g.M.Maker g.I.Source g.O.Sink g.P.Plugin g.G.Engine g.E.Sink) (ap (if-comment c.args.line.now) (sym c.if-is_comment.true ∙ c.is_comment.ensures)) refl gives

pub returns-in-Ok : goal.returns-in-Ok
returns-in-Ok g c =
    followed-so (on_command g.H.Shelf g.V.Vault g.M.Maker g.I.Source g.O.Sink g.P.Plugin g.G.Engine g.E.Sink)
    (ap words_done (ap (map string_bytes) c.as_slice.ensures.value ∙ c.in-Ok.ensures) ∙ ap (if-comment c.args.line.now) (sym c.if-is_comment.false ∙ c.is_comment.ensures))
    refl c.words_done.ensures

pub returns-in-Err : goal.returns-in-Err
returns-in-Err g c = starves (line-open c.args.line.now) refl
