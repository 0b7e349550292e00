use Rattle.std.proofs.Common.{◌∙◌, refl, sym}
use Rattle.cov_programs.proofs.Composing.{followed-so, gives}
use Rattle.cov_app.specs.Objects.{on_command}
use Rattle.cov_app.proofs.LineWords.{words-none, words-some}
use Rattle.cov_app.proofs.scripts.words_done.Goals as goal

pub returns-then-is_empty : goal.returns-then-is_empty
returns-then-is_empty g c = followed-so (on_command g.H.Shelf g.V.Vault g.M.Maker g.I.Source g.O.Sink g.P.Plugin g.G.Engine g.E.Sink) (sym (words-none c.args.words.now (sym c.is_empty.ensures ∙ c.if-is_empty.true))) refl gives

pub returns : goal.returns
returns g c = followed-so (on_command g.H.Shelf g.V.Vault g.M.Maker g.I.Source g.O.Sink g.P.Plugin g.G.Engine g.E.Sink) (sym (words-some c.args.words.now (sym c.is_empty.ensures ∙ c.if-is_empty.false))) refl c.line_done.ensures
