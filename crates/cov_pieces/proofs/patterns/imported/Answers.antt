use Rattle.cov_pieces.specs.Words.{import_words}
use Rattle.cov_pieces.proofs.Walks.{next, said}
use Rattle.cov_pieces.proofs.patterns.imported.Goals as goal

pub returns-in-None : goal.returns-in-None
returns-in-None c =
    said (import_words c.args.name.now) c.in-None.is (next c.number.ensures c.push.ensures)

pub returns-in-Some : goal.returns-in-Some
returns-in-Some c =
    said (import_words c.args.name.now) c.in-Some.is (next c.number-in-Some.ensures (next c.push-in-Some.ensures c.push-in-Some-2.ensures))
