use Rattle.cov_made.proofs.Endings.{make-ends, done-so, refused-so}
use Rattle.cov_made.proofs.making.make.Goals as goal

pub returns-clause-done : goal.returns-clause-done
returns-clause-done g c =
    done-so g.M.Maker g.O.Sink _ _ c.made.result
    (make-ends g.M.Maker g.O.Sink c.args.alloc c.made_are_read.ensures c.args.seed c.args.size c.requires _ _ _
    c.made.ensures)

pub returns-clause-refused : goal.returns-clause-refused
returns-clause-refused g c =
    refused-so g.M.Maker g.O.Sink _ _ c.made.result
    (make-ends g.M.Maker g.O.Sink c.args.alloc c.made_are_read.ensures c.args.seed c.args.size c.requires _ _ _
    c.made.ensures)
