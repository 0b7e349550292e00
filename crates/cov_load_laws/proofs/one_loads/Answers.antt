use Rattle.cov_load_laws.proofs.Shelves.{one-loads, loads-whole}
use Rattle.cov_load_laws.proofs.one_loads.Goals as goal

pub returns-clause-one : goal.returns-clause-one
returns-clause-one g c = one-loads c.one_text.ensures g.H.Shelf.reads

pub returns-clause-whole : goal.returns-clause-whole
returns-clause-whole g c = loads-whole c.one_text.ensures g.H.Shelf.reads
