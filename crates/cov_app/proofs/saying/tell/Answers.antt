use Rattle.cov_app.proofs.Said.{said-first, said-failed, said-starved}
use Rattle.cov_app.proofs.saying.tell.Goals as goal

pub returns-in-Whole : goal.returns-in-Whole
returns-in-Whole g c = said-first g.E.Sink _ _ _ _ _ c.in-Whole.is c.first_told.ensures.said c.first_told.ensures.count c.first_told.ensures.failed

pub returns-in-Failed : goal.returns-in-Failed
returns-in-Failed g c = said-failed g.E.Sink _ _ _ c.in-Failed.is

pub returns-in-NoMemory : goal.returns-in-NoMemory
returns-in-NoMemory g c = said-starved g.E.Sink _ _ _ c.in-NoMemory.is
