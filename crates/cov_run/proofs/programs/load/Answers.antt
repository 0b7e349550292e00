use Rattle.std.proofs.lemmas.Grind.{common_steps}
use Rattle.std.proofs.Common.{inr, arith}
use Rattle.std.specs.Str.{chars}
use Rattle.cov_why.specs.Answers.{no_memory}
use Rattle.cov_run.specs.Loads.{starved}
use Rattle.cov_run.specs.View.{plain_sources}
use Rattle.cov_run.proofs.Coming.{program-unread}
use Rattle.cov_run.proofs.Compiling.{compiled-code}
use Rattle.cov_run.proofs.programs.load.Goals as goal

pub returns-in-Ok-clause-code : goal.returns-in-Ok-clause-code
returns-in-Ok-clause-code g c =
    compiled-code g.H.Shelf.reads c.args.shelf.now c.load_sources.new.shelf (chars c.args.script.now) (chars c.args.name.now) (plain_sources c.in_ok-sources.sources.items) c.in-Ok.loaded c.in_ok-sources.ensures.loads
    c.in-Ok.ensures.modules c.in-Ok.ensures.beside c.in-Ok.ensures.faithful c.in-Ok.ensures.well_formed c.in-Ok.ensures.paths

pub returns-in-Err-clause-told : goal.returns-in-Err-clause-told
returns-in-Err-clause-told g c = λ t. inr starved

pub returns-in-Err-clause-loads : goal.returns-in-Err-clause-loads
returns-in-Err-clause-loads g c =
    program-unread g.H.Shelf.reads c.args.shelf.now c.load_sources.new.shelf (chars c.args.script.now) (chars c.args.name.now) (plain_sources c.in_ok-sources.sources.items) c.in_ok-sources.ensures.loads no_memory starved

pub returns-in-Ok-clause-loads : goal.returns-in-Ok-clause-loads
returns-in-Ok-clause-loads g c = grind (arith, common_steps)
