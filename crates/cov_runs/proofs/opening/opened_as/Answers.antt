use Rattle.std.specs.Str.{chars}
use Rattle.cov_runs.proofs.Opened.{measurable-so, opens-so, regular-so, script-so}
use Rattle.cov_runs.proofs.opening.opened_as.Goals as goal

pub returns-clause-follows : goal.returns-clause-follows
returns-clause-follows g c = opens-so g.H.Shelf _ _ (chars c.args.name.now) c.args.script.now c.load.result c.load.ensures.told c.load.ensures.loads c.load.ensures.failed c.load.ensures.fault c.load.ensures.count c.load.ensures.kept

pub returns-clause-measurable : goal.returns-clause-measurable
returns-clause-measurable g c = measurable-so g.H.Shelf.reads _ _ (chars c.args.script.now) (chars c.args.name.now) c.load.result c.loaded_have_text_lines.ensures c.loaded_programs_are_measured.ensures c.load.ensures.code c.load.ensures.loads

pub returns-clause-script : goal.returns-clause-script
returns-clause-script g c = script-so g.H.Shelf.reads _ _ (chars c.args.script.now) (chars c.args.name.now) c.load.result c.load.ensures.loads

pub returns-clause-regular : goal.returns-clause-regular
returns-clause-regular g c = regular-so g.H.Shelf.reads _ _ (chars c.args.script.now) (chars c.args.name.now) c.load.result c.loaded_are_regular.ensures c.load.ensures.loads
