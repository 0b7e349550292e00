use Rattle.std.specs.Str.{chars}
use Rattle.cov_run.specs.Loading.{Told, told_by}
use Rattle.cov_load_laws.proofs.Answers.{program-if-err}
use Rattle.cov_load_laws.proofs.load_whole.Goals as goal

pub returns-clause-whole : goal.returns-clause-whole
returns-clause-whole g c = λ t ms h.
    let script = chars c.args.script.now in
    let told : Told = told_by (g.H.Shelf.files c.args.shelf.now) script in
    c.answers_program.ensures told script (chars c.args.name.now) ms c.load.result h
    (c.load.ensures.told t)

pub returns-clause-enough : goal.returns-clause-enough
returns-clause-enough g c = λ t can.
    let script = chars c.args.script.now in
    let name = chars c.args.name.now in
    let told : Told = told_by (g.H.Shelf.files c.args.shelf.now) script in
    let p = c.completes.ensures.completes told script name can in
    program-if-err p.0 c.load.result
    (c.answers_program.ensures told script name p.0 c.load.result p.1 (c.load.ensures.told t))
