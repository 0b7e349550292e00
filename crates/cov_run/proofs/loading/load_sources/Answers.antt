use Rattle.std.proofs.Common.{◌≡◌, inr, Ok, Err, Vec, Global, sym, ◌∙◌, rules}
use Rattle.std.specs.Str.{chars}
use Rattle.cov_why.specs.Answers.{no_memory}
use Rattle.cov_why.specs.declared.why.Why.TheVariants as why
use Rattle.cov_run.specs.declared.loaded.LoadedSource.{LoadedSource}
use Rattle.cov_run.specs.Loads.{starved}
use Rattle.cov_run.specs.View.{plain_sources, listed_sources}
use Rattle.cov_run.proofs.Answering.{err_same}
use Rattle.cov_run.proofs.Coming.{nothing-read, loads-told, ends-answer, answer-told, ends-kept}
use Rattle.cov_run.proofs.Meaning.{loaded-from}
use Rattle.cov_run.proofs.Readings.{one-reading}
use Rattle.cov_run.proofs.loading.load_sources.Goals as goal

pub returns-in_default-clause-loads : goal.returns-in_default-clause-loads
returns-in_default-clause-loads g c = nothing-read g.H.Shelf.reads c.args.shelf.now (chars c.args.script.now) (chars c.args.name.now) no_memory starved

pub returns-in_default-clause-told : goal.returns-in_default-clause-told
returns-in_default-clause-told g c = λ t. inr starved

pub returns-in_err-loading-clause-told : goal.returns-in_err-loading-clause-told
returns-in_err-loading-clause-told g c = λ t.
    let is : c.from_residual.result ≡ Err c.in_err-loading.field-0.0 = search rules in
    answer-told listed_sources g.H.Shelf.reads g.H.Shelf.files (g.H.Shelf.truthful t) c.args.shelf.now c.begun.new.shelf (chars c.args.script.now) (chars c.args.name.now) c.from_residual.result (ends-answer listed_sources g.H.Shelf.reads c.args.shelf.now c.begun.new.shelf (chars c.args.script.now) (chars c.args.name.now) c.from_residual.result c.in_err-loading.field-0.0 is (c.in_err-loading.ensures.ends))

pub returns-in_err-loading-clause-loads : goal.returns-in_err-loading-clause-loads
returns-in_err-loading-clause-loads g c =
    let is : c.from_residual.result ≡ Err c.in_err-loading.field-0.0 = search rules in
    ends-answer listed_sources g.H.Shelf.reads c.args.shelf.now c.begun.new.shelf (chars c.args.script.now) (chars c.args.name.now) c.from_residual.result c.in_err-loading.field-0.0 is (c.in_err-loading.ensures.ends)

pub returns-in_err-loading-clause-failed : goal.returns-in_err-loading-clause-failed
returns-in_err-loading-clause-failed g c = λ same.
    let e = c.in_err-loading.ensures.ends in
    let is : c.from_residual.result ≡ Err c.in_err-loading.field-0.0 = search rules in
    e.failed (err_same {A = Vec LoadedSource Global} c.in_err-loading.field-0.0 why.ShelfFault (sym is ∙ same))

pub returns-in_err-loading-clause-kept : goal.returns-in_err-loading-clause-kept
returns-in_err-loading-clause-kept g c = λ t. ends-kept g.H.Shelf.reads g.H.Shelf.files (g.H.Shelf.truthful t) c.args.shelf.now c.begun.new.shelf (chars c.args.script.now) (chars c.args.name.now) c.in_err-loading.field-0.0 (c.in_err-loading.ensures.ends)

pub returns-in_err-import_all-clause-told : goal.returns-in_err-import_all-clause-told
returns-in_err-import_all-clause-told g c = λ t.
    let is : c.from_residual-in_err-import_all.result ≡ Err c.in_err-import_all.field-0.0 = search rules in
    answer-told listed_sources g.H.Shelf.reads g.H.Shelf.files (g.H.Shelf.truthful t) c.args.shelf.now c.import_all.new.shelf (chars c.args.script.now) (chars c.args.name.now) c.from_residual-in_err-import_all.result (ends-answer listed_sources g.H.Shelf.reads c.args.shelf.now c.import_all.new.shelf (chars c.args.script.now) (chars c.args.name.now) c.from_residual-in_err-import_all.result c.in_err-import_all.field-0.0 is (c.in_err-import_all.ensures.ends c.args.shelf.now (chars c.args.script.now) (chars c.args.name.now) c.in_ok-loading.ensures.come c.in-Ok.ensures))

pub returns-in_err-import_all-clause-loads : goal.returns-in_err-import_all-clause-loads
returns-in_err-import_all-clause-loads g c =
    let is : c.from_residual-in_err-import_all.result ≡ Err c.in_err-import_all.field-0.0 = search rules in
    ends-answer listed_sources g.H.Shelf.reads c.args.shelf.now c.import_all.new.shelf (chars c.args.script.now) (chars c.args.name.now) c.from_residual-in_err-import_all.result c.in_err-import_all.field-0.0 is (c.in_err-import_all.ensures.ends c.args.shelf.now (chars c.args.script.now) (chars c.args.name.now) c.in_ok-loading.ensures.come c.in-Ok.ensures)

pub returns-in_err-import_all-clause-failed : goal.returns-in_err-import_all-clause-failed
returns-in_err-import_all-clause-failed g c = λ same.
    let e = c.in_err-import_all.ensures.ends c.args.shelf.now (chars c.args.script.now) (chars c.args.name.now) c.in_ok-loading.ensures.come c.in-Ok.ensures in
    let is : c.from_residual-in_err-import_all.result ≡ Err c.in_err-import_all.field-0.0 = search rules in
    e.failed (err_same {A = Vec LoadedSource Global} c.in_err-import_all.field-0.0 why.ShelfFault (sym is ∙ same))

pub returns-in_err-import_all-clause-kept : goal.returns-in_err-import_all-clause-kept
returns-in_err-import_all-clause-kept g c = λ t. ends-kept g.H.Shelf.reads g.H.Shelf.files (g.H.Shelf.truthful t) c.args.shelf.now c.import_all.new.shelf (chars c.args.script.now) (chars c.args.name.now) c.in_err-import_all.field-0.0 (c.in_err-import_all.ensures.ends c.args.shelf.now (chars c.args.script.now) (chars c.args.name.now) c.in_ok-loading.ensures.come c.in-Ok.ensures)

pub returns-clause-told : goal.returns-clause-told
returns-clause-told g c = λ t.
    let script = chars c.args.script.now in
    let name = chars c.args.name.now in
    let l = c.in_ok-import_all.ensures.loads c.args.shelf.now (chars c.args.script.now) (chars c.args.name.now) c.in_ok-loading.ensures.come c.in-Ok.ensures in
    (loads-told g.H.Shelf.reads g.H.Shelf.files (g.H.Shelf.truthful t) c.args.shelf.now c.import_all.new.shelf script name (Ok (plain_sources c.import_all.new.self.sources.items)) l).0

pub returns-clause-meant : goal.returns-clause-meant
returns-clause-meant g c = λ t.
    let script = chars c.args.script.now in
    let name = chars c.args.name.now in
    let l = c.in_ok-import_all.ensures.loads c.args.shelf.now (chars c.args.script.now) (chars c.args.name.now) c.in_ok-loading.ensures.come c.in-Ok.ensures in
    loaded-from one-reading (g.H.Shelf.files c.args.shelf.now) script name (plain_sources c.import_all.new.self.sources.items)
    (loads-told g.H.Shelf.reads g.H.Shelf.files (g.H.Shelf.truthful t) c.args.shelf.now c.import_all.new.shelf script name (Ok (plain_sources c.import_all.new.self.sources.items)) l).0

pub returns-clause-loads : goal.returns-clause-loads
returns-clause-loads g c =
    let script = chars c.args.script.now in
    let name = chars c.args.name.now in
    let l = c.in_ok-import_all.ensures.loads c.args.shelf.now (chars c.args.script.now) (chars c.args.name.now) c.in_ok-loading.ensures.come c.in-Ok.ensures in
    l

pub returns-clause-kept : goal.returns-clause-kept
returns-clause-kept g c = λ t.
    let script = chars c.args.script.now in
    let name = chars c.args.name.now in
    let l = c.in_ok-import_all.ensures.loads c.args.shelf.now (chars c.args.script.now) (chars c.args.name.now) c.in_ok-loading.ensures.come c.in-Ok.ensures in
    (loads-told g.H.Shelf.reads g.H.Shelf.files (g.H.Shelf.truthful t) c.args.shelf.now c.import_all.new.shelf script name (Ok (plain_sources c.import_all.new.self.sources.items)) l).1
