use Rattle.std.proofs.Common.{sym, ◌∙◌, ap, subst}
use Rattle.cov_programs.specs.Ends.{Follows}
use Rattle.cov_run.specs.Alone.{ReadsAlone, plain_file}
use Rattle.cov_step.specs.Calls.{IsNoMemory, seen}
use Rattle.cov_step.specs.Objects.{on_shelf}
use Rattle.cov_step.specs.Phases.{source}
use Rattle.cov_reports.specs.Views.{read_source}
use Rattle.cov_reports.proofs.Alone.{answered-so, read-alone}
use Rattle.cov_reports.proofs.sources.source.Goals as goal

pub returns : goal.returns
returns g c =
    subst (λ e. Follows (on_shelf g.H.Shelf) IsNoMemory (source c.args.path.now) c.args.shelf.now e c.load_source.new.shelf)
    (sym (c.with_path.ensures ∙ ap (λ path. seen (λ file. read_source (plain_file path file)) c.load_source.result) c.in-Ok.ensures.ok))
    (answered-so (on_shelf g.H.Shelf) (source c.args.path.now) _ _ (plain_file c.args.path.now) read_source c.load_source.result
    (λ came. ReadsAlone g.H.Shelf.reads g.H.Shelf.faults c.args.shelf.now c.args.path.now came c.load_source.new.shelf)
    (λ came r. read-alone g.H.Shelf c.args.path.now came _ _ c.load_source.ensures.count r) c.load_source.ensures.reads)
