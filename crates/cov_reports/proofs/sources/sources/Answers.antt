use Rattle.std.proofs.Common.{◌+◌, ◌∷◌, ◌++◌, [], drop, map, string_bytes, ap, refl, sym, subst}
use Rattle.cov_programs.specs.Ends.{Follows}
use Rattle.cov_programs.specs.Programs.{each}
use Rattle.cov_programs.proofs.Composing.{followed-so}
use Rattle.cov_programs.proofs.Each.{IsDone}
use Rattle.cov_programs.proofs.Results.{handed}
use Rattle.cov_step.specs.Calls.{IsNoMemory, seen}
use Rattle.cov_step.specs.Objects.{on_shelf}
use Rattle.cov_step.specs.Phases.{source}
use Rattle.cov_reports.specs.Views.{source_view}
use Rattle.cov_reports.proofs.Sourcing.{one-more, refused-there, wanting-there, all-done}
use Rattle.cov_reports.proofs.sources.sources.Goals as goal

pub returns-in_err-source : goal.returns-in_err-source
returns-in_err-source g c =
    subst (λ d. Follows (on_shelf g.H.Shelf) IsNoMemory (each source (map string_bytes c.args.paths.now)) c.args.shelf.now (seen (λ sources. map source_view sources.items) d) c.source.new.shelf)
    (sym (handed _ _ c.from_residual.ensures))
    (refused-there g.H.Shelf c.args.paths.now c.loop-path.path-index (map source_view c.loop-path.sources.items) c.args.shelf.now c.loop-path.shelf c.path-item.result _ c.source.new.shelf c.loop-path-test.true c.path-item.is c.loop-path.invariant
    (followed-so (on_shelf g.H.Shelf) (ap source c.as_str.ensures.value) refl c.in_err-source.ensures))

pub returns : goal.returns
returns g c = all-done g.H.Shelf c.args.paths.now c.loop-path.path-index (map source_view c.loop-path.sources.items) c.args.shelf.now c.loop-path.shelf c.loop-path-test.false c.loop-path.invariant

pub loop-path-preserved : goal.loop-path-preserved
loop-path-preserved g c =
    let names = map string_bytes c.args.paths.now in
    subst (λ ys. IsDone (on_shelf g.H.Shelf) IsNoMemory source names (drop (c.loop-path.path-index + 1) names) ys c.args.shelf.now c.source.new.shelf) (sym c.in-Ok.ensures)
    (one-more g.H.Shelf c.args.paths.now c.loop-path.path-index (map source_view c.loop-path.sources.items) c.args.shelf.now c.loop-path.shelf c.path-item.result (source_view c.in_ok-source.source) c.source.new.shelf c.loop-path-test.true c.path-item.is c.loop-path.invariant
    (followed-so (on_shelf g.H.Shelf) (ap source c.as_str.ensures.value) refl c.in_ok-source.ensures))

pub returns-in_default : goal.returns-in_default
returns-in_default g c =
    wanting-there g.H.Shelf c.args.paths.now (c.loop-path.path-index + 1) (map source_view c.loop-path.sources.items ++ source_view c.in_ok-source.source ∷ []) c.args.shelf.now c.source.new.shelf
    (one-more g.H.Shelf c.args.paths.now c.loop-path.path-index (map source_view c.loop-path.sources.items) c.args.shelf.now c.loop-path.shelf c.path-item.result (source_view c.in_ok-source.source) c.source.new.shelf c.loop-path-test.true c.path-item.is c.loop-path.invariant
    (followed-so (on_shelf g.H.Shelf) (ap source c.as_str.ensures.value) refl c.in_ok-source.ensures))
