use Rattle.std.proofs.Common.{drop, map, string_bytes}
use Rattle.cov_programs.proofs.Each.{IsDone}
use Rattle.cov_step.specs.Calls.{IsNoMemory}
use Rattle.cov_step.specs.Objects.{on_shelf}
use Rattle.cov_step.specs.Phases.{source}
use Rattle.cov_reports.specs.Views.{source_view}
use Rattle.cov_reports.proofs.sources.sources.Given as goal

abbrev pub invariant-loop-path : goal.invariant-loop-path
invariant-loop-path g l =
    IsDone (on_shelf g.H.Shelf) IsNoMemory source (map string_bytes l.fn.paths) (drop l.path-index (map string_bytes l.fn.paths)) (map source_view l.sources.items) l.fn.shelf l.shelf
