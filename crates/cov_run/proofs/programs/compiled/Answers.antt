use Rattle.std.proofs.lemmas.List.{map-append}
use Rattle.cov_run.specs.View.{plain_source, plain_sources}
use Rattle.cov_run.proofs.Compiling.{beside-more, beside-same}
use Rattle.std.proofs.Common.{[], ◌∷◌}
use Rattle.cov_run.proofs.programs.compiled.Goals as goal

pub loop-source-preserved : goal.loop-source-preserved
loop-source-preserved c =
    beside-same _ _ _ _ _ _ c.in_ok-push.ensures.items c.in_ok-push-2.ensures.items (map-append plain_source c.loop-source.yielded (c.in-Some.source ∷ []))
    (beside-more c.loop-source.programs.items c.loop-source.modules.items (plain_sources c.loop-source.yielded) c.in_ok-program.program c.in-Some.source.module (plain_source c.in-Some.source) c.loop-source.invariant
    c.in_ok-program.ensures.same c.in_ok-program.ensures.code c.in_ok-program.ensures.well_formed c.in_ok-program.ensures.path)
