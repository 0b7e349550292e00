use Rattle.cov_programs.proofs.Composing.{asks, on-nobody}
use Rattle.cov_step.specs.Objects.{on_maker}
use Rattle.cov_calls.specs.Views.{pattern_error_of}
use Rattle.cov_calls.proofs.Told.{cause_so}
use Rattle.cov_calls.proofs.pattern_lists.built.Goals as goal

pub returns-clause-follows : goal.returns-clause-follows
returns-clause-follows g c =
    asks (pattern_error_of c.build.result) c.build.new.maker (record { refused = λ e h. cause_so c.build.result e _ c.build.ensures.refused h; count = c.build.ensures.count })
    (on-nobody (on_maker g.M.Maker) _ c.built_of.ensures.follows)
