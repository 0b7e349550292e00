use Rattle.std.proofs.Common.{map, refl, ap, ◌∙◌}
use Rattle.cov_suite.specs.Views.{plain_suite, test_view}
use Rattle.cov_mutate.specs.Code.{passed_names}
use Rattle.cov_mutate.specs.Meant.{view_of}
use Rattle.cov_mutate.specs.Trials.{tried_of}
use Rattle.cov_mutate.proofs.Verdicts.{are-judged}
use Rattle.cov_mutate.proofs.mutate.Goals as goal

pub returns : goal.returns
returns c = λ ms are. (
  (c.in_ok-run.ensures ms are).imports,
  λ regular.
      are-judged c.units_are_faithful.ensures c.traces_kept.ensures c.args.budget c.args.programs.now c.args.modules.now ms are c.requires.some (plain_suite c.in_ok-run.run') (c.in_ok-run.ensures ms are) regular
      (tried_of (record { programs = c.in_ok-copy.copy; names = c.in_ok-names.names; budget = c.args.budget })) c.in_ok-copy.ensures
      (c.in_ok-names.ensures ∙ ap (λ ts. passed_names (map test_view ts)) c.deref.ensures.value) refl (map view_of c.in_ok-judged.judged.items) c.in_ok-judged.ensures,
)
