use Rattle.std.proofs.Common.{ap, refl, subst, sym, ◌∙◌}
use Rattle.cov_measure_laws.proofs.Leaving.{as-before}
use Rattle.cov_recorder.specs.Names.{names_of}
use Rattle.cov_recorder.specs.Plan.{HaveFirsts}
use Rattle.cov_run.specs.Loads.{loaded_modules}
use Rattle.cov_suite.proofs.Ending.{no-memory}
use Rattle.cov_suites.specs.Views.{HasUnits}
use Rattle.cov_suites.proofs.TestCalls.{trees-of}
use Rattle.cov_suites.proofs.testing.suite_within.Goals as goal

pub suite-requires-clause-begin : goal.suite-requires-clause-begin
suite-requires-clause-begin g c = subst HaveFirsts (sym (ap names_of c.as_slice.ensures.value ∙ c.in-Ok.ensures)) c.requires.measurable.begin

pub returns-in-Ok : goal.returns-in-Ok
returns-in-Ok g c =
    let named : HasUnits c.args.loaded.now (names_of c.as_slice.result.now) = ap names_of c.as_slice.ensures.value ∙ c.in-Ok.ensures in
    c.suite.ensures.meant (loaded_modules c.args.loaded.now) (trees-of c.args.loaded.now c.requires.measurable (names_of c.as_slice.result.now) named c.args.sets.now c.requires.sets)

pub returns-in-Err : goal.returns-in-Err
returns-in-Err g c = no-memory g.P.Plugin _ _ c.args.plugins.now.items c.args.plugins.now.items _ refl (as-before g.P.Plugin c.args.plugins.now.items)
