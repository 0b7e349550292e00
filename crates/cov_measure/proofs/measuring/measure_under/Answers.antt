use Rattle.std.proofs.Common.{◌≡◌, ◌∙◌, inr, refl, rules, ap}
use Rattle.py_builtins.specs.Inputs.{Wrote}
use Rattle.cov_contexts.specs.Sources.{Sources}
use Rattle.cov_recorder.specs.Plan.{plan_of}
use Rattle.cov_recorder.specs.States.{state_of}
use Rattle.cov_measure_laws.specs.Units.{program_units}
use Rattle.cov_measure_laws.proofs.Leaving.{same-list}
use Rattle.cov_measure.specs.Requests.{asked_in, words_in}
use Rattle.cov_measure.proofs.Ending.{measuring, begun, ended, stepped, steady, some-output, told-as, refused-as}
use Rattle.cov_measure.proofs.GivingUp.{nothing_yet}
use Rattle.cov_measure.proofs.measuring.measure_under.Goals as goal

-- ---- nothing was run

pub returns-in_default-clause-given_up : goal.returns-in_default-clause-given_up
returns-in_default-clause-given_up g c = λ ms are true.
    nothing_yet ms (asked_in c.args.request.now).words c.args.request.now.budget g.I.Source.tells (g.I.Source.left c.args.input.now) (g.I.Source.left c.args.input.now) g.O.Sink.tells (g.O.Sink.contents c.args.out.now) (g.O.Sink.contents c.args.out.now) refl refl

pub returns-in_default-clause-plugins : goal.returns-in_default-clause-plugins
returns-in_default-clause-plugins g c = same-list g.P.Plugin c.args.contexts.plugins c.into_plugins.result.items c.into_plugins.ensures

pub returns-in_default-units_of-clause-given_up : goal.returns-in_default-units_of-clause-given_up
returns-in_default-units_of-clause-given_up g c = λ ms are true.
    nothing_yet ms (asked_in c.args.request.now).words c.args.request.now.budget g.I.Source.tells (g.I.Source.left c.args.input.now) (g.I.Source.left c.args.input.now) g.O.Sink.tells (g.O.Sink.contents c.args.out.now) (g.O.Sink.contents c.args.out.now) refl refl

pub returns-in_default-units_of-clause-plugins : goal.returns-in_default-units_of-clause-plugins
returns-in_default-units_of-clause-plugins g c = same-list g.P.Plugin c.args.contexts.plugins c.into_plugins-in_default-units_of.result.items c.into_plugins-in_default-units_of.ensures

pub returns-in-Err-clause-given_up : goal.returns-in-Err-clause-given_up
returns-in-Err-clause-given_up g c = λ ms are true.
    nothing_yet ms (asked_in c.args.request.now).words c.args.request.now.budget g.I.Source.tells (g.I.Source.left c.args.input.now) (g.I.Source.left c.args.input.now) g.O.Sink.tells (g.O.Sink.contents c.args.out.now) (g.O.Sink.contents c.args.out.now) refl refl

pub returns-in-Err-clause-plugins : goal.returns-in-Err-clause-plugins
returns-in-Err-clause-plugins g c =
    same-list g.P.Plugin c.args.contexts.plugins c.into_plugins-in-Err.result.items (c.into_plugins-in-Err.ensures ∙ ap (λ (s : Sources g.row.A.Denot g.row.P.Denot). s.plugins) c.in-Err.ensures.err)

-- ---- a run that was given up

pub returns-in-Err-ran-clause-given_up : goal.returns-in-Err-ran-clause-given_up
returns-in-Err-ran-clause-given_up g c = λ ms are true.
    some-output ms (words_in c.deref.result.now) (asked_in c.args.request.now).words (ap words_in c.deref.ensures.value ∙ c.in-Ok.ensures) c.args.request.now.budget
    g.I.Source.tells (g.I.Source.left c.args.input.now) (g.I.Source.left c.run_recorded-ran.new.input) g.O.Sink.tells (g.O.Sink.contents c.args.out.now) (g.O.Sink.contents c.run_recorded-ran.new.out)
    (c.run_recorded-ran.ensures.some_output ms are.faithful are.well_formed true)

pub returns-in-Err-ran-clause-refused : goal.returns-in-Err-ran-clause-refused
returns-in-Err-ran-clause-refused g c =
    let plan = plan_of (program_units c.args.programs.now.modules.items) c.args.places.items c.args.request.now.arcs (asked_in c.args.request.now).context in
    let first = begun _ _ c.in-Ok-units_of.ensures _ _ _ _ c.as_str-fixed.ensures.value _ c.in-Ok-new.ensures.ok in
    refused-as g.A.Ask g.P.Plugin plan (state_of c.in-Ok-new.recorder).1 c.args.contexts c.in-Ok-new.ensures.sources _ _ _ c.finish-rows.ensures.plugins _ (c.in-Err-ran.ensures.refused plan first)

-- ---- a run that ended, without memory for its data

pub returns-in-Err-rows-clause-given_up : goal.returns-in-Err-rows-clause-given_up
returns-in-Err-rows-clause-given_up g c = λ ms are true.
    some-output ms (words_in c.deref.result.now) (asked_in c.args.request.now).words (ap words_in c.deref.ensures.value ∙ c.in-Ok.ensures) c.args.request.now.budget
    g.I.Source.tells (g.I.Source.left c.args.input.now) (g.I.Source.left c.run_recorded-ran.new.input) g.O.Sink.tells (g.O.Sink.contents c.args.out.now) (g.O.Sink.contents c.run_recorded-ran.new.out)
    (c.run_recorded-ran.ensures.some_output ms are.faithful are.well_formed true)

pub returns-in-Err-rows-clause-refused : goal.returns-in-Err-rows-clause-refused
returns-in-Err-rows-clause-refused g c =
    let plan = plan_of (program_units c.args.programs.now.modules.items) c.args.places.items c.args.request.now.arcs (asked_in c.args.request.now).context in
    let first = begun _ _ c.in-Ok-units_of.ensures _ _ _ _ c.as_str-fixed.ensures.value _ c.in-Ok-new.ensures.ok in
    let d = (state_of c.run_recorded-ran.new.recorder).0.data in
    inr (d, told-as g.A.Ask g.P.Plugin plan (state_of c.in-Ok-new.recorder).1 c.args.contexts c.in-Ok-new.ensures.sources _ _ _ c.finish-rows.ensures.plugins d d refl (c.in-Ok-ran.ensures.told plan first))

-- ---- a run with its data

pub returns-clause-meant : goal.returns-clause-meant
returns-clause-meant g c = λ ms hs code are true.
    let asked = asked_in c.args.request.now in
    let first = begun _ _ c.in-Ok-units_of.ensures _ _ _ _ c.as_str-fixed.ensures.value _ c.in-Ok-new.ensures.ok in
    let is = measuring g.A.Ask c.args.programs.now c.args.places.items ms hs code c.args.contexts are asked.arcs asked.context (state_of c.in-Ok-new.recorder) first c.in-Ok-new.ensures.sources in
    let found : c.in-Ok-rows.rows ≡ (state_of c.run_recorded-ran.new.recorder).0.data = search (rules, c.in-Ok-rows.is, c.finish-rows.ensures.data) in
    ended g.P.Plugin asked ms hs code c.args.contexts (words_in c.deref.result.now) (ap words_in c.deref.ensures.value ∙ c.in-Ok.ensures) c.in-Ok-ran.ran _ _ _ (state_of c.run_recorded-ran.new.recorder)
    g.I.Source.tells (g.I.Source.left c.args.input.now) (g.I.Source.left c.run_recorded-ran.new.input) (Wrote g.O.Sink.tells (g.O.Sink.contents c.args.out.now) (g.O.Sink.contents c.run_recorded-ran.new.out))
    c.in-Ok-new.ensures.sources refl refl found c.finish-rows.ensures.plugins (c.in-Ok-ran.ensures.meant ms hs asked.arcs asked.context code is true)

pub returns-clause-steps : goal.returns-clause-steps
returns-clause-steps g c = λ ms are true.
    let asked = asked_in c.args.request.now in
    let first = begun _ _ c.in-Ok-units_of.ensures _ _ _ _ c.as_str-fixed.ensures.value _ c.in-Ok-new.ensures.ok in
    let plan = plan_of (program_units c.args.programs.now.modules.items) c.args.places.items asked.arcs asked.context in
    let is = steady c.units_of_programs.ensures c.whole_plans.ensures c.args.programs.now c.args.places.items ms asked.arcs asked.context are in
    let found : c.in-Ok-rows.rows ≡ (state_of c.run_recorded-ran.new.recorder).0.data = search (rules, c.in-Ok-rows.is, c.finish-rows.ensures.data) in
    stepped c.units_of_programs.ensures c.args.programs.now c.args.places.items ms asked are (words_in c.deref.result.now) (ap words_in c.deref.ensures.value ∙ c.in-Ok.ensures) _ _ found
    g.I.Source.tells (g.I.Source.left c.args.input.now) (g.I.Source.left c.run_recorded-ran.new.input) (c.in-Ok-ran.ensures.steps ms plan is first true)

pub returns-clause-told : goal.returns-clause-told
returns-clause-told g c =
    let plan = plan_of (program_units c.args.programs.now.modules.items) c.args.places.items c.args.request.now.arcs (asked_in c.args.request.now).context in
    let first = begun _ _ c.in-Ok-units_of.ensures _ _ _ _ c.as_str-fixed.ensures.value _ c.in-Ok-new.ensures.ok in
    let found : c.in-Ok-rows.rows ≡ (state_of c.run_recorded-ran.new.recorder).0.data = search (rules, c.in-Ok-rows.is, c.finish-rows.ensures.data) in
    told-as g.A.Ask g.P.Plugin plan (state_of c.in-Ok-new.recorder).1 c.args.contexts c.in-Ok-new.ensures.sources _ _ _ c.finish-rows.ensures.plugins _ _ found (c.in-Ok-ran.ensures.told plan first)
