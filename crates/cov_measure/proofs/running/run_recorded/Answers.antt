use Rattle.std.proofs.Common.{inl, inr, refl}
use Rattle.py_builtins.specs.Inputs.{Wrote}
use Rattle.cov_recorder.specs.Asking.{asks}
use Rattle.cov_recorder.specs.States.{state_of}
use Rattle.cov_measure.specs.Requests.{words_in}
use Rattle.cov_measure_laws.proofs.Leaving.{as-before}
use Rattle.cov_measure.proofs.GivingUp.{nothing_yet, stopped, ended}
use Rattle.cov_measure.proofs.Meaning.{measured, stepped, was-told, are-left, on-err}
use Rattle.cov_measure.proofs.running.run_recorded.Goals as goal

pub returns-clause-meant : goal.returns-clause-meant
returns-clause-meant g c = λ ms hs arcs fixed code is true.
    measured g.A.Ask g.P.Plugin state_of c.meant_data_of_modules.ensures c.traces_kept.ensures c.args.programs.now c.requires.some (words_in c.args.words.now) c.args.budget ms hs arcs fixed code
    c.args.recorder.now c.run.new.tracer is g.I.Source.tells (g.I.Source.left c.args.input.now) (g.I.Source.left c.run.new.input)
    (Wrote g.O.Sink.tells (g.O.Sink.contents c.args.out.now) (g.O.Sink.contents c.run.new.out)) c.in_ok-ran.ran _ _ c.in_ok-store.ensures (c.in_ok-ran.ensures.ok true)

pub returns-clause-steps : goal.returns-clause-steps
returns-clause-steps g c = λ ms plan is first true.
    stepped (asks g.A.Ask g.P.Plugin) state_of plan c.args.recorder.now c.run.new.tracer first c.whole_data_of_modules.ensures c.foreseen_data_of_modules.ensures c.traces_kept.ensures c.args.programs.now c.requires.some
    (words_in c.args.words.now) c.args.budget ms is g.I.Source.tells (g.I.Source.left c.args.input.now) (g.I.Source.left c.run.new.input)
    (Wrote g.O.Sink.tells (g.O.Sink.contents c.args.out.now) (g.O.Sink.contents c.run.new.out)) c.in_ok-ran.ran _ _ c.in_ok-store.ensures (c.in_ok-ran.ensures.ok true)

pub returns-clause-some_output : goal.returns-clause-some_output
returns-clause-some_output g c = λ ms faithful well true.
    ended ms (words_in c.args.words.now) c.args.budget g.I.Source.tells (g.I.Source.left c.args.input.now) (g.I.Source.left c.run.new.input) g.O.Sink.tells (g.O.Sink.contents c.args.out.now) (g.O.Sink.contents c.run.new.out)
    c.traces_kept.ensures c.args.programs.now c.requires.some faithful well _ _ _ c.in_ok-ran.ran c.in_ok-store.ensures (c.in_ok-ran.ensures.ok true)

pub returns-in_err-store-clause-some_output : goal.returns-in_err-store-clause-some_output
returns-in_err-store-clause-some_output g c = λ ms faithful well true.
    nothing_yet ms (words_in c.args.words.now) c.args.budget g.I.Source.tells (g.I.Source.left c.args.input.now) (g.I.Source.left c.args.input.now) g.O.Sink.tells (g.O.Sink.contents c.args.out.now) (g.O.Sink.contents c.args.out.now) refl refl

pub returns-in_err-ran-clause-some_output : goal.returns-in_err-ran-clause-some_output
returns-in_err-ran-clause-some_output g c = λ ms faithful well true.
    stopped ms (words_in c.args.words.now) c.args.budget g.I.Source.tells (g.I.Source.left c.args.input.now) (g.I.Source.left c.run.new.input) g.O.Sink.tells (g.O.Sink.contents c.args.out.now) (g.O.Sink.contents c.run.new.out)
    c.traces_kept.ensures c.args.programs.now c.requires.some faithful well _ _ c.in_ok-store.ensures (c.in_err-ran.ensures.given_up true)

pub returns-clause-told : goal.returns-clause-told
returns-clause-told g c = λ plan first. was-told g.A.Ask g.P.Plugin state_of c.args.recorder.now c.run.new.tracer _ c.recorded_rows.ensures plan first c.run.ensures.calls

pub returns-in_err-store-clause-refused : goal.returns-in_err-store-clause-refused
returns-in_err-store-clause-refused g c = λ plan first. on-err c.from_residual.result _ (inl (refl, refl))

pub returns-in_err-ran-clause-refused : goal.returns-in_err-ran-clause-refused
returns-in_err-ran-clause-refused g c = λ plan first.
    on-err c.from_residual-in_err-ran.result _ (inr (_, was-told g.A.Ask g.P.Plugin state_of c.args.recorder.now c.run.new.tracer _ c.recorded_rows.ensures plan first c.run.ensures.calls))

pub returns-clause-plugins : goal.returns-clause-plugins
returns-clause-plugins g c = are-left g.A.Ask g.P.Plugin state_of c.args.recorder.now c.run.new.tracer _ c.left_plugins.ensures c.run.ensures.calls

pub returns-in_err-store-clause-plugins : goal.returns-in_err-store-clause-plugins
returns-in_err-store-clause-plugins g c = as-before g.P.Plugin (state_of c.args.recorder.now).1.plugins

pub returns-in_err-ran-clause-plugins : goal.returns-in_err-ran-clause-plugins
returns-in_err-ran-clause-plugins g c = are-left g.A.Ask g.P.Plugin state_of c.args.recorder.now c.run.new.tracer _ c.left_plugins.ensures c.run.ensures.calls
