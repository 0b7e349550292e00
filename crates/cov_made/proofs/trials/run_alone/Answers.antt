use Rattle.std.proofs.Common.{[], ◌∷◌, refl, ◌∙◌}
use Rattle.cov_programs.proofs.Composing.{asks, on-nobody}
use Rattle.cov_run.specs.Loads.{loaded_modules}
use Rattle.cov_step.specs.Commands.{usual_steps, words_of}
use Rattle.cov_step.specs.Making.{made_module, made_path}
use Rattle.cov_streams.specs.Trials.{on_trial}
use Rattle.cov_made.specs.Views.{source_view, tried_view}
use Rattle.cov_made.proofs.Running.{holds-one, no-rise, tried-answer}
use Rattle.cov_made.proofs.trials.run_alone.Goals as goal

pub measure-requires-clause-some : goal.measure-requires-clause-some
measure-requires-clause-some c = c.requires.made.measurable.some

pub measure-requires-clause-few : goal.measure-requires-clause-few
measure-requires-clause-few c = c.requires.made.measurable.few

pub measure-requires-clause-begin : goal.measure-requires-clause-begin
measure-requires-clause-begin c = c.requires.made.measurable.begin

pub ran-requires-clause-read : goal.ran-requires-clause-read
ran-requires-clause-read c = λ e. no-rise (c.measure.ensures.read_fault e)

pub ran-requires-clause-written : goal.ran-requires-clause-written
ran-requires-clause-written c = λ e. no-rise (c.measure.ensures.write_fault e)

pub returns : goal.returns
returns c =
    let ms = loaded_modules c.args.source.now.loaded in
    let one = made_module (source_view c.args.source.now) in
    asks (tried_view c.measure.result) tt
    (record {
      tried =
          tried-answer _ _ _ _ tt tt _ _ (c.new-input.ensures ∙ c.new-nothing.ensures.items)
          c.new-none.ensures.items ms (one ∷ []) c.requires.made.one (words_of made_path [])
          usual_steps _ c.requires.asked c.measure.result
          (c.measure.ensures.measured ms []
          (c.requires.made.measurable.trees c.args.sets.items
          (holds-one one ms c.args.sets.items c.requires.made.one c.requires.sets)) tt tt);
      same = refl;
    })
    (on-nobody on_trial tt c.ran.ensures)
