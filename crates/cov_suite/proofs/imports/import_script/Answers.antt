use Rattle.std.proofs.lemmas.Result.{IfOk-at_ok}
use Rattle.cov_data.specs.DataSet.{DataSet}
use Rattle.cov_recorder.specs.States.{state_of}
use Rattle.std.proofs.Common.{◌≡◌, ap, ◌∙◌}
use Rattle.cov_measure_laws.proofs.Leaving.{as-before, same-list}
use Rattle.py_code.specs.Loaded.{modules_of}
use Rattle.py_code.specs.Programs.{first_world}
use Rattle.py_world.specs.Stores.{words_of, world_of}
use Rattle.cov_suite.proofs.Recording.{import-is, import-plan}
use Rattle.cov_suite.proofs.imports.import_script.Goals as goal

pub returns-in_err-words-clause-plugins : goal.returns-in_err-words-clause-plugins
returns-in_err-words-clause-plugins g c = as-before g.P.Plugin c.args.plugins.now.items

pub returns-in_err-store-clause-plugins : goal.returns-in_err-store-clause-plugins
returns-in_err-store-clause-plugins g c = as-before g.P.Plugin c.args.plugins.now.items

pub returns-in_err-recorder-clause-plugins : goal.returns-in_err-recorder-clause-plugins
returns-in_err-recorder-clause-plugins g c = same-list g.P.Plugin c.args.plugins.now.items c.new_recorder.new.plugins.items c.in_err-recorder.ensures.err

pub returns-clause-imports : goal.returns-clause-imports
returns-clause-imports g c =
    import-is g.P.Plugin c.recorded_rows.ensures c.args.plan c.args.plugins.now.items c.in_ok-recorder.recorder c.record_script-ran.new.recorder c.in_ok-recorder.ensures.ok
    c.in_ok-rows.field-0 c.finish_recorder-rows.new.plugins.items (IfOk-at_ok (λ (d : DataSet). d ≡ (state_of c.record_script-ran.new.recorder).0.data) c.in_ok-rows.was c.finish_recorder-rows.ensures.rows) c.finish_recorder-rows.ensures.plugins
    (modules_of c.args.programs.now) c.args.budget (world_of c.in_ok-store.store) c.in_ok-ran.field-0 (world_of c.record_script-ran.new.store)
    (c.in_ok-store.ensures ∙ ap (first_world (modules_of c.args.programs.now)) (ap words_of c.deref.ensures.value ∙ c.in_ok-words.ensures)) c.in_ok-ran.ensures.ran

pub returns-clause-next : goal.returns-clause-next
returns-clause-next g c =
    import-plan g.P.Plugin c.args.plan c.args.plugins.now.items c.in_ok-recorder.recorder c.record_script-ran.new.recorder c.in_ok-recorder.ensures.ok c.finish_recorder-rows.result.1 c.finish_recorder-rows.ensures.plan
    (modules_of c.args.programs.now) c.args.budget (world_of c.in_ok-store.store) (world_of c.record_script-ran.new.store) c.in_ok-ran.field-0 c.in_ok-ran.ensures.ran
