use Rattle.std.proofs.Common.{◌≡◌, ◌∙◌, ap, refl, subst, sym, true, map, string_bytes}
use Rattle.cov_calls.specs.Views.{answered_view}
use Rattle.cov_measure.specs.Measures.{streams}
use Rattle.cov_programs.proofs.Composing.{followed-so}
use Rattle.cov_step.specs.Calls.{seen}
use Rattle.cov_step.specs.Objects.{SayOf}
use Rattle.cov_step.specs.Step.{step}
use Rattle.cov_why.specs.Answers.{import_failed, is_refusal, pattern_size, plain_why, read_fault, shelf_fault, vault_fault, write_fault}
use Rattle.cov_why.specs.Messages.{message_of}
use Rattle.cov_app.specs.Early.{IsEarly}
use Rattle.cov_app.specs.Objects.{all_of, on_all, on_command, saying}
use Rattle.cov_app.specs.Taken.{why_of, ending_in}
use Rattle.cov_app.specs.declared.answer.Told.TheVariants.{Whole}
use Rattle.cov_app.proofs.Blaming.{input-counts, input-raised, maker-counts, maker-raised, out-counts, out-raised, shelf-counts, shelf-raised, vault-counts, vault-raised}
use Rattle.cov_app.proofs.Keeping.{data-left, files-left, refused-so, spelled-whole}
use Rattle.cov_app.proofs.Said.{failed-raised, only-said, said-counts, says-nothing, says-on}
use Rattle.cov_app.proofs.Ending.{done-so}
use Rattle.cov_app.proofs.Heads.{heads-so}
use Rattle.cov_app.proofs.Imports.{import-leaves}
use Rattle.cov_app.proofs.Joining.{combine-leaves}
use Rattle.cov_app.proofs.Streams.{plugins-left}
use Rattle.cov_app.proofs.Untouched.{streams-left}
use Rattle.cov_app.proofs.step.coverage.Goals as goal

pub returns-clause-step : goal.returns-clause-step
returns-clause-step g c =
    let ending = seen answered_view c.answer-answer.result in
    let last : SayOf g.E.Sink (saying c.answer-answer.new.err c.answer-answer.new.told) (message_of (plain_why c.parts-why.result.0) (ending_in ending)) (saying c.tell-told.new.err c.tell-told.result) =
    subst (λ bytes. SayOf g.E.Sink (saying c.answer-answer.new.err c.answer-answer.new.told) (message_of (plain_why c.parts-why.result.0) bytes) (saying c.tell-told.new.err c.tell-told.result)) (c.as_str.ensures.value ∙ c.parts-why.ensures.ending) c.tell-told.ensures in
    record {
      ending = ending;
      said = saying c.answer-answer.new.err c.answer-answer.new.told;
      step = c.answer-answer.ensures;
      answered = c.parts-why.ensures.answer;
      last = last;
      told = λ one. only-said g.E.Sink c.args.err.now c.tell-told.new.err (saying c.answer-answer.new.err c.answer-answer.new.told) (message_of (plain_why c.parts-why.result.0) (ending_in ending)) c.tell-told.result
          (says-nothing (on_all g.H.Shelf g.V.Vault g.M.Maker g.I.Source g.O.Sink g.P.Plugin g.G.Engine) g.E.Sink (spelled-whole g.H.Shelf g.V.Vault g.M.Maker g.I.Source g.O.Sink g.P.Plugin g.G.Engine g.E.Sink) (map string_bytes c.args.words.now) (all_of c.args.shelf.now c.args.vault.now c.args.maker.now (streams c.args.input.now c.args.out.now c.args.plugins.now.items c.args.engine.now), saying c.args.err.now Whole) (all_of c.answer-answer.new.shelf c.answer-answer.new.vault c.answer-answer.new.maker (streams c.answer-answer.new.input c.answer-answer.new.out c.answer-answer.new.plugins.items c.answer-answer.new.engine), saying c.answer-answer.new.err c.answer-answer.new.told) ending one c.answer-answer.ensures) last;
    }

pub returns-clause-headline : goal.returns-clause-headline
returns-clause-headline g c =
    let ending = seen answered_view c.answer-answer.result in
    let last : SayOf g.E.Sink (saying c.answer-answer.new.err c.answer-answer.new.told) (message_of (plain_why c.parts-why.result.0) (ending_in ending)) (saying c.tell-told.new.err c.tell-told.result) =
    subst (λ bytes. SayOf g.E.Sink (saying c.answer-answer.new.err c.answer-answer.new.told) (message_of (plain_why c.parts-why.result.0) bytes) (saying c.tell-told.new.err c.tell-told.result)) (c.as_str.ensures.value ∙ c.parts-why.ensures.ending) c.tell-told.ensures in
    heads-so g.H.Shelf g.V.Vault g.M.Maker g.I.Source g.O.Sink g.P.Plugin g.G.Engine g.E.Sink c.headline.ensures (map string_bytes c.args.words.now)
    (all_of c.args.shelf.now c.args.vault.now c.args.maker.now (streams c.args.input.now c.args.out.now c.args.plugins.now.items c.args.engine.now), saying c.args.err.now Whole)
    (all_of c.answer-answer.new.shelf c.answer-answer.new.vault c.answer-answer.new.maker (streams c.answer-answer.new.input c.answer-answer.new.out c.answer-answer.new.plugins.items c.answer-answer.new.engine), saying c.answer-answer.new.err c.answer-answer.new.told)
    (saying c.tell-told.new.err c.tell-told.result) ending _ c.parts-why.ensures.answer c.answer-answer.ensures last

pub returns-clause-told_failed : goal.returns-clause-told_failed
returns-clause-told_failed g c = λ is.
    failed-raised g.E.Sink c.args.err.now c.tell-told.new.err (saying c.answer-answer.new.err c.answer-answer.new.told) _ c.tell-told.result
    (says-on (on_all g.H.Shelf g.V.Vault g.M.Maker g.I.Source g.O.Sink g.P.Plugin g.G.Engine) g.E.Sink _ (all_of c.args.shelf.now c.args.vault.now c.args.maker.now (streams c.args.input.now c.args.out.now c.args.plugins.now.items c.args.engine.now), saying c.args.err.now Whole) (all_of c.answer-answer.new.shelf c.answer-answer.new.vault c.answer-answer.new.maker (streams c.answer-answer.new.input c.answer-answer.new.out c.answer-answer.new.plugins.items c.answer-answer.new.engine), saying c.answer-answer.new.err c.answer-answer.new.told) _ c.answer-answer.ensures) c.tell-told.ensures is

pub returns-clause-read_fault : goal.returns-clause-read_fault
returns-clause-read_fault g c = λ is.
    let ended = refused-so (seen answered_view c.answer-answer.result) read_fault (sym c.parts-why.ensures.answer ∙ ap plain_why is) in
    input-raised g.H.Shelf g.V.Vault g.M.Maker g.I.Source g.O.Sink g.P.Plugin g.G.Engine g.E.Sink read_fault refl (map string_bytes c.args.words.now) (all_of c.args.shelf.now c.args.vault.now c.args.maker.now (streams c.args.input.now c.args.out.now c.args.plugins.now.items c.args.engine.now), saying c.args.err.now Whole) (all_of c.answer-answer.new.shelf c.answer-answer.new.vault c.answer-answer.new.maker (streams c.answer-answer.new.input c.answer-answer.new.out c.answer-answer.new.plugins.items c.answer-answer.new.engine), saying c.answer-answer.new.err c.answer-answer.new.told) (followed-so (on_command g.H.Shelf g.V.Vault g.M.Maker g.I.Source g.O.Sink g.P.Plugin g.G.Engine g.E.Sink) refl ended c.answer-answer.ensures)

pub returns-clause-write_fault : goal.returns-clause-write_fault
returns-clause-write_fault g c = λ is.
    let ended = refused-so (seen answered_view c.answer-answer.result) write_fault (sym c.parts-why.ensures.answer ∙ ap plain_why is) in
    out-raised g.H.Shelf g.V.Vault g.M.Maker g.I.Source g.O.Sink g.P.Plugin g.G.Engine g.E.Sink write_fault refl (map string_bytes c.args.words.now) (all_of c.args.shelf.now c.args.vault.now c.args.maker.now (streams c.args.input.now c.args.out.now c.args.plugins.now.items c.args.engine.now), saying c.args.err.now Whole) (all_of c.answer-answer.new.shelf c.answer-answer.new.vault c.answer-answer.new.maker (streams c.answer-answer.new.input c.answer-answer.new.out c.answer-answer.new.plugins.items c.answer-answer.new.engine), saying c.answer-answer.new.err c.answer-answer.new.told) (followed-so (on_command g.H.Shelf g.V.Vault g.M.Maker g.I.Source g.O.Sink g.P.Plugin g.G.Engine g.E.Sink) refl ended c.answer-answer.ensures)

pub returns-clause-shelf_fault : goal.returns-clause-shelf_fault
returns-clause-shelf_fault g c = λ is.
    let ended = refused-so (seen answered_view c.answer-answer.result) shelf_fault (sym c.parts-why.ensures.answer ∙ ap plain_why is) in
    shelf-raised g.H.Shelf g.V.Vault g.M.Maker g.I.Source g.O.Sink g.P.Plugin g.G.Engine g.E.Sink shelf_fault refl (map string_bytes c.args.words.now) (all_of c.args.shelf.now c.args.vault.now c.args.maker.now (streams c.args.input.now c.args.out.now c.args.plugins.now.items c.args.engine.now), saying c.args.err.now Whole) (all_of c.answer-answer.new.shelf c.answer-answer.new.vault c.answer-answer.new.maker (streams c.answer-answer.new.input c.answer-answer.new.out c.answer-answer.new.plugins.items c.answer-answer.new.engine), saying c.answer-answer.new.err c.answer-answer.new.told) (followed-so (on_command g.H.Shelf g.V.Vault g.M.Maker g.I.Source g.O.Sink g.P.Plugin g.G.Engine g.E.Sink) refl ended c.answer-answer.ensures)

pub returns-clause-vault_fault : goal.returns-clause-vault_fault
returns-clause-vault_fault g c = λ is.
    let ended = refused-so (seen answered_view c.answer-answer.result) vault_fault (sym c.parts-why.ensures.answer ∙ ap plain_why is) in
    vault-raised g.H.Shelf g.V.Vault g.M.Maker g.I.Source g.O.Sink g.P.Plugin g.G.Engine g.E.Sink vault_fault refl (map string_bytes c.args.words.now) (all_of c.args.shelf.now c.args.vault.now c.args.maker.now (streams c.args.input.now c.args.out.now c.args.plugins.now.items c.args.engine.now), saying c.args.err.now Whole) (all_of c.answer-answer.new.shelf c.answer-answer.new.vault c.answer-answer.new.maker (streams c.answer-answer.new.input c.answer-answer.new.out c.answer-answer.new.plugins.items c.answer-answer.new.engine), saying c.answer-answer.new.err c.answer-answer.new.told) (followed-so (on_command g.H.Shelf g.V.Vault g.M.Maker g.I.Source g.O.Sink g.P.Plugin g.G.Engine g.E.Sink) refl ended c.answer-answer.ensures)

pub returns-clause-pattern_size : goal.returns-clause-pattern_size
returns-clause-pattern_size g c = λ at is.
    let ended = refused-so (seen answered_view c.answer-answer.result) (pattern_size at) (sym c.parts-why.ensures.answer ∙ ap plain_why is) in
    maker-raised g.H.Shelf g.V.Vault g.M.Maker g.I.Source g.O.Sink g.P.Plugin g.G.Engine g.E.Sink (pattern_size at) refl (map string_bytes c.args.words.now) (all_of c.args.shelf.now c.args.vault.now c.args.maker.now (streams c.args.input.now c.args.out.now c.args.plugins.now.items c.args.engine.now), saying c.args.err.now Whole) (all_of c.answer-answer.new.shelf c.answer-answer.new.vault c.answer-answer.new.maker (streams c.answer-answer.new.input c.answer-answer.new.out c.answer-answer.new.plugins.items c.answer-answer.new.engine), saying c.answer-answer.new.err c.answer-answer.new.told) (followed-so (on_command g.H.Shelf g.V.Vault g.M.Maker g.I.Source g.O.Sink g.P.Plugin g.G.Engine g.E.Sink) refl ended c.answer-answer.ensures)

pub returns-clause-kept : goal.returns-clause-kept
returns-clause-kept g c = λ refused changes.
    let ending = seen answered_view c.answer-answer.result in
    let so : is_refusal (why_of ending) ≡ true = ap is_refusal (sym c.parts-why.ensures.answer) ∙ refused in
    record {
      files = λ told. files-left g.H.Shelf g.V.Vault g.M.Maker g.I.Source g.O.Sink g.P.Plugin g.G.Engine g.E.Sink told (map string_bytes c.args.words.now) (all_of c.args.shelf.now c.args.vault.now c.args.maker.now (streams c.args.input.now c.args.out.now c.args.plugins.now.items c.args.engine.now), saying c.args.err.now Whole) (all_of c.answer-answer.new.shelf c.answer-answer.new.vault c.answer-answer.new.maker (streams c.answer-answer.new.input c.answer-answer.new.out c.answer-answer.new.plugins.items c.answer-answer.new.engine), saying c.answer-answer.new.err c.answer-answer.new.told) ending so changes c.answer-answer.ensures;
      contents = λ told. data-left g.H.Shelf g.V.Vault g.M.Maker g.I.Source g.O.Sink g.P.Plugin g.G.Engine g.E.Sink (map string_bytes c.args.words.now) (all_of c.args.shelf.now c.args.vault.now c.args.maker.now (streams c.args.input.now c.args.out.now c.args.plugins.now.items c.args.engine.now), saying c.args.err.now Whole) (all_of c.answer-answer.new.shelf c.answer-answer.new.vault c.answer-answer.new.maker (streams c.answer-answer.new.input c.answer-answer.new.out c.answer-answer.new.plugins.items c.answer-answer.new.engine), saying c.answer-answer.new.err c.answer-answer.new.told) ending told so changes c.answer-answer.ensures;
    }

pub returns-clause-untouched : goal.returns-clause-untouched
returns-clause-untouched g c = λ early one.
    streams-left g.H.Shelf g.V.Vault g.M.Maker g.I.Source g.O.Sink g.P.Plugin g.G.Engine g.E.Sink (map string_bytes c.args.words.now)
    (all_of c.args.shelf.now c.args.vault.now c.args.maker.now (streams c.args.input.now c.args.out.now c.args.plugins.now.items c.args.engine.now), saying c.args.err.now Whole)
    (all_of c.answer-answer.new.shelf c.answer-answer.new.vault c.answer-answer.new.maker (streams c.answer-answer.new.input c.answer-answer.new.out c.answer-answer.new.plugins.items c.answer-answer.new.engine), saying c.answer-answer.new.err c.answer-answer.new.told)
    (seen answered_view c.answer-answer.result) (subst (λ why. IsEarly (map string_bytes c.args.words.now) (g.V.Vault.tells c.args.vault.now) why) c.parts-why.ensures.answer early) one c.answer-answer.ensures

pub returns-clause-imports : goal.returns-clause-imports
returns-clause-imports g c = λ file is one.
    let ended = refused-so (seen answered_view c.answer-answer.result) (import_failed file) (sym c.parts-why.ensures.answer ∙ is) in
    import-leaves g.H.Shelf g.V.Vault g.M.Maker g.I.Source g.O.Sink g.P.Plugin g.G.Engine g.E.Sink (map string_bytes c.args.words.now)
    (all_of c.args.shelf.now c.args.vault.now c.args.maker.now (streams c.args.input.now c.args.out.now c.args.plugins.now.items c.args.engine.now), saying c.args.err.now Whole)
    (all_of c.answer-answer.new.shelf c.answer-answer.new.vault c.answer-answer.new.maker (streams c.answer-answer.new.input c.answer-answer.new.out c.answer-answer.new.plugins.items c.answer-answer.new.engine), saying c.answer-answer.new.err c.answer-answer.new.told)
    file one (followed-so (on_command g.H.Shelf g.V.Vault g.M.Maker g.I.Source g.O.Sink g.P.Plugin g.G.Engine g.E.Sink) refl ended c.answer-answer.ensures)

pub returns-clause-plugins : goal.returns-clause-plugins
returns-clause-plugins g c =
    plugins-left g.H.Shelf g.V.Vault g.M.Maker g.I.Source g.O.Sink g.P.Plugin g.G.Engine g.E.Sink (step (map string_bytes c.args.words.now))
    (all_of c.args.shelf.now c.args.vault.now c.args.maker.now (streams c.args.input.now c.args.out.now c.args.plugins.now.items c.args.engine.now), saying c.args.err.now Whole)
    (all_of c.answer-answer.new.shelf c.answer-answer.new.vault c.answer-answer.new.maker (streams c.answer-answer.new.input c.answer-answer.new.out c.answer-answer.new.plugins.items c.answer-answer.new.engine), saying c.answer-answer.new.err c.answer-answer.new.told)
    (seen answered_view c.answer-answer.result) c.answer-answer.ensures

pub returns-clause-combined : goal.returns-clause-combined
returns-clause-combined g c = λ append keep data_file rcfile names of.
    combine-leaves g.H.Shelf g.V.Vault g.M.Maker g.I.Source g.O.Sink g.P.Plugin g.G.Engine g.E.Sink append keep data_file rcfile names (map string_bytes c.args.words.now)
    (all_of c.args.shelf.now c.args.vault.now c.args.maker.now (streams c.args.input.now c.args.out.now c.args.plugins.now.items c.args.engine.now), saying c.args.err.now Whole)
    (all_of c.answer-answer.new.shelf c.answer-answer.new.vault c.answer-answer.new.maker (streams c.answer-answer.new.input c.answer-answer.new.out c.answer-answer.new.plugins.items c.answer-answer.new.engine), saying c.answer-answer.new.err c.answer-answer.new.told)
    (seen answered_view c.answer-answer.result) _ c.parts-why.ensures.answer of c.answer-answer.ensures

pub returns-clause-counts : goal.returns-clause-counts
returns-clause-counts g c = (
  shelf-counts g.H.Shelf g.V.Vault g.M.Maker g.I.Source g.O.Sink g.P.Plugin g.G.Engine g.E.Sink (step (map string_bytes c.args.words.now))
      (all_of c.args.shelf.now c.args.vault.now c.args.maker.now (streams c.args.input.now c.args.out.now c.args.plugins.now.items c.args.engine.now), saying c.args.err.now Whole)
      (all_of c.answer-answer.new.shelf c.answer-answer.new.vault c.answer-answer.new.maker (streams c.answer-answer.new.input c.answer-answer.new.out c.answer-answer.new.plugins.items c.answer-answer.new.engine), saying c.answer-answer.new.err c.answer-answer.new.told)
      (seen answered_view c.answer-answer.result) c.answer-answer.ensures,
  vault-counts g.H.Shelf g.V.Vault g.M.Maker g.I.Source g.O.Sink g.P.Plugin g.G.Engine g.E.Sink (step (map string_bytes c.args.words.now))
      (all_of c.args.shelf.now c.args.vault.now c.args.maker.now (streams c.args.input.now c.args.out.now c.args.plugins.now.items c.args.engine.now), saying c.args.err.now Whole)
      (all_of c.answer-answer.new.shelf c.answer-answer.new.vault c.answer-answer.new.maker (streams c.answer-answer.new.input c.answer-answer.new.out c.answer-answer.new.plugins.items c.answer-answer.new.engine), saying c.answer-answer.new.err c.answer-answer.new.told)
      (seen answered_view c.answer-answer.result) c.answer-answer.ensures,
  maker-counts g.H.Shelf g.V.Vault g.M.Maker g.I.Source g.O.Sink g.P.Plugin g.G.Engine g.E.Sink (step (map string_bytes c.args.words.now))
      (all_of c.args.shelf.now c.args.vault.now c.args.maker.now (streams c.args.input.now c.args.out.now c.args.plugins.now.items c.args.engine.now), saying c.args.err.now Whole)
      (all_of c.answer-answer.new.shelf c.answer-answer.new.vault c.answer-answer.new.maker (streams c.answer-answer.new.input c.answer-answer.new.out c.answer-answer.new.plugins.items c.answer-answer.new.engine), saying c.answer-answer.new.err c.answer-answer.new.told)
      (seen answered_view c.answer-answer.result) c.answer-answer.ensures,
  input-counts g.H.Shelf g.V.Vault g.M.Maker g.I.Source g.O.Sink g.P.Plugin g.G.Engine g.E.Sink (step (map string_bytes c.args.words.now))
      (all_of c.args.shelf.now c.args.vault.now c.args.maker.now (streams c.args.input.now c.args.out.now c.args.plugins.now.items c.args.engine.now), saying c.args.err.now Whole)
      (all_of c.answer-answer.new.shelf c.answer-answer.new.vault c.answer-answer.new.maker (streams c.answer-answer.new.input c.answer-answer.new.out c.answer-answer.new.plugins.items c.answer-answer.new.engine), saying c.answer-answer.new.err c.answer-answer.new.told)
      (seen answered_view c.answer-answer.result) c.answer-answer.ensures,
  out-counts g.H.Shelf g.V.Vault g.M.Maker g.I.Source g.O.Sink g.P.Plugin g.G.Engine g.E.Sink (step (map string_bytes c.args.words.now))
      (all_of c.args.shelf.now c.args.vault.now c.args.maker.now (streams c.args.input.now c.args.out.now c.args.plugins.now.items c.args.engine.now), saying c.args.err.now Whole)
      (all_of c.answer-answer.new.shelf c.answer-answer.new.vault c.answer-answer.new.maker (streams c.answer-answer.new.input c.answer-answer.new.out c.answer-answer.new.plugins.items c.answer-answer.new.engine), saying c.answer-answer.new.err c.answer-answer.new.told)
      (seen answered_view c.answer-answer.result) c.answer-answer.ensures,
  said-counts g.E.Sink c.args.err.now c.tell-told.new.err (saying c.answer-answer.new.err c.answer-answer.new.told) _ c.tell-told.result
      (says-on (on_all g.H.Shelf g.V.Vault g.M.Maker g.I.Source g.O.Sink g.P.Plugin g.G.Engine) g.E.Sink _ (all_of c.args.shelf.now c.args.vault.now c.args.maker.now (streams c.args.input.now c.args.out.now c.args.plugins.now.items c.args.engine.now), saying c.args.err.now Whole) (all_of c.answer-answer.new.shelf c.answer-answer.new.vault c.answer-answer.new.maker (streams c.answer-answer.new.input c.answer-answer.new.out c.answer-answer.new.plugins.items c.answer-answer.new.engine), saying c.answer-answer.new.err c.answer-answer.new.told) _ c.answer-answer.ensures) c.tell-told.ensures,
)

pub returns-clause-complete : goal.returns-clause-complete
returns-clause-complete g c = λ command is ready files contents none.
    done-so (seen answered_view c.answer-answer.result) _ c.parts-why.ensures.answer
    (c.complete.ensures (map string_bytes c.args.words.now) command
    (all_of c.args.shelf.now c.args.vault.now c.args.maker.now (streams c.args.input.now c.args.out.now c.args.plugins.now.items c.args.engine.now))
    (all_of c.answer-answer.new.shelf c.answer-answer.new.vault c.answer-answer.new.maker (streams c.answer-answer.new.input c.answer-answer.new.out c.answer-answer.new.plugins.items c.answer-answer.new.engine))
    (saying c.args.err.now Whole) (saying c.answer-answer.new.err c.answer-answer.new.told) (seen answered_view c.answer-answer.result) is ready files contents none c.answer-answer.ensures)

pub returns-clause-complete_script : goal.returns-clause-complete_script
returns-clause-complete_script g c = λ name is ready files contents none.
    done-so (seen answered_view c.answer-answer.result) _ c.parts-why.ensures.answer
    (c.complete_script.ensures (map string_bytes c.args.words.now) name
    (all_of c.args.shelf.now c.args.vault.now c.args.maker.now (streams c.args.input.now c.args.out.now c.args.plugins.now.items c.args.engine.now))
    (all_of c.answer-answer.new.shelf c.answer-answer.new.vault c.answer-answer.new.maker (streams c.answer-answer.new.input c.answer-answer.new.out c.answer-answer.new.plugins.items c.answer-answer.new.engine))
    (saying c.args.err.now Whole) (saying c.answer-answer.new.err c.answer-answer.new.told) (seen answered_view c.answer-answer.result) is ready files contents none c.answer-answer.ensures)

pub returns-clause-caused : goal.returns-clause-caused
returns-clause-caused g c = λ none files told quiet. (
  seen answered_view c.answer-answer.result,
  c.parts-why.ensures.answer,
  c.caused.ensures (map string_bytes c.args.words.now)
      (all_of c.args.shelf.now c.args.vault.now c.args.maker.now (streams c.args.input.now c.args.out.now c.args.plugins.now.items c.args.engine.now))
      (all_of c.answer-answer.new.shelf c.answer-answer.new.vault c.answer-answer.new.maker (streams c.answer-answer.new.input c.answer-answer.new.out c.answer-answer.new.plugins.items c.answer-answer.new.engine))
      (saying c.args.err.now Whole) (saying c.answer-answer.new.err c.answer-answer.new.told)
      (seen answered_view c.answer-answer.result) none files told quiet c.answer-answer.ensures,
)

pub returns-clause-caused_script : goal.returns-clause-caused_script
returns-clause-caused_script g c = λ name is files told quiet. (
  seen answered_view c.answer-answer.result,
  c.parts-why.ensures.answer,
  c.caused_scripts.ensures (map string_bytes c.args.words.now) name
      (all_of c.args.shelf.now c.args.vault.now c.args.maker.now (streams c.args.input.now c.args.out.now c.args.plugins.now.items c.args.engine.now))
      (all_of c.answer-answer.new.shelf c.answer-answer.new.vault c.answer-answer.new.maker (streams c.answer-answer.new.input c.answer-answer.new.out c.answer-answer.new.plugins.items c.answer-answer.new.engine))
      (saying c.args.err.now Whole) (saying c.answer-answer.new.err c.answer-answer.new.told)
      (seen answered_view c.answer-answer.result) is files told quiet c.answer-answer.ensures,
)
