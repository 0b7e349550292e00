-- Words of a command that is ready aren't refused.
use Rattle.std.proofs.Common.{◌≡◌, ℕ, ◌≤◌, refl, sym, subst, List, Result, Ok, Err}
use Rattle.cov_outside.specs.declared.shelf.Shelf.{Ghosts as ShelfOf}
use Rattle.cov_outside.specs.declared.sink.Sink.{Ghosts as SinkOf}
use Rattle.cov_outside.specs.declared.source.Source.{Ghosts as SourceOf}
use Rattle.cov_contexts.specs.declared.plugins.Plugin.{Ghosts as PluginOf}
use Rattle.cov_exclude.specs.declared.maker.Maker.{Ghosts as MakerOf}
use Rattle.cov_load_laws.specs.Completeness.{Completes}
use Rattle.cov_load_laws.specs.Readings.{OneReading}
use Rattle.cov_make_laws.specs.Readings.{MadeAreRead}
use Rattle.cov_programs.specs.Objects.{Moves}
use Rattle.cov_programs.specs.Ends.{Ends}
use Rattle.cov_programs.specs.Laws.{IsFed, Yields}
use Rattle.cov_programs.proofs.Telling.{told-of}
use Rattle.cov_step.specs.Calls.{Call, Answer, Step, IsNoMemory}
use Rattle.cov_step.specs.Objects.{Saying}
use Rattle.cov_step.specs.Promises.{is_hungry}
use Rattle.cov_step.specs.Step.{doing, step}
use Rattle.cov_step.proofs.Yielding.{law_of_want}
use Rattle.cov_vault.specs.declared.vault.Vault.{Ghosts as VaultOf}
use Rattle.cov_why.specs.Answers.{PlainWhy, no_memory}
use Rattle.cov_words.specs.Commands.{PlainCommand, IsCommand, IsOneCommand}
use Rattle.cov_words.specs.Commands as plain
use Rattle.cov_words.specs.Values.{Word}
use Rattle.py_machine.specs.declared.engine.Engine.{Ghosts as EngineOf}
use Rattle.cov_complete_laws.specs.Ready.{Ready}
use Rattle.cov_complete_laws.specs.Complete.{Lent, on_lent, NoneRose, EndsWell, CompleteLaw}
use Rattle.cov_complete_laws.proofs.Sure.{Sure, sure-ends}
use Rattle.cov_complete_laws.proofs.Holding.{Holding, told}
use Rattle.cov_complete_laws.proofs.Commands.{Ends as Completes_so, doing-sure}
use Rattle.cov_complete_laws.proofs.Objects.{held, telling}

-- it is want of memory, or it isn't
decided : (why : PlainWhy) → ((why ≡ Err no_memory → ⊥) → ⊥) → why ≡ Err no_memory
decided (Ok ended) h = absurd (h (λ e. cc))
decided (Err no_memory) h = refl
decided (Err r) h = absurd (h (λ e. cc))

err-ok : {A R : Type 0} {a : A} {r : R} → ◌≡◌ {A = Result A R} (Err r) (Ok a) → ⊥
err-ok e = cc

-- a program that isn't refused but for want of memory
ends-well : {A : Type 0} (e : Result A PlainWhy) → (IsFed IsNoMemory e → (a : A) × (e ≡ Ok a)) → EndsWell e
ends-well (Ok a) h = tt
ends-well (Err why) h = decided why (λ n. err-ok (h n).1)

module _ {H V M I O P G E : Type 0} (shelf : ShelfOf H) (vault : VaultOf V) (maker : MakerOf M) (source : SourceOf I) (sink : SinkOf O) (plugin : PluginOf P) (engine : EngineOf G) (err : SinkOf E) where
  abbrev pub World : Type 0
  World = Lent H V M I O P G × Saying E

  abbrev pub whole : Moves Call Answer World
  whole = on_lent shelf vault maker source sink plugin engine err

  abbrev pub holding : World → Holding
  holding w = held shelf vault maker source sink plugin engine err w

  -- a program that is sure ends well
  pub runs-well : {A : Type 0} (p : Step A) (old new : World) (e : Result A PlainWhy) → shelf.tells → vault.tells old.0.0.0.1 → NoneRose shelf vault maker source sink old.0 new.0 → Yields IsNoMemory is_hungry p
      → Sure told (λ a t. Unit {0}) p (holding old) → Ends whole IsNoMemory p old e new → EndsWell e
  runs-well p old new e files data_told none y h k =
      ends-well e (λ fed. sure-ends told (λ a t. Unit {0}) p (holding old) (holding new) e
      (told-of (telling shelf vault maker source sink plugin engine err files) IsNoMemory p old new e y fed (data_told, none) k) h)

module _ (completes : Completes) (one : OneReading) (law : MadeAreRead) (once : IsOneCommand)
    (small : (words : List Word) (seed size : ℕ) → IsCommand (plain.make seed size) words → size ≤ 16000) where
  step-sure : (words : List Word) (c : PlainCommand) (t : Holding) → IsCommand c words → Ready t.0 t.1 c → Completes_so (step words) t
  step-sure words c t is h (Ok d) u m =
      let same = once words d c m.0.says_so is in
      subst (λ b. Completes_so (doing b) u) (sym same) (subst (λ v. Completes_so (doing c) v) (sym (m.1 refl))
      (doing-sure t completes one law c (λ seed size e. small words seed size (subst (λ b. IsCommand b words) e is)) h))
  step-sure words c t is h (Err i) u m = absurd (m.0.says_so.0 c is)

  pub complete : {H V M I O P G E : Type 0} (shelf : ShelfOf H) (vault : VaultOf V) (maker : MakerOf M) (source : SourceOf I) (sink : SinkOf O) (plugin : PluginOf P) (engine : EngineOf G) (err : SinkOf E) → CompleteLaw shelf vault maker source sink plugin engine err
  complete shelf vault maker source sink plugin engine err words c old new said spoken e is h files data_told none f =
      runs-well shelf vault maker source sink plugin engine err (step words) (old, said) (new, spoken) e files data_told none (law_of_want words)
      (step-sure words c (held shelf vault maker source sink plugin engine err (old, said)) is h) f.ends
