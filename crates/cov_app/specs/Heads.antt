-- The headline of a whole call: of its words, and of the text that is said when it has ended.
--     Heads          what the objects hold keeps it
--     HeadsWhere     where they tell it
use Rattle.std.specs.Prelude.{◌≡◌, ◌≢◌, List, Result, Err}
use Rattle.cov_contexts.specs.declared.plugins.Plugin.{Ghosts as PluginOf}
use Rattle.cov_exclude.specs.declared.maker.Maker.{Ghosts as MakerOf}
use Rattle.cov_outside.specs.declared.shelf.Shelf.{Ghosts as ShelfOf}
use Rattle.cov_outside.specs.declared.sink.Sink.{Ghosts as SinkOf}
use Rattle.cov_outside.specs.declared.source.Source.{Ghosts as SourceOf}
use Rattle.py_machine.specs.declared.engine.Engine.{Ghosts as EngineOf}
use Rattle.cov_vault.specs.declared.vault.Vault.{Ghosts as VaultOf}
use Rattle.cov_headline.specs.Headline.{Headline}
use Rattle.cov_headline.specs.Told.{Lent, Held, held, IsSaidNow, AllTell, NoneRose}
use Rattle.cov_step.specs.Calls.{Answered}
use Rattle.cov_why.specs.Answers.{PlainWhy, no_memory}
use Rattle.cov_why.specs.Messages.{message_of}
use Rattle.cov_words.specs.Values.{Word}
use Rattle.cov_app.specs.Taken.{why_of, ending_in}

-- the words keep the headline, and then the text of the answer is said
pub record Heads {P : Type 0} (plugin : PluginOf P) (words : List Word) (why : PlainWhy)
    (old new : Held P) : Type 0 where
  pub ending : Result Answered PlainWhy
  pub before : Held P
  pub kept : Headline plugin words old ending before
  pub answered : why ≡ why_of ending
  pub said : IsSaidNow before.err (message_of why (ending_in ending)) new.err
  pub rest : new ≡ record before { err = new.err }

-- So it is where each object tells what it holds and counted no fault, the engine is true, and
-- memory sufficed.
abbrev pub HeadsWhere : {H V M I O P G E : Type 0} → ShelfOf H → VaultOf V → MakerOf M → SourceOf I
    → SinkOf O → PluginOf P → EngineOf G → SinkOf E → List Word → PlainWhy
    → (old new : Lent H V M I O P G E) → Type 0
HeadsWhere shelf vault maker source sink plugin engine err words why old new =
    AllTell shelf vault source sink engine err old.0.0.0.1
    → NoneRose shelf vault maker source sink err old new → why ≢ Err no_memory
    → Heads plugin words why (held shelf vault source sink err old)
    (held shelf vault source sink err new)
