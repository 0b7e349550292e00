-- The headline, over all objects that tell what they hold.
use Rattle.cov_contexts.specs.declared.plugins.Plugin.{Ghosts as PluginOf}
use Rattle.cov_exclude.specs.declared.maker.Maker.{Ghosts as MakerOf}
use Rattle.cov_outside.specs.declared.shelf.Shelf.{Ghosts as ShelfOf}
use Rattle.cov_outside.specs.declared.sink.Sink.{Ghosts as SinkOf}
use Rattle.cov_outside.specs.declared.source.Source.{Ghosts as SourceOf}
use Rattle.py_machine.specs.declared.engine.Engine.{Ghosts as EngineOf}
use Rattle.cov_vault.specs.declared.vault.Vault.{Ghosts as VaultOf}
use Rattle.cov_headline.specs.Headline.{HeadlineLaw}
use Rattle.cov_headline.specs.Told.{held}
use Rattle.cov_headline.proofs.Lines.{words-kept}
use Rattle.cov_headline.proofs.Recorded.{CameLaw}
use Rattle.cov_headline.proofs.Telling.{held-so}

pub law_of_headline : CameLaw → {H V M I O P G E : Type 0} (shelf : ShelfOf H) (vault : VaultOf V) (maker : MakerOf M) (source : SourceOf I) (sink : SinkOf O) (plugin : PluginOf P) (engine : EngineOf G) (err : SinkOf E)
    → HeadlineLaw shelf vault maker source sink plugin engine err
law_of_headline came shelf vault maker source sink plugin engine err words old new ending tells none fed f =
    words-kept plugin came words (held shelf vault source sink err old) (held shelf vault source sink err new) ending (held-so shelf vault maker source sink plugin engine err words old new ending tells none fed f).ends
