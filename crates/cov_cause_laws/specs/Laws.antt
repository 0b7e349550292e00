-- Refusals come exactly where their causes hold, by shelf and vault that tell what they hold, where
-- no fault is counted.
--     OnlyCauses        causes are of files, data and words
--     OnlyImports       an import that didn't finish refuses only a command that imports its file
--     OneCause          one cause refuses
--     CauseLaw          words
--     LineLaw           a line of a script
--     ScriptCauseLaw    a script
use Rattle.std.specs.Prelude.{◌≡◌, ℕ, true, false, List, Some, Result}
use Rattle.cov_contexts.specs.declared.plugins.Plugin.{Ghosts as PluginOf}
use Rattle.cov_exclude.specs.declared.maker.Maker.{Ghosts as MakerOf}
use Rattle.cov_outside.specs.Files.{Files}
use Rattle.cov_outside.specs.declared.shelf.Shelf.{Ghosts as ShelfOf}
use Rattle.cov_outside.specs.declared.sink.Sink.{Ghosts as SinkOf}
use Rattle.cov_outside.specs.declared.source.Source.{Ghosts as SourceOf}
use Rattle.cov_programs.specs.Ends.{Follows}
use Rattle.cov_step.specs.Calls.{Answered, IsNoMemory}
use Rattle.cov_step.specs.Objects.{Saying}
use Rattle.cov_step.specs.Scripts.{line_step}
use Rattle.cov_step.specs.Step.{step}
use Rattle.cov_vault.specs.Contents.{Contents}
use Rattle.cov_vault.specs.declared.vault.Vault.{Ghosts as VaultOf}
use Rattle.cov_why.specs.Answers.{Refusal, PlainWhy, import_failed}
use Rattle.cov_words.specs.Commands.{PlainCommand, IsCommand}
use Rattle.cov_words.specs.Commands as plain
use Rattle.cov_words.specs.Values.{Word}
use Rattle.py_machine.specs.declared.engine.Engine.{Ghosts as EngineOf}
use Rattle.cov_complete_laws.specs.Complete.{Lent, on_lent, NoneRose}
use Rattle.cov_cause_laws.specs.Causes.{IsRefusedFor, imported_by, is_bad_pattern, has_cause}
use Rattle.cov_cause_laws.specs.Lines.{IsLineRefused}
use Rattle.cov_cause_laws.specs.Exactly.{IsExact, IsScriptExact, NoScript}

-- no cause is a fault, nor want of memory
abbrev pub OnlyCauses : Type 0
OnlyCauses =
    (files : Files) (contents : Contents) (words : List Word) (why : Refusal)
    → IsRefusedFor files contents words why → has_cause why ≡ true

-- only commands that import tests are refused for an import that didn't finish: for that of their
-- own file
abbrev pub OnlyImports : Type 0
OnlyImports =
    (files : Files) (contents : Contents) (words : List Word) (file : Word)
    → IsRefusedFor files contents words (import_failed file)
    → (c : PlainCommand) × IsCommand c words × (imported_by c ≡ Some file)

-- two causes of words, neither of them a pattern's, are the same refusal
abbrev pub OneCause : Type 0
OneCause =
    (files : Files) (contents : Contents) (words : List Word) (r s : Refusal)
    → is_bad_pattern r ≡ false → is_bad_pattern s ≡ false → IsRefusedFor files contents words r
    → IsRefusedFor files contents words s → r ≡ s

-- words that are no script are refused exactly for their causes
abbrev pub CauseLaw : {H V M I O P G E : Type 0} → ShelfOf H → VaultOf V → MakerOf M → SourceOf I
    → SinkOf O → PluginOf P → EngineOf G → SinkOf E → Type 0
CauseLaw {H} {V} {M} {I} {O} {P} {G} {E} shelf vault maker source sink plugin engine err =
    (words : List Word) (old new : Lent H V M I O P G) (said told : Saying E)
    (ending : Result Answered PlainWhy)
    → NoScript words → shelf.tells → vault.tells old.0.0.1
    → NoneRose shelf vault maker source sink old new
    → Follows (on_lent shelf vault maker source sink plugin engine err) IsNoMemory (step words)
    (old, said) ending (new, told)
    → IsExact (IsRefusedFor (shelf.files old.0.0.0.1) (vault.contents old.0.0.1) words) ending

-- a line of a script is refused exactly for its causes, where the lines before it led
abbrev pub LineLaw : {H V M I O P G E : Type 0} → ShelfOf H → VaultOf V → MakerOf M → SourceOf I
    → SinkOf O → PluginOf P → EngineOf G → SinkOf E → Type 0
LineLaw {H} {V} {M} {I} {O} {P} {G} {E} shelf vault maker source sink plugin engine err =
    (line : List ℕ) (old new : Lent H V M I O P G) (said told : Saying E)
    (ending : Result (Unit {0}) PlainWhy)
    → shelf.tells → vault.tells old.0.0.1 → NoneRose shelf vault maker source sink old new
    → Follows (on_lent shelf vault maker source sink plugin engine err) IsNoMemory
    (line_step line) (old, said) ending (new, told)
    → IsExact (IsLineRefused (shelf.files old.0.0.0.1) (vault.contents old.0.0.1) line) ending

-- a script is refused exactly for the causes of its file, and of its lines in order
abbrev pub ScriptCauseLaw : {H V M I O P G E : Type 0} → ShelfOf H → VaultOf V → MakerOf M
    → SourceOf I → SinkOf O → PluginOf P → EngineOf G → SinkOf E → Type 0
ScriptCauseLaw {H} {V} {M} {I} {O} {P} {G} {E} shelf vault maker source sink plugin engine err =
    (words : List Word) (name : Word) (old new : Lent H V M I O P G) (said told : Saying E)
    (ending : Result Answered PlainWhy)
    → IsCommand (plain.script name) words → shelf.tells → vault.tells old.0.0.1
    → NoneRose shelf vault maker source sink old new
    → Follows (on_lent shelf vault maker source sink plugin engine err) IsNoMemory (step words)
    (old, said) ending (new, told)
    → IsScriptExact (on_lent shelf vault maker source sink plugin engine err)
    (λ w. shelf.files w.0.0.0.0.1) (λ w. vault.contents w.0.0.0.1) name (old, said) ending
