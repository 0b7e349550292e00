-- A script isn't refused whose lines are ready, each where the lines before it led.
--     IsReadyLine      a line that is passed over, or a command that is ready
--     AreReady         lines, one after another
--     IsReadyScript    a file of commands
--     ScriptLaw        so a script ends that is ready
use Rattle.std.specs.Prelude.{◌≡◌, ◌⊎◌, ◌≤◌, ℕ, true, List, [], ◌∷◌, Result, Ok}
use Rattle.std.specs.Str.{chars, is_utf8}
use Rattle.std.specs.Str.Lines.{lines}
use Rattle.cov_contexts.specs.declared.plugins.Plugin.{Ghosts as PluginOf}
use Rattle.cov_exclude.specs.declared.maker.Maker.{Ghosts as MakerOf}
use Rattle.cov_outside.specs.Files.{Files}
use Rattle.cov_outside.specs.declared.shelf.Shelf.{Ghosts as ShelfOf}
use Rattle.cov_outside.specs.declared.sink.Sink.{Ghosts as SinkOf}
use Rattle.cov_outside.specs.declared.source.Source.{Ghosts as SourceOf}
use Rattle.cov_programs.specs.Ends.{Follows}
use Rattle.cov_programs.specs.Objects.{Moves}
use Rattle.cov_step.specs.Calls.{Call, Answer, Answered, IsNoMemory}
use Rattle.cov_step.specs.Objects.{Saying}
use Rattle.cov_step.specs.Scripts.{words_in, is_comment, line_step, script_text}
use Rattle.cov_step.specs.Step.{step}
use Rattle.cov_vault.specs.Contents.{Contents}
use Rattle.cov_vault.specs.declared.vault.Vault.{Ghosts as VaultOf}
use Rattle.cov_why.specs.Answers.{PlainWhy}
use Rattle.cov_words.specs.Commands.{PlainCommand, IsCommand}
use Rattle.cov_words.specs.Commands as plain
use Rattle.cov_words.specs.Values.{Word}
use Rattle.py_machine.specs.declared.engine.Engine.{Ghosts as EngineOf}
use Rattle.py_token.specs.Source.{line_count, most_lines}
use Rattle.cov_complete_laws.specs.Premises.{IsFile}
use Rattle.cov_complete_laws.specs.Ready.{Ready}
use Rattle.cov_complete_laws.specs.Complete.{Lent, on_lent, NoneRose, EndsWell}

-- a line that is passed over, or whose words are a command that is ready
abbrev pub IsReadyLine : Files → Contents → List ℕ → Type 0
IsReadyLine files contents line =
    (is_comment line ≡ true)
    ⊎ ((words_in line ≡ [])
    ⊎ ((c : PlainCommand) × IsCommand c (words_in line) × Ready files contents c))

-- each line is ready where those before it led, whatever these did that weren't refused
abbrev pub AreReady : {W : Type 0} → Moves Call Answer W → (W → Files) → (W → Contents)
    → List (List ℕ) → W → Type 0
AreReady moves files contents [] now = Unit {0}
AreReady {W = W} moves files contents (line ∷ rest) now =
    IsReadyLine (files now) (contents now) line
    × ((next : W) → Follows moves IsNoMemory (line_step line) now (Ok tt) next
    → AreReady moves files contents rest next)

-- a file of commands is there, is a text of few enough lines, and these are ready once it was read
pub record IsReadyScript {W : Type 0} (moves : Moves Call Answer W) (files : W → Files)
    (contents : W → Contents) (name : Word) (now : W) : Type 0 where
  pub bytes : List ℕ
  pub file : IsFile (files now) name bytes
  pub text : is_utf8 bytes ≡ true
  pub short : line_count (chars bytes) ≤ most_lines
  pub ready :
      (next : W) → Follows moves IsNoMemory (script_text name) now (Ok bytes) next
      → AreReady moves files contents (lines bytes) next

-- Words are a script that is ready, by a shelf and a vault that tell what they hold. No fault is
-- counted. Then it ends well, whatever becomes of `err`.
abbrev pub ScriptLaw : {H V M I O P G E : Type 0} → ShelfOf H → VaultOf V → MakerOf M → SourceOf I
    → SinkOf O → PluginOf P → EngineOf G → SinkOf E → Type 0
ScriptLaw {H} {V} {M} {I} {O} {P} {G} {E} shelf vault maker source sink plugin engine err =
    (words : List Word) (name : Word) (old new : Lent H V M I O P G) (said told : Saying E)
    (ending : Result Answered PlainWhy)
    → IsCommand (plain.script name) words
    → IsReadyScript (on_lent shelf vault maker source sink plugin engine err)
    (λ w. shelf.files w.0.0.0.0.1) (λ w. vault.contents w.0.0.0.1) name (old, said)
    → shelf.tells → vault.tells old.0.0.1
    → NoneRose shelf vault maker source sink old new
    → Follows (on_lent shelf vault maker source sink plugin engine err) IsNoMemory (step words)
    (old, said) ending (new, told)
    → EndsWell ending
