-- What it is to be refused exactly for some causes.
--     EndsBy                   an ending that this refusal gives
--     IsExact                  an ending refuses only for these causes, and wherever one holds
--     NoneHolds                none of some causes holds
--     IsRefusedExactly         an ending that is refused for one of some causes
--     AreLinesExact            lines end so, one after another
--     IsScriptExact            a script ends so by its file and its lines
--     NoScript                 words that are no script
use Rattle.std.specs.Prelude.{◌≡◌, ◌≢◌, ◌⊎◌, ℕ, true, false, List, [], ◌∷◌, Result, Ok, Err}
use Rattle.std.specs.Str.Lines.{lines}
use Rattle.cov_outside.specs.Files.{Files}
use Rattle.cov_programs.specs.Ends.{Follows}
use Rattle.cov_programs.specs.Objects.{Moves}
use Rattle.cov_step.specs.Calls.{Call, Answer, Answered, IsNoMemory}
use Rattle.cov_step.specs.Scripts.{line_step, script_text}
use Rattle.cov_vault.specs.Contents.{Contents}
use Rattle.cov_why.specs.Answers.{Refusal, no_memory, PlainWhy}
use Rattle.cov_words.specs.Commands.{IsCommand}
use Rattle.cov_words.specs.Commands as plain
use Rattle.cov_words.specs.Values.{Word}
use Rattle.cov_complete_laws.specs.Complete.{EndsWell}
use Rattle.cov_cause_laws.specs.Causes.{is_bad_pattern}
use Rattle.cov_cause_laws.specs.Lines.{FileRefuses, IsLineRefused}

-- it is refused so, unless memory was wanting or a pattern that the grammar doesn't read refused it
abbrev pub EndsBy : {A : Type 0} → Refusal → Result A PlainWhy → Type 0
EndsBy why (Ok a) = ⊥
EndsBy why (Err (Ok ended)) = ⊥
EndsBy why (Err (Err r)) = (r ≡ why) ⊎ ((r ≡ no_memory) ⊎ (is_bad_pattern r ≡ true))

-- But for want of memory it is refused only for one of these causes. Wherever one holds, but a
-- pattern's, it is refused for that one.
pub record IsExact {A : Type 0} (Causes : Refusal → Type 0) (ending : Result A PlainWhy)
    : Type 0 where
  pub only : (why : Refusal) → why ≢ no_memory → ending ≡ Err (Err why) → Causes why
  pub wherever :
      (why : Refusal) → is_bad_pattern why ≡ false → Causes why → EndsBy why ending

-- none of these causes holds, but a pattern's
abbrev pub NoneHolds : (Refusal → Type 0) → Type 0
NoneHolds Causes = (why : Refusal) → is_bad_pattern why ≡ false → Causes why → ⊥

-- it is refused, and exactly for these causes
abbrev pub IsRefusedExactly : {A : Type 0} → (Refusal → Type 0) → Result A PlainWhy → Type 0
IsRefusedExactly Causes ending = ((why : PlainWhy) × (ending ≡ Err why)) × IsExact Causes ending

-- Lines end so, one after another, by the files and the data where those before them led. The first
-- line is refused, exactly for its causes, and that ends them all. Or none of its causes holds, it
-- is done, and the others end so where it led.
abbrev pub AreLinesExact : {W : Type 0} → Moves Call Answer W → (W → Files) → (W → Contents)
    → List (List ℕ) → W → Result Answered PlainWhy → Type 0
AreLinesExact moves files contents [] now ending = EndsWell ending
AreLinesExact {W = W} moves files contents (line ∷ rest) now ending =
    IsRefusedExactly (IsLineRefused (files now) (contents now) line) ending
    ⊎ (NoneHolds (IsLineRefused (files now) (contents now) line)
    × ((next : W) × Follows moves IsNoMemory (line_step line) now (Ok tt) next
    × AreLinesExact moves files contents rest next ending))

-- A script is refused exactly for the causes of its file. Or none of these holds, it is read, and
-- its lines end so where that led.
abbrev pub IsScriptExact : {W : Type 0} → Moves Call Answer W → (W → Files) → (W → Contents)
    → Word → W → Result Answered PlainWhy → Type 0
IsScriptExact {W = W} moves files contents name old ending =
    IsRefusedExactly (FileRefuses name (files old name)) ending
    ⊎ (NoneHolds (FileRefuses name (files old name))
    × ((bytes : List ℕ) × (next : W)
    × Follows moves IsNoMemory (script_text name) old (Ok bytes) next
    × AreLinesExact moves files contents (lines bytes) next ending))

-- these words are no script
abbrev pub NoScript : List Word → Type 0
NoScript words = (name : Word) → IsCommand (plain.script name) words → ⊥
