-- A source that was made, read and compiled.
--     IsMade         what is known of it
--     IsSourced      it follows the part of the command
--     IsWithText     it is what was loaded, with its text
use Rattle.std.specs.Prelude.{◌≡◌, ℕ, Result, Ok, Err, String, IfOk}
use Rattle.std.specs.declared.alloc.Global.{Global}
use Rattle.cov_analysis.specs.Lines.{IsOfText}
use Rattle.cov_loaded_laws.specs.Loaded.{IsMeasurable}
use Rattle.cov_programs.specs.Ends.{Follows}
use Rattle.cov_run.specs.declared.programs.Loaded.{Loaded}
use Rattle.cov_step.specs.Calls.{IsNoMemory, seen}
use Rattle.cov_streams.specs.Trials.{on_trial}
use Rattle.cov_why.specs.declared.why.Why.{Why}
use Rattle.cov_made.specs.Rests.{sourced}
use Rattle.cov_made.specs.Views.{IsOneModule, source_view}
use Rattle.cov_made.specs.declared.sources.MadeSource.{MadeSource}

-- its code can be measured, no other module is loaded with it, and its tree is read from a text
pub record IsMade (s : MadeSource) : Type 0 where
  pub measurable : IsMeasurable s.loaded
  pub one : IsOneModule s
  pub of_text : IsOfText (source_view s).body

-- the source of a seed and a size, as the command has it
pub record IsSourced (seed size : ℕ) (result : Result MadeSource Why) : Type 0 where
  pub follows : Follows on_trial IsNoMemory (sourced seed size) tt (seen source_view result) tt
  pub made : IfOk result IsMade

-- what was loaded, with this text, or why it wasn't
abbrev pub IsWithText : String Global → Result Loaded Why → Result MadeSource Why → Type 0
IsWithText text (Ok l) (Ok s) = s ≡ record { text = text; loaded = l }
IsWithText text (Ok l) (Err v) = ⊥
IsWithText text (Err w) (Ok s) = ⊥
IsWithText text (Err w) (Err v) = v ≡ w
