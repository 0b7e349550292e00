-- For which cause a script is refused: by its file, or by a line.
--     FileRefuses              its file
--     IsRefusedInside          a command of a line
--     IsLineRefused            a line
use Rattle.std.specs.Prelude.{◌≡◌, ◌≢◌, ◌⊎◌, ℕ, suc, ◌≤◌, ◌<◌, true, false, List, [], length, Option, Some, None, Ok, Err}
use Rattle.std.specs.Str.{chars, is_utf8}
use Rattle.cov_outside.specs.Files.{Files}
use Rattle.cov_run.specs.Loading.{most_bytes}
use Rattle.cov_run.specs.Reading.{fault_line}
use Rattle.cov_step.specs.Promises.{has_one_text}
use Rattle.cov_step.specs.Scripts.{is_comment, words_in}
use Rattle.cov_step.specs.Step.{IsSpelled}
use Rattle.cov_vault.specs.Contents.{Contents}
use Rattle.cov_why.specs.Answers.{Refusal, usage, no_such_file, syntax, limit}
use Rattle.cov_why.specs.declared.why.LimitKind.TheVariants as limits
use Rattle.cov_why.specs.declared.why.SyntaxKind.TheVariants as kinds
use Rattle.cov_words.specs.Commands.{PlainCommand}
use Rattle.cov_words.specs.Values.{Word}
use Rattle.py_token.specs.Source.{line_count, most_lines}
use Rattle.cov_cause_laws.specs.Causes.{IsRefusedIn}

-- a file of commands isn't there, is too large, is no text, or has too many lines
pub data FileRefuses (name : Word) (file : Option (List ℕ)) (why : Refusal) : Type 0 where
  absent : file ≡ None → why ≡ no_such_file name → FileRefuses name file why
  large : (bytes : List ℕ) → file ≡ Some bytes → most_bytes < length bytes
      → why ≡ limit limits.FileBytes (suc most_bytes) → FileRefuses name file why
  no_text : (bytes : List ℕ) → file ≡ Some bytes → length bytes ≤ most_bytes
      → is_utf8 bytes ≡ false → why ≡ syntax name (fault_line bytes) kinds.BadCharacter
      → FileRefuses name file why
  long : (bytes : List ℕ) → file ≡ Some bytes → length bytes ≤ most_bytes
      → is_utf8 bytes ≡ true → most_lines < line_count (chars bytes)
      → why ≡ limit limits.Lines (line_count (chars bytes)) → FileRefuses name file why

-- a command is refused as elsewhere, and a script in a script is none
abbrev pub IsRefusedInside : Files → Contents → PlainCommand → Refusal → Type 0
IsRefusedInside files contents c why =
    IsRefusedIn files contents c why ⊎ ((has_one_text c ≡ false) × (why ≡ usage 0))

-- a line isn't passed over, and its words are refused
abbrev pub IsLineRefused : Files → Contents → List ℕ → Refusal → Type 0
IsLineRefused files contents line why =
    (is_comment line ≡ false) × (words_in line ≢ [])
    × (((i : ℕ) × IsSpelled (words_in line) (Err i) × (why ≡ usage i))
    ⊎ ((c : PlainCommand) × IsSpelled (words_in line) (Ok c)
    × IsRefusedInside files contents c why))
