-- Refusals that leave input, output, plugins and engine as they were.
--     NoSuite      words that are no `suite`
--     IsEarly      such a refusal
use Rattle.std.specs.Prelude.{◌≡◌, ℕ, Bool, true, false, List, Option, Err}
use Rattle.cov_step.specs.Early.{comes_late, late_in_run, is_late}
use Rattle.cov_why.specs.Answers.{import_failed, PlainWhy}
use Rattle.cov_words.specs.Commands.{IsCommand}
use Rattle.cov_words.specs.Commands as plain
use Rattle.cov_words.specs.Values.{Word}

-- these words are no `suite`
abbrev pub NoSuite : List Word → Type 0
NoSuite words =
    (branch : Bool) (budget : Option ℕ) (data_file rcfile : Option Word) (file : Word)
    → IsCommand (plain.suite branch budget data_file rcfile file) words → ⊥

-- A refusal but a fault and want of memory. That data are bad is one where the vault tells what it
-- holds: else it may find only at a save, of a run or of tests, that its target isn't of schema 7.
-- That an import of tests failed is one but of `suite`, whose import asks plugins.
pub record IsEarly (words : List Word) (told : Type 0) (why : PlainWhy) : Type 0 where
  pub early : is_late comes_late why ≡ false
  pub of_data : is_late late_in_run why ≡ true → told
  pub of_import : (file : Word) → why ≡ Err (import_failed file) → NoSuite words
