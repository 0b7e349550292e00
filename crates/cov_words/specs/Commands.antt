-- The commands, and the words that are one.
--     PlainCommand                             a command with its options and operands
--     text_in, number_in, file_named_in        the value that an option is given
--     command_of                               a command of its options and operands
--     IsCommand, BeginsCommand, StopsAfter     words that are one, that begin one, and how far
--     IsOneCommand                             words are one command at most
use Rattle.std.specs.Prelude.{◌≡◌, ◌≤◌, ℕ, Bool, true, List, [], ◌∷◌, ◌++◌, length, take, Option, Some, None, option_map, option_and_then}
use Rattle.cov_words.specs.declared.options.OptionName.{OptionName}
use Rattle.cov_words.specs.declared.options.OptionName.TheVariants.{Branch, Append, Keep, ShowMissing, Context, Budget, Hook, DataFile, Rcfile, FailUnder, Output}
use Rattle.cov_words.specs.declared.options.CommandName.{CommandName}
use Rattle.cov_words.specs.declared.options.CommandName.TheVariants.{Arcs, Run, Combine, Report, Json, Lcov, Annotate, Erase, Script, Make, Suite, Select, Mutate}
use Rattle.cov_words.specs.Values.{Word, as_text, as_number, as_file_named, whole_number, number_up_to}
use Rattle.cov_words.specs.Options.{command_named, Given, value_in, is_given, Gives}
use Rattle.cov_words.specs.Operands.{shape_of, fit}

-- a command with its options and operands
pub data PlainCommand : Type 0 where
  arcs : (budget : Option ℕ) (script : Word) (args : List Word) → PlainCommand
  run : (branch append : Bool) (context : Option Word) (budget : Option ℕ)
      (hook : Option (Word × Word)) (data_file rcfile : Option Word) (script : Word)
      (args : List Word) → PlainCommand
  combine : (append keep : Bool) (data_file rcfile : Option Word) (names : List Word) → PlainCommand
  report : (show_missing : Bool) (fail_under : Option ℕ) (data_file rcfile : Option Word)
      → PlainCommand
  json : (name : Option Word) (fail_under : Option ℕ) (data_file rcfile : Option Word)
      → PlainCommand
  lcov : (name : Option Word) (fail_under : Option ℕ) (data_file rcfile : Option Word)
      → PlainCommand
  annotate : (data_file rcfile : Option Word) (file : Word) → PlainCommand
  erase : (data_file rcfile : Option Word) → PlainCommand
  script : (file : Word) → PlainCommand
  make : (seed size : ℕ) → PlainCommand
  suite : (branch : Bool) (budget : Option ℕ) (data_file rcfile : Option Word) (file : Word)
      → PlainCommand
  select : (budget : Option ℕ) (old new : Word) → PlainCommand
  mutate : (budget : Option ℕ) (file : Word) → PlainCommand

-- the text that an option is given
abbrev pub text_in : OptionName → Given → Option Word
text_in o g = option_and_then as_text (value_in o g)

-- the number that an option is given
abbrev pub number_in : OptionName → Given → Option ℕ
number_in o g = option_and_then as_number (value_in o g)

-- the file and the name that an option is given
abbrev pub file_named_in : OptionName → Given → Option (Word × Word)
file_named_in o g = option_and_then as_file_named (value_in o g)

-- a command of a script with its arguments; none where there is no script
abbrev pub of_script : (Word → List Word → PlainCommand) → List Word → Option PlainCommand
of_script command [] = None
of_script command (w ∷ ws) = Some (command w ws)

-- a command of a name; none where there is none
abbrev pub of_one : (Word → PlainCommand) → List Word → Option PlainCommand
of_one command [] = None
of_one command (w ∷ ws) = Some (command w)

-- a command of two names; none where there are fewer
abbrev pub of_two : (Word → Word → PlainCommand) → List Word → Option PlainCommand
of_two command [] = None
of_two command (w ∷ []) = None
of_two command (w ∷ x ∷ ws) = Some (command w x)

-- a command of a seed and a size; none where one is missing
abbrev pub of_numbers : Option ℕ → Option ℕ → Option PlainCommand
of_numbers seed size = option_and_then (λ m. option_map (λ n. make m n) size) seed

-- the command of the words of a seed and a size
abbrev pub of_seed_and_size : List Word → Option PlainCommand
of_seed_and_size [] = None
of_seed_and_size (w ∷ []) = None
of_seed_and_size (w ∷ x ∷ ws) = of_numbers (whole_number w) (number_up_to 16000 x)

-- a command of its options and operands
abbrev pub command_of : CommandName → Given → List Word → Option PlainCommand
command_of Arcs g ws = of_script (arcs (number_in Budget g)) ws
command_of Run g ws =
    of_script (run (is_given Branch g) (is_given Append g) (text_in Context g)
    (number_in Budget g) (file_named_in Hook g) (text_in DataFile g) (text_in Rcfile g)) ws
command_of Combine g ws =
    Some (combine (is_given Append g) (is_given Keep g)
    (text_in DataFile g) (text_in Rcfile g) ws)
command_of Report g ws =
    Some (report (is_given ShowMissing g) (number_in FailUnder g)
    (text_in DataFile g) (text_in Rcfile g))
command_of Json g ws =
    Some (json (text_in Output g) (number_in FailUnder g)
    (text_in DataFile g) (text_in Rcfile g))
command_of Lcov g ws =
    Some (lcov (text_in Output g) (number_in FailUnder g)
    (text_in DataFile g) (text_in Rcfile g))
command_of Annotate g ws = of_one (annotate (text_in DataFile g) (text_in Rcfile g)) ws
command_of Erase g ws = Some (erase (text_in DataFile g) (text_in Rcfile g))
command_of Script g ws = of_one script ws
command_of Make g ws = of_seed_and_size ws
command_of Suite g ws =
    of_one (suite (is_given Branch g) (number_in Budget g)
    (text_in DataFile g) (text_in Rcfile g)) ws
command_of Select g ws = of_two (select (number_in Budget g)) ws
command_of Mutate g ws = of_one (mutate (number_in Budget g)) ws

-- the words are that command: its name, then options, then operands
pub data IsCommand (c : PlainCommand) : List Word → Type 0 where
  spelled : (w : Word) (name : CommandName) (g : Given) (xs ys : List Word)
      → command_named w ≡ Some name → Gives name g xs → fit (shape_of name) ys ≡ true
      → command_of name g ys ≡ Some c → IsCommand c (w ∷ (xs ++ ys))

-- some command begins with these words
abbrev pub BeginsCommand : List Word → Type 0
BeginsCommand words = (rest : List Word) × (c : PlainCommand) × IsCommand c (words ++ rest)

-- the first i words are the most that a command begins with
pub record StopsAfter (words : List Word) (i : ℕ) : Type 0 where
  pub within : i ≤ length words
  pub begins : BeginsCommand (take i words)
  pub most : (j : ℕ) → j ≤ length words → BeginsCommand (take j words) → j ≤ i

-- no words are two commands
abbrev pub IsOneCommand : Type 0
IsOneCommand =
    (words : List Word) (c d : PlainCommand) → IsCommand c words → IsCommand d words → c ≡ d
