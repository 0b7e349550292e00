-- The options of the commands: how they are written, and what they take. (coverage.py
-- documentation, "Command line usage")
--     commands, command_named        the words of commands
--     options, option_named          the words of options
--     form_of, has_value, joins      what value an option takes, and where it may stand
--     options_of, may_take           the options of a command
--     Spells, Gives                  the words of one option, and those of several
--     Given, value_in, is_given      the options that are given, with their values
use Rattle.std.specs.Prelude.{◌≡◌, ℕ, Bool, true, false, ◌&&◌, not, ◌==◌, List, [], ◌∷◌, ◌++◌, codes, Option, Some, None, if◌then◌else◌}
use Rattle.std.specs.Option.{is_some}
use Rattle.std.specs.List.{list_any}
use Rattle.std.specs.Str.{bytes_eq}
use Rattle.cov_words.specs.declared.options.OptionName.{OptionName}
use Rattle.cov_words.specs.declared.options.OptionName.TheVariants.{Branch, Append, Keep, ShowMissing, Context, Budget, Hook, DataFile, Rcfile, FailUnder, Output}
use Rattle.cov_words.specs.declared.options.CommandName.{CommandName}
use Rattle.cov_words.specs.declared.options.CommandName.TheVariants.{Arcs, Run, Combine, Report, Json, Lcov, Annotate, Erase, Script, Make, Suite, Select, Mutate}
use Rattle.cov_words.specs.Values.{Word, Value, on, Form, no_value, any_text, up_to, a_file_and_name, value_of}

-- what a word names in a table
abbrev pub look_up : {A : Type 0} → Word → List (Word × A) → Option A
look_up w [] = None
look_up w (e ∷ es) = if bytes_eq w e.0 then Some e.1 else look_up w es

-- the words of the commands
abbrev pub commands : List (Word × CommandName)
commands =
    (codes "arcs", Arcs) ∷ (codes "run", Run) ∷ (codes "combine", Combine)
    ∷ (codes "report", Report) ∷ (codes "json", Json) ∷ (codes "lcov", Lcov)
    ∷ (codes "annotate", Annotate) ∷ (codes "erase", Erase) ∷ (codes "script", Script)
    ∷ (codes "make", Make) ∷ (codes "suite", Suite) ∷ (codes "select", Select)
    ∷ (codes "mutate", Mutate) ∷ []

-- the options, in both spellings where there are two
abbrev pub options : List (Word × OptionName)
options =
    (codes "--branch", Branch) ∷ (codes "-a", Append) ∷ (codes "--append", Append)
    ∷ (codes "--keep", Keep) ∷ (codes "-m", ShowMissing) ∷ (codes "--show-missing", ShowMissing)
    ∷ (codes "--context", Context) ∷ (codes "--budget", Budget) ∷ (codes "--hook", Hook)
    ∷ (codes "--data-file", DataFile) ∷ (codes "--rcfile", Rcfile)
    ∷ (codes "--fail-under", FailUnder) ∷ (codes "-o", Output) ∷ []

-- the command that a word names
abbrev pub command_named : Word → Option CommandName
command_named w = look_up w commands

-- the option that a word spells
abbrev pub option_named : Word → Option OptionName
option_named w = look_up w options

-- what value an option takes
abbrev pub form_of : OptionName → Form
form_of Branch = no_value
form_of Append = no_value
form_of Keep = no_value
form_of ShowMissing = no_value
form_of Context = any_text
form_of Budget = up_to 1000000000
form_of Hook = a_file_and_name
form_of DataFile = any_text
form_of Rcfile = any_text
form_of FailUnder = up_to 100
form_of Output = any_text

-- whether a form has a value
abbrev pub has_value : Form → Bool
has_value no_value = false
has_value any_text = true
has_value (up_to most) = true
has_value a_file_and_name = true

-- whether the value may stand after `=` in the same word
abbrev pub joins : OptionName → Bool
joins Branch = false
joins Append = false
joins Keep = false
joins ShowMissing = false
joins Context = true
joins Budget = true
joins Hook = true
joins DataFile = true
joins Rcfile = true
joins FailUnder = true
joins Output = false

-- the options of a command
abbrev pub options_of : CommandName → List OptionName
options_of Arcs = Budget ∷ []
options_of Run = Branch ∷ Append ∷ Context ∷ Budget ∷ Hook ∷ DataFile ∷ Rcfile ∷ []
options_of Combine = Append ∷ Keep ∷ DataFile ∷ Rcfile ∷ []
options_of Report = ShowMissing ∷ FailUnder ∷ DataFile ∷ Rcfile ∷ []
options_of Json = Output ∷ FailUnder ∷ DataFile ∷ Rcfile ∷ []
options_of Lcov = Output ∷ FailUnder ∷ DataFile ∷ Rcfile ∷ []
options_of Annotate = DataFile ∷ Rcfile ∷ []
options_of Erase = DataFile ∷ Rcfile ∷ []
options_of Script = []
options_of Make = []
options_of Suite = Branch ∷ Budget ∷ DataFile ∷ Rcfile ∷ []
options_of Select = Budget ∷ []
options_of Mutate = Budget ∷ []

-- the words of one option: itself where it takes no value, else with its value after `=` or in
-- the next word
pub data Spells : OptionName → Value → List Word → Type 0 where
  alone : {o : OptionName} (w : Word)
      → option_named w ≡ Some o → form_of o ≡ no_value → Spells o on (w ∷ [])
  apart : {o : OptionName} {v : Value} (w t : Word)
      → option_named w ≡ Some o → value_of (form_of o) t ≡ Some v → Spells o v (w ∷ t ∷ [])
  joined : {o : OptionName} {v : Value} (w t : Word)
      → option_named w ≡ Some o → joins o ≡ true → value_of (form_of o) t ≡ Some v
      → Spells o v ((w ++ (codes "=" ++ t)) ∷ [])

-- the options that are given, with their values
abbrev pub Given : Type 0
Given = List (OptionName × Value)

-- the place of an option in the table below
abbrev pub place_of : OptionName → ℕ
place_of Branch = 0
place_of Append = 1
place_of Keep = 2
place_of ShowMissing = 3
place_of Context = 4
place_of Budget = 5
place_of Hook = 6
place_of DataFile = 7
place_of Rcfile = 8
place_of FailUnder = 9
place_of Output = 10

-- whether it is the same option
abbrev pub is_same : OptionName → OptionName → Bool
is_same o p = place_of o == place_of p

-- the value that an option is given
abbrev pub value_in : OptionName → Given → Option Value
value_in o [] = None
value_in o (x ∷ g) = if is_same o x.0 then Some x.1 else value_in o g

-- whether an option is given
abbrev pub is_given : OptionName → Given → Bool
is_given o g = is_some (value_in o g)

-- a command takes its own options, each at most once
abbrev pub may_take : CommandName → Given → OptionName → Bool
may_take c g o = list_any (is_same o) (options_of c) && not (is_given o g)

-- the words of options that a command takes
pub data Gives (c : CommandName) : Given → List Word → Type 0 where
  none : Gives c [] []
  one_more : {g : Given} {o : OptionName} {v : Value} (ws xs : List Word)
      → Gives c g ws → may_take c g o ≡ true → Spells o v xs
      → Gives c (g ++ ((o, v) ∷ [])) (ws ++ xs)
