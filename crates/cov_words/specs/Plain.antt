-- What the types of the code stand for.
--     value_view, words_of, given_of           values, words, and options with their values
--     found_view, reading_view                 what a word gives, and what was read
--     Goes, IsReadOn                           what becomes of a reading
--     command_view, Makes                      a command, and what is made of its words
--     Answers                                  what is answered for words
use Rattle.std.specs.Prelude.{◌≡◌, ℕ, Bool, true, false, List, length, map, String, Vec, string_bytes, Option, Some, None, option_map, Result, Ok, Err}
use Rattle.std.specs.declared.alloc.Global.{Global}
use Rattle.std.specs.Borrow.{Bor}
use Rattle.cov_words.specs.declared.options.OptionName.{OptionName}
use Rattle.cov_words.specs.declared.values.Value.{Value}
use Rattle.cov_words.specs.declared.values.Value.TheVariants.{On, Text, Number, FileNamed}
use Rattle.cov_words.specs.declared.reading.Found.{Found}
use Rattle.cov_words.specs.declared.reading.Found.TheVariants.{Nowhere, Whole, Half}
use Rattle.cov_words.specs.declared.reading.Reading.{Reading}
use Rattle.cov_words.specs.declared.command.Command.{Command}
use Rattle.cov_words.specs.declared.command.Command.TheVariants as declared
use Rattle.cov_words.specs.declared.command.WordsError.{WordsError}
use Rattle.cov_words.specs.declared.command.WordsError.TheVariants.{Usage, NoMemory}
use Rattle.cov_words.specs.declared.options.CommandName.{CommandName}
use Rattle.cov_words.specs.Values as plain
use Rattle.cov_words.specs.Options.{Given}
use Rattle.cov_words.specs.Commands.{PlainCommand, arcs, run, combine, report, json, lcov, annotate, erase, script, make, suite, select, mutate, command_of, IsCommand, StopsAfter}
use Rattle.cov_words.specs.Reading as reading

-- what a value of the code stands for
abbrev pub value_view : Value → plain.Value
value_view On = plain.on
value_view (Text t) = plain.text t.now
value_view (Number n) = plain.number n
value_view (FileNamed f n) = plain.file_named f.now n.now

-- the bytes of words
abbrev pub words_of : List (Bor (List ℕ)) → List plain.Word
words_of ws = map (λ w. w.now) ws

-- the options that are given, with their values
abbrev pub given_of : List (OptionName × Value) → Given
given_of g = map (λ x. (x.0, value_view x.1)) g

-- what an option that was found stands for
abbrev pub found_view : Found → reading.Found
found_view Nowhere = reading.nowhere
found_view (Whole o v) = reading.whole o (value_view v)
found_view (Half o) = reading.half o

-- what a reading of the code stands for
abbrev pub reading_view : Reading → reading.Reading
reading_view r = record {
  command = r.command;
  given = given_of r.given.items;
  awaiting = r.awaiting;
  operands = words_of r.operands.items;
}

-- what a word made of a reading, and whether it could be read
abbrev pub Goes : Option reading.Reading → Bool → reading.Reading → Type 0
Goes next true r = next ≡ Some r
Goes next false r = next ≡ None

-- how many words go on with what was read, and what is read then
abbrev pub IsReadOn : reading.Reading → List plain.Word → ℕ → reading.Reading → Type 0
IsReadOn r words n q =
    (n ≡ reading.passed words r) × (n ≡ length words → reading.run words r ≡ Some q)

-- the bytes of texts
abbrev pub texts_view : Vec (String Global) Global → List plain.Word
texts_view v = map string_bytes v.items

-- the bytes of a file and a name
abbrev pub pair_view : String Global × String Global → plain.Word × plain.Word
pair_view p = (string_bytes p.0, string_bytes p.1)

-- the bytes of a text, where there is one
abbrev pub text_view : Option (String Global) → Option plain.Word
text_view t = option_map string_bytes t

-- what a command of the code stands for
abbrev pub command_view : Command → PlainCommand
command_view (declared.Arcs budget file args) = arcs budget (string_bytes file) (texts_view args)
command_view (declared.Run branch append context budget hook data_file rcfile file args) =
    run branch append (text_view context) budget (option_map pair_view hook)
    (text_view data_file) (text_view rcfile) (string_bytes file) (texts_view args)
command_view (declared.Combine append keep data_file rcfile names) =
    combine append keep (text_view data_file) (text_view rcfile) (texts_view names)
command_view (declared.Report show_missing fail_under data_file rcfile) =
    report show_missing fail_under (text_view data_file) (text_view rcfile)
command_view (declared.Json name fail_under data_file rcfile) =
    json (text_view name) fail_under (text_view data_file) (text_view rcfile)
command_view (declared.Lcov name fail_under data_file rcfile) =
    lcov (text_view name) fail_under (text_view data_file) (text_view rcfile)
command_view (declared.Annotate data_file rcfile file) =
    annotate (text_view data_file) (text_view rcfile) (string_bytes file)
command_view (declared.Erase data_file rcfile) = erase (text_view data_file) (text_view rcfile)
command_view (declared.Script file) = script (string_bytes file)
command_view (declared.Make seed size) = make seed size
command_view (declared.Suite branch budget data_file rcfile file) =
    suite branch budget (text_view data_file) (text_view rcfile) (string_bytes file)
command_view (declared.Select budget old new) = select budget (string_bytes old) (string_bytes new)
command_view (declared.Mutate budget file) = mutate budget (string_bytes file)

-- what is made of options and operands
abbrev pub Makes : CommandName → List (OptionName × Value) → List (Bor (List ℕ))
    → Option Command → Type 0
Makes name given operands made =
    option_map command_view made ≡ command_of name (given_of given) (words_of operands)

-- the command that the words are; or how many of them begin one, where they are none
abbrev pub Answers : List plain.Word → Result Command WordsError → Type 0
Answers words (Ok command) = IsCommand (command_view command) words
Answers words (Err (Usage n)) = ((c : PlainCommand) → IsCommand c words → ⊥) × StopsAfter words n
Answers words (Err NoMemory) = Unit {0}
