-- The texts of answers on standard error.
--     kind_text, limit_text       what is wrong with a source, and what has a limit
--     syntax_text, setting_text   the texts of a bad source and of a bad setting
--     rows_text                   what a kind of data is called
--     bad_text, bad_data_text     why data can't be read
--     refusal_text, ended_text    the texts of refusals and endings
--     message_of                  the text of an answer
use Rattle.std.specs.Prelude.{ℕ, Bool, true, false, List, [], ◌∷◌, ◌++◌, Ok, Err, codes, decimal}
use Rattle.cov_why.specs.declared.why.SyntaxKind.{SyntaxKind}
use Rattle.cov_why.specs.declared.why.SyntaxKind.TheVariants as kind
use Rattle.cov_why.specs.declared.why.LimitKind.{LimitKind}
use Rattle.cov_why.specs.declared.why.LimitKind.TheVariants as limits
use Rattle.cov_why.specs.declared.why.BadKind.{BadKind}
use Rattle.cov_why.specs.declared.why.BadKind.TheVariants as bad
use Rattle.cov_why.specs.Answers.{Refusal, usage, no_such_file, syntax, limit, bad_config, bad_pattern, pattern_size, no_function, no_data, mixed, bad_data, no_source, read_fault, write_fault, shelf_fault, vault_fault, no_memory, import_failed, Ended, finished, program, budget, under, tests, PlainWhy}

-- what is wrong with a source
abbrev pub kind_text : SyntaxKind → List ℕ
kind_text kind.BadCharacter = codes "BadCharacter"
kind_text kind.BadIndent = codes "BadIndent"
kind_text kind.OpenString = codes "OpenString"
kind_text kind.OpenBracket = codes "OpenBracket"
kind_text kind.WideNumber = codes "WideNumber"
kind_text kind.Unexpected = codes "Unexpected"
kind_text kind.BreakOutside = codes "BreakOutside"
kind_text kind.ReturnOutside = codes "ReturnOutside"
kind_text kind.GlobalAfterUse = codes "GlobalAfterUse"
kind_text kind.NestedFunction = codes "NestedFunction"
kind_text kind.EarlyIrrefutable = codes "EarlyIrrefutable"
kind_text kind.TwiceNamed = codes "TwiceNamed"

-- the word of a message for what has a limit
abbrev pub limit_text : LimitKind → List ℕ
limit_text limits.FileBytes = codes "FileBytes"
limit_text limits.TotalBytes = codes "TotalBytes"
limit_text limits.Lines = codes "Lines"
limit_text limits.Modules = codes "Modules"
limit_text limits.Expressions = codes "Expressions"
limit_text limits.Suites = codes "Suites"
limit_text limits.Patterns = codes "Patterns"
limit_text limits.PatternBytes = codes "PatternBytes"

-- `FILE:LINE: KIND`
abbrev pub syntax_text : List ℕ → ℕ → SyntaxKind → List ℕ
syntax_text file line k =
    codes "coverage: " ++ (file ++ (codes ":" ++ (decimal line
    ++ (codes ": " ++ (kind_text k ++ codes "\n")))))

-- an empty key stands for the whole file of settings
abbrev pub setting_text : List ℕ → List ℕ
setting_text [] = codes "coverage: bad settings file\n"
setting_text (c ∷ cs) = codes "coverage: bad setting " ++ ((c ∷ cs) ++ codes "\n")

-- what a data set holds
abbrev pub rows_text : Bool → List ℕ
rows_text false = codes "lines"
rows_text true = codes "arcs"

-- why data can't be read
abbrev pub bad_text : BadKind → List ℕ
bad_text bad.NotSchema7 = codes "not schema 7"
bad_text (bad.BadRow i) = codes "row " ++ decimal i

-- the line that says so
abbrev pub bad_data_text : List ℕ → BadKind → List ℕ
bad_data_text name k =
    codes "coverage: bad data " ++ (name ++ (codes ": " ++ (bad_text k ++ codes "\n")))

-- what a refusal writes
abbrev pub refusal_text : Refusal → List ℕ
refusal_text (usage words) =
    codes "coverage: usage: stopped after " ++ (decimal words ++ codes " words\n")
refusal_text (no_such_file name) = codes "coverage: no file " ++ (name ++ codes "\n")
refusal_text (syntax file line k) = syntax_text file line k
refusal_text (limit k n) =
    codes "coverage: limit " ++ (limit_text k ++ (codes " passed: " ++ (decimal n ++ codes "\n")))
refusal_text (bad_config key) = setting_text key
refusal_text (bad_pattern at) = codes "coverage: bad pattern " ++ (decimal at ++ codes "\n")
refusal_text (pattern_size at) =
    codes "coverage: pattern " ++ (decimal at ++ codes " is too large\n")
refusal_text (no_function name) = codes "coverage: no function " ++ (name ++ codes "\n")
refusal_text (no_data name) = codes "coverage: no data " ++ (name ++ codes "\n")
refusal_text (mixed first other) =
    codes "coverage: cannot join "
    ++ (rows_text first ++ (codes " with " ++ (rows_text other ++ codes "\n")))
refusal_text (bad_data name k) = bad_data_text name k
refusal_text (no_source path) = codes "coverage: no source " ++ (path ++ codes "\n")
refusal_text read_fault = codes "coverage: reading input failed\n"
refusal_text write_fault = codes "coverage: writing output failed\n"
refusal_text shelf_fault = codes "coverage: files failed\n"
refusal_text vault_fault = codes "coverage: data store failed\n"
refusal_text no_memory = codes "coverage: no memory\n"
refusal_text (import_failed file) =
    codes "coverage: import of " ++ (file ++ codes " ended early\n")

-- What a command writes that wasn't refused. The other bytes are those that the ending of its
-- program writes, or the percent that was asked for.
abbrev pub ended_text : Ended → List ℕ → List ℕ
ended_text finished e = []
ended_text (program status) e = e
ended_text (budget steps) e =
    codes "coverage: budget of " ++ (decimal steps ++ codes " steps is spent\n")
ended_text (under covered all) e =
    codes "coverage: " ++ (decimal covered ++ (codes " of " ++ (decimal all
    ++ (codes " covered is under " ++ (e ++ codes " percent\n")))))
ended_text (tests passed failed cut) e = []

-- what an answer writes, beside those bytes
abbrev pub message_of : PlainWhy → List ℕ → List ℕ
message_of (Ok ended) e = ended_text ended e
message_of (Err refusal) e = refusal_text refusal
