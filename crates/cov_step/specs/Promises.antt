-- What commands promise, whatever their objects do.
--     keeps, changes_last, CarefulLaw      a refusal leaves shelf and vault as they were
--     is_silent, has_one_text, QuietLaw    only a script says anything before it ended
--     calls_vault, RunTwiceLaw             a run calls the vault at most twice
--     Object, blame_of, blamed, brings     whose fault a refusal and an answer are
--     BlameLaw                             a fault is answered only where an object had it
--     is_hungry, YieldLaw                  want of memory of an object is answered as that
--     EndsLines, IsFold, FoldLaw           a script is the fold of its lines
use Rattle.std.specs.Prelude.{◌≡◌, ◌⊎◌, nat_eq, ℕ, Bool, true, false, List, Option, Some, None, Result, Ok, Err}
use Rattle.std.specs.Str.Lines.{lines}
use Rattle.cov_outside.specs.declared.shelf.ShelfError.{ShelfError}
use Rattle.cov_outside.specs.declared.shelf.ShelfError.TheVariants as shelf_error
use Rattle.cov_outside.specs.declared.sink.SinkError.{SinkError}
use Rattle.cov_outside.specs.declared.sink.SinkError.TheVariants as sink_error
use Rattle.py_builtins.specs.declared.fault.RunFault.{RunFault}
use Rattle.py_builtins.specs.declared.fault.RunFault.TheVariants as run_fault
use Rattle.py_parse.specs.declared.error.SyntaxError.{SyntaxError}
use Rattle.py_parse.specs.declared.error.SyntaxError.TheVariants as syntax_error
use Rattle.py_scope.specs.declared.error.ScopeError.{ScopeError}
use Rattle.py_scope.specs.declared.error.ScopeError.TheVariants as scope_error
use Rattle.py_token.specs.declared.error.TokenError.{TokenError}
use Rattle.py_token.specs.declared.error.TokenError.TheVariants as token_error
use Rattle.cov_exclude.specs.declared.patterns.PatternError.{PatternError}
use Rattle.cov_exclude.specs.declared.patterns.PatternError.TheVariants as pattern_error
use Rattle.cov_programs.specs.Ends.{Follows}
use Rattle.cov_programs.specs.Laws.{IsCareful, OnlyKeeps, CallsAtMost, BlamesOnly, Yields, Folds}
use Rattle.cov_programs.specs.Objects.{Moves}
use Rattle.cov_run.specs.Reading.{Reading, no_text, long, stuck, no_tree, ill_formed, tree, unread}
use Rattle.cov_vault.specs.declared.vault.VaultError.{VaultError}
use Rattle.cov_vault.specs.declared.vault.VaultError.TheVariants as vault_error
use Rattle.cov_why.specs.Answers.{Refusal, usage, no_such_file, syntax, limit, bad_config, bad_pattern, pattern_size, no_function, no_data, mixed, bad_data, no_source, read_fault, write_fault, shelf_fault, vault_fault, no_memory, import_failed, PlainWhy}
use Rattle.cov_words.specs.Commands.{PlainCommand}
use Rattle.cov_words.specs.Commands as plain
use Rattle.cov_words.specs.Values.{Word}
use Rattle.cov_step.specs.Calls.{Call, spells, checks, reads, puts, opens, lists, loads, saves, removes, makes, writes, crosses, measures, tries, tests, selects, judges, says, Answer, Answered, AfterImport, came, not_imported, starved, IsNoMemory}
use Rattle.cov_step.specs.Commands.{run}
use Rattle.cov_step.specs.Phases.{done}
use Rattle.cov_step.specs.Scripts.{line_step, script_text, script}
use Rattle.cov_step.specs.Step.{doing, step}

-- ---- what a refusal leaves

-- a call that only may be refused was refused
abbrev pub is_refused : {E : Type 0} → Option E → Bool
is_refused None = false
is_refused (Some e) = true

-- an answer that leaves shelf and vault as they were
abbrev pub keeps : (call : Call) → Answer call → Bool
keeps (spells words) answer = true
keeps (checks bytes) reading = true
keeps (reads name most) answer = true
keeps (puts name bytes) refusal = is_refused refusal
keeps (opens name script) answer = true
keeps lists answer = true
keeps (loads name) answer = true
keeps (saves name content) refusal = is_refused refusal
keeps (removes name) refusal = is_refused refusal
keeps (makes texts) refusal = true
keeps (writes bytes) refusal = true
keeps (crosses modules words budget) answer = true
keeps (measures asked modules hook) answer = true
keeps (tries modules words budget) answer = true
keeps (tests asked modules) answer = true
keeps (selects budget before after) answer = true
keeps (judges budget modules) answer = true
keeps (says text) answer = true

-- a command that changes shelf or vault by its last call alone, if at all
abbrev pub changes_last : PlainCommand → Bool
changes_last (plain.arcs budget script args) = true
changes_last (plain.run branch append context budget hook data_file rcfile script args) = true
changes_last (plain.combine append keep data_file rcfile names) = false
changes_last (plain.report show_missing fail_under data_file rcfile) = true
changes_last (plain.json name fail_under data_file rcfile) = true
changes_last (plain.lcov name fail_under data_file rcfile) = true
changes_last (plain.annotate data_file rcfile file) = true
changes_last (plain.erase data_file rcfile) = true
changes_last (plain.script file) = false
changes_last (plain.make seed size) = true
changes_last (plain.suite branch budget data_file rcfile file) = true
changes_last (plain.select budget old new) = true
changes_last (plain.mutate budget file) = true

-- such a command is careful: after what it changed it isn't refused
abbrev pub CarefulLaw : Type 0
CarefulLaw = (c : PlainCommand) → changes_last c ≡ true → IsCareful keeps (doing c)

-- ---- what is said on the way

-- an answer that isn't one to a text for `err`
abbrev pub is_silent : (call : Call) → Answer call → Bool
is_silent (spells words) answer = true
is_silent (checks bytes) reading = true
is_silent (reads name most) answer = true
is_silent (puts name bytes) refusal = true
is_silent (opens name script) answer = true
is_silent lists answer = true
is_silent (loads name) answer = true
is_silent (saves name content) refusal = true
is_silent (removes name) refusal = true
is_silent (makes texts) refusal = true
is_silent (writes bytes) refusal = true
is_silent (crosses modules words budget) answer = true
is_silent (measures asked modules hook) answer = true
is_silent (tries modules words budget) answer = true
is_silent (tests asked modules) answer = true
is_silent (selects budget before after) answer = true
is_silent (judges budget modules) answer = true
is_silent (says text) answer = false

-- a command of one text, which is said when it ended; a script has those of its commands
abbrev pub has_one_text : PlainCommand → Bool
has_one_text (plain.arcs budget script args) = true
has_one_text (plain.run branch append context budget hook data_file rcfile script args) = true
has_one_text (plain.combine append keep data_file rcfile names) = true
has_one_text (plain.report show_missing fail_under data_file rcfile) = true
has_one_text (plain.json name fail_under data_file rcfile) = true
has_one_text (plain.lcov name fail_under data_file rcfile) = true
has_one_text (plain.annotate data_file rcfile file) = true
has_one_text (plain.erase data_file rcfile) = true
has_one_text (plain.script file) = false
has_one_text (plain.make seed size) = true
has_one_text (plain.suite branch budget data_file rcfile file) = true
has_one_text (plain.select budget old new) = true
has_one_text (plain.mutate budget file) = true

-- such a command says nothing on the way
abbrev pub QuietLaw : Type 0
QuietLaw = (c : PlainCommand) → has_one_text c ≡ true → OnlyKeeps is_silent (doing c)

-- ---- how often the vault is called

-- the calls of the vault
abbrev pub calls_vault : Call → Bool
calls_vault (spells words) = false
calls_vault (checks bytes) = false
calls_vault (reads name most) = false
calls_vault (puts name bytes) = false
calls_vault (opens name script) = false
calls_vault lists = true
calls_vault (loads name) = true
calls_vault (saves name content) = true
calls_vault (removes name) = true
calls_vault (makes texts) = false
calls_vault (writes bytes) = false
calls_vault (crosses modules words budget) = false
calls_vault (measures asked modules hook) = false
calls_vault (tries modules words budget) = false
calls_vault (tests asked modules) = false
calls_vault (selects budget before after) = false
calls_vault (judges budget modules) = false
calls_vault (says text) = false

-- a run calls the vault at most twice
abbrev pub RunTwiceLaw : Type 0
RunTwiceLaw =
    (branch append : Bool) (context : Option Word) (steps : Option ℕ)
    (hook : Option (Word × Word)) (data_file rcfile : Option Word) (script : Word)
    (args : List Word)
    → CallsAtMost calls_vault 2 (run branch append context steps hook data_file rcfile script args)

-- ---- whose fault

-- the objects that may fail
pub data Object : Type 0 where
  the_input : Object
  the_output : Object
  the_shelf : Object
  the_vault : Object
  the_maker : Object

-- a number for each
abbrev pub number_of : Object → ℕ
number_of the_input = 0
number_of the_output = 1
number_of the_shelf = 2
number_of the_vault = 3
number_of the_maker = 4

-- the object that a refusal blames
abbrev pub blame_of : Refusal → Option Object
blame_of (usage words) = None
blame_of (no_such_file name) = None
blame_of (syntax file line kind) = None
blame_of (limit kind n) = None
blame_of (bad_config key) = None
blame_of (bad_pattern at) = None
blame_of (pattern_size at) = Some the_maker
blame_of (no_function name) = None
blame_of (no_data name) = None
blame_of (mixed first other) = None
blame_of (bad_data name kind) = None
blame_of (no_source path) = None
blame_of read_fault = Some the_input
blame_of write_fault = Some the_output
blame_of shelf_fault = Some the_shelf
blame_of vault_fault = Some the_vault
blame_of no_memory = None
blame_of (import_failed file) = None

-- a shelf's answer is its fault; that a put is absent or too large is none that it gives
abbrev pub read_blame : ShelfError → Option Object
read_blame shelf_error.Absent = None
read_blame shelf_error.TooLarge = None
read_blame shelf_error.Failed = Some the_shelf
read_blame shelf_error.NoMemory = None

-- a refused put, of which each answer but want of memory counts as a fault
abbrev pub put_blame : ShelfError → Option Object
put_blame shelf_error.Absent = Some the_shelf
put_blame shelf_error.TooLarge = Some the_shelf
put_blame shelf_error.Failed = Some the_shelf
put_blame shelf_error.NoMemory = None

-- a refused load
abbrev pub load_blame : VaultError → Option Object
load_blame vault_error.Absent = None
load_blame vault_error.NotSchema7 = None
load_blame (vault_error.BadRow i) = None
load_blame vault_error.Failed = Some the_vault
load_blame vault_error.NoMemory = None

-- a refused save, or a refused list of names
abbrev pub vault_blame : VaultError → Option Object
vault_blame vault_error.Absent = Some the_vault
vault_blame vault_error.NotSchema7 = None
vault_blame (vault_error.BadRow i) = None
vault_blame vault_error.Failed = Some the_vault
vault_blame vault_error.NoMemory = None

-- a refused removal
abbrev pub remove_blame : VaultError → Option Object
remove_blame vault_error.Absent = None
remove_blame vault_error.NotSchema7 = Some the_vault
remove_blame (vault_error.BadRow i) = Some the_vault
remove_blame vault_error.Failed = Some the_vault
remove_blame vault_error.NoMemory = None

-- a pattern that isn't made
abbrev pub make_blame : PatternError → Option Object
make_blame (pattern_error.BadPattern i) = None
make_blame (pattern_error.PatternSize i) = Some the_maker
make_blame pattern_error.NoMemory = None

-- a refused write
abbrev pub write_blame : SinkError → Option Object
write_blame sink_error.Failed = Some the_output
write_blame sink_error.NoMemory = None

-- a run that is given up
abbrev pub run_blame : RunFault → Option Object
run_blame run_fault.ReadFault = Some the_input
run_blame run_fault.WriteFault = Some the_output
run_blame run_fault.NoMemory = None

-- whom a refused answer blames
abbrev pub by_error : {A E : Type 0} → (E → Option Object) → Result A E → Option Object
by_error blame (Ok a) = None
by_error blame (Err e) = blame e

-- whom a refusal blames, where there is one
abbrev pub by_refusal : {E : Type 0} → (E → Option Object) → Option E → Option Object
by_refusal blame None = None
by_refusal blame (Some e) = blame e

-- the object whose fault an answer is
abbrev pub blamed : (call : Call) → Answer call → Option Object
blamed (spells words) answer = None
blamed (checks bytes) reading = None
blamed (reads name most) answer = by_error read_blame answer
blamed (puts name bytes) refusal = by_refusal put_blame refusal
blamed (opens name script) answer = by_error blame_of answer
blamed lists answer = by_error vault_blame answer
blamed (loads name) answer = by_error load_blame answer
blamed (saves name content) refusal = by_refusal vault_blame refusal
blamed (removes name) refusal = by_refusal remove_blame refusal
blamed (makes texts) refusal = by_refusal make_blame refusal
blamed (writes bytes) refusal = by_refusal write_blame refusal
blamed (crosses modules words budget) answer = by_error run_blame answer
blamed (measures asked modules hook) answer = by_error run_blame answer
blamed (tries modules words budget) answer = None
blamed (tests asked modules) answer = None
blamed (selects budget before after) answer = None
blamed (judges budget modules) answer = None
blamed (says text) answer = None

-- that is this object
abbrev pub is_object : Object → Option Object → Bool
is_object o None = false
is_object o (Some p) = nat_eq (number_of p) (number_of o)

-- an answer is a fault of this object
abbrev pub brings : Object → (call : Call) → Answer call → Bool
brings o call answer = is_object o (blamed call answer)

-- A refusal that blames an object is given only after an answer that is its fault.
abbrev pub BlameLaw : Type 0
BlameLaw =
    (o : Object) (r : Refusal) → blame_of r ≡ Some o → (words : List Word)
    → BlamesOnly (brings o) (Err r) (step words)

-- ---- want of memory

-- no memory for a call of the shelf
abbrev pub shelf_hungry : ShelfError → Bool
shelf_hungry shelf_error.Absent = false
shelf_hungry shelf_error.TooLarge = false
shelf_hungry shelf_error.Failed = false
shelf_hungry shelf_error.NoMemory = true

-- of the vault
abbrev pub vault_hungry : VaultError → Bool
vault_hungry vault_error.Absent = false
vault_hungry vault_error.NotSchema7 = false
vault_hungry (vault_error.BadRow i) = false
vault_hungry vault_error.Failed = false
vault_hungry vault_error.NoMemory = true

-- for patterns
abbrev pub pattern_hungry : PatternError → Bool
pattern_hungry (pattern_error.BadPattern i) = false
pattern_hungry (pattern_error.PatternSize i) = false
pattern_hungry pattern_error.NoMemory = true

-- for a write
abbrev pub sink_hungry : SinkError → Bool
sink_hungry sink_error.Failed = false
sink_hungry sink_error.NoMemory = true

-- for a run
abbrev pub run_hungry : RunFault → Bool
run_hungry run_fault.ReadFault = false
run_hungry run_fault.WriteFault = false
run_hungry run_fault.NoMemory = true

-- for tokens
abbrev pub token_hungry : TokenError → Bool
token_hungry (token_error.BadCharacter line) = false
token_hungry (token_error.BadIndent line) = false
token_hungry (token_error.OpenString line) = false
token_hungry (token_error.OpenBracket line) = false
token_hungry (token_error.WideNumber line) = false
token_hungry token_error.NoMemory = true

-- for a tree
abbrev pub syntax_hungry : SyntaxError → Bool
syntax_hungry (syntax_error.Unexpected line) = false
syntax_hungry (syntax_error.TooDeep kind line) = false
syntax_hungry syntax_error.NoMemory = true

-- for its scopes
abbrev pub scope_hungry : ScopeError → Bool
scope_hungry (scope_error.BreakOutside line) = false
scope_hungry (scope_error.ReturnOutside line) = false
scope_hungry (scope_error.GlobalAfterUse line) = false
scope_hungry (scope_error.NestedFunction line) = false
scope_hungry (scope_error.EarlyIrrefutable line) = false
scope_hungry (scope_error.TwiceNamed line) = false
scope_hungry scope_error.NoMemory = true

-- for the checks of a source
abbrev pub reading_hungry : Reading → Bool
reading_hungry (no_text line) = false
reading_hungry (long lines) = false
reading_hungry (stuck error) = token_hungry error
reading_hungry (no_tree error) = syntax_hungry error
reading_hungry (ill_formed error) = scope_hungry error
reading_hungry (tree m) = false
reading_hungry unread = true

-- for loading
abbrev pub refusal_hungry : Refusal → Bool
refusal_hungry (usage words) = false
refusal_hungry (no_such_file name) = false
refusal_hungry (syntax file line kind) = false
refusal_hungry (limit kind n) = false
refusal_hungry (bad_config key) = false
refusal_hungry (bad_pattern at) = false
refusal_hungry (pattern_size at) = false
refusal_hungry (no_function name) = false
refusal_hungry (no_data name) = false
refusal_hungry (mixed first other) = false
refusal_hungry (bad_data name kind) = false
refusal_hungry (no_source path) = false
refusal_hungry read_fault = false
refusal_hungry write_fault = false
refusal_hungry shelf_fault = false
refusal_hungry vault_fault = false
refusal_hungry no_memory = true
refusal_hungry (import_failed file) = false

-- a refused answer for want of memory
abbrev pub hungry_error : {A E : Type 0} → (E → Bool) → Result A E → Bool
hungry_error hungry (Ok a) = false
hungry_error hungry (Err e) = hungry e

-- a refusal for want of memory
abbrev pub hungry_refusal : {E : Type 0} → (E → Bool) → Option E → Bool
hungry_refusal hungry None = false
hungry_refusal hungry (Some e) = hungry e

-- a try that memory was wanting for
abbrev pub is_wanting : {A : Type 0} → Option A → Bool
is_wanting None = true
is_wanting (Some a) = false

-- tests that memory was wanting for
abbrev pub tests_starved : {A : Type 0} → AfterImport A → Bool
tests_starved (came a) = false
tests_starved not_imported = false
tests_starved starved = true

-- an answer that an object gives for want of memory
abbrev pub is_hungry : (call : Call) → Answer call → Bool
is_hungry (spells words) answer = false
is_hungry (checks bytes) reading = reading_hungry reading
is_hungry (reads name most) answer = hungry_error shelf_hungry answer
is_hungry (puts name bytes) refusal = hungry_refusal shelf_hungry refusal
is_hungry (opens name script) answer = hungry_error refusal_hungry answer
is_hungry lists answer = hungry_error vault_hungry answer
is_hungry (loads name) answer = hungry_error vault_hungry answer
is_hungry (saves name content) refusal = hungry_refusal vault_hungry refusal
is_hungry (removes name) refusal = hungry_refusal vault_hungry refusal
is_hungry (makes texts) refusal = hungry_refusal pattern_hungry refusal
is_hungry (writes bytes) refusal = hungry_refusal sink_hungry refusal
is_hungry (crosses modules words budget) answer = hungry_error run_hungry answer
is_hungry (measures asked modules hook) answer = hungry_error run_hungry answer
is_hungry (tries modules words budget) answer = is_wanting answer
is_hungry (tests asked modules) answer = tests_starved answer
is_hungry (selects budget before after) answer = tests_starved answer
is_hungry (judges budget modules) answer = tests_starved answer
is_hungry (says text) answer = false

-- After such an answer a command is refused for want of memory.
abbrev pub YieldLaw : Type 0
YieldLaw = (words : List Word) → Yields IsNoMemory is_hungry (step words)

-- ---- a script

-- what a script answers whose lines came to this; memory may be wanting behind the last of them
abbrev pub EndsLines : Result (List (Unit {0})) PlainWhy → Result Answered PlainWhy → Type 0
EndsLines (Ok told) ending = (ending ≡ Ok done) ⊎ (ending ≡ Err (Err no_memory))
EndsLines (Err why) ending = ending ≡ Err why

-- Each line began where those before it led, and the first that was refused ended the script.
pub record IsFold {W : Type 0} (moves : Moves Call Answer W) (ls : List (List ℕ)) (old : W)
    (ending : Result Answered PlainWhy) (new : W) : Type 0 where
  pub told : Result (List (Unit {0})) PlainWhy
  pub folds : Folds moves IsNoMemory line_step ls old told new
  pub ends : EndsLines told ending

-- A script is that fold over the lines of its file, or its file is refused.
abbrev pub FoldLaw : {W : Type 0} → Moves Call Answer W → Type 0
FoldLaw {W} moves =
    (name : Word) (old : W) (ending : Result Answered PlainWhy) (new : W)
    → Follows moves IsNoMemory (script name) old ending new
    → ((why : PlainWhy) × Follows moves IsNoMemory (script_text name) old (Err why) new
    × (ending ≡ Err why))
    ⊎ ((text : List ℕ) × (mid : W) × Follows moves IsNoMemory (script_text name) old (Ok text) mid
    × IsFold moves (lines text) mid ending new)
