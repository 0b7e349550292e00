-- What follows from an answer. Each cause has one line here, for all commands.
--     bytes_of, bytes_if_any       the bytes of a file, and of one that may be absent
--     given_or                     what stands for an answer that says why
--     load_refusal, vault_refusal  why a call of the vault is refused
--     Before, before_of            what stands under the name of a command's data
--     run_refusal, shelf_refusal, sink_refusal, pattern_refusal    why other calls are refused
--     last, on, removed            after the last call, one on the way, and a removal
--     tree_of                      the tree of a source, or why it has none
use Rattle.std.specs.Prelude.{ℕ, suc, ◌+◌, List, [], Option, Some, None, Result, Ok, Err}
use Rattle.cov_outside.specs.declared.shelf.ShelfError.{ShelfError}
use Rattle.cov_outside.specs.declared.shelf.ShelfError.TheVariants as shelf_error
use Rattle.cov_outside.specs.declared.sink.SinkError.{SinkError}
use Rattle.cov_outside.specs.declared.sink.SinkError.TheVariants as sink_error
use Rattle.py_builtins.specs.declared.fault.RunFault.{RunFault}
use Rattle.py_builtins.specs.declared.fault.RunFault.TheVariants as run_fault
use Rattle.py_parse.specs.declared.error.DepthKind.{DepthKind}
use Rattle.py_parse.specs.declared.error.DepthKind.TheVariants as depth
use Rattle.py_parse.specs.declared.error.SyntaxError.{SyntaxError}
use Rattle.py_parse.specs.declared.error.SyntaxError.TheVariants as syntax_error
use Rattle.py_scope.specs.declared.error.ScopeError.{ScopeError}
use Rattle.py_scope.specs.declared.error.ScopeError.TheVariants as scope_error
use Rattle.py_syntax.specs.Spelling.{HEIGHT, NESTING}
use Rattle.py_token.specs.declared.error.TokenError.{TokenError}
use Rattle.py_token.specs.declared.error.TokenError.TheVariants as token_error
use Rattle.cov_data.specs.DataSet.{DataSet}
use Rattle.cov_exclude.specs.declared.patterns.PatternError.{PatternError}
use Rattle.cov_exclude.specs.declared.patterns.PatternError.TheVariants as pattern_error
use Rattle.cov_programs.specs.Programs.{give, settle}
use Rattle.cov_run.specs.Loading.{most_bytes}
use Rattle.cov_run.specs.Reading.{Reading, no_text, long, stuck, no_tree, ill_formed, tree, unread}
use Rattle.cov_vault.specs.declared.vault.VaultError.{VaultError}
use Rattle.cov_vault.specs.declared.vault.VaultError.TheVariants as vault_error
use Rattle.cov_why.specs.Answers.{Refusal, syntax, limit, bad_pattern, pattern_size, no_data, bad_data, read_fault, write_fault, shelf_fault, vault_fault, no_memory}
use Rattle.cov_why.specs.declared.why.BadKind.TheVariants as bad
use Rattle.cov_why.specs.declared.why.LimitKind.TheVariants as limits
use Rattle.cov_why.specs.declared.why.SyntaxKind.{SyntaxKind}
use Rattle.cov_why.specs.declared.why.SyntaxKind.TheVariants as kinds
use Rattle.cov_words.specs.Values.{Word}
use Rattle.cov_step.specs.Calls.{Answered, PlainSource, Step, refuse}

-- ---- files

-- a file that has to be there; where it isn't, the command is refused so
abbrev pub bytes_of : Refusal → Result (List ℕ) ShelfError → Step (List ℕ)
bytes_of absent (Ok bytes) = give bytes
bytes_of absent (Err shelf_error.Absent) = refuse absent
bytes_of absent (Err shelf_error.TooLarge) = refuse (limit limits.FileBytes (suc most_bytes))
bytes_of absent (Err shelf_error.Failed) = refuse shelf_fault
bytes_of absent (Err shelf_error.NoMemory) = refuse no_memory

-- a file that may be absent: it is then as an empty one
abbrev pub bytes_if_any : Result (List ℕ) ShelfError → Step (List ℕ)
bytes_if_any (Ok bytes) = give bytes
bytes_if_any (Err shelf_error.Absent) = give []
bytes_if_any (Err shelf_error.TooLarge) = refuse (limit limits.FileBytes (suc most_bytes))
bytes_if_any (Err shelf_error.Failed) = refuse shelf_fault
bytes_if_any (Err shelf_error.NoMemory) = refuse no_memory

-- what stands for an answer that says why
abbrev pub given_or : {A E : Type 0} → (E → Refusal) → Result A E → Step A
given_or why (Ok a) = give a
given_or why (Err e) = refuse (why e)

-- ---- a vault

-- why data that are needed can't be had
abbrev pub load_refusal : Word → VaultError → Refusal
load_refusal name vault_error.Absent = no_data name
load_refusal name vault_error.NotSchema7 = bad_data name bad.NotSchema7
load_refusal name (vault_error.BadRow i) = bad_data name (bad.BadRow i)
load_refusal name vault_error.Failed = vault_fault
load_refusal name vault_error.NoMemory = no_memory

-- why data aren't saved, or names aren't listed; no vault answers that these are absent
abbrev pub vault_refusal : Word → VaultError → Refusal
vault_refusal name vault_error.Absent = vault_fault
vault_refusal name vault_error.NotSchema7 = bad_data name bad.NotSchema7
vault_refusal name (vault_error.BadRow i) = bad_data name (bad.BadRow i)
vault_refusal name vault_error.Failed = vault_fault
vault_refusal name vault_error.NoMemory = no_memory

-- what stands under the name of a command's data before it
pub data Before : Type 0 where
  nothing : Before
  there : DataSet → Before
  bad_row : (i : ℕ) → Before

-- a file that is no data file of schema 7 isn't replaced
abbrev pub before_of : Word → Result DataSet VaultError → Step Before
before_of name (Ok d) = give (there d)
before_of name (Err vault_error.Absent) = give nothing
before_of name (Err vault_error.NotSchema7) = refuse (bad_data name bad.NotSchema7)
before_of name (Err (vault_error.BadRow i)) = give (bad_row i)
before_of name (Err vault_error.Failed) = refuse vault_fault
before_of name (Err vault_error.NoMemory) = refuse no_memory

-- a removal: that nothing was there counts as removed
abbrev pub removed : {A : Type 0} → Step A → Option VaultError → Step A
removed next None = next
removed next (Some vault_error.Absent) = next
removed next (Some vault_error.NotSchema7) = refuse vault_fault
removed next (Some (vault_error.BadRow i)) = refuse vault_fault
removed next (Some vault_error.Failed) = refuse vault_fault
removed next (Some vault_error.NoMemory) = refuse no_memory

-- ---- a run, and what is put and written

-- why a run is given up
abbrev pub run_refusal : RunFault → Refusal
run_refusal run_fault.ReadFault = read_fault
run_refusal run_fault.WriteFault = write_fault
run_refusal run_fault.NoMemory = no_memory

-- why a file isn't put; no shelf answers that it is absent or too large
abbrev pub shelf_refusal : ShelfError → Refusal
shelf_refusal shelf_error.Absent = shelf_fault
shelf_refusal shelf_error.TooLarge = shelf_fault
shelf_refusal shelf_error.Failed = shelf_fault
shelf_refusal shelf_error.NoMemory = no_memory

-- why a text isn't written
abbrev pub sink_refusal : SinkError → Refusal
sink_refusal sink_error.Failed = write_fault
sink_refusal sink_error.NoMemory = no_memory

-- why patterns aren't made of texts, of which the first has this number
abbrev pub pattern_refusal : ℕ → PatternError → Refusal
pattern_refusal n (pattern_error.BadPattern i) = bad_pattern (n + i)
pattern_refusal n (pattern_error.PatternSize i) = pattern_size (n + i)
pattern_refusal n pattern_error.NoMemory = no_memory

-- after the last call of a command memory isn't wanting any more
abbrev pub last : {E : Type 0} → (E → Refusal) → Answered → Option E → Step Answered
last why a None = settle a
last why a (Some e) = refuse (why e)

-- after a call on the way
abbrev pub on : {E : Type 0} → (E → Refusal) → Option E → Step (Unit {0})
on why None = give tt
on why (Some e) = refuse (why e)

-- ---- a source

-- why a text has no tokens
abbrev pub token_refusal : Word → TokenError → Refusal
token_refusal path (token_error.BadCharacter line) = syntax path line kinds.BadCharacter
token_refusal path (token_error.BadIndent line) = syntax path line kinds.BadIndent
token_refusal path (token_error.OpenString line) = syntax path line kinds.OpenString
token_refusal path (token_error.OpenBracket line) = syntax path line kinds.OpenBracket
token_refusal path (token_error.WideNumber line) = syntax path line kinds.WideNumber
token_refusal path token_error.NoMemory = no_memory

-- what is too deep
abbrev pub depth_refusal : DepthKind → Refusal
depth_refusal depth.Expressions = limit limits.Expressions (suc HEIGHT)
depth_refusal depth.Suites = limit limits.Suites (suc NESTING)

-- why tokens are those of no tree
abbrev pub syntax_refusal : Word → SyntaxError → Refusal
syntax_refusal path (syntax_error.Unexpected line) = syntax path line kinds.Unexpected
syntax_refusal path (syntax_error.TooDeep kind line) = depth_refusal kind
syntax_refusal path syntax_error.NoMemory = no_memory

-- why a tree isn't well formed
abbrev pub scope_refusal : Word → ScopeError → Refusal
scope_refusal path (scope_error.BreakOutside line) = syntax path line kinds.BreakOutside
scope_refusal path (scope_error.ReturnOutside line) = syntax path line kinds.ReturnOutside
scope_refusal path (scope_error.GlobalAfterUse line) = syntax path line kinds.GlobalAfterUse
scope_refusal path (scope_error.NestedFunction line) = syntax path line kinds.NestedFunction
scope_refusal path (scope_error.EarlyIrrefutable line) = syntax path line kinds.EarlyIrrefutable
scope_refusal path (scope_error.TwiceNamed line) = syntax path line kinds.TwiceNamed
scope_refusal path scope_error.NoMemory = no_memory

-- the tree of a source, or the first check that failed
abbrev pub tree_of : Word → List ℕ → Reading → Step PlainSource
tree_of path bytes (no_text line) = refuse (syntax path line kinds.BadCharacter)
tree_of path bytes (long lines) = refuse (limit limits.Lines lines)
tree_of path bytes (stuck error) = refuse (token_refusal path error)
tree_of path bytes (no_tree error) = refuse (syntax_refusal path error)
tree_of path bytes (ill_formed error) = refuse (scope_refusal path error)
tree_of path bytes (tree m) = give (record { path = path; text = bytes; body = m })
tree_of path bytes unread = refuse no_memory
