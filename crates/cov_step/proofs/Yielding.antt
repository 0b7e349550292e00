-- After an answer for want of memory a command is refused so.
use Rattle.std.proofs.Common.{◌≡◌, ℕ, Bool, true, false, true≢false, refl, sym, ap, List, [], ◌∷◌, filter, Option, Some, None, Result, Ok, Err}
use Rattle.cov_outside.specs.declared.shelf.ShelfError.{ShelfError}
use Rattle.cov_outside.specs.declared.shelf.ShelfError.TheVariants as shelf_error
use Rattle.cov_outside.specs.declared.sink.SinkError.{SinkError}
use Rattle.cov_outside.specs.declared.sink.SinkError.TheVariants as sink_error
use Rattle.py_builtins.specs.declared.fault.RunFault.{RunFault}
use Rattle.py_builtins.specs.declared.fault.RunFault.TheVariants as run_fault
use Rattle.py_parse.specs.declared.error.SyntaxError.{SyntaxError}
use Rattle.py_parse.specs.declared.error.SyntaxError.TheVariants as syntax_error
use Rattle.py_scope.specs.declared.error.ScopeError.{ScopeError}
use Rattle.py_scope.specs.declared.error.ScopeError.TheVariants as scope_error
use Rattle.py_token.specs.declared.error.TokenError.{TokenError}
use Rattle.py_token.specs.declared.error.TokenError.TheVariants as token_error
use Rattle.cov_data.specs.DataSet.{DataSet}
use Rattle.cov_exclude.specs.declared.patterns.PatternError.{PatternError}
use Rattle.cov_exclude.specs.declared.patterns.PatternError.TheVariants as pattern_error
use Rattle.cov_programs.specs.Programs.{give, settle, bind}
use Rattle.cov_programs.specs.Laws.{IsWant, Yields}
use Rattle.cov_programs.proofs.Parts.{then-yields, each-yields}
use Rattle.cov_run.specs.Reading.{Reading, no_text, long, stuck, no_tree, ill_formed, tree, unread}
use Rattle.cov_vault.specs.declared.vault.VaultError.{VaultError}
use Rattle.cov_vault.specs.declared.vault.VaultError.TheVariants as vault_error
use Rattle.cov_why.specs.Answers.{Refusal, usage, no_such_file, syntax, limit, bad_config, bad_pattern, pattern_size, no_function, no_data, mixed, bad_data, no_source, read_fault, write_fault, shelf_fault, vault_fault, no_memory, import_failed}
use Rattle.cov_words.specs.Commands.{PlainCommand}
use Rattle.cov_words.specs.Values.{Word}
use Rattle.cov_step.specs.Calls.{Answered, Ran, AfterImport, came, not_imported, starved, Step, IsNoMemory}
use Rattle.cov_step.specs.Answers.{bytes_of, bytes_if_any, given_or, load_refusal, vault_refusal, before_of, removed, run_refusal, shelf_refusal, sink_refusal, pattern_refusal, last, on, token_refusal, syntax_refusal, scope_refusal, tree_of}
use Rattle.cov_step.specs.Phases.{inputs, is_part_of}
use Rattle.cov_step.specs.Making.{ran_if_any}
use Rattle.cov_step.specs.Testing.{came_or}
use Rattle.cov_step.specs.Step.{step}
use Rattle.cov_step.specs.Promises.{shelf_hungry, vault_hungry, pattern_hungry, sink_hungry, run_hungry, token_hungry, syntax_hungry, scope_hungry, reading_hungry, refusal_hungry, hungry_error, hungry_refusal, is_wanting, tests_starved, is_hungry}
use Rattle.cov_step.proofs.Whole.{step-is}

abbrev Yielding : (A : Type 0) → Step A → Type 0
Yielding A p = Yields IsNoMemory is_hungry p

-- after an answer that is hungry or not, want of memory or whatever follows
abbrev After : {A : Type 0} → Bool → Step A → Type 0
After {A = A} hungry p = (hungry ≡ true → IsWant IsNoMemory p) × Yielding A p

never : false ≡ true → ⊥
never h = true≢false (sym h)

-- ---- want of memory is refused so

load-wants : (name : Word) (e : VaultError) → vault_hungry e ≡ true → load_refusal name e ≡ no_memory
load-wants name vault_error.Absent h = absurd (never h)
load-wants name vault_error.NotSchema7 h = absurd (never h)
load-wants name (vault_error.BadRow i) h = absurd (never h)
load-wants name vault_error.Failed h = absurd (never h)
load-wants name vault_error.NoMemory h = refl

vault-wants : (name : Word) (e : VaultError) → vault_hungry e ≡ true → vault_refusal name e ≡ no_memory
vault-wants name vault_error.Absent h = absurd (never h)
vault-wants name vault_error.NotSchema7 h = absurd (never h)
vault-wants name (vault_error.BadRow i) h = absurd (never h)
vault-wants name vault_error.Failed h = absurd (never h)
vault-wants name vault_error.NoMemory h = refl

run-wants : (e : RunFault) → run_hungry e ≡ true → run_refusal e ≡ no_memory
run-wants run_fault.ReadFault h = absurd (never h)
run-wants run_fault.WriteFault h = absurd (never h)
run-wants run_fault.NoMemory h = refl

put-wants : (e : ShelfError) → shelf_hungry e ≡ true → shelf_refusal e ≡ no_memory
put-wants shelf_error.Absent h = absurd (never h)
put-wants shelf_error.TooLarge h = absurd (never h)
put-wants shelf_error.Failed h = absurd (never h)
put-wants shelf_error.NoMemory h = refl

write-wants : (e : SinkError) → sink_hungry e ≡ true → sink_refusal e ≡ no_memory
write-wants sink_error.Failed h = absurd (never h)
write-wants sink_error.NoMemory h = refl

make-wants : (n : ℕ) (e : PatternError) → pattern_hungry e ≡ true → pattern_refusal n e ≡ no_memory
make-wants n (pattern_error.BadPattern i) h = absurd (never h)
make-wants n (pattern_error.PatternSize i) h = absurd (never h)
make-wants n pattern_error.NoMemory h = refl

token-wants : (path : Word) (e : TokenError) → token_hungry e ≡ true → token_refusal path e ≡ no_memory
token-wants path (token_error.BadCharacter line) h = absurd (never h)
token-wants path (token_error.BadIndent line) h = absurd (never h)
token-wants path (token_error.OpenString line) h = absurd (never h)
token-wants path (token_error.OpenBracket line) h = absurd (never h)
token-wants path (token_error.WideNumber line) h = absurd (never h)
token-wants path token_error.NoMemory h = refl

syntax-wants : (path : Word) (e : SyntaxError) → syntax_hungry e ≡ true → syntax_refusal path e ≡ no_memory
syntax-wants path (syntax_error.Unexpected line) h = absurd (never h)
syntax-wants path (syntax_error.TooDeep kind line) h = absurd (never h)
syntax-wants path syntax_error.NoMemory h = refl

scope-wants : (path : Word) (e : ScopeError) → scope_hungry e ≡ true → scope_refusal path e ≡ no_memory
scope-wants path (scope_error.BreakOutside line) h = absurd (never h)
scope-wants path (scope_error.ReturnOutside line) h = absurd (never h)
scope-wants path (scope_error.GlobalAfterUse line) h = absurd (never h)
scope-wants path (scope_error.NestedFunction line) h = absurd (never h)
scope-wants path (scope_error.EarlyIrrefutable line) h = absurd (never h)
scope-wants path (scope_error.TwiceNamed line) h = absurd (never h)
scope-wants path scope_error.NoMemory h = refl

refusal-wants : (r : Refusal) → refusal_hungry r ≡ true → r ≡ no_memory
refusal-wants (usage words) h = absurd (never h)
refusal-wants (no_such_file name) h = absurd (never h)
refusal-wants (syntax file line kind) h = absurd (never h)
refusal-wants (limit kind n) h = absurd (never h)
refusal-wants (bad_config key) h = absurd (never h)
refusal-wants (bad_pattern at) h = absurd (never h)
refusal-wants (pattern_size at) h = absurd (never h)
refusal-wants (no_function name) h = absurd (never h)
refusal-wants (no_data name) h = absurd (never h)
refusal-wants (mixed first other) h = absurd (never h)
refusal-wants (bad_data name kind) h = absurd (never h)
refusal-wants (no_source path) h = absurd (never h)
refusal-wants read_fault h = absurd (never h)
refusal-wants write_fault h = absurd (never h)
refusal-wants shelf_fault h = absurd (never h)
refusal-wants vault_fault h = absurd (never h)
refusal-wants no_memory h = refl
refusal-wants (import_failed file) h = absurd (never h)

-- ---- after an answer

given-after : {A E : Type 0} (why : E → Refusal) (hungry : E → Bool) → ((e : E) → hungry e ≡ true → why e ≡ no_memory) → (x : Result A E) → After (hungry_error hungry x) (given_or why x)
given-after why hungry wants (Ok a) = (λ h. absurd (never h), tt)
given-after why hungry wants (Err e) = (λ h. ap Err (wants e h), tt)

last-after : {E : Type 0} (why : E → Refusal) (hungry : E → Bool) → ((e : E) → hungry e ≡ true → why e ≡ no_memory) → (a : Answered) (x : Option E) → After (hungry_refusal hungry x) (last why a x)
last-after why hungry wants a None = (λ h. absurd (never h), tt)
last-after why hungry wants a (Some e) = (λ h. ap Err (wants e h), tt)

on-after : {E : Type 0} (why : E → Refusal) (hungry : E → Bool) → ((e : E) → hungry e ≡ true → why e ≡ no_memory) → (x : Option E) → After (hungry_refusal hungry x) (on why x)
on-after why hungry wants None = (λ h. absurd (never h), tt)
on-after why hungry wants (Some e) = (λ h. ap Err (wants e h), tt)

bytes-after : (absent : Refusal) (x : Result (List ℕ) ShelfError) → After (hungry_error shelf_hungry x) (bytes_of absent x)
bytes-after absent (Ok bytes) = (λ h. absurd (never h), tt)
bytes-after absent (Err shelf_error.Absent) = (λ h. absurd (never h), tt)
bytes-after absent (Err shelf_error.TooLarge) = (λ h. absurd (never h), tt)
bytes-after absent (Err shelf_error.Failed) = (λ h. absurd (never h), tt)
bytes-after absent (Err shelf_error.NoMemory) = (λ h. refl, tt)

any-after : (x : Result (List ℕ) ShelfError) → After (hungry_error shelf_hungry x) (bytes_if_any x)
any-after (Ok bytes) = (λ h. absurd (never h), tt)
any-after (Err shelf_error.Absent) = (λ h. absurd (never h), tt)
any-after (Err shelf_error.TooLarge) = (λ h. absurd (never h), tt)
any-after (Err shelf_error.Failed) = (λ h. absurd (never h), tt)
any-after (Err shelf_error.NoMemory) = (λ h. refl, tt)

before-after : (name : Word) (x : Result DataSet VaultError) → After (hungry_error vault_hungry x) (before_of name x)
before-after name (Ok d) = (λ h. absurd (never h), tt)
before-after name (Err vault_error.Absent) = (λ h. absurd (never h), tt)
before-after name (Err vault_error.NotSchema7) = (λ h. absurd (never h), tt)
before-after name (Err (vault_error.BadRow i)) = (λ h. absurd (never h), tt)
before-after name (Err vault_error.Failed) = (λ h. absurd (never h), tt)
before-after name (Err vault_error.NoMemory) = (λ h. refl, tt)

remove-after : {A : Type 0} (next : Step A) → Yielding A next → (x : Option VaultError) → After (hungry_refusal vault_hungry x) (removed next x)
remove-after next y None = (λ h. absurd (never h), y)
remove-after next y (Some vault_error.Absent) = (λ h. absurd (never h), y)
remove-after next y (Some vault_error.NotSchema7) = (λ h. absurd (never h), tt)
remove-after next y (Some (vault_error.BadRow i)) = (λ h. absurd (never h), tt)
remove-after next y (Some vault_error.Failed) = (λ h. absurd (never h), tt)
remove-after next y (Some vault_error.NoMemory) = (λ h. refl, tt)

tree-after : (path : Word) (bytes : List ℕ) (x : Reading) → After (reading_hungry x) (tree_of path bytes x)
tree-after path bytes (no_text line) = (λ h. absurd (never h), tt)
tree-after path bytes (long lines) = (λ h. absurd (never h), tt)
tree-after path bytes (stuck error) = (λ h. ap Err (token-wants path error h), tt)
tree-after path bytes (no_tree error) = (λ h. ap Err (syntax-wants path error h), tt)
tree-after path bytes (ill_formed error) = (λ h. ap Err (scope-wants path error h), tt)
tree-after path bytes (tree m) = (λ h. absurd (never h), tt)
tree-after path bytes unread = (λ h. refl, tt)

listed-after : (own : Word) (x : Result (List Word) VaultError) → After (hungry_error vault_hungry x) (bind (given_or (vault_refusal own) x) (λ found. give (filter (is_part_of own) found)))
listed-after own (Ok found) = (λ h. absurd (never h), tt)
listed-after own (Err e) = (λ h. ap Err (vault-wants own e h), tt)

inputs-yield : (own : Word) (named : List Word) → Yielding _ (inputs own named)
inputs-yield own [] = listed-after own
inputs-yield own (n ∷ ns) = tt

came-after : {A : Type 0} (file : Word) (x : AfterImport A) → After (tests_starved x) (came_or file x)
came-after file (came a) = (λ h. absurd (never h), tt)
came-after file not_imported = (λ h. absurd (never h), tt)
came-after file starved = (λ h. refl, tt)

ran-after : (x : Option Ran) → After (is_wanting x) (ran_if_any x)
ran-after None = (λ h. refl, tt)
ran-after (Some r) = (λ h. absurd (never h), tt)

spelled-after : (x : Result PlainCommand ℕ) → After false (given_or usage x)
spelled-after (Ok c) = (λ h. absurd (never h), tt)
spelled-after (Err n) = (λ h. absurd (never h), tt)

pub law_of_want : (words : List Word) → Yields IsNoMemory is_hungry (step words)
law_of_want words = step-is Yielding (λ A a. tt) (λ A r e. tt) (λ A B p next. then-yields IsNoMemory is_hungry p next) (λ A B p h xs. each-yields IsNoMemory is_hungry p h xs)
    (λ absent n name x. bytes-after absent x) any-after (λ name script x. given-after (λ refusal. refusal) refusal_hungry refusal-wants x)
    tree-after (λ n texts x. on-after (pattern_refusal n) pattern_hungry (make-wants n) x)
    (λ name x. given-after (load_refusal name) vault_hungry (load-wants name) x) before-after inputs-yield
    (λ ms ws n x. given-after run_refusal run_hungry run-wants x) (λ asked ms hook x. given-after run_refusal run_hungry run-wants x)
    (λ bytes a x. last-after sink_refusal sink_hungry write-wants a x) (λ name bytes a x. last-after shelf_refusal shelf_hungry put-wants a x)
    (λ name content a x. last-after (vault_refusal name) vault_hungry (vault-wants name) a x) (λ name content x. on-after (vault_refusal name) vault_hungry (vault-wants name) x)
    (λ name a x. remove-after (settle a) tt x) (λ name x. remove-after (give tt) tt x)
    (λ ms ws n x. ran-after x) (λ asked ms file x. came-after file x) (λ n old new file x. came-after file x) (λ n ms file x. came-after file x) (λ bytes x. on-after sink_refusal sink_hungry write-wants x) (λ ws x. spelled-after x) (λ text x. (λ h. absurd (never h), tt)) words
