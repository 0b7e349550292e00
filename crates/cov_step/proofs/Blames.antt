-- A refusal that blames an object is given only after an answer that is its fault.
use Rattle.std.proofs.Common.{◌≡◌, ◌∙◌, ℕ, true, false, true≢false, refl, sym, ap, List, [], ◌∷◌, filter, Option, Some, None, Result, Ok, Err}
use Rattle.cov_outside.specs.declared.shelf.ShelfError.{ShelfError}
use Rattle.cov_outside.specs.declared.shelf.ShelfError.TheVariants as shelf_error
use Rattle.cov_outside.specs.declared.sink.SinkError.{SinkError}
use Rattle.cov_outside.specs.declared.sink.SinkError.TheVariants as sink_error
use Rattle.py_builtins.specs.declared.fault.RunFault.{RunFault}
use Rattle.py_builtins.specs.declared.fault.RunFault.TheVariants as run_fault
use Rattle.py_parse.specs.declared.error.DepthKind.{DepthKind}
use Rattle.py_parse.specs.declared.error.DepthKind.TheVariants as depth
use Rattle.py_parse.specs.declared.error.SyntaxError.{SyntaxError}
use Rattle.py_parse.specs.declared.error.SyntaxError.TheVariants as syntax_error
use Rattle.py_scope.specs.declared.error.ScopeError.{ScopeError}
use Rattle.py_scope.specs.declared.error.ScopeError.TheVariants as scope_error
use Rattle.py_token.specs.declared.error.TokenError.{TokenError}
use Rattle.py_token.specs.declared.error.TokenError.TheVariants as token_error
use Rattle.cov_data.specs.DataSet.{DataSet}
use Rattle.cov_exclude.specs.declared.patterns.PatternError.{PatternError}
use Rattle.cov_exclude.specs.declared.patterns.PatternError.TheVariants as pattern_error
use Rattle.cov_programs.specs.Programs.{give, settle, bind}
use Rattle.cov_programs.specs.Laws.{BlamesOnly}
use Rattle.cov_programs.proofs.Parts.{then-blames, each-blames}
use Rattle.cov_run.specs.Reading.{Reading, no_text, long, stuck, no_tree, ill_formed, tree, unread}
use Rattle.cov_vault.specs.declared.vault.VaultError.{VaultError}
use Rattle.cov_vault.specs.declared.vault.VaultError.TheVariants as vault_error
use Rattle.cov_why.specs.Answers.{Refusal, PlainWhy, usage}
use Rattle.cov_words.specs.Commands.{PlainCommand}
use Rattle.cov_words.specs.Values.{Word}
use Rattle.cov_step.specs.Calls.{Answered, Ran, AfterImport, came, not_imported, starved, Step}
use Rattle.cov_step.specs.Answers.{bytes_of, bytes_if_any, given_or, load_refusal, vault_refusal, before_of, removed, run_refusal, shelf_refusal, sink_refusal, pattern_refusal, last, on, token_refusal, depth_refusal, syntax_refusal, scope_refusal, tree_of}
use Rattle.cov_step.specs.Phases.{file, inputs, is_part_of}
use Rattle.cov_step.specs.Making.{ran_if_any}
use Rattle.cov_step.specs.Testing.{came_or}
use Rattle.cov_step.specs.Step.{step}
use Rattle.cov_step.specs.Promises.{Object, the_input, the_output, the_shelf, the_vault, the_maker, blame_of, read_blame, put_blame, load_blame, vault_blame, remove_blame, make_blame, write_blame, run_blame, by_error, by_refusal, is_object, brings}
use Rattle.cov_step.proofs.Whole.{step-is}

same-object : (o : Object) → is_object o (Some o) ≡ true
same-object the_input = refl
same-object the_output = refl
same-object the_shelf = refl
same-object the_vault = refl
same-object the_maker = refl

err-is : {s r : Refusal} → ◌≡◌ {A = PlainWhy} (Err s) (Err r) → s ≡ r
err-is h = cc

-- ---- each refusal blames whom its answer blames

load-same : (name : Word) (e : VaultError) → blame_of (load_refusal name e) ≡ load_blame e
load-same name vault_error.Absent = refl
load-same name vault_error.NotSchema7 = refl
load-same name (vault_error.BadRow i) = refl
load-same name vault_error.Failed = refl
load-same name vault_error.NoMemory = refl

vault-same : (name : Word) (e : VaultError) → blame_of (vault_refusal name e) ≡ vault_blame e
vault-same name vault_error.Absent = refl
vault-same name vault_error.NotSchema7 = refl
vault-same name (vault_error.BadRow i) = refl
vault-same name vault_error.Failed = refl
vault-same name vault_error.NoMemory = refl

run-same : (e : RunFault) → blame_of (run_refusal e) ≡ run_blame e
run-same run_fault.ReadFault = refl
run-same run_fault.WriteFault = refl
run-same run_fault.NoMemory = refl

put-same : (e : ShelfError) → blame_of (shelf_refusal e) ≡ put_blame e
put-same shelf_error.Absent = refl
put-same shelf_error.TooLarge = refl
put-same shelf_error.Failed = refl
put-same shelf_error.NoMemory = refl

write-same : (e : SinkError) → blame_of (sink_refusal e) ≡ write_blame e
write-same sink_error.Failed = refl
write-same sink_error.NoMemory = refl

make-same : (n : ℕ) (e : PatternError) → blame_of (pattern_refusal n e) ≡ make_blame e
make-same n (pattern_error.BadPattern i) = refl
make-same n (pattern_error.PatternSize i) = refl
make-same n pattern_error.NoMemory = refl

token-same : (path : Word) (e : TokenError) → blame_of (token_refusal path e) ≡ None
token-same path (token_error.BadCharacter line) = refl
token-same path (token_error.BadIndent line) = refl
token-same path (token_error.OpenString line) = refl
token-same path (token_error.OpenBracket line) = refl
token-same path (token_error.WideNumber line) = refl
token-same path token_error.NoMemory = refl

depth-same : (k : DepthKind) → blame_of (depth_refusal k) ≡ None
depth-same depth.Expressions = refl
depth-same depth.Suites = refl

syntax-same : (path : Word) (e : SyntaxError) → blame_of (syntax_refusal path e) ≡ None
syntax-same path (syntax_error.Unexpected line) = refl
syntax-same path (syntax_error.TooDeep kind line) = depth-same kind
syntax-same path syntax_error.NoMemory = refl

scope-same : (path : Word) (e : ScopeError) → blame_of (scope_refusal path e) ≡ None
scope-same path (scope_error.BreakOutside line) = refl
scope-same path (scope_error.ReturnOutside line) = refl
scope-same path (scope_error.GlobalAfterUse line) = refl
scope-same path (scope_error.NestedFunction line) = refl
scope-same path (scope_error.EarlyIrrefutable line) = refl
scope-same path (scope_error.TwiceNamed line) = refl
scope-same path scope_error.NoMemory = refl

module _ (o : Object) (r : Refusal) (e : blame_of r ≡ Some o) where
  abbrev Blaming : (A : Type 0) → Step A → Type 0
  Blaming A p = BlamesOnly (brings o) (Err r) p

  -- a refusal that blames somebody else, or nobody
  clear : (s : Refusal) → is_object o (blame_of s) ≡ false → ◌≡◌ {A = PlainWhy} (Err s) (Err r) → ⊥
  clear s f h = true≢false (sym (same-object o) ∙ (ap (is_object o) (sym e ∙ sym (ap blame_of (err-is h))) ∙ f))

  given-blames : {A E : Type 0} (why : E → Refusal) (blame : E → Option Object) → ((x : E) → blame_of (why x) ≡ blame x) → (x : Result A E) → is_object o (by_error blame x) ≡ false → Blaming _ (given_or why x)
  given-blames why blame same (Ok a) f = tt
  given-blames why blame same (Err x) f = clear (why x) (ap (is_object o) (same x) ∙ f)

  last-blames : {E : Type 0} (why : E → Refusal) (blame : E → Option Object) → ((x : E) → blame_of (why x) ≡ blame x) → (a : Answered) (x : Option E) → is_object o (by_refusal blame x) ≡ false → Blaming _ (last why a x)
  last-blames why blame same a None f = tt
  last-blames why blame same a (Some x) f = clear (why x) (ap (is_object o) (same x) ∙ f)

  on-blames : {E : Type 0} (why : E → Refusal) (blame : E → Option Object) → ((x : E) → blame_of (why x) ≡ blame x) → (x : Option E) → is_object o (by_refusal blame x) ≡ false → Blaming _ (on why x)
  on-blames why blame same None f = tt
  on-blames why blame same (Some x) f = clear (why x) (ap (is_object o) (same x) ∙ f)

  bytes-blames : (absent : Refusal) → blame_of absent ≡ None → (x : Result (List ℕ) ShelfError) → is_object o (by_error read_blame x) ≡ false → Blaming _ (bytes_of absent x)
  bytes-blames absent n (Ok bytes) f = tt
  bytes-blames absent n (Err shelf_error.Absent) f = clear absent (ap (is_object o) n)
  bytes-blames absent n (Err shelf_error.TooLarge) f = clear _ refl
  bytes-blames absent n (Err shelf_error.Failed) f = clear _ f
  bytes-blames absent n (Err shelf_error.NoMemory) f = clear _ refl

  any-blames : (x : Result (List ℕ) ShelfError) → is_object o (by_error read_blame x) ≡ false → Blaming _ (bytes_if_any x)
  any-blames (Ok bytes) f = tt
  any-blames (Err shelf_error.Absent) f = tt
  any-blames (Err shelf_error.TooLarge) f = clear _ refl
  any-blames (Err shelf_error.Failed) f = clear _ f
  any-blames (Err shelf_error.NoMemory) f = clear _ refl

  before-blames : (name : Word) (x : Result DataSet VaultError) → is_object o (by_error load_blame x) ≡ false → Blaming _ (before_of name x)
  before-blames name (Ok d) f = tt
  before-blames name (Err vault_error.Absent) f = tt
  before-blames name (Err vault_error.NotSchema7) f = clear _ refl
  before-blames name (Err (vault_error.BadRow i)) f = tt
  before-blames name (Err vault_error.Failed) f = clear _ f
  before-blames name (Err vault_error.NoMemory) f = clear _ refl

  remove-blames : {A : Type 0} (next : Step A) → Blaming A next → (x : Option VaultError) → is_object o (by_refusal remove_blame x) ≡ false → Blaming _ (removed next x)
  remove-blames next h None f = h
  remove-blames next h (Some vault_error.Absent) f = h
  remove-blames next h (Some vault_error.NotSchema7) f = clear _ f
  remove-blames next h (Some (vault_error.BadRow i)) f = clear _ f
  remove-blames next h (Some vault_error.Failed) f = clear _ f
  remove-blames next h (Some vault_error.NoMemory) f = clear _ refl

  tree-blames : (path : Word) (bytes : List ℕ) (x : Reading) → Blaming _ (tree_of path bytes x)
  tree-blames path bytes (no_text line) = clear _ refl
  tree-blames path bytes (long lines) = clear _ refl
  tree-blames path bytes (stuck error) = clear (token_refusal path error) (ap (is_object o) (token-same path error))
  tree-blames path bytes (no_tree error) = clear (syntax_refusal path error) (ap (is_object o) (syntax-same path error))
  tree-blames path bytes (ill_formed error) = clear (scope_refusal path error) (ap (is_object o) (scope-same path error))
  tree-blames path bytes (tree m) = tt
  tree-blames path bytes unread = clear _ refl

  inputs-blame : (own : Word) (named : List Word) → Blaming _ (inputs own named)
  inputs-blame own [] = λ x f. then-blames (brings o) (Err r) (given_or (vault_refusal own) x) (λ found. give (filter (is_part_of own) found)) (given-blames (vault_refusal own) vault_blame (vault-same own) x f) (λ found. tt)
  inputs-blame own (n ∷ ns) = tt

  came-blames : {A : Type 0} (file : Word) (x : AfterImport A) → Blaming _ (came_or file x)
  came-blames file (came a) = tt
  came-blames file not_imported = clear _ refl
  came-blames file starved = clear _ refl

  ran-blames : (x : Option Ran) → Blaming _ (ran_if_any x)
  ran-blames None = clear _ refl
  ran-blames (Some r) = tt

  spelled-blames : (x : Result PlainCommand ℕ) → Blaming _ (given_or usage x)
  spelled-blames (Ok c) = tt
  spelled-blames (Err n) = clear _ refl

  pub step-blames : (words : List Word) → BlamesOnly (brings o) (Err r) (step words)
  step-blames words = step-is Blaming (λ A a. tt) (λ A s n. clear s (ap (is_object o) n)) (λ A B p next. then-blames (brings o) (Err r) p next) (λ A B p h xs. each-blames (brings o) (Err r) p h xs)
      (λ absent n name x f. bytes-blames absent n x f) (λ x f. any-blames x f) (λ name script x f. given-blames (λ refusal. refusal) blame_of (λ s. refl) x f)
      (λ path bytes x f. tree-blames path bytes x) (λ n texts x f. on-blames (pattern_refusal n) make_blame (make-same n) x f)
      (λ name x f. given-blames (load_refusal name) load_blame (load-same name) x f) (λ name x f. before-blames name x f) inputs-blame
      (λ ms ws n x f. given-blames run_refusal run_blame run-same x f) (λ asked ms hook x f. given-blames run_refusal run_blame run-same x f)
      (λ bytes a x f. last-blames sink_refusal write_blame write-same a x f) (λ name bytes a x f. last-blames shelf_refusal put_blame put-same a x f)
      (λ name content a x f. last-blames (vault_refusal name) vault_blame (vault-same name) a x f) (λ name content x f. on-blames (vault_refusal name) vault_blame (vault-same name) x f)
      (λ name a x f. remove-blames (settle a) tt x f) (λ name x f. remove-blames (give tt) tt x f)
      (λ ms ws n x f. ran-blames x) (λ asked ms file x f. came-blames file x) (λ n old new file x f. came-blames file x) (λ n ms file x f. came-blames file x) (λ bytes x f. on-blames sink_refusal write_blame write-same x f) (λ ws x f. spelled-blames x) (λ text x f. tt) words

pub law_of_blame : (o : Object) (r : Refusal) → blame_of r ≡ Some o → (words : List Word) → BlamesOnly (brings o) (Err r) (step words)
law_of_blame o r e words = step-blames o r e words
