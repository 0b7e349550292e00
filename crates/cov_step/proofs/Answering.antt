-- What follows from an answer calls nothing, so it keeps whatever is asked.
use Rattle.std.proofs.Common.{◌≡◌, ℕ, Bool, true, List, [], ◌∷◌, filter, Option, Some, None, Result, Ok, Err}
use Rattle.cov_outside.specs.declared.shelf.ShelfError.{ShelfError}
use Rattle.cov_outside.specs.declared.shelf.ShelfError.TheVariants as shelf_error
use Rattle.cov_data.specs.DataSet.{DataSet}
use Rattle.cov_programs.specs.Programs.{give}
use Rattle.cov_programs.specs.Laws.{OnlyKeeps}
use Rattle.cov_programs.proofs.Parts.{then-keeps}
use Rattle.cov_run.specs.Reading.{Reading, no_text, long, stuck, no_tree, ill_formed, tree, unread}
use Rattle.cov_vault.specs.declared.vault.VaultError.{VaultError}
use Rattle.cov_vault.specs.declared.vault.VaultError.TheVariants as vault_error
use Rattle.cov_why.specs.Answers.{Refusal}
use Rattle.cov_words.specs.Values.{Word}
use Rattle.cov_step.specs.Calls.{Call, lists, Answer, Answered, Ran, AfterImport, came, not_imported, starved, Step}
use Rattle.cov_step.specs.Answers.{bytes_of, bytes_if_any, given_or, vault_refusal, before_of, removed, last, on, tree_of}
use Rattle.cov_step.specs.Making.{ran_if_any}
use Rattle.cov_step.specs.Testing.{came_or}
use Rattle.cov_step.specs.Phases.{inputs, is_part_of}

module _ (keeps : (call : Call) → Answer call → Bool) where
  pub given-so : {A E : Type 0} (why : E → Refusal) (x : Result A E) → OnlyKeeps keeps (given_or why x)
  given-so why (Ok a) = tt
  given-so why (Err e) = tt

  pub last-so : {E : Type 0} (why : E → Refusal) (a : Answered) (x : Option E) → OnlyKeeps keeps (last why a x)
  last-so why a None = tt
  last-so why a (Some e) = tt

  pub on-so : {E : Type 0} (why : E → Refusal) (x : Option E) → OnlyKeeps keeps (on why x)
  on-so why None = tt
  on-so why (Some e) = tt

  pub bytes-so : (absent : Refusal) (x : Result (List ℕ) ShelfError) → OnlyKeeps keeps (bytes_of absent x)
  bytes-so absent (Ok bytes) = tt
  bytes-so absent (Err shelf_error.Absent) = tt
  bytes-so absent (Err shelf_error.TooLarge) = tt
  bytes-so absent (Err shelf_error.Failed) = tt
  bytes-so absent (Err shelf_error.NoMemory) = tt

  pub any-so : (x : Result (List ℕ) ShelfError) → OnlyKeeps keeps (bytes_if_any x)
  any-so (Ok bytes) = tt
  any-so (Err shelf_error.Absent) = tt
  any-so (Err shelf_error.TooLarge) = tt
  any-so (Err shelf_error.Failed) = tt
  any-so (Err shelf_error.NoMemory) = tt

  pub before-so : (name : Word) (x : Result DataSet VaultError) → OnlyKeeps keeps (before_of name x)
  before-so name (Ok d) = tt
  before-so name (Err vault_error.Absent) = tt
  before-so name (Err vault_error.NotSchema7) = tt
  before-so name (Err (vault_error.BadRow i)) = tt
  before-so name (Err vault_error.Failed) = tt
  before-so name (Err vault_error.NoMemory) = tt

  pub removed-so : {A : Type 0} (next : Step A) → OnlyKeeps keeps next → (x : Option VaultError) → OnlyKeeps keeps (removed next x)
  removed-so next h None = h
  removed-so next h (Some vault_error.Absent) = h
  removed-so next h (Some vault_error.NotSchema7) = tt
  removed-so next h (Some (vault_error.BadRow i)) = tt
  removed-so next h (Some vault_error.Failed) = tt
  removed-so next h (Some vault_error.NoMemory) = tt

  pub tree-so : (path : Word) (bytes : List ℕ) (x : Reading) → OnlyKeeps keeps (tree_of path bytes x)
  tree-so path bytes (no_text line) = tt
  tree-so path bytes (long lines) = tt
  tree-so path bytes (stuck error) = tt
  tree-so path bytes (no_tree error) = tt
  tree-so path bytes (ill_formed error) = tt
  tree-so path bytes (tree m) = tt
  tree-so path bytes unread = tt

  pub inputs-so : ((x : Answer lists) → keeps lists x ≡ true) → (own : Word) (named : List Word) → OnlyKeeps keeps (inputs own named)
  inputs-so at_lists own [] = λ x. (at_lists x, then-keeps keeps (given_or (vault_refusal own) x) (λ found. give (filter (is_part_of own) found)) (given-so (vault_refusal own) x) (λ found. tt))
  inputs-so at_lists own (n ∷ ns) = tt

  pub came-so : {A : Type 0} (file : Word) (x : AfterImport A) → OnlyKeeps keeps (came_or file x)
  came-so file (came a) = tt
  came-so file not_imported = tt
  came-so file starved = tt

  pub ran-so : (x : Option Ran) → OnlyKeeps keeps (ran_if_any x)
  ran-so None = tt
  ran-so (Some r) = tt
