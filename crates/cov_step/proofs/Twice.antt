-- A run calls the vault at most twice.
use Rattle.std.proofs.Common.{◌≡◌, ℕ, Bool, refl, List, [], ◌∷◌, Option, Some, None, Result, Ok, Err}
use Rattle.cov_outside.specs.declared.shelf.ShelfError.{ShelfError}
use Rattle.cov_outside.specs.declared.shelf.ShelfError.TheVariants as shelf_error
use Rattle.py_meaning.specs.Modules.{LoadedModule}
use Rattle.py_syntax.specs.Tree.{Text}
use Rattle.cov_data.specs.DataSet.{DataSet}
use Rattle.cov_programs.specs.Programs.{give, ask, bind, each}
use Rattle.cov_programs.specs.Laws.{CallsAtMost}
use Rattle.cov_programs.proofs.Parts.{then-few}
use Rattle.cov_run.specs.Reading.{Reading, no_text, long, stuck, no_tree, ill_formed, tree, unread}
use Rattle.cov_vault.specs.declared.vault.VaultError.{VaultError}
use Rattle.cov_vault.specs.declared.vault.VaultError.TheVariants as vault_error
use Rattle.cov_why.specs.Answers.{Refusal}
use Rattle.cov_words.specs.Values.{Word}
use Rattle.cov_step.specs.Calls.{Answered, HookFiles, Asked, Step, checks, makes}
use Rattle.cov_step.specs.Answers.{bytes_of, bytes_if_any, given_or, Before, before_of, run_refusal, vault_refusal, pattern_refusal, last, on, tree_of}
use Rattle.cov_step.specs.Phases.{file, main_name, opened, settings_file, settings, own_name, before, hook_of, joins}
use Rattle.cov_step.specs.Commands as the
use Rattle.cov_step.specs.Promises.{calls_vault}
use Rattle.cov_step.proofs.Parts.{settings-so, hook_of-so, joins-so}

abbrev None-called : (A : Type 0) → Step A → Type 0
None-called A p = CallsAtMost calls_vault 0 p

given-none : {A E : Type 0} (why : E → Refusal) (x : Result A E) → CallsAtMost calls_vault 0 (given_or why x)
given-none why (Ok a) = tt
given-none why (Err e) = tt

bytes-none : (absent : Refusal) (x : Result (List ℕ) ShelfError) → CallsAtMost calls_vault 0 (bytes_of absent x)
bytes-none absent (Ok bytes) = tt
bytes-none absent (Err shelf_error.Absent) = tt
bytes-none absent (Err shelf_error.TooLarge) = tt
bytes-none absent (Err shelf_error.Failed) = tt
bytes-none absent (Err shelf_error.NoMemory) = tt

any-none : (x : Result (List ℕ) ShelfError) → CallsAtMost calls_vault 0 (bytes_if_any x)
any-none (Ok bytes) = tt
any-none (Err shelf_error.Absent) = tt
any-none (Err shelf_error.TooLarge) = tt
any-none (Err shelf_error.Failed) = tt
any-none (Err shelf_error.NoMemory) = tt

before-none : (name : Word) (x : Result DataSet VaultError) → CallsAtMost calls_vault 0 (before_of name x)
before-none name (Ok d) = tt
before-none name (Err vault_error.Absent) = tt
before-none name (Err vault_error.NotSchema7) = tt
before-none name (Err (vault_error.BadRow i)) = tt
before-none name (Err vault_error.Failed) = tt
before-none name (Err vault_error.NoMemory) = tt

tree-none : (path : Word) (bytes : List ℕ) (x : Reading) → CallsAtMost calls_vault 0 (tree_of path bytes x)
tree-none path bytes (no_text line) = tt
tree-none path bytes (long lines) = tt
tree-none path bytes (stuck error) = tt
tree-none path bytes (no_tree error) = tt
tree-none path bytes (ill_formed error) = tt
tree-none path bytes (tree m) = tt
tree-none path bytes unread = tt

on-none : {E : Type 0} (why : E → Refusal) (x : Option E) → CallsAtMost calls_vault 0 (on why x)
on-none why None = tt
on-none why (Some e) = tt

last-none : {E : Type 0} (why : E → Refusal) (a : Answered) (x : Option E) → CallsAtMost calls_vault 0 (last why a x)
last-none why a None = tt
last-none why a (Some e) = tt

then-none : {A B : Type 0} (p : Step A) (next : A → Step B) → None-called A p → ((a : A) → None-called B (next a)) → None-called B (bind p next)
then-none p next h g = then-few calls_vault p next 0 h g

each-none : {A B : Type 0} (p : A → Step B) → ((a : A) → None-called B (p a)) → (xs : List A) → None-called (List B) (each p xs)
each-none p h [] = tt
each-none p h (x ∷ rest) = then-none (p x) (λ b. bind (each p rest) (λ more. give (b ∷ more))) (h x) (λ b. then-none (each p rest) (λ more. give (b ∷ more)) (each-none p h rest) (λ more. tt))

file-none : (absent : Refusal) (name : Word) → None-called _ (file absent name)
file-none absent name = (refl, bytes-none absent)

usual-none : None-called _ (settings_file None)
usual-none = (refl, any-none)

opened-none : (name : Text) (script : Word) → None-called _ (opened name script)
opened-none name script = (refl, given-none (λ refusal. refusal))

checks-none : (path : Word) (bytes : List ℕ) → None-called _ (ask (checks bytes) (tree_of path bytes))
checks-none path bytes = (refl, tree-none path bytes)

makes-none : (n : ℕ) (texts : List (List ℕ)) → None-called _ (ask (makes texts) (on (pattern_refusal n)))
makes-none n texts = (refl, on-none (pattern_refusal n))

settings-none : (rcfile : Option Word) → None-called _ (settings rcfile)
settings-none rcfile = settings-so None-called (λ A a. tt) (λ A r e. tt) (λ A B p next. then-none p next) (λ A B p h xs. each-none p h xs) (λ absent e name. file-none absent name) usual-none opened-none checks-none makes-none rcfile

hook-none : (h : Option (Word × Word)) → None-called _ (hook_of h)
hook-none h = hook_of-so None-called (λ A a. tt) (λ A r e. tt) (λ A B p next. then-none p next) (λ A B p h xs. each-none p h xs) (λ absent e name. file-none absent name) usual-none opened-none checks-none makes-none h

joins-none : (append : Bool) (name : Word) (arcs : Bool) (was : Before) → None-called _ (joins append name arcs was)
joins-none append name arcs was = joins-so None-called (λ A a. tt) (λ A r e. tt) (λ A B p next. then-none p next) (λ A B p h xs. each-none p h xs) (λ absent e name. file-none absent name) usual-none opened-none checks-none makes-none append name arcs was

measured-once : (own : Word) (asked : Asked) (ms : List LoadedModule) (hook : Option HookFiles) (old : Option DataSet) → CallsAtMost calls_vault 1 (the.measured own asked ms hook old)
measured-once own asked ms hook old = λ x. then-few calls_vault (given_or run_refusal x) _ 1 (given-none run_refusal x) (λ r z. last-none (vault_refusal own) _ z)

run-twice : (own : Word) (append : Bool) (asked : Asked) (hook : Option (Word × Word)) (script : Word) → CallsAtMost calls_vault 2 (the.run_by own append asked hook script)
run-twice own append asked hook script =
    then-few calls_vault (opened main_name script) _ 2 (opened-none main_name script) (λ ms.
    then-few calls_vault (hook_of hook) _ 2 (hook-none hook) (λ h y.
    then-few calls_vault (before_of own y) _ 1 (before-none own y) (λ was.
    then-few calls_vault (joins append own asked.arcs was) _ 1 (joins-none append own asked.arcs was) (λ old. measured-once own asked ms h old))))

pub law_of_two : (branch append : Bool) (context : Option Word) (steps : Option ℕ) (hook : Option (Word × Word)) (data_file rcfile : Option Word) (script : Word) (args : List Word)
    → CallsAtMost calls_vault 2 (the.run branch append context steps hook data_file rcfile script args)
law_of_two branch append context steps hook data_file rcfile script args =
    then-few calls_vault (settings rcfile) _ 2 (settings-none rcfile) (λ s. run-twice (own_name data_file s) append (the.asked_by s branch context steps script args) (the.hook_named hook s.run.hook) script)
