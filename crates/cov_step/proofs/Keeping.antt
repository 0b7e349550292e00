-- Parts of commands that only read: they keep whatever reading calls keep.
use Rattle.std.specs.Prelude.{codes}
use Rattle.std.proofs.Common.{◌≡◌, ℕ, Bool, true, refl, List, Option, None}
use Rattle.py_syntax.specs.Tree.{Text}
use Rattle.cov_config.specs.Settings.{ReportSettings}
use Rattle.cov_data.specs.DataSet.{DataSet}
use Rattle.cov_programs.specs.Programs.{ask}
use Rattle.cov_programs.specs.Laws.{OnlyKeeps}
use Rattle.cov_programs.proofs.Parts.{then-keeps, each-keeps}
use Rattle.cov_run.specs.Loading.{most_bytes}
use Rattle.cov_why.specs.Answers.{Refusal}
use Rattle.cov_words.specs.Values.{Word}
use Rattle.cov_step.specs.Calls.{Call, reads, opens, checks, loads, makes, Answer, Step}
use Rattle.cov_step.specs.Answers.{load_refusal, Before, pattern_refusal, on, tree_of}
use Rattle.cov_step.specs.Phases.{file, needed, opened, settings_file, settings, patterns_by, patterns, source, hook_of, joins, own_input, some_input, same_kind, reported}
use Rattle.cov_step.proofs.Answering.{given-so, on-so, bytes-so, any-so, tree-so}
use Rattle.cov_step.proofs.Parts.{settings-so, patterns_by-so, patterns-so, source-so, hook_of-so, joins-so, own_input-so, some_input-so, same_kind-so, reported-so}

-- calls that read keep what is asked
pub record KeepReading (keeps : (call : Call) → Answer call → Bool) : Type 0 where
  pub at_reads : (name : Word) (most : ℕ) (x : Answer (reads name most)) → keeps (reads name most) x ≡ true
  pub at_opens : (name : Text) (script : Word) (x : Answer (opens name script)) → keeps (opens name script) x ≡ true
  pub at_checks : (bytes : List ℕ) (x : Answer (checks bytes)) → keeps (checks bytes) x ≡ true
  pub at_makes : (texts : List (List ℕ)) (x : Answer (makes texts)) → keeps (makes texts) x ≡ true
  pub at_loads : (name : Word) (x : Answer (loads name)) → keeps (loads name) x ≡ true

module _ (keeps : (call : Call) → Answer call → Bool) (r : KeepReading keeps) where
  abbrev Keeping : (A : Type 0) → Step A → Type 0
  Keeping A p = OnlyKeeps keeps p

  file-keeps : (absent : Refusal) (name : Word) → OnlyKeeps keeps (file absent name)
  file-keeps absent name = λ x. (r.at_reads name most_bytes x, bytes-so keeps absent x)

  usual-keeps : OnlyKeeps keeps (settings_file None)
  usual-keeps = λ x. (r.at_reads (codes "pyproject.toml") most_bytes x, any-so keeps x)

  pub opened-keeps : (name : Text) (script : Word) → OnlyKeeps keeps (opened name script)
  opened-keeps name script = λ x. (r.at_opens name script x, given-so keeps (λ refusal. refusal) x)

  checks-keeps : (path : Word) (bytes : List ℕ) → OnlyKeeps keeps (ask (checks bytes) (tree_of path bytes))
  checks-keeps path bytes = λ x. (r.at_checks bytes x, tree-so keeps path bytes x)

  makes-keeps : (n : ℕ) (texts : List (List ℕ)) → OnlyKeeps keeps (ask (makes texts) (on (pattern_refusal n)))
  makes-keeps n texts = λ x. (r.at_makes texts x, on-so keeps (pattern_refusal n) x)

  pub needed-keeps : (name : Word) → OnlyKeeps keeps (needed name)
  needed-keeps name = λ x. (r.at_loads name x, given-so keeps (load_refusal name) x)

  pub settings-keeps : (rcfile : Option Word) → OnlyKeeps keeps (settings rcfile)
  settings-keeps rcfile = settings-so Keeping (λ A a. tt) (λ A r e. tt) (λ A B p next. then-keeps keeps p next) (λ A B p h xs. each-keeps keeps p h xs) (λ absent e name. file-keeps absent name) usual-keeps opened-keeps checks-keeps makes-keeps rcfile

  pub hook-keeps : (h : Option (Word × Word)) → OnlyKeeps keeps (hook_of h)
  hook-keeps h = hook_of-so Keeping (λ A a. tt) (λ A r e. tt) (λ A B p next. then-keeps keeps p next) (λ A B p h xs. each-keeps keeps p h xs) (λ absent e name. file-keeps absent name) usual-keeps opened-keeps checks-keeps makes-keeps h

  pub joins-keeps : (append : Bool) (name : Word) (arcs : Bool) (was : Before) → OnlyKeeps keeps (joins append name arcs was)
  joins-keeps append name arcs was = joins-so Keeping (λ A a. tt) (λ A r e. tt) (λ A B p next. then-keeps keeps p next) (λ A B p h xs. each-keeps keeps p h xs) (λ absent e name. file-keeps absent name) usual-keeps opened-keeps checks-keeps makes-keeps append name arcs was

  pub patterns_by-keeps : (exclude partial : List (List ℕ)) → OnlyKeeps keeps (patterns_by exclude partial)
  patterns_by-keeps exclude partial = patterns_by-so Keeping (λ A a. tt) (λ A r e. tt) (λ A B p next. then-keeps keeps p next) (λ A B p h xs. each-keeps keeps p h xs) (λ absent e name. file-keeps absent name) usual-keeps opened-keeps checks-keeps makes-keeps exclude partial

  pub patterns-keeps : (s : ReportSettings) → OnlyKeeps keeps (patterns s)
  patterns-keeps s = patterns-so Keeping (λ A a. tt) (λ A r e. tt) (λ A B p next. then-keeps keeps p next) (λ A B p h xs. each-keeps keeps p h xs) (λ absent e name. file-keeps absent name) usual-keeps opened-keeps checks-keeps makes-keeps s

  pub source-keeps : (path : Word) → OnlyKeeps keeps (source path)
  source-keeps path = source-so Keeping (λ A a. tt) (λ A r e. tt) (λ A B p next. then-keeps keeps p next) (λ A B p h xs. each-keeps keeps p h xs) (λ absent e name. file-keeps absent name) usual-keeps opened-keeps checks-keeps makes-keeps path

  pub reported-keeps : (data_file rcfile : Option Word) → OnlyKeeps keeps (reported data_file rcfile)
  reported-keeps data_file rcfile = reported-so Keeping (λ A a. tt) (λ A r e. tt) (λ A B p next. then-keeps keeps p next) (λ A B p h xs. each-keeps keeps p h xs) (λ absent e name. file-keeps absent name) usual-keeps opened-keeps checks-keeps makes-keeps needed-keeps data_file rcfile

  pub own_input-keeps : (append : Bool) (name : Word) (was : Before) → OnlyKeeps keeps (own_input append name was)
  own_input-keeps append name was = own_input-so Keeping (λ A a. tt) (λ A r e. tt) (λ A B p next. then-keeps keeps p next) (λ A B p h xs. each-keeps keeps p h xs) (λ absent e name. file-keeps absent name) usual-keeps opened-keeps checks-keeps makes-keeps append name was

  pub some_input-keeps : (name : Word) (own : Bool) (ns : List Word) → OnlyKeeps keeps (some_input name own ns)
  some_input-keeps name own ns = some_input-so Keeping (λ A a. tt) (λ A r e. tt) (λ A B p next. then-keeps keeps p next) (λ A B p h xs. each-keeps keeps p h xs) (λ absent e name. file-keeps absent name) usual-keeps opened-keeps checks-keeps makes-keeps name own ns

  pub same_kind-keeps : (ds : List DataSet) → OnlyKeeps keeps (same_kind ds)
  same_kind-keeps ds = same_kind-so Keeping (λ A a. tt) (λ A r e. tt) (λ A B p next. then-keeps keeps p next) (λ A B p h xs. each-keeps keeps p h xs) (λ absent e name. file-keeps absent name) usual-keeps opened-keeps checks-keeps makes-keeps ds
