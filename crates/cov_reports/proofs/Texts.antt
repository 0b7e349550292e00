-- Sources that were read are those of texts.
use Rattle.std.proofs.Common.{inl, inr, ℕ, List, [], ◌∷◌, sym, subst, All, Result, Ok, Err}
use Rattle.std.proofs.lemmas.List.Elements.{All-nil, All-cons}
use Rattle.cov_outside.specs.declared.shelf.Shelf.{Ghosts as ShelfOf}
use Rattle.cov_outside.specs.declared.shelf.ShelfError.{ShelfError}
use Rattle.cov_outside.specs.declared.shelf.ShelfError.TheVariants as shelf_error
use Rattle.cov_programs.specs.Programs.{ask, bind, each}
use Rattle.cov_programs.specs.Laws.{Folds}
use Rattle.cov_programs.specs.Ends.{Ends, Follows}
use Rattle.cov_programs.proofs.Folding.{folds}
use Rattle.cov_programs.proofs.Results.{ok_is, ok_no_err}
use Rattle.cov_analysis.specs.Lines.{IsOfText}
use Rattle.cov_step.specs.Calls.{PlainSource}
use Rattle.cov_run.specs.Reading.{Reading, HasTree, Reads, no_text, long, stuck, no_tree, ill_formed, tree, unread}
use Rattle.py_syntax.specs.Tree.{Stmts}
use Rattle.cov_words.specs.Values.{Word}
use Rattle.cov_why.specs.Answers.{Refusal, no_source}
use Rattle.cov_step.specs.Answers.{bytes_of, tree_of}
use Rattle.cov_step.specs.Calls.{checks, IsNoMemory, refuse}
use Rattle.cov_step.specs.Objects.{on_shelf}
use Rattle.cov_step.specs.Phases.{source}

module _ {H : Type 0} (shelf : ShelfOf H) where
  -- a refusal gives nothing
  none-given : {A : Type 0} (refusal : Refusal) (old new : H) (a : A) → Ends (on_shelf shelf) IsNoMemory (refuse refusal) old (Ok a) new → ⊥
  none-given refusal old new a (inl starves) = ok_no_err starves.is
  none-given refusal old new a (inr (is, same)) = ok_no_err is

  of-tree : (bytes : List ℕ) (m : Stmts) → HasTree bytes m → IsOfText m
  of-tree bytes m has = record { tokens = has.tokens; on_lines = has.read.on_lines; spelled = has.spelled }

  of-reading : (path : Word) (bytes : List ℕ) (reading : Reading) (old new : H) (s : PlainSource) → Reads bytes reading → Ends (on_shelf shelf) IsNoMemory (tree_of path bytes reading) old (Ok s) new → IsOfText s.body
  of-reading path bytes (no_text line) old new s read ends = absurd (none-given _ old new s ends)
  of-reading path bytes (long lines) old new s read ends = absurd (none-given _ old new s ends)
  of-reading path bytes (stuck error) old new s read ends = absurd (none-given _ old new s ends)
  of-reading path bytes (no_tree error) old new s read ends = absurd (none-given _ old new s ends)
  of-reading path bytes (ill_formed error) old new s read ends = absurd (none-given _ old new s ends)
  of-reading path bytes (tree m) old new s read (inl starves) = absurd (ok_no_err starves.is)
  of-reading path bytes (tree m) old new s read (inr (is, same)) = subst (λ (x : PlainSource). IsOfText x.body) (sym (ok_is is)) (of-tree bytes m read.0)
  of-reading path bytes unread old new s read ends = absurd (none-given _ old new s ends)

  of-bytes : (path : Word) (bytes : List ℕ) (old new : H) (s : PlainSource) → Ends (on_shelf shelf) IsNoMemory (ask (checks bytes) (tree_of path bytes)) old (Ok s) new → IsOfText s.body
  of-bytes path bytes old new s (inl starves) = absurd (ok_no_err starves.is)
  of-bytes path bytes old new s (inr (reading, mid, moved, rest)) = of-reading path bytes reading mid new s moved.read rest

  of-answer : (path : Word) (answer : Result (List ℕ) ShelfError) (old new : H) (s : PlainSource) → Ends (on_shelf shelf) IsNoMemory (bind (bytes_of (no_source path) answer) (λ bytes. ask (checks bytes) (tree_of path bytes))) old (Ok s) new → IsOfText s.body
  of-answer path (Ok bytes) old new s ends = of-bytes path bytes old new s ends
  of-answer path (Err shelf_error.Absent) old new s ends = absurd (none-given _ old new s ends)
  of-answer path (Err shelf_error.TooLarge) old new s ends = absurd (none-given _ old new s ends)
  of-answer path (Err shelf_error.Failed) old new s ends = absurd (none-given _ old new s ends)
  of-answer path (Err shelf_error.NoMemory) old new s ends = absurd (none-given _ old new s ends)

  of-ends : (path : Word) (old new : H) (s : PlainSource) → Ends (on_shelf shelf) IsNoMemory (source path) old (Ok s) new → IsOfText s.body
  of-ends path old new s (inl starves) = absurd (ok_no_err starves.is)
  of-ends path old new s (inr (answer, mid, moved, rest)) = of-answer path answer mid new s rest

  -- a source that was read is that of a text
  pub source-of_text : (path : Word) (old new : H) (s : PlainSource) → Follows (on_shelf shelf) IsNoMemory (source path) old (Ok s) new → IsOfText s.body
  source-of_text path old new s f = of-ends path old new s f.ends

  of-fold : (paths : List Word) (old new : H) (ss : List PlainSource) → Folds (on_shelf shelf) IsNoMemory source paths old (Ok ss) new → All (λ (s : PlainSource). IsOfText s.body) ss
  of-fold [] old new ss (inl starves) = absurd (ok_no_err starves.is)
  of-fold [] old new ss (inr (is, same)) = subst (λ xs. All (λ (s : PlainSource). IsOfText s.body) xs) (sym (ok_is is)) (All-nil (λ (s : PlainSource). IsOfText s.body))
  of-fold (path ∷ paths) old new ss (inl (s, mid, Ok more, one, others, is)) =
      subst (λ xs. All (λ (s : PlainSource). IsOfText s.body) xs) (sym (ok_is is)) (All-cons (λ (s : PlainSource). IsOfText s.body) s more (of-ends path old mid s one) (of-fold paths mid new more others))
  of-fold (path ∷ paths) old new ss (inl (s, mid, Err why, one, others, is)) = absurd (ok_no_err is)
  of-fold (path ∷ paths) old new ss (inr (why, one, is)) = absurd (ok_no_err is)

  -- and so are those of several paths
  pub sources-of_text : (paths : List Word) (old new : H) (ss : List PlainSource) → Follows (on_shelf shelf) IsNoMemory (each source paths) old (Ok ss) new → All (λ (s : PlainSource). IsOfText s.body) ss
  sources-of_text paths old new ss f = of-fold paths old new ss (folds (on_shelf shelf) IsNoMemory source paths old new (Ok ss) f.ends)
