-- How `make` ends, whatever its maker and its output answer.
use Rattle.std.proofs.Common.{◌≡◌, ◌⊎◌, inl, inr, ℕ, zero, suc, ◌+◌, ◌≤◌, List, [], ◌∷◌, Option, Some, None, Result, Ok, Err, refl, sym, ap, subst, ◌∙◌, arith}
use Rattle.std.specs.Prelude.{slice_get, IsSomeAnd, IfOk, IfErr, MatchResult}
use Rattle.cov_outside.specs.Counts.{Rose}
use Rattle.cov_outside.specs.declared.sink.Sink.{Ghosts as SinkOf}
use Rattle.cov_outside.specs.declared.sink.SinkError.TheVariants as sink_error
use Rattle.std.specs.declared.alloc.Global.{Global}
use Rattle.cov_calls.specs.Views.{answered_view}
use Rattle.cov_calls.specs.declared.answered.Answered as code
use Rattle.cov_config.specs.Settings.{no_cover, no_branch}
use Rattle.cov_exclude.specs.Texts.{IsNoPattern}
use Rattle.cov_exclude.specs.declared.maker.Maker.{Ghosts as MakerOf}
use Rattle.cov_exclude.specs.declared.patterns.PatternError.{PatternError}
use Rattle.cov_exclude.specs.declared.patterns.PatternError.TheVariants as pattern_error
use Rattle.cov_make.specs.Source.{source}
use Rattle.cov_make_laws.specs.Readings.{MadeAreRead}
use Rattle.cov_make_laws.specs.Trees.{made_tree}
use Rattle.cov_programs.specs.Ends.{Ends, Follows, Starves}
use Rattle.cov_programs.specs.Objects.{Moves, beside}
use Rattle.cov_programs.specs.Programs.{bind}
use Rattle.cov_run.specs.Reading.{Reading, tree, unread}
use Rattle.cov_step.specs.Answers.{tree_of}
use Rattle.cov_step.specs.Calls.{Answered, Answer, Call, IsNoMemory, PlainSource, Patterns, checks, makes, seen, tries, writes}
use Rattle.cov_step.specs.Making.{made_path, made_line, make}
use Rattle.cov_step.specs.Objects.{MakeOf, on_maker, on_sink}
use Rattle.cov_step.specs.Phases.{always, done, write_last}
use Rattle.cov_streams.specs.Trials.{on_trial}
use Rattle.cov_why.specs.Answers.{Refusal, PlainWhy, plain_why, RefusedAs, write_fault, no_memory, pattern_size}
use Rattle.cov_why.specs.declared.why.Why.{Why}
use Rattle.cov_made.specs.Refusals.{IsMakeRefusal, too_large, unwritable, starved}
use Rattle.cov_made.proofs.Patterns.{no_cover_is, no_branch_is, while_is, if_is}
use Rattle.cov_made.specs.Rests.{with_patterns, with_source}

raised-on : (a b c : ℕ) → a ≤ b → Rose b c → Rose a c
raised-on a b c h (inl less) = inl (omega (arith, h, less))
raised-on a b c h (inr full) = inr full

-- the texts of both lists are patterns
first-are : Global → (at : ℕ) → IsSomeAnd (slice_get (no_cover ∷ []) at) IsNoPattern → ⊥
first-are alloc zero h = h (no_cover_is alloc)
first-are alloc (suc at) h = h

second-are : Global → (at : ℕ) → IsSomeAnd (slice_get (no_branch ∷ always) at) IsNoPattern → ⊥
second-are alloc zero h = h (no_branch_is alloc)
second-are alloc (suc zero) h = h (while_is alloc)
second-are alloc (suc (suc zero)) h = h (if_is alloc)
second-are alloc (suc (suc (suc at))) h = h

module _ {M O : Type 0} (maker : MakerOf M) (sink : SinkOf O) where
  abbrev State : Type 0
  State = (Unit {0} × M) × O

  -- nobody's objects, the maker and the output
  abbrev pub on_make : Moves Call Answer State
  on_make = beside (beside on_trial (on_maker maker)) (on_sink sink)

  -- the command did all its work, or was refused for one of these causes
  abbrev pub EndsSo : State → State → Result Answered PlainWhy → Type 0
  EndsSo first new (Ok a) = a ≡ done
  EndsSo first new (Err (Ok ended)) = ⊥
  EndsSo first new (Err (Err r)) =
      IsMakeRefusal (Rose (maker.sizes first.0.1) (maker.sizes new.0.1))
      (Rose (sink.faults first.1) (sink.faults new.1)) r

  starves : (first old new : State) (e : Result Answered PlainWhy) → Starves IsNoMemory old e new
      → EndsSo first new e
  starves first old new e s =
      subst (EndsSo first new) (sym (s.is ∙ ap Err s.wanting)) starved

  ends-there : (first mid new : State) (d e : Result Answered PlainWhy) → e ≡ d → new ≡ mid
      → EndsSo first mid d → EndsSo first new e
  ends-there first mid new d e is same h =
      subst (EndsSo first new) (sym is) (subst (λ w. EndsSo first w d) (sym same) h)

  -- it is refused so, or memory is wanting at the same place
  refuses : (first mid new : State) (r : Refusal) (e : Result Answered PlainWhy)
      → Starves IsNoMemory mid e new ⊎ ((e ≡ Err (Err r)) × (new ≡ mid))
      → EndsSo first mid (Err (Err r)) → EndsSo first new e
  refuses first mid new r e (inl s) h = starves first mid new e s
  refuses first mid new r e (inr (is, same)) h =
      ends-there first mid new (Err (Err r)) e is same h

  -- ---- the line

  line-ends : (bytes : List ℕ) (first old new : State) (e : Result Answered PlainWhy)
      → old.1 ≡ first.1 → Ends on_make IsNoMemory (write_last bytes done) old e new
      → EndsSo first new e
  line-ends bytes first old new e same (inl s) = starves first old new e s
  line-ends bytes first old new e same (inr (answer, mid, inl (inl (m, k), j), h)) = absurd m
  line-ends bytes first old new e same (inr (answer, mid, inl (inr (m, k), j), h)) = absurd m
  line-ends bytes first old new e same (inr (None, mid, inr (m, j), (is, there))) =
      ends-there first mid new (Ok done) e is there refl
  line-ends bytes first old new e same (inr (Some sink_error.Failed, mid, inr (m, j), h)) =
      refuses first mid new write_fault e h
      (unwritable (subst (λ o. Rose (sink.faults o) (sink.faults mid.1)) same (m.failed refl)))
  line-ends bytes first old new e same (inr (Some sink_error.NoMemory, mid, inr (m, j), h)) =
      refuses first mid new no_memory e h starved

  -- ---- the run

  run-ends : (seed size : ℕ) (p : Patterns) (f : PlainSource) (first old new : State)
      (e : Result Answered PlainWhy) → old.1 ≡ first.1
      → Ends on_make IsNoMemory (with_source seed size p f) old e new → EndsSo first new e
  run-ends seed size p f first old new e same (inl s) = starves first old new e s
  run-ends seed size p f first old new e same (inr (None, mid, inl (m, j), h)) =
      refuses first mid new no_memory e h starved
  run-ends seed size p f first old new e same (inr (Some r, mid, inl (m, j), h)) =
      line-ends (made_line seed size p f r) first mid new e (j ∙ same) h
  run-ends seed size p f first old new e same (inr (answer, mid, inr (m, j), h)) = absurd m

  -- ---- the source

  tree-ends : (seed size : ℕ) (p : Patterns) (first mid new : State) (reading : Reading)
      (e : Result Answered PlainWhy) → mid.1 ≡ first.1
      → (reading ≡ tree (made_tree seed size)) ⊎ (reading ≡ unread)
      → Ends on_make IsNoMemory
      (bind (tree_of made_path (source seed size) reading) (with_source seed size p)) mid e new
      → EndsSo first new e
  tree-ends seed size p first mid new reading e same (inl is) h =
      run-ends seed size p _ first mid new e same (subst (λ r. Ends on_make IsNoMemory
      (bind (tree_of made_path (source seed size) r) (with_source seed size p)) mid e new) is h)
  tree-ends seed size p first mid new reading e same (inr is) h =
      refuses first mid new no_memory e (subst (λ r. Ends on_make IsNoMemory
      (bind (tree_of made_path (source seed size) r) (with_source seed size p)) mid e new) is h)
      starved

  source-ends : MadeAreRead → (seed size : ℕ) → size ≤ 16000 → (p : Patterns)
      (first old new : State) (e : Result Answered PlainWhy) → old.1 ≡ first.1
      → Ends on_make IsNoMemory (with_patterns seed size p) old e new → EndsSo first new e
  source-ends law seed size low p first old new e same (inl s) = starves first old new e s
  source-ends law seed size low p first old new e same
      (inr (reading, mid, inl (inl (m, k), j), h)) =
      tree-ends seed size p first mid new reading e (j ∙ same)
      ((law seed size low).comes reading m.read) h
  source-ends law seed size low p first old new e same
      (inr (reading, mid, inl (inr (m, k), j), h)) = absurd m
  source-ends law seed size low p first old new e same (inr (reading, mid, inr (m, j), h)) =
      absurd m

  -- ---- the patterns

  abbrev Make : List (List ℕ) → State → Option PatternError → State → Type 0
  Make texts old answer mid = MakeOf maker old.0.1 texts answer mid.0.1 × (mid.1 ≡ old.1)

  makes-so : (texts : List (List ℕ)) (old mid : State) (answer : Option PatternError)
      → on_make old (makes texts) answer mid → Make texts old answer mid
  makes-so texts old mid answer (inl (inl (m, k), j)) = absurd m
  makes-so texts old mid answer (inl (inr (m, k), j)) = (m, j)
  makes-so texts old mid answer (inr (m, j)) = absurd m

  pub make-ends : Global → MadeAreRead → (seed size : ℕ) → size ≤ 16000 → (old new : State)
      (e : Result Answered PlainWhy) → Follows on_make IsNoMemory (make seed size) old e new
      → EndsSo old new e
  make-ends alloc law seed size low old new e f = ends f.ends
    where
      ends : Ends on_make IsNoMemory (make seed size) old e new → EndsSo old new e
      ends (inl s) = starves old old new e s
      ends (inr (Some (pattern_error.BadPattern at), mid, m, h)) =
          absurd (first-are alloc at
          ((makes-so _ old mid _ m).0.refused (pattern_error.BadPattern at) refl).1)
      ends (inr (Some (pattern_error.PatternSize at), mid, m, h)) =
          refuses old mid new (pattern_size (0 + at)) e h
          (too_large (0 + at)
          ((makes-so _ old mid _ m).0.refused (pattern_error.PatternSize at) refl).2)
      ends (inr (Some pattern_error.NoMemory, mid, m, h)) =
          refuses old mid new no_memory e h starved
      ends (inr (None, mid, m, inl s)) = starves old mid new e s
      ends (inr (None, mid, m, inr (Some (pattern_error.BadPattern at), here, k, h))) =
          absurd (second-are alloc at
          ((makes-so _ mid here _ k).0.refused (pattern_error.BadPattern at) refl).1)
      ends (inr (None, mid, m, inr (Some (pattern_error.PatternSize at), here, k, h))) =
          refuses old here new (pattern_size (1 + at)) e h
          (too_large (1 + at)
          (raised-on (maker.sizes old.0.1) (maker.sizes mid.0.1) (maker.sizes here.0.1)
          (makes-so _ old mid _ m).0.count
          ((makes-so _ mid here _ k).0.refused (pattern_error.PatternSize at) refl).2))
      ends (inr (None, mid, m, inr (Some pattern_error.NoMemory, here, k, h))) =
          refuses old here new no_memory e h starved
      ends (inr (None, mid, m, inr (None, here, k, h))) =
          source-ends law seed size low
          (record { exclude = no_cover ∷ []; partial = no_branch ∷ always }) old here new e
          ((makes-so _ mid here _ k).1 ∙ (makes-so _ old mid _ m).1) h

  -- ---- as the code answers it

  pub done-so : (old new : State) (result : Result code.Answered Why)
      → EndsSo old new (seen answered_view result) → IfOk result (λ a. answered_view a ≡ done)
  done-so old new (Ok a) h = h
  done-so old new (Err w) h = tt

  pub refused-so : (old new : State) (result : Result code.Answered Why)
      → EndsSo old new (seen answered_view result)
      → IfErr result (λ w. RefusedAs w
      (IsMakeRefusal (Rose (maker.sizes old.0.1) (maker.sizes new.0.1))
      (Rose (sink.faults old.1) (sink.faults new.1))))
  refused-so old new (Ok a) h = tt
  refused-so old new (Err w) h = of (plain_why w) h
    where
      of : (x : PlainWhy) → EndsSo old new (Err x)
          → MatchResult x (λ ended. ⊥)
          (IsMakeRefusal (Rose (maker.sizes old.0.1) (maker.sizes new.0.1))
          (Rose (sink.faults old.1) (sink.faults new.1)))
      of (Ok ended) h = h
      of (Err r) h = h
