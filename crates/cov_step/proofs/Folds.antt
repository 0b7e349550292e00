-- A script is the fold of its lines.
use Rattle.std.specs.Str.Lines.{lines}
use Rattle.std.proofs.Common.{◌≡◌, ◌⊎◌, inl, inr, refl, sym, ap, subst, List, ℕ, Result, Ok, Err, ◌∙◌}
use Rattle.cov_programs.specs.Programs.{give, each}
use Rattle.cov_programs.specs.Objects.{Moves}
use Rattle.cov_programs.specs.Ends.{Ends, Follows}
use Rattle.cov_programs.specs.Laws.{Parted, Folds}
use Rattle.cov_programs.proofs.Folding.{parted, folds}
use Rattle.cov_why.specs.Answers.{PlainWhy, no_memory}
use Rattle.cov_words.specs.Values.{Word}
use Rattle.cov_step.specs.Calls.{Call, Answer, Answered, IsNoMemory}
use Rattle.cov_step.specs.Phases.{done}
use Rattle.cov_step.specs.Scripts.{line_step, script_text, lines_done, script}
use Rattle.cov_step.specs.Promises.{IsFold, FoldLaw}

module _ {W : Type 0} (moves : Moves Call Answer W) where
  -- what comes behind the lines: nothing, or want of memory
  fold-of : (ls : List (List ℕ)) (old new : W) (ending : Result Answered PlainWhy) → Parted moves IsNoMemory (each line_step ls) (λ told. give done) old ending new → IsFold moves ls old ending new
  fold-of ls old new ending (inr (why, all, is)) = record { told = Err why; folds = folds moves IsNoMemory line_step ls old new (Err why) all; ends = is }
  fold-of ls old new ending (inl (told, mid, all, inl s)) = record {
    told = Ok told;
    folds = subst (λ w. Folds moves IsNoMemory line_step ls old (Ok told) w) (sym s.same) (folds moves IsNoMemory line_step ls old mid (Ok told) all);
    ends = inr (s.is ∙ ap Err s.wanting);
  }
  fold-of ls old new ending (inl (told, mid, all, inr (is, same))) = record {
    told = Ok told;
    folds = subst (λ w. Folds moves IsNoMemory line_step ls old (Ok told) w) (sym same) (folds moves IsNoMemory line_step ls old mid (Ok told) all);
    ends = inl is;
  }

  script-of : (name : Word) (old new : W) (ending : Result Answered PlainWhy) → Parted moves IsNoMemory (script_text name) (λ text. lines_done (lines text)) old ending new
      → ((why : PlainWhy) × Follows moves IsNoMemory (script_text name) old (Err why) new × (ending ≡ Err why))
      ⊎ ((text : List ℕ) × (mid : W) × Follows moves IsNoMemory (script_text name) old (Ok text) mid × IsFold moves (lines text) mid ending new)
  script-of name old new ending (inr (why, first, is)) = inl (why, record { ends = first }, is)
  script-of name old new ending (inl (text, mid, first, rest)) = inr (text, mid, record { ends = first }, fold-of (lines text) mid new ending (parted moves IsNoMemory (each line_step (lines text)) (λ told. give done) mid new ending rest))

  pub law_of_fold : FoldLaw moves
  law_of_fold name old ending new f = script-of name old new ending (parted moves IsNoMemory (script_text name) (λ text. lines_done (lines text)) old new ending f.ends)
