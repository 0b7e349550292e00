-- What tests that tell of changes promise, over what the objects hold (`Held` of Told).
--     SelectPromise    the tests of a new version that must run again
--     MutatePromise    what the tests notice of mutants
use Rattle.std.specs.Prelude.{◌≡◌, ℕ, List, ◌++◌, map}
use Rattle.std.specs.Str.{chars}
use Rattle.py_meaning.specs.Modules.{LoadedModule}
use Rattle.cov_run.specs.Loading.{told_by, IsLoaded}
use Rattle.cov_step.specs.Calls.{Answered, Selection}
use Rattle.cov_step.specs.Mutating.{mutation_lines}
use Rattle.cov_step.specs.Phases.{done}
use Rattle.cov_step.specs.Selecting.{selection_lines}
use Rattle.cov_step.specs.Testing.{tests_name}
use Rattle.cov_streams.specs.Retests.{judged_of}
use Rattle.cov_verdicts.specs.Chosen.{IsChosen}
use Rattle.cov_verdicts.specs.Verdicts.{JudgedView, AreJudged}
use Rattle.cov_words.specs.Values.{Word}
use Rattle.cov_headline.specs.Told.{Held}

-- The lines name the tests of the new file's modules that must run again, and count them, as both
-- versions mean: each test that isn't named has the result that it had. Nothing else is changed.
pub record SelectPromise {P : Type 0} (budget : ℕ) (old_file new_file : Word) (old : Held P)
    (a : Answered) (new : Held P) : Type 0 where
  pub before : List LoadedModule
  pub loaded : IsLoaded (told_by old.files (chars old_file)) (chars old_file) tests_name before
  pub after : List LoadedModule
  pub loaded_after :
      IsLoaded (told_by old.files (chars new_file)) (chars new_file) tests_name after
  pub selection : Selection
  pub chosen : IsChosen budget before after selection.names selection.count
  pub printed : new ≡ record old { out = old.out ++ selection_lines selection }
  pub ended : a ≡ done

-- The lines tell of each mutant of the file's modules but the script whether its line is reached and
-- whether the tests notice it, as the modules mean. Nothing else is changed.
pub record MutatePromise {P : Type 0} (budget : ℕ) (file : Word) (old : Held P) (a : Answered)
    (new : Held P) : Type 0 where
  pub modules : List LoadedModule
  pub loaded : IsLoaded (told_by old.files (chars file)) (chars file) tests_name modules
  pub verdicts : List JudgedView
  pub judged : AreJudged budget modules verdicts
  pub printed : new ≡ record old {
    out = old.out ++ mutation_lines (map (judged_of modules) verdicts);
  }
  pub ended : a ≡ done
