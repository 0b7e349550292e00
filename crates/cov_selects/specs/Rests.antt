-- What is left to do of a selection, after each of its parts.
--     after_old             after the old version is loaded
--     selecting             which tests of the new version must run again
--     selection_written     after that
use Rattle.std.specs.Prelude.{ℕ, List}
use Rattle.cov_programs.specs.Programs.{give, ask, bind}
use Rattle.cov_step.specs.Calls.{Answered, Selection, selects, Step}
use Rattle.cov_step.specs.Phases.{opened, done, write_last}
use Rattle.cov_step.specs.Selecting.{selected_in, selection_lines}
use Rattle.cov_step.specs.Testing.{tests_name, came_or}
use Rattle.cov_words.specs.Values.{Word}
use Rattle.py_meaning.specs.Modules.{LoadedModule}

-- after the old version is loaded
abbrev pub after_old : (most : ℕ) (old new : Word) → List LoadedModule → Step Answered
after_old most old new before = bind (opened tests_name new) (selected_in most old before)

-- which tests of the new version must run again
abbrev pub selecting : (most : ℕ) (old : Word) (before after : List LoadedModule) → Step Selection
selecting most old before after = bind (ask (selects most before after) give) (came_or old)

-- their names are written
abbrev pub selection_written : Selection → Step Answered
selection_written s = write_last (selection_lines s) done
