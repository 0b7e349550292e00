-- The command `select`: the tests of a new version that must run again.
--     selection_lines     their names, and the line of how many they are
--     selected_in         what follows from loading both versions
--     select              the command
use Rattle.std.specs.Prelude.{ℕ, List, ◌++◌, length, Option, codes, decimal, encode_utf8_all}
use Rattle.std.specs.List.{flat_map}
use Rattle.py_meaning.specs.Modules.{LoadedModule}
use Rattle.py_syntax.specs.Tree.{Text}
use Rattle.cov_programs.specs.Programs.{give, ask, bind, ◌>>=◌}
use Rattle.cov_words.specs.Values.{Word}
use Rattle.cov_step.specs.Calls.{Answered, Selection, selects, Step}
use Rattle.cov_step.specs.Commands.{usual_steps}
use Rattle.cov_step.specs.Names.{or_else}
use Rattle.cov_step.specs.Phases.{opened, done, write_last}
use Rattle.cov_step.specs.Testing.{tests_name, came_or}

-- the line of a name
abbrev pub name_line : Text → List ℕ
name_line name = encode_utf8_all name ++ codes "\n"

-- each name, and then `S of N selected`
abbrev pub selection_lines : Selection → List ℕ
selection_lines s =
    flat_map name_line s.names
    ++ (decimal (length s.names) ++ (codes " of " ++ (decimal s.count ++ codes " selected\n")))

-- the tests of the old version run, and then the names of the selected ones are written
abbrev pub selected_in : (most : ℕ) (old : Word) (before after : List LoadedModule)
    → Step Answered
selected_in most old before after = do
  answer ← ask (selects most before after) give
  selection ← came_or old answer
  write_last (selection_lines selection) done

-- the old version comes before the new one; no settings are read
abbrev pub select : (steps : Option ℕ) (old new : Word) → Step Answered
select steps old new = do
  before ← opened tests_name old
  after ← opened tests_name new
  selected_in (or_else steps usual_steps) old before after
