-- Code of modules makes functions as their units ask.
--     AreOnOwnLines       modules whose `def`s begin on lines of their own
--     CodeMakesFunctions           the law
use Rattle.std.specs.Prelude.{List, [], ◌∷◌}
use Rattle.py_code.specs.Units.{Module}
use Rattle.py_compile.specs.ProgramRuns.{AreFaithful}
use Rattle.py_world_laws.specs.Making.{AreMakers}
use Rattle.py_meaning.specs.Modules.{LoadedModule}
use Rattle.py_line_laws.specs.OwnLines.{HaveOwnLines}
use Rattle.py_syntax.specs.Functions.{functions}
use Rattle.py_compile_laws.specs.Traces.{AreWellFormed}

-- in each module, no two `def`s begin on one line
abbrev pub AreOnOwnLines : List LoadedModule → Type 0
AreOnOwnLines [] = Unit {0}
AreOnOwnLines (m ∷ ms) = HaveOwnLines (functions m.body) × AreOnOwnLines ms

-- Code is faithful to modules without a fault of scope, of which none has two `def`s that begin on
-- one line. Then it makes a function with defaults right after their list, of as many values as its
-- unit has defaults, and no jump and no handler leads there.
abbrev pub CodeMakesFunctions : Type 0
CodeMakesFunctions =
    (cs : List Module) (ms : List LoadedModule) → AreFaithful cs ms → AreWellFormed ms
    → AreOnOwnLines ms → AreMakers cs
