-- From the lines that were reached under each path, as data have them, to what the laws ask.
--     path_of                             the paths of modules
--     HasReached, ReachedNoChange         the lines that were reached under a path
--     UnreachedPaths, UnchangedByPaths    what follows where none of them is a changed line
use Rattle.std.specs.Prelude.{◌≡◌, ◌≢◌, ℕ, ◌<◌, true, false, List, [], All, Contains, Option, Some, None, slice_get, pos}
use Rattle.py_syntax.specs.Marks.{statement_lines}
use Rattle.py_syntax.specs.Tree.{Text}
use Rattle.py_builtins.specs.Outcomes as outcomes
use Rattle.py_builtins.specs.Returns as returns
use Rattle.py_meaning.specs.Activations.{Items}
use Rattle.py_meaning.specs.Crossings.{Crossing, crossings}
use Rattle.py_meaning.specs.Modules.{LoadedModule, body_of}
use Rattle.py_changes.specs.Regular.{IsRegular}
use Rattle.py_changes.specs.Tests.{Test, imported, tested, reaches, is_changed}

-- the path of a module, where it is there
abbrev pub module_path : Option LoadedModule → Text
module_path None = []
module_path (Some m) = m.path

-- the path of the module with a number
abbrev pub path_of : List LoadedModule → ℕ → Text
path_of ms m = module_path (slice_get ms m)

-- in a module of this path, these items have an arc to this line
abbrev pub HasReached : List LoadedModule → Items → Text → ℕ → Type 0
HasReached ms items path l =
    (m : ℕ) × (c : Crossing) × (path_of ms m ≡ path)
    × Contains (crossings ms m items) c × (c.to ≡ pos l)

-- no changed line of a module is among those that were reached under its path
abbrev pub ReachedNoChange : List LoadedModule → List LoadedModule → Items → Type 0
ReachedNoChange old new items =
    (m l : ℕ) → is_changed old new m l ≡ true → HasReached old items (path_of old m) l → ⊥

-- By the lines of paths, as data have them: where none of them is a changed line, an import and a
-- test reached no changed line. The statement lines of old modules are from 1 on, as in every text.
abbrev pub UnreachedPaths : Type 0
UnreachedPaths =
    (old new : List LoadedModule) (t : Test)
    → ((m : ℕ) → All (λ l. 0 < l) (statement_lines (body_of old m)))
    → (ReachedNoChange old new (imported old t).items
    → reaches (is_changed old new) 0 (imported old t).items ≡ false)
    × (ReachedNoChange old new (tested old t).items
    → reaches (is_changed old new) 0 (tested old t).items ≡ false)

-- So a test has the same result where neither it nor the import was cut, and none of the lines that
-- they reached under a path is a changed line of a module of that path.
abbrev pub UnchangedByPaths : Type 0
UnchangedByPaths =
    (old new : List LoadedModule) (t : Test) → IsRegular old
    → ((m : ℕ) → All (λ l. 0 < l) (statement_lines (body_of old m)))
    → (imported old t).outcome ≢ outcomes.cut → ReachedNoChange old new (imported old t).items
    → (tested old t).returned ≢ returns.cut → ReachedNoChange old new (tested old t).items
    → tested new t ≡ tested old t
