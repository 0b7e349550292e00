-- A hook of faithful code does what its trees mean.
use Rattle.std.specs.Prelude.{◌≡◌, ◌<◌, ◌↔◌, ℕ, List, length, Option}
use Rattle.py_code.specs.Units.{Module}
use Rattle.py_compile.specs.ProgramRuns.{AreFaithful}
use Rattle.py_meaning.specs.Modules.{LoadedModule}
use Rattle.py_syntax.specs.Tree.{Text}
use Rattle.py_compile_laws.specs.Traces.{AreWellFormed}
use Rattle.cov_hook.specs.Functions.{Defines}
use Rattle.cov_hook.specs.Questions.{Answers, GivesUp}
use Rattle.cov_hook.specs.States.{HookState, opened}
use Rattle.cov_hook_laws.specs.MeantHooks.{MeantHook, meant_opened, MeansAnswer, LeavesOff, HasDef}

-- the hook with these trees in place of its code
abbrev pub with_trees : List LoadedModule → HookState → MeantHook
with_trees ms h = record { modules = ms; function = h.function; world = h.world }

-- Code is faithful to modules without a fault of scope. Where there is one or more, a hook of that
-- code is opened as they mean it. It answers with a label and passes into a state exactly where they
-- mean both, and it keeps its code. So it is of a refused question. There is a function of a name
-- exactly where a `def` of that name stands in the body of the script.
pub record HooksMean : Type 0 where
  pub opens : (cs : List Module) (ms : List LoadedModule) → AreFaithful cs ms → AreWellFormed ms
      → 0 < length ms → (path function : Text)
      → with_trees ms (opened cs path function) ≡ meant_opened ms path function
  pub answers : (ms : List LoadedModule) (old new : HookState) → AreFaithful old.modules ms
      → AreWellFormed ms → («module» function : List ℕ) (label : Option Text)
      → Answers old «module» function label new
      ↔ (MeansAnswer (with_trees ms old) «module» function label (with_trees ms new)
      × (new.modules ≡ old.modules))
  pub gives_up : (ms : List LoadedModule) (old new : HookState)
      → GivesUp old new
      ↔ (LeavesOff (with_trees ms old) (with_trees ms new) × (new.modules ≡ old.modules))
  pub defines : (cs : List Module) (ms : List LoadedModule) → AreFaithful cs ms → (name : Text)
      → Defines cs name ↔ HasDef ms name
