-- A hook in memory, as its state.
--     world_in            the world of a store, if there is one
--     path_of             the path of the script
--     state_of            the state of a hook
--     Gives               what a call gave
use Rattle.std.specs.Prelude.{◌≡◌, ℕ, List, [], ◌∷◌, Option, Some, None, Box}
use Rattle.std.specs.declared.alloc.Global.{Global}
use Rattle.py_builtins.specs.World.{World}
use Rattle.py_code.specs.declared.code.Program.{Program}
use Rattle.py_code.specs.declared.code.Programs.{Programs}
use Rattle.py_code.specs.Loaded.{modules_of}
use Rattle.py_code.specs.Programs.{Reply}
use Rattle.py_world.specs.declared.store.Store.{Store}
use Rattle.py_world.specs.Stores.{world_of, word}
use Rattle.cov_hook.specs.declared.asking.Asked.{Asked}
use Rattle.cov_hook.specs.declared.hook.Hook.{Hook}
use Rattle.cov_hook.specs.Questions.{label_of, world_after_call}
use Rattle.cov_hook.specs.States.{HookState}

-- the world of a store, if there is one
abbrev pub world_in : Option (Box Store Global) → Option World
world_in None = None
world_in (Some s) = Some (world_of s.value)

-- the path of the first of these programs
abbrev pub first_path : List Program → List ℕ
first_path [] = []
first_path (p ∷ ps) = word p.path

-- the path of the script
abbrev pub path_of : Programs → List ℕ
path_of ps = first_path ps.modules.items

-- the state of a hook
abbrev pub state_of : Hook → HookState
state_of h = record {
  modules = modules_of h.programs;
  function = h.function;
  world = world_in h.store;
}

-- the label that a reply gives, and the world after it
pub record Gives (reply : Reply) (asked : Asked) : Type 0 where
  pub label : asked.label ≡ label_of reply.returned
  pub world : world_in asked.store ≡ world_after_call reply.returned reply.world
