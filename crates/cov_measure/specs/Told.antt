-- The data of the events that an engine told, whoever it is.
--     code_hook               a hook of code, as one who is asked
--     IsDataOfTaken           data of events, of which some were refused
--     WasTold                 a recorder that was told events
--     WasRefused              one that was told some, if any, until the run was given up
use Rattle.std.specs.Prelude.{◌≡◌, ◌⊎◌, ℕ, Bool, List, [], Option}
use Rattle.cov_event.specs.declared.ask.Ask.{Ghosts as HookOf}
use Rattle.cov_event.specs.declared.event.Event.{Event}
use Rattle.cov_contexts.specs.declared.plugins.Plugin.{Ghosts as PluginOf}
use Rattle.cov_contexts.specs.Sources.{Sources}
use Rattle.cov_data.specs.DataSet.{Text, DataSet}
use Rattle.cov_data.specs.Rows.{RowView}
use Rattle.cov_hook.specs.declared.hook.Hook.{Hook}
use Rattle.cov_hook.specs.Questions.{Answers, GivesUp}
use Rattle.cov_hook.specs.View.{state_of}
use Rattle.cov_recorder.specs.Asking.{asks, SourcesLeft}
use Rattle.cov_recorder.specs.Laws.{TellsTaken, all_paths, taken_of, IsCounted}
use Rattle.cov_recorder.specs.Plan.{Plan}
use Rattle.cov_recorder.specs.Recording.{Open}

-- its answers, and what a refused question leaves, are those of its code
abbrev pub code_hook : HookOf Hook
code_hook = record {
  moves = λ old «module» function label new.
      Answers (state_of old) «module» function label (state_of new);
  refused = λ old new. GivesUp (state_of old) (state_of new);
}

-- The data are those of the events that were taken: their paths and rows, each row with the number
-- of its places. The sources of labels go on with each event, a refused one too.
pub record IsDataOfTaken {C : Type 0} (asks : C → Text → Text → Option (List ℕ) → C → Type 0)
    (leaves : Plan → List Open → Event → C → C → Type 0) (plan : Plan) (old : C)
    (calls : List (Event × Bool)) (d : DataSet) (new : C) : Type 0 where
  pub rows : List RowView
  pub told : TellsTaken asks leaves plan [] old calls rows new
  pub counted : IsCounted plan.arcs (all_paths plan (taken_of calls)) rows d

-- Someone told these events to a new recorder. The data are theirs, and these plugins are left.
pub record WasTold {A P : Type 0} (hook : HookOf A) (plugin : PluginOf P) (plan : Plan)
    (old : Sources A P) (told : List (Event × Bool) → Type 0) (d : DataSet) (plugins : List P)
    : Type 0 where
  pub calls : List (Event × Bool)
  pub has_told : told calls
  pub left : Sources A P
  pub is : IsDataOfTaken (asks hook plugin) (SourcesLeft hook plugin) plan old calls d left
  pub left_plugins : plugins ≡ left.plugins

-- Either nobody told anything, and the plugins are as before. Or it is as after a run, but for the
-- data, which are lost.
abbrev pub WasRefused : {A P : Type 0} → HookOf A → PluginOf P → Plan → Sources A P
    → Type 0 → (List (Event × Bool) → Type 0) → List P → Type 0
WasRefused hook plugin plan old nothing told plugins =
    (nothing × (plugins ≡ old.plugins))
    ⊎ ((d : DataSet) × WasTold hook plugin plan old told d plugins)
