-- Hook and plugins as sources of labels, and what a refused event leaves of them.
--     asks                      a question about a function, and its answer
--     AskRefused                that the question was refused
--     IsInFrame                 an event that begins no frame
--     SourcesLeft               what a refused event leaves
use Rattle.std.specs.Prelude.{◌⊎◌, ℕ, List, Option, Some, None}
use Rattle.cov_event.specs.declared.ask.Ask.{Ghosts as HookOf}
use Rattle.cov_event.specs.declared.event.Event.{Event}
use Rattle.cov_event.specs.declared.event.Event.TheVariants.{Call, Line, Throw, Return}
use Rattle.cov_contexts.specs.declared.plugins.Plugin.{Ghosts as PluginOf}
use Rattle.cov_contexts.specs.Asking.{Labels, LabelRefused}
use Rattle.cov_contexts.specs.Sources.{Sources}
use Rattle.cov_data.specs.DataSet.{Text}
use Rattle.cov_recorder.specs.Plan.{Named, Plan}
use Rattle.cov_recorder.specs.Recording.{Open, label_now}
use Rattle.cov_recorder.specs.Labels.{question, GetsLabel}

-- the sources are asked about a function of a module, by their names
abbrev pub asks : {A P : Type 0} → HookOf A → PluginOf P →
    Sources A P → Text → Text → Option (List ℕ) → Sources A P → Type 0
asks hook plugin old «module» function label new =
    Labels hook plugin «module» function old label new

-- the question about a function is refused
abbrev pub AskRefused : {A P : Type 0} → HookOf A → PluginOf P →
    Option Named → Sources A P → Sources A P → Type 0
AskRefused hook plugin None old new = ⊥
AskRefused hook plugin (Some unit) old new =
    LabelRefused hook plugin unit.module unit.function old new

-- all but a call
abbrev pub IsInFrame : Event → Type 0
IsInFrame (Call code) = ⊥
IsInFrame (Line line) = Unit {0}
IsInFrame (Throw kind) = Unit {0}
IsInFrame Return = Unit {0}

-- A refused call leaves the sources in the states that their answers gave: the question was
-- refused, or they gave a label before memory was wanted. No other event is refused.
abbrev pub SourcesLeft : {A P : Type 0} → HookOf A → PluginOf P →
    Plan → List Open → Event → Sources A P → Sources A P → Type 0
SourcesLeft hook plugin plan frames (Call code) old new =
    AskRefused hook plugin (question plan code) old new
    ⊎ ((label : Option (List ℕ))
    × GetsLabel (asks hook plugin) (label_now frames) (question plan code) old label new)
SourcesLeft hook plugin plan frames (Line line) old new = ⊥
SourcesLeft hook plugin plan frames (Throw kind) old new = ⊥
SourcesLeft hook plugin plan frames Return old new = ⊥
