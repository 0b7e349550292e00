-- The data of an import and of its tests, each recorded by itself.
--     Line, lines_in      the lines of data, by their paths
--     InTurn              data of one thing after another
--     nobody, sources_of  who gives labels
--     HasRows             data of events, as far as a plan has counters
use Rattle.std.specs.Prelude.{◌≡◌, ℕ, true, List, [], ◌∷◌, map, None}
use Rattle.std.specs.List.{flat_map}
use Rattle.cov_event.specs.declared.ask.Ask.{Ghosts as HookOf}
use Rattle.cov_event.specs.declared.ask.Nobody.{Nobody}
use Rattle.cov_event.specs.declared.event.Event.{Event}
use Rattle.cov_contexts.specs.declared.plugins.Plugin.{Ghosts as PluginOf}
use Rattle.cov_contexts.specs.Sources.{Sources}
use Rattle.cov_data.specs.DataSet.{Text, DataSet}
use Rattle.cov_data.specs.Rows.{RowView, paths_of, lines_of}
use Rattle.cov_recorder.specs.Asking.{asks}
use Rattle.cov_recorder.specs.Laws.{Tells, all_paths, IsCounted}
use Rattle.cov_recorder.specs.Plan.{Plan}

-- the path of a file, and a line of it
abbrev pub Line : Type 0
Line = Text × ℕ

-- the lines of one path
abbrev pub path_lines : DataSet → Text → List Line
path_lines d path = map (λ line. (path, line)) (lines_of d path)

-- the executed lines of data, by path and then by number, each once
abbrev pub lines_in : DataSet → List Line
lines_in d = flat_map (path_lines d) (paths_of d)

-- These data are of these, one after another. The plugins go from each to the next.
abbrev pub InTurn : {P E : Type 0} → (List P → E → DataSet → List P → Type 0) → List P → List E
    → List DataSet → List P → Type 0
InTurn is_data old [] [] new = new ≡ old
InTurn is_data old [] (d ∷ ds) new = ⊥
InTurn is_data old (e ∷ es) [] new = ⊥
InTurn {P} is_data old (e ∷ es) (d ∷ ds) new =
    (mid : List P) × is_data old e d mid × InTurn is_data mid es ds new

-- nobody gives a label, and stays as it is
abbrev pub nobody : HookOf Nobody
nobody = record { moves = λ old _ _ label new. (label ≡ None) × (new ≡ old); refused = λ _ _. ⊥ }

-- labels come from no hook, from these plugins, and then from the name rule
abbrev pub sources_of : {A P : Type 0} → List P → Sources A P
sources_of plugins = record { hook = None; plugins = plugins; by_name = true }

-- The data are those of these events: their paths and the rows that have a counter, each row with
-- the number of its places. These plugins are left of those that gave labels.
pub record HasRows {P : Type 0} (plugin : PluginOf P) (plan : Plan) (old : List P)
    (events : List Event) (d : DataSet) (new : List P) : Type 0 where
  pub rows : List RowView
  pub left : Sources Nobody P
  pub told : Tells (asks nobody plugin) plan [] (sources_of old) events rows left
  pub counted : IsCounted plan.arcs (all_paths plan events) rows d
  pub left_plugins : new ≡ left.plugins
