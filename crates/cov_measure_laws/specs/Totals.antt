-- How many rows a run tells, over all contexts.
--     HasTotals                 data of as many rows as items cross arcs that have a counter
--     KeepsTotals               so it is of a recorder that took the events of items
--     ModulesTotalsLaw, CallTotalsLaw    of each run
use Rattle.std.specs.Prelude.{◌≡◌, ◌&&◌, ℕ, ◌<◌, Bool, List, length, map, All, Option, count_by}
use Rattle.std.specs.List.{sum_by, range_with_len}
use Rattle.cov_data.specs.DataSet.{Text, DataSet}
use Rattle.cov_data.specs.Rows.{RowView}
use Rattle.py_syntax.specs.Prediction.{Arc}
use Rattle.py_syntax.specs.Tree as tree
use Rattle.py_builtins.specs.World.{World}
use Rattle.py_meaning.specs.Activations.{Items}
use Rattle.py_meaning.specs.Crossings.{ends, crossings}
use Rattle.py_meaning.specs.Events.{events_in}
use Rattle.py_meaning.specs.Modules.{LoadedModule}
use Rattle.py_meaning.specs.Program.{run_modules, Request, called}
use Rattle.cov_arcs.specs.Laws.{firsts_of}
use Rattle.cov_recorder.specs.Plan.{Plan, set_of, path_of}
use Rattle.cov_recorder.specs.Recording.{Recording, has_arc}
use Rattle.cov_recorder.specs.Laws.{all_paths, IsCounted}
use Rattle.cov_recorder_laws.specs.Laws.{first_lines, Took, HasTextLines}
use Rattle.cov_measure_laws.specs.Places.{spot, shown_arcs}

-- Data count rows. Of each kind of path and arc, over all contexts, there are as many as the items
-- cross in the modules of such paths, at all places, of the arcs that have a counter.
pub record HasTotals (plan : Plan) (ms : List LoadedModule) (items : Items) (d : DataSet)
    : Type 0 where
  pub rows : List RowView
  pub counted : IsCounted plan.arcs (all_paths plan (events_in items)) rows d
  pub totals : (p : Text × Arc → Bool) → count_by (λ row. p (spot row)) rows
      ≡ sum_by (λ m. count_by (λ a. has_arc (set_of plan m) a && p (path_of plan m, a))
      (shown_arcs plan.arcs (map ends (crossings ms m items)))) (range_with_len 0 (length ms))

-- So it is of a recorder whose plan has the units of these modules, and that took the events of
-- these items.
abbrev pub KeepsTotals : {S C : Type 0}
    → (C → Text → Text → Option (List ℕ) → C → Type 0) → (S → Recording × C)
    → List LoadedModule → Items → Type 0
KeepsTotals {S} asks state ms items =
    (plan : Plan) (new : S) → first_lines plan ≡ firsts_of ms
    → Took asks state plan (events_in items) new → HasTotals plan ms items (state new).0.data

-- Within any budget: of one or more modules,
abbrev pub ModulesTotalsLaw : {S C : Type 0}
    → (C → Text → Text → Option (List ℕ) → C → Type 0) → (S → Recording × C) → Type 0
ModulesTotalsLaw asks state =
    (ms : List LoadedModule) → 0 < length ms → All HasTextLines ms
    → (words : List tree.Text) (input : List ℕ) (budget : ℕ)
    → KeepsTotals asks state ms (run_modules ms words input budget).items

-- and of one call.
abbrev pub CallTotalsLaw : {S C : Type 0}
    → (C → Text → Text → Option (List ℕ) → C → Type 0) → (S → Recording × C) → Type 0
CallTotalsLaw asks state =
    (ms : List LoadedModule) → All HasTextLines ms
    → (w : World) (input : List ℕ) (r : Request) (budget : ℕ)
    → KeepsTotals asks state ms (called ms w input r budget).items
