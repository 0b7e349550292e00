-- The rows and paths that a whole list of events tells.
--     Tells              the rows that events tell, as the labels come
--     TellsTaken         those of the events that were taken, where others were refused
--     all_paths          the paths that events tell
--     taken_of           the events that were taken
--     is_row, is_path    whether a row or a path is this one
--     IsCounted          data of these paths and rows
--     IsRecordingOf      what is kept of a list of events
--     IsRecordingOfTaken the same where some events were refused
--     RecordingLaw       that a new recorder keeps it
use Rattle.std.specs.Prelude.{◌≡◌, ◌||◌, ◌&&◌, ℕ, min, Bool, if◌then◌else◌, List, [], ◌∷◌, ◌++◌, ℤ, Option, count_by}
use Rattle.std.specs.Bool.{MatchBool}
use Rattle.std.specs.Ordering.{eq_by_cmp}
use Rattle.std.specs.List.{list_any}
use Rattle.cov_event.specs.declared.event.Event.{Event}
use Rattle.cov_event.specs.Moves.{Takes, Calls}
use Rattle.cov_data.specs.DataSet.{Text, text_cmp, place_cmp, most_count, DataSet, has_path, count_at}
use Rattle.cov_data.specs.Rows.{RowView}
use Rattle.cov_recorder.specs.Plan.{Plan}
use Rattle.cov_recorder.specs.Recording.{Open, Recording, at_first, after, rows_told, paths_told}
use Rattle.cov_recorder.specs.Labels.{Labelled, IsNext, IsRefused}

-- These events tell these rows, one for each place, where these frames are open. The sources of
-- labels go from one state to another.
abbrev pub Tells : {C : Type 0} → (C → Text → Text → Option (List ℕ) → C → Type 0)
    → Plan → List Open → C → List Event → List RowView → C → Type 0
Tells asks plan frames old [] rows new = (rows ≡ []) × (new ≡ old)
Tells {C} asks plan frames old (event ∷ rest) rows new =
    (label : Option (List ℕ)) × (mid : C) × (later : List RowView)
    × Labelled asks plan frames event old label mid
    × Tells asks plan (after label frames event) mid rest later new
    × (rows ≡ rows_told plan frames event ++ later)

-- So do calls with these events, of which those with `true` were taken. A refused one tells
-- nothing, and leaves the sources as this says of the plan, the open frames and the event.
abbrev pub TellsTaken : {C : Type 0} → (C → Text → Text → Option (List ℕ) → C → Type 0)
    → (Plan → List Open → Event → C → C → Type 0) → Plan → List Open → C → List (Event × Bool)
    → List RowView → C → Type 0
TellsTaken asks leaves plan frames old [] rows new = (rows ≡ []) × (new ≡ old)
TellsTaken {C} asks leaves plan frames old (call ∷ rest) rows new =
    (mid : C) × (later : List RowView)
    × MatchBool call.1
    ((label : Option (List ℕ)) × Labelled asks plan frames call.0 old label mid
    × TellsTaken asks leaves plan (after label frames call.0) mid rest later new
    × (rows ≡ rows_told plan frames call.0 ++ later))
    (leaves plan frames call.0 old mid
    × TellsTaken asks leaves plan frames mid rest later new × (rows ≡ later))

-- the events that were taken
abbrev pub taken_of : List (Event × Bool) → List Event
taken_of [] = []
taken_of (call ∷ rest) = if call.1 then call.0 ∷ taken_of rest else taken_of rest

-- the paths that events tell
abbrev pub all_paths : Plan → List Event → List Text
all_paths plan [] = []
all_paths plan (event ∷ rest) = paths_told plan event ++ all_paths plan rest

-- whether a path is this one
abbrev pub is_path : Text → Text → Bool
is_path path other = eq_by_cmp text_cmp path other

-- whether a row is the one of this path, context, from and to
abbrev pub is_row : Text → Text → ℤ → ℤ → RowView → Bool
is_row path context from to row =
    is_path path row.path
    && eq_by_cmp place_cmp (context, (from, to)) (row.context, (row.from, row.to))

-- Data hold these paths and those of these rows, and each row with the number of its places, up to
-- the greatest count.
pub record IsCounted (arcs : Bool) (told : List Text) (rows : List RowView) (d : DataSet)
    : Type 0 where
  pub kind : d.arcs ≡ arcs
  pub paths : (path : Text) → has_path d path
      ≡ (list_any (is_path path) told || list_any (λ row. is_path path row.path) rows)
  pub counts : (path context : Text) (from to : ℤ) → count_at d path context from to
      ≡ min (count_by (is_row path context from to) rows) most_count

-- what is kept of events, from the first state of a plan and of sources on
pub record IsRecordingOf {C : Type 0}
    (asks : C → Text → Text → Option (List ℕ) → C → Type 0) (plan : Plan) (sources : C)
    (events : List Event) (new : Recording × C) : Type 0 where
  pub rows : List RowView
  pub told : Tells asks plan [] sources events rows new.1
  pub counted : IsCounted plan.arcs (all_paths plan events) rows new.0.data

-- the same of calls, of which some were refused
pub record IsRecordingOfTaken {C : Type 0}
    (asks : C → Text → Text → Option (List ℕ) → C → Type 0)
    (leaves : Plan → List Open → Event → C → C → Type 0) (plan : Plan) (sources : C)
    (calls : List (Event × Bool)) (new : Recording × C) : Type 0 where
  pub rows : List RowView
  pub told : TellsTaken asks leaves plan [] sources calls rows new.1
  pub counted : IsCounted plan.arcs (all_paths plan (taken_of calls)) rows new.0.data

-- What a new recorder keeps of events, one after another, are the paths and rows that the whole
-- list tells: of all events where it took them all, and else of those that it took. The sources of
-- labels go on with each event that was taken, and with a refused one as far as it leaves them.
pub record RecordingLaw {S C : Type 0} (asks : C → Text → Text → Option (List ℕ) → C → Type 0)
    (leaves : Plan → List Open → Event → C → C → Type 0) (state : S → Recording × C)
    : Type 0 where
  pub of_taken : (plan : Plan) (sources : C) (old new : S) (events : List Event) →
      state old ≡ (at_first plan, sources) →
      Takes (λ before event later. IsNext asks (state before) event (state later)) old events new →
      IsRecordingOf asks plan sources events (state new)
  pub of_calls : (plan : Plan) (sources : C) (old new : S) (calls : List (Event × Bool)) →
      state old ≡ (at_first plan, sources) →
      Calls (λ before event later. IsNext asks (state before) event (state later))
      (λ before event later. IsRefused leaves (state before) event (state later)) old calls new →
      IsRecordingOfTaken asks leaves plan sources calls (state new)
