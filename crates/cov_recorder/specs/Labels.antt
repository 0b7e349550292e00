-- Who gives the label of a frame: the frame around it, or the sources of labels.
--     question          what they are asked about
--     IsUnasked         that nobody is asked
--     GetsLabel           the label of a frame that begins, and what it makes of the sources
--     Labelled          the same for each event
--     IsNext            how an event changes a recording and the sources
--     IsRefused         what it leaves of them where it is refused
use Rattle.std.specs.Prelude.{◌≡◌, ℕ, zero, suc, List, Option, Some, None}
use Rattle.cov_event.specs.declared.event.CodeId.{CodeId}
use Rattle.cov_event.specs.declared.event.Event.{Event}
use Rattle.cov_event.specs.declared.event.Event.TheVariants.{Call, Line, Throw, Return}
use Rattle.cov_data.specs.DataSet.{Text}
use Rattle.cov_recorder.specs.Plan.{Named, Plan, unit_of}
use Rattle.cov_recorder.specs.Recording.{Open, Recording, label_now, next}

-- functions are asked about, and the body of a module isn't
abbrev pub question_in : ℕ → Option Named → Option Named
question_in zero name = None
question_in (suc k) name = name

-- what is asked about as this code begins
abbrev pub question : Plan → CodeId → Option Named
question plan code = question_in code.unit (unit_of plan code)

-- nobody is asked: a label is in progress, or there is nothing to ask about
abbrev pub IsUnasked : Recording → CodeId → Type 0
IsUnasked r code = label_now r.frames ≡ None → question r.plan code ≡ None

-- A label in progress goes on. Otherwise the sources of labels are asked about a function, and
-- their answer leads them from one state to another.
abbrev pub GetsLabel : {C : Type 0} → (C → Text → Text → Option (List ℕ) → C → Type 0)
    → Option (List ℕ) → Option Named → C → Option (List ℕ) → C → Type 0
GetsLabel asks (Some outer) names old label new = (label ≡ Some outer) × (new ≡ old)
GetsLabel asks None None old label new = (label ≡ None) × (new ≡ old)
GetsLabel asks None (Some unit) old label new = asks old unit.module unit.function label new

-- the label that an event begins a frame with; other events ask nothing
abbrev pub Labelled : {C : Type 0} → (C → Text → Text → Option (List ℕ) → C → Type 0)
    → Plan → List Open → Event → C → Option (List ℕ) → C → Type 0
Labelled asks plan frames (Call code) old label new =
    GetsLabel asks (label_now frames) (question plan code) old label new
Labelled asks plan frames (Line line) old label new = (label ≡ None) × (new ≡ old)
Labelled asks plan frames (Throw kind) old label new = (label ≡ None) × (new ≡ old)
Labelled asks plan frames Return old label new = (label ≡ None) × (new ≡ old)

-- a recording and the sources of labels, after one more event
abbrev pub IsNext : {C : Type 0} → (C → Text → Text → Option (List ℕ) → C → Type 0)
    → Recording × C → Event → Recording × C → Type 0
IsNext asks old event new =
    (label : Option (List ℕ)) × Labelled asks old.0.plan old.0.frames event old.1 label new.1
    × (new.0 ≡ next label old.0 event)

-- The same after an event that was refused: the recording is as before. The sources went on as
-- this says of the plan, the open frames and the event.
abbrev pub IsRefused : {C : Type 0} → (Plan → List Open → Event → C → C → Type 0)
    → Recording × C → Event → Recording × C → Type 0
IsRefused leaves old event new =
    (new.0 ≡ old.0) × leaves old.0.plan old.0.frames event old.1 new.1
