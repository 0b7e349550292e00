-- A step of a frame of the code, counted.
use Rattle.std.specs.Prelude.{◌≡◌, ◌⊎◌, ℕ, Bool, false, List, Option, Some, None, slice_get}
use Rattle.py_syntax.specs.Prediction.{Arc}
use Rattle.cov_recorder.specs.declared.frames.Frame.{Frame}
use Rattle.cov_recorder.specs.declared.frames.Seat.{Seat}
use Rattle.cov_recorder.specs.Plan.{set_at}
use Rattle.cov_recorder.specs.Recording.{step, has_arc}
use Rattle.cov_recorder.specs.Counters.{Row, bumped}

-- an arc is counted at its place in the set, and not where the set lacks it
abbrev pub CountsArc : List Arc → Arc → List Row → ℕ → List Row → Type 0
CountsArc set a old n new =
    ((has_arc set a ≡ false) × (new ≡ old))
    ⊎ ((place : ℕ) × (slice_get set place ≡ Some a) × (new ≡ bumped old n place))

-- the step of a frame with this seat to a line is counted in its row
abbrev pub CountsAt : List (List Arc) → Bool → Frame → Option Seat → ℕ
    → List Row → List Row → Type 0
CountsAt sets arcs frame None line old new = new ≡ old
CountsAt sets arcs frame (Some seat) line old new =
    CountsArc (set_at sets frame.code.module) (step arcs seat.first frame.line line)
    old seat.row new
