-- The arcs that a list of events tells: each open frame has a line, and a line event or a return
-- closes an arc from it (coverage.py documentation, "Branch coverage measurement").
--     first_line        of a unit, by a table
--     after             the open frames after an event
--     closed            the arc that an event closes
--     arcs_told         those that a list of events closes
use Rattle.std.specs.Prelude.{ℕ, nat_eq, if◌then◌else◌, List, [], ◌∷◌, ◌++◌, ℤ, Option, Some, None, slice_get}
use Rattle.cov_event.specs.declared.event.CodeId.{CodeId}
use Rattle.cov_event.specs.declared.event.Event.{Event}
use Rattle.cov_event.specs.declared.event.Event.TheVariants.{Call, Line, Throw, Return}
use Rattle.py_meaning.specs.Crossings.{shown_line}
use Rattle.cov_arcs.specs.declared.frames.Frame.{Frame}

-- the line, or 1 where there is none
abbrev pub or_one : Option ℕ → ℕ
or_one None = 1
or_one (Some line) = line

-- that of a unit among those of its module
abbrev pub line_in : Option (List ℕ) → ℕ → ℕ
line_in None unit = 1
line_in (Some lines) unit = or_one (slice_get lines unit)

-- the first line of a unit, by the first lines of the units of each module; 1 where they lack it
abbrev pub first_line : List (List ℕ) → CodeId → ℕ
first_line firsts code = line_in (slice_get firsts code.module) code.unit

-- a frame that begins; 0 stands for the outside of its body
abbrev pub opened : List (List ℕ) → CodeId → Frame
opened firsts code = record { «module» = code.module; first = first_line firsts code; line = 0 }

-- the innermost frame at another line
abbrev pub at_line : List Frame → ℕ → List Frame
at_line [] line = []
at_line (frame ∷ outer) line = record frame { line = line } ∷ outer

-- the frames outside the innermost one
abbrev pub outer_frames : List Frame → List Frame
outer_frames [] = []
outer_frames (frame ∷ outer) = outer

-- the open frames after an event, the innermost first
abbrev pub after : List (List ℕ) → List Frame → Event → List Frame
after firsts frames (Call code) = opened firsts code ∷ frames
after firsts frames (Line line) = at_line frames line
after firsts frames (Throw kind) = frames
after firsts frames Return = outer_frames frames

-- from the line of a frame to another one
abbrev pub arc_to : Frame → ℕ → ℤ × ℤ
arc_to frame line = (shown_line frame.first frame.line, shown_line frame.first line)

-- the arc that the innermost frame closes there, with the number of its module
abbrev pub closed_at : List Frame → ℕ → Option (ℕ × (ℤ × ℤ))
closed_at [] line = None
closed_at (frame ∷ outer) line = Some (frame.module, arc_to frame line)

-- the arc that an event closes
abbrev pub closed : List Frame → Event → Option (ℕ × (ℤ × ℤ))
closed frames (Call code) = None
closed frames (Line line) = closed_at frames line
closed frames (Throw kind) = None
closed frames Return = closed_at frames 0

-- the arc, where there is one and it is in this module
abbrev pub in_module : ℕ → Option (ℕ × (ℤ × ℤ)) → List (ℤ × ℤ)
in_module m None = []
in_module m (Some arc) = if nat_eq arc.0 m then arc.1 ∷ [] else []

-- the arcs in a module that events close where these frames are open, without those left open
unfoldable pub arcs_told : List (List ℕ) → ℕ → List Frame → List Event → List (ℤ × ℤ)
arcs_told firsts m frames [] = []
arcs_told firsts m frames (event ∷ rest) =
    in_module m (closed frames event) ++ arcs_told firsts m (after firsts frames event) rest
