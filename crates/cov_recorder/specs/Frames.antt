-- What the code's frames stand for, and what holds of them.
--     kept_at_line, opened     the innermost frame at a line; a frame as it is seen
--     IsSeat, HasSeat          the seat of a unit
--     IsSeated, AreSeated      a frame has the seat of its unit, and each does
--     GoesOn, SharesRow        a label goes on; a frame's row is one of a module and a label
use Rattle.std.specs.Prelude.{◌≡◌, ℕ, ◌≤◌, List, [], ◌∷◌, Option, Some, None}
use Rattle.std.specs.List.{AllByRecursion}
use Rattle.cov_event.specs.declared.event.CodeId.{CodeId}
use Rattle.cov_recorder.specs.declared.frames.Frame.{Frame}
use Rattle.cov_recorder.specs.declared.frames.Seat.{Seat}
use Rattle.cov_recorder.specs.Plan.{Named, IsFirst, unit_at}
use Rattle.cov_recorder.specs.Recording.{Open, utf8_of}
use Rattle.cov_recorder.specs.Counters.{Row, HasRow}

-- the innermost frame of the code at another line
abbrev pub kept_at_line : List Frame → ℕ → List Frame
kept_at_line [] line = []
kept_at_line (frame ∷ outer) line = record frame { line = line } ∷ outer

-- an open frame
abbrev pub opened : Frame → Open
opened f = record { code = f.code; line = f.line; label = f.label }

-- the seat of a known unit has its first line, and a row of its module and label
pub record IsSeat (units : List (List Named)) (rows : List Row) (code : CodeId)
    (label : Option (List ℕ)) (seat : Seat) : Type 0 where
  pub unit : Named
  pub is : unit_at units code ≡ Some unit
  pub first : unit.first ≡ seat.first
  pub in_text : IsFirst seat.first
  pub row : HasRow rows seat.row code.module (utf8_of label)

-- code has a seat where its unit is known, and none elsewhere
abbrev pub HasSeat : List (List Named) → List Row → CodeId → Option (List ℕ) → Option Seat → Type 0
HasSeat units rows code label None = unit_at units code ≡ None
HasSeat units rows code label (Some seat) = IsSeat units rows code label seat

-- so it is of a frame, and its line is one that a text may have, or 0
pub record IsSeated (units : List (List Named)) (rows : List Row) (frame : Frame) : Type 0 where
  pub seat : HasSeat units rows frame.code frame.label frame.seat
  pub in_text : frame.line ≤ 65535

-- so it is of each frame
pub record AreSeated (units : List (List Named)) (rows : List Row) (frames : List Frame)
    : Type 0 where
  pub each : AllByRecursion (IsSeated units rows) frames

-- a label in progress is that of the next frame too
abbrev pub GoesOn : Option (List ℕ) → Option (List ℕ) → Type 0
GoesOn None label = Unit {0}
GoesOn (Some outer) label = label ≡ Some outer

-- the frame has a row of counters of this number, module and label
pub record SharesRow (frame : Frame) (m : ℕ) (label : Option (List ℕ)) (row : ℕ) : Type 0 where
  pub seat : Seat
  pub is : frame.seat ≡ Some seat
  pub number : row ≡ seat.row
  pub of_module : frame.code.module ≡ m
  pub of_label : label ≡ frame.label
