-- The open rows of a pattern as the code holds them.
--     view_frame .. view_reader      open rows, and the reader over them
--     ValidRow .. Valid, SLACK       the heights that the code holds are within a bound
--     ActsAs, Acts                   what a step makes, but for the limit
--     TurnsTo, Turns                 what it makes within the limit
--     Pops, ValidPops                one bracket fewer
--     depth_after .. item_height     the height of what is open in a row
use Rattle.std.specs.Prelude.{◌≡◌, ℕ, ◌+◌, max, ◌≤◌, ◌<◌, List, [], ◌∷◌, map, reverse, Option, Some, None, Result, Ok, Err}
use Rattle.std.specs.declared.alloc.AllocError.{AllocError}
use Rattle.py_syntax.specs.Spelling.{HEIGHT}
use Rattle.py_parse_pattern.specs.declared.nodes.Measured.{Measured}
use Rattle.py_parse_pattern.specs.declared.reader.Row as code_row
use Rattle.py_parse_pattern.specs.declared.reader.Frame as code_frame
use Rattle.py_parse_pattern.specs.declared.reader.Rows.{Rows}
use Rattle.py_parse_pattern.specs.declared.reader.Progress.{Progress}
use Rattle.py_parse_pattern.specs.declared.reader.Progress.TheVariants as progress_
use Rattle.py_parse_pattern.specs.declared.reader.Reader.{Reader}
use Rattle.py_parse_pattern.specs.declared.reader.Turn.{Turn}
use Rattle.py_parse_pattern.specs.declared.reader.Turn.TheVariants as turn_
use Rattle.py_parse_pattern.specs.Machine.{Frame, frame, Stack, stack, State, Want, Minus, Named, Dotted, Strings, Have, Naming, Item, Out, Next, Stuck, Left, least}
use Rattle.py_parse_pattern.specs.Heights.{depth, raised, levels}
use Rattle.py_parse_pattern.specs.Views.{view_measured, IsMeasured, view_many, AreMeasured}

-- an open bracket, with what stands in front of it in its row
abbrev pub view_frame : code_frame.Frame → Frame
view_frame f = frame f.bracket (view_many f.outer.items) (view_many f.outer.alternatives)

-- the innermost is the last in the code, and the first in the machine
abbrev pub view_frames : List code_frame.Frame → List Frame
view_frames fs = map view_frame (reverse fs)

-- a row, with the brackets that are open round it
abbrev pub view_row : code_row.Row → List Frame → Stack
view_row r fs = stack (view_many r.items) (view_many r.alternatives) fs

-- all that is open
abbrev pub view_rows : Rows → Stack
view_rows r = view_row r.row (view_frames r.frames.items)

-- a place in a pattern
abbrev pub view_at : Progress → Rows → State
view_at progress_.Want r = Want (view_rows r)
view_at progress_.Minus r = Minus (view_rows r)
view_at (progress_.Named x) r = Named x (view_rows r)
view_at (progress_.Dotted m) r = Dotted m (view_rows r)
view_at (progress_.Strings xs) r = Strings xs.items (view_rows r)
view_at (progress_.Have t) r = Have (view_measured t) (view_rows r)
view_at (progress_.Naming t) r =
    Naming (view_measured t) (view_many r.row.items) (view_frames r.frames.items)
view_at (progress_.Item t) r =
    Item (view_measured t) (view_many r.row.items) (view_frames r.frames.items)

-- a reader: its place, and all that is open
abbrev pub view_reader : Reader → State
view_reader r = view_at r.progress r.rows

-- The heights that the code holds are those of its patterns, and none is above the bound.
pub record ValidRow (bound : ℕ) (r : code_row.Row) (fs : List Frame) : Type 0 where
  pub items : AreMeasured r.items
  pub alternatives : AreMeasured r.alternatives
  pub depth_is : r.depth ≡ depth (view_many r.items) fs
  pub low_items : r.items.height ≤ bound
  pub low_alternatives : r.alternatives.height ≤ HEIGHT
  pub shallow : r.depth ≤ bound

-- the innermost first
abbrev pub ValidFrames : List code_frame.Frame → Type 0
ValidFrames [] = Unit {0}
ValidFrames (f ∷ fs) = ValidRow HEIGHT f.outer (map view_frame fs) × ValidFrames fs

-- the same of all open rows
pub record ValidRows (bound : ℕ) (r : Rows) : Type 0 where
  pub row : ValidRow bound r.row (view_frames r.frames.items)
  pub frames : ValidFrames (reverse r.frames.items)

-- the same of a pattern with its height
pub record ValidMeasured (bound : ℕ) (t : Measured) : Type 0 where
  pub is : IsMeasured t
  pub low : t.height ≤ bound

-- the same of a place
abbrev pub ValidAt : ℕ → Progress → Type 0
ValidAt bound (progress_.Have t) = ValidMeasured bound t
ValidAt bound (progress_.Naming t) = ValidMeasured bound t
ValidAt bound (progress_.Item t) = ValidMeasured bound t
ValidAt bound p = Unit {0}

-- the same of a reader
pub record Valid (bound : ℕ) (r : Reader) : Type 0 where
  pub rows : ValidRows bound r.rows
  pub at : ValidAt bound r.progress

-- a bound for what a step makes of heights within the limit
abbrev pub SLACK : ℕ
SLACK = HEIGHT + 10

-- What a step of the machine makes, but for the limit.
abbrev pub ActsAs : Out → Turn → Type 0
ActsAs o (turn_.Next r) = (o ≡ Next (view_reader r)) × Valid SLACK r
ActsAs o turn_.Stuck = o ≡ Stuck
ActsAs o turn_.Deep = ⊥
ActsAs o (turn_.Left t) = o ≡ Left (view_measured t)

-- the same, where memory lasts
abbrev pub Acts : Out → Result Turn AllocError → Type 0
Acts o (Ok t) = ActsAs o t
Acts o (Err e) = Unit {0}

-- What a step of the machine makes within the limit.
abbrev pub TurnsTo : Out → Turn → Type 0
TurnsTo o (turn_.Next r) =
    (o ≡ Next (view_reader r)) × Valid HEIGHT r × (least (view_reader r) ≤ HEIGHT)
TurnsTo o turn_.Stuck = o ≡ Stuck
TurnsTo o turn_.Deep = (n : State) × (o ≡ Next n) × (HEIGHT < least n)
TurnsTo o (turn_.Left t) = o ≡ Left (view_measured t)

-- the same, where memory lasts
abbrev pub Turns : Out → Result Turn AllocError → Type 0
Turns o (Ok t) = TurnsTo o t
Turns o (Err e) = Unit {0}

-- the innermost bracket, and those round it
abbrev pub Pops : Option code_frame.Frame → List Frame → List Frame → Type 0
Pops None old new = old ≡ []
Pops (Some f) old new = old ≡ view_frame f ∷ new

-- what the innermost bracket and those round it keep
abbrev pub ValidPops : Option code_frame.Frame → List Frame → List code_frame.Frame → Type 0
ValidPops None fs rest = Unit {0}
ValidPops (Some f) fs rest = ValidRow HEIGHT f.outer fs × ValidFrames rest

-- how many nodes stand above an item that has others in front of it
abbrev pub depth_after : List code_frame.Frame → ℕ → ℕ
depth_after [] d = 1
depth_after (f ∷ fs) d = d

-- the height of what is open in a row, without a closed pattern
abbrev pub row_height : code_row.Row → ℕ
row_height r = max (r.items.height + r.depth) (raised (view_many r.alternatives) r.depth)

-- with a closed pattern of that height
abbrev pub closed_height : code_row.Row → ℕ → ℕ
closed_height r h = max (row_height r) (r.depth + levels (view_many r.alternatives) + h)

-- with an item of that height
abbrev pub item_height : code_row.Row → ℕ → ℕ
item_height r h = max (r.items.height + r.depth) (r.depth + h)
