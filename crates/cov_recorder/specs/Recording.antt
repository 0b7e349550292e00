-- What a list of events tells, as rows with counts.
-- (coverage.py documentation, "Branch coverage measurement" and "Measurement contexts")
--     utf8_of, joined, context_of   the context of a row, by the label of its frame
--     Open, label_now               an open frame; the label in progress
--     is_line                       the lines that count
--     end_of, step                  where a frame goes from its line to another one
--     told_at, told_now             the row that a frame tells as it comes to a line
--     rows_told                     the rows that an event tells
--     paths_told                    the path that an event tells
--     after                         the open frames after an event
--     Recording, at_first, next     a state, and how an event changes it
use Rattle.std.specs.Prelude.{ℕ, zero, suc, nat_lt, ◌&&◌, Bool, true, false, if◌then◌else◌, List, [], ◌∷◌, ◌++◌, ℤ, pos, neg_ℤ, Option, Some, None, encode_utf8_all}
use Rattle.std.specs.Ordering.{eq_by_cmp}
use Rattle.std.specs.List.{fold, list_any}
use Rattle.cov_event.specs.declared.event.CodeId.{CodeId}
use Rattle.cov_event.specs.declared.event.Event.{Event}
use Rattle.cov_event.specs.declared.event.Event.TheVariants.{Call, Line, Throw, Return}
use Rattle.cov_data.specs.DataSet.{Text, DataSet, no_data, with_path}
use Rattle.cov_data.specs.Rows.{RowView, with_row}
use Rattle.py_syntax.specs.Prediction.{Arc, by_ends}
use Rattle.cov_recorder.specs.Plan.{Named, Plan, unit_of, set_of, path_of}

-- the UTF-8 of a label, if there is one
abbrev pub utf8_of : Option (List ℕ) → Text
utf8_of None = []
utf8_of (Some label) = encode_utf8_all label

-- two contexts with `|` between them; where one is empty, the other
abbrev pub joined : Text → Text → Text
joined [] label = label
joined (b ∷ bs) [] = b ∷ bs
joined (b ∷ bs) (c ∷ cs) = (b ∷ bs) ++ 124 ∷ c ∷ cs

-- the static context and the label
abbrev pub context_of : Plan → Option (List ℕ) → Text
context_of plan label = joined plan.fixed (utf8_of label)

-- An open frame: its code, its current line, where 0 is the outside of the code, and the label in
-- progress. So a label ends with the frame that began it.
pub record Open : Type 0 where
  pub code : CodeId
  pub line : ℕ
  pub label : Option (List ℕ)

-- the label in progress is that of the innermost frame
abbrev pub label_now : List Open → Option (List ℕ)
label_now [] = None
label_now (frame ∷ outer) = frame.label

-- the lines that count are those that a text may have
abbrev pub is_line : ℕ → Bool
is_line line = nat_lt 0 line && nat_lt line 65536

-- a line as data show it: the outside is the first line, negative
abbrev pub end_of : ℕ → ℕ → ℤ
end_of first zero = neg_ℤ (pos first)
end_of first (suc line) = pos (suc line)

-- from a frame's line to another one; in line data the other line alone
abbrev pub step : Bool → ℕ → ℕ → ℕ → Arc
step true first from to = (end_of first from, end_of first to)
step false first from to = (pos to, pos to)

-- whether a set has an arc
abbrev pub has_arc : List Arc → Arc → Bool
has_arc set a = list_any (eq_by_cmp by_ends a) set

-- one place of a row
abbrev pub one_row : Text → Text → Arc → RowView
one_row path context a =
    record { path = path; context = context; from = a.0; to = a.1; count = 1 }

-- the row of a frame at this step, where it has a counter
abbrev pub row_of_step : Plan → Open → Arc → List RowView
row_of_step plan frame a =
    if has_arc (set_of plan frame.code.module) a
    then one_row (path_of plan frame.code.module) (context_of plan frame.label) a ∷ [] else []

-- that of a frame of a unit, at this line
abbrev pub told_in : Plan → Open → Option Named → ℕ → List RowView
told_in plan frame None line = []
told_in plan frame (Some unit) line =
    row_of_step plan frame (step plan.arcs unit.first frame.line line)

-- the row that a frame tells as it comes to this line, or to 0 as it ends
abbrev pub told_at : Plan → Open → ℕ → List RowView
told_at plan frame line = told_in plan frame (unit_of plan frame.code) line

-- that of the innermost frame
abbrev pub told_now : Plan → List Open → ℕ → List RowView
told_now plan [] line = []
told_now plan (frame ∷ outer) line = told_at plan frame line

-- the rows that an event tells where these frames are open; in line data the end of a frame tells
-- none
abbrev pub rows_told : Plan → List Open → Event → List RowView
rows_told plan frames (Call code) = []
rows_told plan frames (Line line) = if is_line line then told_now plan frames line else []
rows_told plan frames (Throw kind) = []
rows_told plan frames Return = if plan.arcs then told_now plan frames 0 else []

-- the path of a module whose body begins
abbrev pub begun : ℕ → Option Named → List Text
begun unit None = []
begun zero (Some body) = body.path ∷ []
begun (suc k) (Some function) = []

-- the paths that an event tells
abbrev pub paths_told : Plan → Event → List Text
paths_told plan (Call code) = begun code.unit (unit_of plan code)
paths_told plan (Line line) = []
paths_told plan (Throw kind) = []
paths_told plan Return = []

-- the innermost frame at another line
abbrev pub at_line : List Open → ℕ → List Open
at_line [] line = []
at_line (frame ∷ outer) line = record frame { line = line } ∷ outer

-- the frames outside the innermost one
abbrev pub outer_frames : List Open → List Open
outer_frames [] = []
outer_frames (frame ∷ outer) = outer

-- the open frames after an event, the innermost first; a frame that begins has this label
abbrev pub after : Option (List ℕ) → List Open → Event → List Open
after label frames (Call code) = record { code = code; line = 0; label = label } ∷ frames
after label frames (Line line) = if is_line line then at_line frames line else frames
after label frames (Throw kind) = frames
after label frames Return = outer_frames frames

-- data with these paths and rows
abbrev pub with_told : DataSet → List Text → List RowView → DataSet
with_told d paths rows = fold with_row (fold with_path d paths) rows

-- The open frames, and the data of all events so far. Counts of one row are added, up to the
-- greatest count.
pub record Recording : Type 0 where
  pub plan : Plan
  pub frames : List Open
  pub «data» : DataSet

-- no frame is open, and no row is told
abbrev pub at_first : Plan → Recording
at_first plan = record { plan = plan; frames = []; «data» = no_data plan.arcs }

-- after one more event; a frame that begins has this label
abbrev pub next : Option (List ℕ) → Recording → Event → Recording
next label r event = record {
  plan = r.plan;
  frames = after label r.frames event;
  «data» = with_told r.data (paths_told r.plan event) (rows_told r.plan r.frames event);
}
