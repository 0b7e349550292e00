-- What an event makes of records: the recording after it, and what stays true of the parts.
use Rattle.std.proofs.Common.{◌≡◌, ℕ, ◌<◌, ◌≤◌, Bool, true, false, ◌&&◌, nat_lt, if◌then◌else◌, List, [], ◌∷◌, map, length, Option, Some, None, MatchOption, Result, Ok, Err, OnErr, refl, ap, sym, ◌∙◌, subst, arith}
use Rattle.std.specs.List.{fold}
use Rattle.std.proofs.lemmas.Bool.{lt-ltb}
use Rattle.cov_event.specs.declared.event.CodeId.{CodeId}
use Rattle.cov_event.specs.declared.event.Event.TheVariants.{Call, Line, Return}
use Rattle.cov_data.specs.DataSet.{Text, DataSet, with_path}
use Rattle.cov_data.specs.Rows.{with_row}
use Rattle.cov_recorder.specs.declared.frames.Frame.{Frame}
use Rattle.cov_recorder.specs.declared.frames.Seat.{Seat}
use Rattle.cov_recorder.specs.declared.records.Records.TheInside.{Inside}
use Rattle.cov_recorder.specs.Names.{names_of}
use Rattle.cov_recorder.specs.Plan.{Plan, set_of, unit_of}
use Rattle.cov_recorder.specs.Recording.{Open, Recording, utf8_of, is_line, told_at, begun, next}
use Rattle.cov_recorder.specs.Counters.{Row, MakesRow}
use Rattle.cov_recorder.specs.Rows.{with_rows}
use Rattle.cov_recorder.specs.Frames.{kept_at_line, opened, HasSeat, IsSeated, AreSeated}
use Rattle.cov_recorder.specs.Records.{plan_from, recording_from, IsRecorded}
use Rattle.cov_recorder.specs.Steps.{CountsAt}
use Rattle.cov_recorder.proofs.Keeping.{step_told, step_sound, step_keeps, frames_kept, made_keeps, made_data, made_sound}
use Rattle.cov_recorder.proofs.Summing.{with_rows-commutes, path-commutes}

pub on_err_always : {X E P : Type 0} (r : Result X E) → P → OnErr r P
on_err_always (Ok x) p = tt
on_err_always (Err e) p = p

-- ---- lines

is_line_true : (line : ℕ) → 0 < line → line ≤ 65535 → is_line line ≡ true
is_line_true line low high =
    let above : line < 65536 = omega (arith, high) in
    (λ i. lt-ltb 0 line low i && nat_lt line 65536) ∙ lt-ltb line 65536 above

seated_front : (a : Inside) (frame : Frame) (outer : List Frame) → IsRecorded a → a.frames ≡ frame ∷ outer → AreSeated (names_of a.units.items) a.rows (frame ∷ outer)
seated_front a frame outer h is = subst (AreSeated (names_of a.units.items) a.rows) is h.seated

front_of : (a : Inside) (frame : Frame) (outer : List Frame) → IsRecorded a → a.frames ≡ frame ∷ outer → IsSeated (names_of a.units.items) a.rows frame
front_of a frame outer h is = (seated_front a frame outer h is).each.0

abbrev recording : Plan → List Open → DataSet → Recording
recording plan frames d = record { plan = plan; frames = frames; «data» = d }

-- a line that counts
next_line : (plan : Plan) (frames : List Open) (front : Open) (outer : List Open) (d : DataSet) (line : ℕ) → frames ≡ front ∷ outer → is_line line ≡ true
    → next None (recording plan frames d) (Line line) ≡ recording plan (record front { line = line } ∷ outer) (fold with_row d (told_at plan front line))
next_line plan frames front outer d line is e =
    ap (λ fs. next None (recording plan fs d) (Line line)) is
    ∙ ap (λ b. recording plan (if b then record front { line = line } ∷ outer else front ∷ outer) (fold with_row d (if b then told_at plan front line else []))) e

-- the end of a frame in arc data
next_return : (plan : Plan) (frames : List Open) (front : Open) (outer : List Open) (d : DataSet) → frames ≡ front ∷ outer → plan.arcs ≡ true
    → next None (recording plan frames d) Return ≡ recording plan outer (fold with_row d (told_at plan front 0))
next_return plan frames front outer d is e =
    ap (λ fs. next None (recording plan fs d) Return) is
    ∙ ap (λ b. recording plan outer (fold with_row d (if b then told_at plan front 0 else []))) e

module _ (a : Inside) (frame : Frame) (outer : List Frame) (line : ℕ) (rows : List Row) (frames : List Frame) (h : IsRecorded a) (is : a.frames ≡ frame ∷ outer)
    (counts : CountsAt a.sets.items a.arcs frame frame.seat line a.rows rows) (high : line ≤ 65535) where
  pub line_recorded : 0 < line → frames ≡ kept_at_line a.frames line → IsRecorded (record a { frames = frames; rows = rows })
  line_recorded low at =
      let keeps = step_keeps a.sets.items a.arcs frame line a.rows rows counts in
      let front = front_of a frame outer h is in
      let all = frames_kept (names_of a.units.items) a.rows rows keeps (frame ∷ outer) (seated_front a frame outer h is) in
      let moved : IsSeated (names_of a.units.items) rows (record frame { line = line }) = record { seat = all.each.0.seat; in_text = high } in
      let there : AreSeated (names_of a.units.items) rows (record frame { line = line } ∷ outer) = record { each = (moved, all.each.1) } in
      record {
        kind = h.kind;
        firsts = h.firsts;
        seated = subst (AreSeated (names_of a.units.items) rows) (sym (at ∙ ap (λ fs. kept_at_line fs line) is)) there;
        sound = step_sound (plan_from a) a.rows frame line h.sound front high (λ e. low) rows counts;
      }

  pub line_view : 0 < line → frames ≡ kept_at_line a.frames line → recording_from (record a { frames = frames; rows = rows }) ≡ next None (recording_from a) (Line line)
  line_view low at =
      let plan = plan_from a in
      let front = front_of a frame outer h is in
      let told = step_told plan a.rows frame line h.sound front rows a.data counts in
      let frames_are : frames ≡ record frame { line = line } ∷ outer = at ∙ ap (λ fs. kept_at_line fs line) is in
      let counted : recording_from (record a { frames = frames; rows = rows }) ≡ recording plan (map opened (record frame { line = line } ∷ outer)) (fold with_row (with_rows plan a.rows a.data) (told_at plan (opened frame) line)) =
      λ i. recording plan (map opened (frames_are i)) (told i) in
      counted ∙ sym (next_line plan (map opened a.frames) (opened frame) (map opened outer) (with_rows plan a.rows a.data) line (ap (map opened) is) (is_line_true line low high))

differ : (b : Bool) → b ≡ true → b ≡ false → ⊥
differ b e f = cc

-- what is left of frames without the innermost one
pub popped : (r : Option Frame) (old new : List Frame) → MatchOption r ((old ≡ []) × (new ≡ [])) (λ f. old ≡ f ∷ new) → (frame : Frame) (outer : List Frame) → old ≡ frame ∷ outer → new ≡ outer
popped None old new h frame outer e = cc (h.0)
popped (Some f) old new h frame outer e = cc

module _ (a : Inside) (frame : Frame) (outer : List Frame) (rows : List Row) (frames : List Frame) (h : IsRecorded a) (is : a.frames ≡ frame ∷ outer) (arcs : a.arcs ≡ true)
    (counts : CountsAt a.sets.items a.arcs frame frame.seat 0 a.rows rows) (left : frames ≡ outer) where
  pub leave_recorded : IsRecorded (record a { frames = frames; rows = rows })
  leave_recorded =
      let keeps = step_keeps a.sets.items a.arcs frame 0 a.rows rows counts in
      let front = front_of a frame outer h is in
      let all = frames_kept (names_of a.units.items) a.rows rows keeps (frame ∷ outer) (seated_front a frame outer h is) in
      let there : AreSeated (names_of a.units.items) rows outer = record { each = all.each.1 } in
      record {
        kind = h.kind;
        firsts = h.firsts;
        seated = subst (AreSeated (names_of a.units.items) rows) (sym left) there;
        sound = step_sound (plan_from a) a.rows frame 0 h.sound front (omega arith) (λ e. absurd (differ (a.arcs) arcs e)) rows counts;
      }

  pub leave_view : recording_from (record a { frames = frames; rows = rows }) ≡ next None (recording_from a) Return
  leave_view =
      let plan = plan_from a in
      let front = front_of a frame outer h is in
      let told = step_told plan a.rows frame 0 h.sound front rows a.data counts in
      let counted : recording_from (record a { frames = frames; rows = rows }) ≡ recording plan (map opened outer) (fold with_row (with_rows plan a.rows a.data) (told_at plan (opened frame) 0)) =
      λ i. recording plan (map opened (left i)) (told i) in
      counted ∙ sym (next_return plan (map opened a.frames) (opened frame) (map opened outer) (with_rows plan a.rows a.data) (ap (map opened) is) arcs)

-- ---- calls

with_paths : (plan : Plan) (rows : List Row) (paths : List Text) (d : DataSet) → with_rows plan rows (fold with_path d paths) ≡ fold with_path (with_rows plan rows d) paths
with_paths plan rows [] d = refl
with_paths plan rows (p ∷ paths) d =
    with_paths plan rows paths (with_path d p)
    ∙ ap (λ x. fold with_path x paths) (with_rows-commutes (λ x. with_path x p) (path-commutes p) plan rows d)

paths_keep_kind : (paths : List Text) (d : DataSet) → (fold with_path d paths).arcs ≡ d.arcs
paths_keep_kind [] d = refl
paths_keep_kind (p ∷ paths) d = paths_keep_kind paths (with_path d p)

module _ (a : Inside) (code : CodeId) (label : Option (List ℕ)) (rows : List Row) (h : IsRecorded a) (made : MakesRow a.rows code.module (utf8_of label) (length (set_of (plan_from a) code.module)) rows) where
  pub refused_recorded : IsRecorded (record a { rows = rows })
  refused_recorded = record {
    kind = h.kind;
    firsts = h.firsts;
    seated = frames_kept (names_of a.units.items) a.rows rows (made_keeps a.rows rows code.module (utf8_of label) (length (set_of (plan_from a) code.module)) made) a.frames h.seated;
    sound = made_sound (plan_from a) a.rows rows code.module (utf8_of label) made h.sound;
  }

  pub refused_view : recording_from (record a { rows = rows }) ≡ recording_from a
  refused_view = ap (recording (plan_from a) (map opened a.frames)) (made_data (plan_from a) a.rows rows code.module (utf8_of label) (length (set_of (plan_from a) code.module)) made a.data)

  pub unchanged_recorded : (frames : List Frame) (d : DataSet) → frames ≡ a.frames → d ≡ a.data → IsRecorded (record a { frames = frames; rows = rows; «data» = d })
  unchanged_recorded frames d e f =
      subst (λ fs. IsRecorded (record a { frames = fs; rows = rows; «data» = d })) (sym e)
      (subst (λ x. IsRecorded (record a { rows = rows; «data» = x })) (sym f) refused_recorded)

  pub unchanged_view : (frames : List Frame) (d : DataSet) → frames ≡ a.frames → d ≡ a.data → recording_from (record a { frames = frames; rows = rows; «data» = d }) ≡ recording_from a
  unchanged_view frames d e f = (λ i. recording_from (record a { frames = e i; rows = rows; «data» = f i })) ∙ refused_view

  module _ (seat : Option Seat) (has : HasSeat (names_of a.units.items) rows code label seat) (frames : List Frame) (d : DataSet)
      (at : frames ≡ record { code = code; line = 0; label = label; seat = seat } ∷ a.frames) (told : d ≡ fold with_path a.data (begun code.unit (unit_of (plan_from a) code))) where
    pub begin_recorded : IsRecorded (record a { frames = frames; rows = rows; «data» = d })
    begin_recorded =
        let first : IsSeated (names_of a.units.items) rows (record { code = code; line = 0; label = label; seat = seat }) = record { seat = has; in_text = omega arith } in
        let rest = refused_recorded.seated in
        record {
          kind = ap (λ (x : DataSet). x.arcs) told ∙ paths_keep_kind (begun code.unit (unit_of (plan_from a) code)) a.data ∙ h.kind;
          firsts = h.firsts;
          seated = subst (AreSeated (names_of a.units.items) rows) (sym at) (record { each = (first, rest.each) });
          sound = refused_recorded.sound;
        }

    pub begin_view : recording_from (record a { frames = frames; rows = rows; «data» = d }) ≡ next label (recording_from a) (Call code)
    begin_view =
        let plan = plan_from a in
        let paths = begun code.unit (unit_of plan code) in
        let size = length (set_of plan code.module) in
        let data_is : with_rows plan rows d ≡ fold with_path (with_rows plan a.rows a.data) paths =
        ap (with_rows plan rows) told ∙ made_data plan a.rows rows code.module (utf8_of label) size made (fold with_path a.data paths) ∙ with_paths plan a.rows paths a.data in
        λ i. recording plan (map opened (at i)) (data_is i)
