-- A counted step: the row that it tells, and what stays true of rows and frames.
use Rattle.std.proofs.Common.{◌≡◌, ℕ, zero, suc, ◌<◌, ◌≤◌, Bool, true, false, if◌then◌else◌, pos, List, [], ◌∷◌, ◌++◌, length, Option, Some, None, refl, inl, inr, ap, sym, ◌∙◌, subst, arith, ⊎_elim}
use Rattle.std.specs.Prelude.{slice_get, neg_ℤ, ◌⊎◌, ◌<ℤ◌, replicate}
use Rattle.std.specs.List.{fold, AllByRecursion}
use Rattle.std.proofs.lemmas.Int.{ints}
use Rattle.std.proofs.lemmas.List.{length-replicate}
use Rattle.std.proofs.lemmas.Option.{slice_get_within}
use Rattle.cov_event.specs.declared.event.CodeId.{CodeId}
use Rattle.cov_data.specs.DataSet.{Text, DataSet, IsNumber, IsInRange}
use Rattle.cov_data.specs.Rows.{RowView, with_row}
use Rattle.py_syntax.specs.Prediction.{Arc}
use Rattle.cov_recorder.specs.declared.frames.Frame.{Frame}
use Rattle.cov_recorder.specs.declared.frames.Seat.{Seat}
use Rattle.cov_recorder.specs.Plan.{Named, IsFirst, Plan, set_of, path_of}
use Rattle.cov_recorder.specs.Recording.{joined, utf8_of, context_of, end_of, step, has_arc, one_row, row_of_step, told_in, told_at}
use Rattle.cov_recorder.specs.Counters.{Row, raised, bumped, HasRow, no_counts, MakesRow}
use Rattle.cov_recorder.specs.Rows.{with_rows, IsSoundRow, AreSound}
use Rattle.cov_recorder.specs.Frames.{opened, HasSeat, IsSeated, AreSeated}
use Rattle.cov_recorder.specs.Steps.{CountsArc, CountsAt}
use Rattle.cov_recorder.proofs.Counting.{length-raised, HasRow-bumped, HasRow-append}
use Rattle.cov_recorder.proofs.Having.{has}
use Rattle.cov_recorder.proofs.Summing.{with_rows-bumped, with_rows-nothing}

-- ---- the row that a step tells

told_if : (b c : Bool) (d : DataSet) (r : RowView) → b ≡ c → fold with_row d (if c then r ∷ [] else []) ≡ fold with_row d (if b then r ∷ [] else [])
told_if b c d r e = ap (λ x. fold with_row d (if x then r ∷ [] else [])) (sym e)

module _ (plan : Plan) (rows : List Row) (frame : Frame) (line : ℕ) (sound : AreSound plan rows) where
  arc_told : (seat : Seat) (at : HasRow rows seat.row frame.code.module (utf8_of frame.label)) (new : List Row) (d : DataSet)
      → CountsArc (set_of plan frame.code.module) (step plan.arcs seat.first frame.line line) rows seat.row new
      → with_rows plan new d ≡ fold with_row (with_rows plan rows d) (row_of_step plan (opened frame) (step plan.arcs seat.first frame.line line))
  arc_told seat at new d (inl absent) =
      let set = set_of plan frame.code.module in
      let a = step plan.arcs seat.first frame.line line in
      let one = one_row (path_of plan frame.code.module) (context_of plan frame.label) a in
      ap (λ r. with_rows plan r d) absent.1 ∙ told_if (has_arc set a) false (with_rows plan rows d) one absent.0
  arc_told seat at new d (inr taken) =
      let set = set_of plan frame.code.module in
      let a = step plan.arcs seat.first frame.line line in
      let one = one_row (path_of plan frame.code.module) (context_of plan frame.label) a in
      let within : slice_get (set_of plan at.row.module) taken.0 ≡ Some a = ap (λ m. slice_get (set_of plan m) taken.0) at.of_module ∙ taken.1 in
      let size = (sound.each seat.row at.row at.at).size in
      let place : taken.0 < length at.row.counts = subst (λ n. taken.0 < n) (sym size) (slice_get_within (set_of plan at.row.module) taken.0 a within) in
      ap (λ r. with_rows plan r d) taken.2
      ∙ with_rows-bumped plan rows seat.row taken.0 at.row a at.at within place d
      ∙ (λ i. with_row (with_rows plan rows d) (one_row (path_of plan (at.of_module i)) (joined plan.fixed (at.of_label i)) a))
      ∙ told_if (has_arc set a) true (with_rows plan rows d) one (has set taken.0 a taken.1)

  told_by : (o : Option Seat) → HasSeat plan.units rows frame.code frame.label o → (new : List Row) (d : DataSet) → CountsAt plan.sets plan.arcs frame o line rows new
      → with_rows plan new d ≡ fold with_row (with_rows plan rows d) (told_at plan (opened frame) line)
  told_by None h new d counts = ap (λ r. with_rows plan r d) counts ∙ ap (λ u. fold with_row (with_rows plan rows d) (told_in plan (opened frame) u line)) (sym h)
  told_by (Some seat) h new d counts =
      arc_told seat h.row new d counts
      ∙ ap (λ n. fold with_row (with_rows plan rows d) (row_of_step plan (opened frame) (step plan.arcs n frame.line line))) (sym h.first)
      ∙ ap (λ u. fold with_row (with_rows plan rows d) (told_in plan (opened frame) u line)) (sym h.is)

  -- what was counted is the row that the frame tells
  pub step_told : IsSeated plan.units rows frame → (new : List Row) (d : DataSet) → CountsAt plan.sets plan.arcs frame frame.seat line rows new
      → with_rows plan new d ≡ fold with_row (with_rows plan rows d) (told_at plan (opened frame) line)
  step_told h new d counts = told_by frame.seat h.seat new d counts

-- ---- what was counted may be in data

number_of_line : (n : ℕ) → 0 < n → n ≤ 65535 → IsNumber (pos n)
number_of_line zero low high = absurd (omega (arith, low))
number_of_line (suc n) low high = ((λ e. cc), omega (arith, ints), omega (arith, ints))

number_of_outside : (n : ℕ) → 0 < n → n ≤ 65535 → IsNumber (neg_ℤ (pos n))
number_of_outside zero low high = absurd (omega (arith, low))
number_of_outside (suc n) low high = ((λ e. cc), omega (arith, ints), omega (arith, ints))

number_of_end : (first line : ℕ) → IsFirst first → line ≤ 65535 → IsNumber (end_of first line)
number_of_end first zero f h = number_of_outside first (omega (arith, f.0)) f.1
number_of_end first (suc line) f h = number_of_line (suc line) (omega arith) h

line_positive : (n : ℕ) → 0 < n → pos 0 <ℤ pos n
line_positive n h = omega (arith, ints)

pub step_in_range : (arcs : Bool) (first from to : ℕ) → IsFirst first → from ≤ 65535 → to ≤ 65535 → (arcs ≡ false → 0 < to) → IsInRange arcs (step arcs first from to).0 (step arcs first from to).1 1
step_in_range true first from to f l m some = record {
  from_number = number_of_end first from f l;
  to_number = number_of_end first to f m;
  one_line = λ e. cc;
  counted = omega arith;
}
step_in_range false first from to f l m some =
    let low = some refl in
    record {
      from_number = number_of_line to low m;
      to_number = number_of_line to low m;
      one_line = λ e. (refl, line_positive to low);
      counted = omega arith;
    }

-- a count that isn't 0 was raised, or wasn't 0 before
taken_at : (ns : List ℕ) (p i n : ℕ) → slice_get (raised ns p) i ≡ Some (suc n) → (i ≡ p) ⊎ ((m : ℕ) × (slice_get ns i ≡ Some (suc m)))
taken_at [] p i n e = cc
taken_at (x ∷ ns) zero zero n e = inl refl
taken_at (x ∷ ns) zero (suc i) n e = inr (n, e)
taken_at (x ∷ ns) (suc p) zero n e = inr (n, e)
taken_at (x ∷ ns) (suc p) (suc i) n e = ⊎_elim (λ same. inl (ap suc same)) (λ h. inr h) (taken_at ns p i n e)

same_arc_of : (a b : Arc) → Some a ≡ Some b → a ≡ b
same_arc_of a b e = cc

same_row_of : (r s : Row) → Some r ≡ Some s → r ≡ s
same_row_of r s e = cc

module _ (plan : Plan) (p : ℕ) (a : Arc) (range : IsInRange plan.arcs a.0 a.1 1) where
  sound_raised : (row : Row) → slice_get (set_of plan row.module) p ≡ Some a → IsSoundRow plan row → IsSoundRow plan (record row { counts = raised row.counts p })
  sound_raised row at h = record {
    size = length-raised row.counts p ∙ h.size;
    range = record {
      taken = λ i n b taken held.
          ⊎_elim
          (λ same.
          let is : a ≡ b = same_arc_of a b (sym at ∙ ap (slice_get (set_of plan row.module)) (sym same) ∙ held) in
          subst (λ (x : Arc). IsInRange plan.arcs x.0 x.1 1) is range)
          (λ before. h.range.taken i before.0 b before.1 held)
          (taken_at row.counts p i n taken);
    };
  }

  sound_bumped : (rows : List Row) (n : ℕ) (row : Row) → slice_get rows n ≡ Some row → slice_get (set_of plan row.module) p ≡ Some a
      → ((k : ℕ) (r : Row) → slice_get rows k ≡ Some r → IsSoundRow plan r) → (k : ℕ) (r : Row) → slice_get (bumped rows n p) k ≡ Some r → IsSoundRow plan r
  sound_bumped [] n row at held h k r e = cc
  sound_bumped (x ∷ rows) zero row at held h zero r e =
      let same = same_row_of x row at in
      subst (IsSoundRow plan) (same_row_of (record x { counts = raised x.counts p }) r e) (sound_raised x (ap (λ (s : Row). slice_get (set_of plan s.module) p) same ∙ held) (h zero x refl))
  sound_bumped (x ∷ rows) zero row at held h (suc k) r e = h (suc k) r e
  sound_bumped (x ∷ rows) (suc n) row at held h zero r e = h zero r e
  sound_bumped (x ∷ rows) (suc n) row at held h (suc k) r e = sound_bumped rows n row at held (λ j s f. h (suc j) s f) k r e

module _ (plan : Plan) (rows : List Row) (frame : Frame) (line : ℕ) (sound : AreSound plan rows) (seated : IsSeated plan.units rows frame) (high : line ≤ 65535) (some : plan.arcs ≡ false → 0 < line) where
  sound_by : (o : Option Seat) → HasSeat plan.units rows frame.code frame.label o → (new : List Row) → CountsAt plan.sets plan.arcs frame o line rows new → AreSound plan new
  sound_by None h new counts = subst (AreSound plan) (sym counts) sound
  sound_by (Some seat) h new (inl absent) = subst (AreSound plan) (sym absent.1) sound
  sound_by (Some seat) h new (inr taken) =
      let a = step plan.arcs seat.first frame.line line in
      let range = step_in_range plan.arcs seat.first frame.line line h.in_text seated.in_text high some in
      let within : slice_get (set_of plan h.row.row.module) taken.0 ≡ Some a = ap (λ m. slice_get (set_of plan m) taken.0) h.row.of_module ∙ taken.1 in
      subst (AreSound plan) (sym taken.2) (record { each = sound_bumped plan taken.0 a range rows seat.row h.row.row h.row.at within sound.each })

  pub step_sound : (new : List Row) → CountsAt plan.sets plan.arcs frame frame.seat line rows new → AreSound plan new
  step_sound new counts = sound_by frame.seat seated.seat new counts

-- ---- seats stay

-- rows that keep their modules and labels
pub record KeepsRows (old new : List Row) : Type 0 where
  pub row : (n m : ℕ) (label : Text) → HasRow old n m label → HasRow new n m label

pub keeps_same : (old new : List Row) → new ≡ old → KeepsRows old new
keeps_same old new e = record { row = λ n m label h. subst (λ rows. HasRow rows n m label) (sym e) h }

keeps_by : (sets : List (List Arc)) (arcs : Bool) (frame : Frame) (o : Option Seat) (line : ℕ) (old new : List Row) → CountsAt sets arcs frame o line old new → KeepsRows old new
keeps_by sets arcs frame None line old new e = keeps_same old new e
keeps_by sets arcs frame (Some seat) line old new (inl absent) = keeps_same old new absent.1
keeps_by sets arcs frame (Some seat) line old new (inr taken) = record { row = λ n m label h. subst (λ rows. HasRow rows n m label) (sym taken.2) (HasRow-bumped old seat.row taken.0 n m label h) }

pub step_keeps : (sets : List (List Arc)) (arcs : Bool) (frame : Frame) (line : ℕ) (old new : List Row) → CountsAt sets arcs frame frame.seat line old new → KeepsRows old new
step_keeps sets arcs frame line old new counts = keeps_by sets arcs frame frame.seat line old new counts

pub made_keeps : (old new : List Row) (m : ℕ) (label : Text) (size : ℕ) → MakesRow old m label size new → KeepsRows old new
made_keeps old new m label size (inl e) = keeps_same old new e
made_keeps old new m label size (inr e) = record { row = λ n k l h. subst (λ rows. HasRow rows n k l) (sym e) (HasRow-append old (no_counts m label size ∷ []) n k l h) }

module _ (units : List (List Named)) (old new : List Row) (keeps : KeepsRows old new) where
  seat_kept : (code : CodeId) (label : Option (List ℕ)) (o : Option Seat) → HasSeat units old code label o → HasSeat units new code label o
  seat_kept code label None h = h
  seat_kept code label (Some seat) h = record { unit = h.unit; is = h.is; first = h.first; in_text = h.in_text; row = keeps.row seat.row code.module (utf8_of label) h.row }

  pub seated_kept : (frame : Frame) → IsSeated units old frame → IsSeated units new frame
  seated_kept frame h = record { seat = seat_kept frame.code frame.label frame.seat h.seat; in_text = h.in_text }

  all_kept : (frames : List Frame) → AllByRecursion (IsSeated units old) frames → AllByRecursion (IsSeated units new) frames
  all_kept [] h = tt
  all_kept (f ∷ frames) h = (seated_kept f h.0, all_kept frames h.1)

  pub frames_kept : (frames : List Frame) → AreSeated units old frames → AreSeated units new frames
  frames_kept frames h = record { each = all_kept frames h.each }

-- ---- a row that is made

pub made_data : (plan : Plan) (old new : List Row) (m : ℕ) (label : Text) (size : ℕ) → MakesRow old m label size new → (d : DataSet) → with_rows plan new d ≡ with_rows plan old d
made_data plan old new m label size (inl e) d = ap (λ r. with_rows plan r d) e
made_data plan old new m label size (inr e) d = ap (λ r. with_rows plan r d) e ∙ with_rows-nothing plan old m label size d

nothing_taken : (size i n : ℕ) → slice_get (replicate size 0) i ≡ Some (suc n) → ⊥
nothing_taken zero i n e = cc
nothing_taken (suc size) zero n e = cc
nothing_taken (suc size) (suc i) n e = nothing_taken size i n e

sound_new : (plan : Plan) (rows : List Row) (new : Row) → IsSoundRow plan new → ((k : ℕ) (r : Row) → slice_get rows k ≡ Some r → IsSoundRow plan r) → (k : ℕ) (r : Row) → slice_get (rows ++ new ∷ []) k ≡ Some r → IsSoundRow plan r
sound_new plan [] new h all zero r e = subst (IsSoundRow plan) (same_row_of new r e) h
sound_new plan [] new h all (suc k) r e = cc
sound_new plan (x ∷ rows) new h all zero r e = all zero r e
sound_new plan (x ∷ rows) new h all (suc k) r e = sound_new plan rows new h (λ j s f. all (suc j) s f) k r e

pub made_sound : (plan : Plan) (old new : List Row) (m : ℕ) (label : Text) → MakesRow old m label (length (set_of plan m)) new → AreSound plan old → AreSound plan new
made_sound plan old new m label (inl e) h = subst (AreSound plan) (sym e) h
made_sound plan old new m label (inr e) h =
    let size = length (set_of plan m) in
    let row = no_counts m label size in
    let fresh : IsSoundRow plan row = record {
      size = length-replicate size 0;
      range = record { taken = λ i n a taken at. absurd (nothing_taken size i n taken) };
    } in
    subst (AreSound plan) (sym e) (record { each = sound_new plan old row fresh h.each })
