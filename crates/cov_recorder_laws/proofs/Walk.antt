-- What data have after events, whatever the labels were.
use Rattle.std.proofs.Common.{◌≡◌, ◌↔◌, inl, inr, ℕ, ℤ, Bool, true, false, if◌then◌else◌, List, [], ◌∷◌, Option, Some, None, refl, ap, sym, subst, ◌∙◌}
use Rattle.std.specs.Prelude.{◌⊎◌}
use Rattle.cov_event.specs.declared.event.Event.{Event}
use Rattle.cov_event.specs.declared.event.Event.TheVariants.{Call, Line, Throw, Return}
use Rattle.cov_event.specs.Moves.{Takes, Calls}
use Rattle.cov_data.specs.DataSet.{Text, DataSet, no_data}
use Rattle.cov_data.specs.Rows.{RowView}
use Rattle.py_syntax.specs.Prediction.{Arc}
use Rattle.cov_recorder.specs.Plan.{Named, Plan, unit_of, set_of, path_of}
use Rattle.cov_recorder.specs.Recording.{Open, Recording, at_line, outer_frames, after, is_line, has_arc, step, context_of, one_row, told_in, told_now, rows_told, paths_told, with_told}
use Rattle.cov_recorder.specs.Labels.{IsNext}
use Rattle.cov_recorder.specs.Laws.{taken_of}
use Rattle.cov_recorder_laws.specs.Laws.{Took, SameStepsLaw}
use Rattle.cov_recorder_laws.proofs.Pairs.{HasPair, Has, AreOf, has-rows, has-none, file-paths, rows-kind, paths-kind, arcs_of-same, lines_of-same}

-- the frames without their labels
abbrev pub bare : List Open → List Open
bare [] = []
bare (frame ∷ outer) = record frame { label = None } ∷ bare outer

bare-line : (frames : List Open) (line : ℕ) → bare (at_line frames line) ≡ at_line (bare frames) line
bare-line [] line = refl
bare-line (frame ∷ outer) line = refl

bare-if : (b : Bool) (frames : List Open) (line : ℕ) → bare (if b then at_line frames line else frames) ≡ (if b then at_line (bare frames) line else bare frames)
bare-if true frames line = bare-line frames line
bare-if false frames line = refl

bare-outer : (frames : List Open) → bare (outer_frames frames) ≡ outer_frames (bare frames)
bare-outer [] = refl
bare-outer (frame ∷ outer) = refl

pub bare-after : (label : Option (List ℕ)) (frames : List Open) (event : Event) → bare (after label frames event) ≡ after None (bare frames) event
bare-after label frames (Call code) = refl
bare-after label frames (Line line) = bare-if (is_line line) frames line
bare-after label frames (Throw kind) = refl
bare-after label frames Return = bare-outer frames

module _ (plan : Plan) (path : Text) (a : ℤ × ℤ) where
  -- some of these events tells this arc of this path, where these frames are open
  abbrev pub Told : List Open → List Event → Type 0
  Told frames [] = ⊥
  Told frames (event ∷ rest) = AreOf path a (rows_told plan frames event) ⊎ Told (after None frames event) rest

  -- the context of a row doesn't matter
  any-context : (b : Bool) (p c d : Text) (x : Arc) → AreOf path a (if b then one_row p c x ∷ [] else []) → AreOf path a (if b then one_row p d x ∷ [] else [])
  any-context true p c d x h = h
  any-context false p c d x h = h

  any-unit : (frame : Open) (label : Option (List ℕ)) (unit : Option Named) (line : ℕ) → AreOf path a (told_in plan frame unit line) → AreOf path a (told_in plan (record frame { label = label }) unit line)
  any-unit frame label None line h = h
  any-unit frame label (Some unit) line h =
      any-context (has_arc (set_of plan frame.code.module) (step plan.arcs unit.first frame.line line)) (path_of plan frame.code.module) (context_of plan frame.label) (context_of plan label) (step plan.arcs unit.first frame.line line) h

  any-now : (frames : List Open) (line : ℕ) → AreOf path a (told_now plan frames line) ↔ AreOf path a (told_now plan (bare frames) line)
  any-now [] line = (λ h. h, λ h. h)
  any-now (frame ∷ outer) line = (
    any-unit frame None (unit_of plan frame.code) line,
    any-unit (record frame { label = None }) frame.label (unit_of plan frame.code) line,
  )

  any-if : (b : Bool) (frames : List Open) (line : ℕ) → AreOf path a (if b then told_now plan frames line else []) ↔ AreOf path a (if b then told_now plan (bare frames) line else [])
  any-if true frames line = any-now frames line
  any-if false frames line = (λ h. h, λ h. h)

  any-label : (frames : List Open) (event : Event) → AreOf path a (rows_told plan frames event) ↔ AreOf path a (rows_told plan (bare frames) event)
  any-label frames (Call code) = (λ h. h, λ h. h)
  any-label frames (Line line) = any-if (is_line line) frames line
  any-label frames (Throw kind) = (λ h. h, λ h. h)
  any-label frames Return = any-if plan.arcs frames 0

  -- what one event adds
  with_told-has : (d : DataSet) (paths : List Text) (rows : List RowView) → Has (with_told d paths rows) path a ↔ (Has d path a ⊎ AreOf path a rows)
  with_told-has d paths rows =
      let s = has-rows rows _ path a in
      let e = file-paths paths d path in (
        λ h. elim (s.0 h) [
          | inl (c, h) ↦ inl (subst (λ f. HasPair f a) e (c, h))
          | inr h ↦ inr h
        ],
        λ h. s.1 (elim h [
          | inl (c, h) ↦ inl (subst (λ f. HasPair f a) (sym e) (c, h))
          | inr h ↦ inr h
        ]),
      )

-- ---- events that a tracer took

module _ {S C : Type 0} (asks : C → Text → Text → Option (List ℕ) → C → Type 0) (state : S → Recording × C) where
  abbrev Moves : S → Event → S → Type 0
  Moves before event later = IsNext asks (state before) event (state later)

  abbrev Called : S → List (Event × Bool) → S → Type 0
  Called old calls new = Calls Moves (λ before _ later. (state later).0 ≡ (state before).0) old calls new

  abbrev at : Plan → List Open → DataSet → C → Recording × C
  at plan frames d c = (record { plan = plan; frames = frames; «data» = d }, c)

  -- after one event
  moved : (plan : Plan) (frames : List Open) (d : DataSet) (c : C) (event : Event) (later : S) → (m : IsNext asks (at plan frames d c) event (state later))
      → state later ≡ at plan (after m.0 frames event) (with_told d (paths_told plan event) (rows_told plan frames event)) (state later).1
  moved plan frames d c event later m = λ i. (m.2 i, (state later).1)

  walked : (plan : Plan) (path : Text) (a : ℤ × ℤ) (frames : List Open) (d : DataSet) (c : C) (calls : List (Event × Bool)) (old new : S)
      → state old ≡ at plan frames d c → Called old calls new
      → Has (state new).0.data path a ↔ (Has d path a ⊎ Told plan path a (bare frames) (taken_of calls))
  walked plan path a frames d c [] old new is h =
      let e : (state new).0.data ≡ d = ap (λ s. (state s).0.data) h ∙ ap (λ (s : Recording × C). s.0.data) is in (
        λ x. inl (subst (λ w. Has w path a) e x),
        λ x. elim x [ inl x ↦ subst (λ w. Has w path a) (sym e) x | inr x ↦ absurd x ],
      )
  walked plan path a frames d c ((event, true) ∷ rest) old new is h =
      let m : IsNext asks (at plan frames d c) event (state h.0) = subst (λ (s : Recording × C). IsNext asks s event (state h.0)) is h.1 in
      let paths = paths_told plan event in
      let rows = rows_told plan frames event in
      let later = walked plan path a (after m.0 frames event) (with_told d paths rows) (state h.0).1 rest h.0 new (moved plan frames d c event h.0 m) h.2 in
      let added = with_told-has plan path a d paths rows in
      let same = any-label plan path a frames event in
      let e = bare-after m.0 frames event in (
        λ x. elim (later.0 x) [
          | inl x ↦ elim (added.0 x) [ inl x ↦ inl x | inr x ↦ inr (inl (same.0 x)) ]
          | inr x ↦ inr (inr (subst (λ fs. Told plan path a fs (taken_of rest)) e x))
        ],
        λ x. later.1 (elim x [
          | inl x ↦ inl (added.1 (inl x))
          | inr x ↦ elim x [
            | inl x ↦ inl (added.1 (inr (same.1 x)))
            | inr x ↦ inr (subst (λ fs. Told plan path a fs (taken_of rest)) (sym e) x)
          ]
        ]),
      )
  walked plan path a frames d c ((event, false) ∷ rest) old new is h =
      let there : state h.0 ≡ at plan frames d (state h.0).1 = λ i. ((h.1 ∙ ap (λ (s : Recording × C). s.0) is) i, (state h.0).1) in
      walked plan path a frames d (state h.0).1 rest h.0 new there h.2

  -- the kind of the data stays
  kind_from : (plan : Plan) (frames : List Open) (d : DataSet) (c : C) (calls : List (Event × Bool)) (old new : S)
      → state old ≡ at plan frames d c → Called old calls new → (state new).0.data.arcs ≡ d.arcs
  kind_from plan frames d c [] old new is h = ap (λ s. (state s).0.data.arcs) h ∙ ap (λ (s : Recording × C). s.0.data.arcs) is
  kind_from plan frames d c ((event, true) ∷ rest) old new is h =
      let m : IsNext asks (at plan frames d c) event (state h.0) = subst (λ (s : Recording × C). IsNext asks s event (state h.0)) is h.1 in
      let paths = paths_told plan event in
      let rows = rows_told plan frames event in
      kind_from plan (after m.0 frames event) (with_told d paths rows) (state h.0).1 rest h.0 new (moved plan frames d c event h.0 m) h.2 ∙ rows-kind rows _ ∙ paths-kind paths d
  kind_from plan frames d c ((event, false) ∷ rest) old new is h =
      let there : state h.0 ≡ at plan frames d (state h.0).1 = λ i. ((h.1 ∙ ap (λ (s : Recording × C). s.0) is) i, (state h.0).1) in
      kind_from plan frames d (state h.0).1 rest h.0 new there h.2

  -- events that were all taken, as calls
  abbrev pub all_taken : List Event → List (Event × Bool)
  all_taken [] = []
  all_taken (event ∷ rest) = (event, true) ∷ all_taken rest

  pub taken-all : (events : List Event) → taken_of (all_taken events) ≡ events
  taken-all [] = refl
  taken-all (event ∷ rest) = ap (λ es. event ∷ es) (taken-all rest)

  called : (events : List Event) (old new : S) → Takes Moves old events new → Called old (all_taken events) new
  called [] old new h = h
  called (event ∷ rest) old new h = (h.0, h.1, called rest h.0 new h.2)

  -- calls of which these events were taken
  record Ways (events : List Event) (old new : S) : Type 0 where
    calls : List (Event × Bool)
    are : taken_of calls ≡ events
    lead : Called old calls new

  ways : (events : List Event) (old new : S) → (Takes Moves old events new ⊎ ((calls : List (Event × Bool)) × (taken_of calls ≡ events) × Called old calls new)) → Ways events old new
  ways events old new (inl h) = record { calls = all_taken events; are = taken-all events; lead = called events old new h }
  ways events old new (inr h) = record { calls = h.0; are = h.1; lead = h.2 }

  module _ (plan : Plan) (events : List Event) (new : S) (took : Took asks state plan events new) where
    pub from_first : (path : Text) (a : ℤ × ℤ) → Has (state new).0.data path a ↔ Told plan path a [] events
    from_first path a =
        let w = ways events took.0 new took.3 in
        let s = walked plan path a [] (no_data plan.arcs) took.1 w.calls took.0 new took.2 w.lead in (
          λ x. elim (s.0 x) [ inl x ↦ absurd (has-none plan.arcs path a x) | inr x ↦ subst (Told plan path a []) w.are x ],
          λ x. s.1 (inr (subst (Told plan path a []) (sym w.are) x)),
        )

    pub kind-first : (state new).0.data.arcs ≡ plan.arcs
    kind-first =
        let w = ways events took.0 new took.3 in
        kind_from plan [] (no_data plan.arcs) took.1 w.calls took.0 new took.2 w.lead

module _ {S C T D : Type 0} (asks : C → Text → Text → Option (List ℕ) → C → Type 0) (state : S → Recording × C) (others : D → Text → Text → Option (List ℕ) → D → Type 0) (seen : T → Recording × D) where
  pub same_steps_law : SameStepsLaw asks state others seen
  same_steps_law plan events new other h k =
      let alike : (path : Text) (a : ℤ × ℤ) → Has (state new).0.data path a ↔ Has (seen other).0.data path a = λ path a.
      let s = from_first asks state plan events new h path a in
      let t = from_first others seen plan events other k path a in
      (λ x. t.1 (s.0 x), λ x. s.1 (t.0 x)) in
      record {
        arcs = λ path. arcs_of-same (state new).0.data (seen other).0.data path (kind-first asks state plan events new h ∙ sym (kind-first others seen plan events other k)) (alike path);
        lines = λ path. lines_of-same (state new).0.data (seen other).0.data path (alike path);
      }
