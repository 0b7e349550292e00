-- What events tell to a recorder, and the arcs that they tell by its plan's first lines.
use Rattle.std.proofs.Common.{◌≡◌, ◌↔◌, inl, inr, ℕ, zero, suc, nat_eq, Bool, true, false, if◌then◌else◌, ℤ, List, [], ◌∷◌, ◌++◌, map, Some, None, Contains, refl, ap, sym, subst, ◌∙◌, arith}
use Rattle.std.specs.Prelude.{◌⊎◌, slice_get, IsSome}
use Rattle.std.specs.List.{AllByRecursion}
use Rattle.std.proofs.lemmas.Bool.{eqb-true, eq-eqb}
use Rattle.std.proofs.lemmas.List.Elements.{Contains-append_left, Contains-append_right, Contains-append_cases}
use Rattle.cov_event.specs.declared.event.Event.{Event}
use Rattle.cov_event.specs.declared.event.Event.TheVariants.{Call, Line, Throw, Return}
use Rattle.cov_data.specs.DataSet.{Text}
use Rattle.cov_data.proofs.MapViews.{some_from_is_some}
use Rattle.py_meaning.specs.Crossings.{shown_line}
use Rattle.py_syntax.specs.Prediction.{Arc}
use Rattle.cov_arcs.specs.declared.frames.Frame.{Frame}
use Rattle.cov_arcs.specs.Told as arcs
use Rattle.cov_arcs.specs.Told.{or_one, line_in, first_line, arc_to, closed, closed_at, in_module, arcs_told}
use Rattle.cov_recorder.specs.Plan.{Named, Plan, unit_in, unit_of, set_of, path_of}
use Rattle.cov_recorder.specs.Recording.{Open, after, at_line, outer_frames, is_line, end_of, has_arc, step, context_of, one_row, row_of_step, told_in, told_at, told_now, rows_told}
use Rattle.cov_recorder_laws.specs.Laws.{first_lines, IsKnown, IsArcOfPath}
use Rattle.cov_recorder_laws.proofs.Pairs.{AreOf, among, among-Contains, Contains-among, among-itself, among-one}
use Rattle.cov_recorder_laws.proofs.Walk.{Told}

-- ---- the first line of a unit

pub unit_first : (units : List Named) (k : ℕ) (unit : Named) → slice_get units k ≡ Some unit → or_one (slice_get (map (λ unit. unit.first) units) k) ≡ unit.first
unit_first [] k unit e = cc
unit_first (x ∷ units) zero unit e =
    let same : x ≡ unit = cc in
    ap (λ (n : Named). n.first) same
unit_first (x ∷ units) (suc k) unit e = unit_first units k unit e

pub first_in : (units : List (List Named)) (m u : ℕ) (unit : Named) → unit_in (slice_get units m) u ≡ Some unit → line_in (slice_get (map (λ units. map (λ unit. unit.first) units) units) m) u ≡ unit.first
first_in [] m u unit e = cc
first_in (x ∷ units) zero u unit e = unit_first x u unit e
first_in (x ∷ units) (suc m) u unit e = first_in units m u unit e

pub end-is : (first line : ℕ) → end_of first line ≡ shown_line first line
end-is first zero = refl
end-is first (suc line) = refl

-- ---- a list of one arc, or of none

pub no_element : (a : ℤ × ℤ) → Contains {X = ℤ × ℤ} [] a → ⊥
no_element a h = omega (arith, h.1)

pub if_there : (b : Bool) (x : ℤ × ℤ) → b ≡ true → Contains (if b then x ∷ [] else []) x
if_there true x e = among-Contains x (x ∷ []) (among-itself x [])
if_there false x e = cc

pub is_there : (b : Bool) (a x : ℤ × ℤ) → Contains (if b then x ∷ [] else []) a → (b ≡ true) × (a ≡ x)
is_there true a x h = (refl, among-one a x (Contains-among a (x ∷ []) h))
is_there false a x h = absurd (no_element a h)

pub row_if : (b : Bool) (path p c : Text) (a : ℤ × ℤ) (x : Arc) → AreOf path a (if b then one_row p c x ∷ [] else []) → (b ≡ true) × (path ≡ p) × (a ≡ x)
row_if true path p c a x h = elim h [ inl is ↦ (refl, is.0, is.1) | inr never ↦ absurd never ]
row_if false path p c a x h = absurd h

pub row_there : (b : Bool) (path p c : Text) (a : ℤ × ℤ) (x : Arc) → b ≡ true → path ≡ p → a ≡ x → AreOf path a (if b then one_row p c x ∷ [] else [])
row_there true path p c a x e same is = inl (same, is)
row_there false path p c a x e same is = cc

module _ (plan : Plan) where
  -- the frame of a tracer of arcs beside one of the recorder
  abbrev pub framed : Open → Frame
  framed frame = record { «module» = frame.code.module; first = first_line (first_lines plan) frame.code; line = frame.line }

  abbrev pub beside : List Open → List Frame
  beside [] = []
  beside (frame ∷ outer) = framed frame ∷ beside outer

  -- the units of open frames are known
  abbrev pub AreKnown : List Open → Type 0
  AreKnown [] = Unit {0}
  AreKnown (frame ∷ outer) = IsSome (unit_of plan frame.code) × AreKnown outer

  -- ---- the frames after an event

  pub beside-line : (frames : List Open) (line : ℕ) → beside (at_line frames line) ≡ arcs.at_line (beside frames) line
  beside-line [] line = refl
  beside-line (frame ∷ outer) line = refl

  pub beside-outer : (frames : List Open) → beside (outer_frames frames) ≡ arcs.outer_frames (beside frames)
  beside-outer [] = refl
  beside-outer (frame ∷ outer) = refl

  pub beside-after : (frames : List Open) (event : Event) → IsKnown plan event → beside (after None frames event) ≡ arcs.after (first_lines plan) (beside frames) event
  beside-after frames (Call code) h = refl
  beside-after frames (Line line) h = ap (λ b. beside (if b then at_line frames line else frames)) h ∙ beside-line frames line
  beside-after frames (Throw kind) h = refl
  beside-after frames Return h = beside-outer frames

  known-line : (b : Bool) (frames : List Open) (line : ℕ) → AreKnown frames → AreKnown (if b then at_line frames line else frames)
  known-line true [] line h = h
  known-line true (frame ∷ outer) line h = h
  known-line false frames line h = h

  known-outer : (frames : List Open) → AreKnown frames → AreKnown (outer_frames frames)
  known-outer [] h = h
  known-outer (frame ∷ outer) h = h.1

  pub known-after : (frames : List Open) (event : Event) → AreKnown frames → IsKnown plan event → AreKnown (after None frames event)
  known-after frames (Call code) h k = (k, h)
  known-after frames (Line line) h k = known-line (is_line line) frames line h
  known-after frames (Throw kind) h k = h
  known-after frames Return h k = known-outer frames h

  module _ (path : Text) (a : ℤ × ℤ) where
    -- ---- arcs of the path, in two parts

    of-append : (xs ys : ℕ → List (ℤ × ℤ)) → IsArcOfPath plan (λ m. xs m ++ ys m) path a ↔ (IsArcOfPath plan xs path a ⊎ IsArcOfPath plan ys path a)
    of-append xs ys = (
      λ h. elim (Contains-append_cases (xs h.0) (ys h.0) a h.3) [
        | inl in_x ↦ inl (h.0, h.1, h.2, in_x)
        | inr in_y ↦ inr (h.0, h.1, h.2, in_y)
      ],
      λ h. elim h [
        | inl x ↦ (x.0, x.1, x.2, Contains-append_left (xs x.0) (ys x.0) a x.3)
        | inr y ↦ (y.0, y.1, y.2, Contains-append_right (xs y.0) (ys y.0) a y.3)
      ],
    )

    none : AreOf path a [] ↔ IsArcOfPath plan (λ m. []) path a
    none = (λ h. absurd h, λ h. absurd (no_element a h.3))

    -- ---- one arc

    one : (m : ℕ) (context : Text) (x : Arc) → AreOf path a (if has_arc (set_of plan m) x then one_row (path_of plan m) context x ∷ [] else []) ↔ IsArcOfPath plan (λ n. in_module n (Some (m, x))) path a
    one m context x = (
      λ h.
          let is = row_if (has_arc (set_of plan m) x) path (path_of plan m) context a x h in (
            m,
            sym is.1,
            among-Contains a (set_of plan m) (ap (λ b. among b (set_of plan m)) is.2 ∙ is.0),
            subst (λ b. Contains (if nat_eq m m then x ∷ [] else []) b) (sym is.2) (if_there (nat_eq m m) x (eq-eqb m m refl)),
          ),
      λ h.
          let is = is_there (nat_eq m h.0) a x h.3 in
          let same : m ≡ h.0 = eqb-true m h.0 is.0 in
          row_there (has_arc (set_of plan m) x) path (path_of plan m) context a x
          (ap (λ b. among b (set_of plan m)) (sym is.1) ∙ ap (λ n. among a (set_of plan n)) same ∙ Contains-among a (set_of plan h.0) h.2)
          (sym h.1 ∙ ap (path_of plan) (sym same))
          is.1,
    )

    module _ (kind : plan.arcs ≡ true) where
      pub step-is : (frame : Open) (unit : Named) (line : ℕ) → unit_of plan frame.code ≡ Some unit → step plan.arcs unit.first frame.line line ≡ arc_to (framed frame) line
      step-is frame unit line e =
          ap (λ b. step b unit.first frame.line line) kind
          ∙ ap (λ z. (z, end_of unit.first line)) (end-is unit.first frame.line)
          ∙ ap (λ z. (shown_line unit.first frame.line, z)) (end-is unit.first line)
          ∙ ap (λ n. (shown_line n frame.line, shown_line n line)) (sym (first_in plan.units frame.code.module frame.code.unit unit e))

      at-told : (frame : Open) → IsSome (unit_of plan frame.code) → (line : ℕ) → AreOf path a (told_at plan frame line) ↔ IsArcOfPath plan (λ m. in_module m (Some (frame.code.module, arc_to (framed frame) line))) path a
      at-told frame h line =
          let at = some_from_is_some (unit_of plan frame.code) h in
          let x = arc_to (framed frame) line in
          let rows : told_at plan frame line ≡ row_of_step plan frame x = ap (λ u. told_in plan frame u line) at.1 ∙ ap (row_of_step plan frame) (step-is frame at.0 line at.1) in
          let s = one frame.code.module (context_of plan frame.label) x in (
            λ t. s.0 (subst (AreOf path a) rows t),
            λ t. subst (AreOf path a) (sym rows) (s.1 t),
          )

      now-told : (frames : List Open) → AreKnown frames → (line : ℕ) → AreOf path a (told_now plan frames line) ↔ IsArcOfPath plan (λ m. in_module m (closed_at (beside frames) line)) path a
      now-told [] h line = none
      now-told (frame ∷ outer) h line = at-told frame h.0 line

      if-told : (b : Bool) → b ≡ true → (frames : List Open) → AreKnown frames → (line : ℕ) → AreOf path a (if b then told_now plan frames line else []) ↔ IsArcOfPath plan (λ m. in_module m (closed_at (beside frames) line)) path a
      if-told true e frames h line = now-told frames h line
      if-told false e frames h line = cc

      event-told : (frames : List Open) → AreKnown frames → (event : Event) → IsKnown plan event → AreOf path a (rows_told plan frames event) ↔ IsArcOfPath plan (λ m. in_module m (closed (beside frames) event)) path a
      event-told frames h (Call code) k = none
      event-told frames h (Line line) k = if-told (is_line line) k frames h line
      event-told frames h (Throw thrown) k = none
      event-told frames h Return k = if-told plan.arcs kind frames h 0

      pub events-told : (frames : List Open) → AreKnown frames → (events : List Event) → AllByRecursion (IsKnown plan) events
          → Told plan path a frames events ↔ IsArcOfPath plan (λ m. arcs_told (first_lines plan) m (beside frames) events) path a
      unfolding arcs_told
      events-told frames h [] k = none
      events-told frames h (event ∷ rest) k =
          let first = event-told frames h event k.0 in
          let later = events-told (after None frames event) (known-after frames event h k.0) rest k.1 in
          let e = beside-after frames event k.0 in
          let s = of-append (λ m. in_module m (closed (beside frames) event)) (λ m. arcs_told (first_lines plan) m (arcs.after (first_lines plan) (beside frames) event) rest) in (
            λ x. s.1 (elim x [
              | inl x ↦ inl (first.0 x)
              | inr x ↦ inr (subst (λ fs. IsArcOfPath plan (λ m. arcs_told (first_lines plan) m fs rest) path a) e (later.0 x))
            ]),
            λ x. elim (s.0 x) [
              | inl x ↦ inl (first.1 x)
              | inr x ↦ inr (later.1 (subst (λ fs. IsArcOfPath plan (λ m. arcs_told (first_lines plan) m fs rest) path a) (sym e) x))
            ],
          )
