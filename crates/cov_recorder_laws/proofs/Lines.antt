-- The lines that events tell to a recorder of lines, and the arcs that they tell by its plan's first
-- lines.
use Rattle.std.proofs.Common.{◌≡◌, ◌↔◌, inl, inr, ℕ, zero, suc, ◌<◌, ◌&&◌, nat_eq, nat_lt, Bool, true, false, cond, if◌then◌else◌, ℤ, pos, List, [], ◌∷◌, ◌++◌, Some, None, Contains, refl, ap, sym, subst, ◌∙◌, arith}
use Rattle.std.specs.Prelude.{◌⊎◌, ◌||◌, IsSome, neg_ℤ}
use Rattle.std.specs.List.{AllByRecursion}
use Rattle.std.specs.Ordering.{eq_by_cmp, nat_cmp}
use Rattle.std.specs.FinMap.{nat_cmp-IsAntisymmetric}
use Rattle.std.proofs.lemmas.Bool.{eqb-true, eq-eqb, ltb-true}
use Rattle.std.proofs.lemmas.Cmp.{nat_cmp_total}
use Rattle.std.proofs.lemmas.List.Elements.{Contains-append_left, Contains-append_right, Contains-append_cases}
use Rattle.cov_event.specs.declared.event.Event.{Event}
use Rattle.cov_event.specs.declared.event.Event.TheVariants.{Call, Line, Throw, Return}
use Rattle.cov_data.specs.DataSet.{Text}
use Rattle.cov_data.specs.Rows.{RowView}
use Rattle.cov_data.proofs.MapViews.{some_from_is_some}
use Rattle.py_meaning.specs.Crossings.{shown_line}
use Rattle.cov_arcs.specs.Told as arcs
use Rattle.cov_arcs.specs.Told.{arc_to, closed, closed_at, in_module, arcs_told}
use Rattle.cov_recorder.specs.Plan.{Plan, unit_of, set_of, path_of}
use Rattle.cov_recorder.specs.Recording.{Open, after, is_line, has_arc, step, context_of, row_of_step, told_in, told_at, told_now, rows_told}
use Rattle.cov_recorder_laws.specs.Laws.{first_lines, IsKnown, IsLineOfPath}
use Rattle.cov_recorder_laws.proofs.Lists.{member-one, member-itself}
use Rattle.cov_recorder_laws.proofs.Pairs.{AreOf, among, among-Contains, Contains-among, end_lines, has_line}
use Rattle.cov_recorder_laws.proofs.Walk.{Told}
use Rattle.cov_recorder_laws.proofs.Beside.{no_element, if_there, is_there, row_if, row_there, framed, beside, AreKnown, beside-after, known-after}

-- ---- lines and numbers

pub shown-is : (first line : ℕ) → 0 < line → shown_line first line ≡ pos line
shown-is first zero h = absurd (omega (arith, h))
shown-is first (suc line) h = refl

-- the outside is no line
pub outside : (first line : ℕ) → 0 < line → pos line ≡ neg_ℤ (pos first) → ⊥
outside zero line h e =
    let none : line ≡ 0 = cc in
    omega (arith, h, none)
outside (suc first) line h e = cc

pub from_1 : (line : ℕ) → is_line line ≡ true → 0 < line
from_1 line h = ltb-true 0 line (left (nat_lt 0 line) (nat_lt line 65536) h)
  where
    left : (a b : Bool) → (a && b) ≡ true → a ≡ true
    left true b h = refl
    left false b h = cc

-- the line of a row of lines
line_in_two : (b : Bool) (line other : ℕ) → has_line line (cond b [] (other ∷ []) ++ cond b [] (other ∷ [])) ≡ true → line ≡ other
line_in_two true line other h = cc
line_in_two false line other h = member-one nat_cmp nat_cmp_total nat_cmp-IsAntisymmetric line other (once (eq_by_cmp nat_cmp line other) h)
  where
    once : (b : Bool) → (b || (b || false)) ≡ true → (b || false) ≡ true
    once true h = refl
    once false h = h

two_have : (b : Bool) (line : ℕ) → b ≡ false → has_line line (cond b [] (line ∷ []) ++ cond b [] (line ∷ [])) ≡ true
two_have true line e = cc
two_have false line e = member-itself nat_cmp nat_cmp_total nat_cmp-IsAntisymmetric line (line ∷ [])

not_0 : (b : Bool) (line : ℕ) → 0 < line → nat_eq line 0 ≡ b → b ≡ false
not_0 true line h e = absurd (omega (arith, h, eqb-true line 0 e))
not_0 false line h e = refl

pub own_line : (line : ℕ) → 0 < line → has_line line (end_lines (pos line, pos line)) ≡ true
own_line line h = two_have (nat_eq line 0) line (not_0 (nat_eq line 0) line h refl)

module _ (plan : Plan) (path : Text) (line : ℕ) (some : 0 < line) where
  -- ---- lines of the path, in two parts

  of-append : (xs ys : ℕ → List (ℤ × ℤ)) → IsLineOfPath plan (λ m. xs m ++ ys m) path line ↔ (IsLineOfPath plan xs path line ⊎ IsLineOfPath plan ys path line)
  of-append xs ys = (
    λ h. elim (Contains-append_cases (xs h.0) (ys h.0) (h.1, pos line) h.4) [
      | inl in_x ↦ inl (h.0, h.1, h.2, h.3, in_x)
      | inr in_y ↦ inr (h.0, h.1, h.2, h.3, in_y)
    ],
    λ h. elim h [
      | inl x ↦ (x.0, x.1, x.2, x.3, Contains-append_left (xs x.0) (ys x.0) (x.1, pos line) x.4)
      | inr y ↦ (y.0, y.1, y.2, y.3, Contains-append_right (xs y.0) (ys y.0) (y.1, pos line) y.4)
    ],
  )

  -- rows that tell the line, and arcs to it
  record Tell (rows : List RowView) (taken : ℕ → List (ℤ × ℤ)) : Type 0 where
    found : (a : ℤ × ℤ) → AreOf path a rows → has_line line (end_lines a) ≡ true → IsLineOfPath plan taken path line
    told : IsLineOfPath plan taken path line → AreOf path (pos line, pos line) rows

  none : Tell [] (λ m. [])
  none = record { found = λ a h has. absurd h; told = λ h. absurd (no_element (h.1, pos line) h.4) }

  module _ (kind : plan.arcs ≡ false) where
    at-told : (frame : Open) → IsSome (unit_of plan frame.code) → (to : ℕ) → 0 < to → Tell (told_at plan frame to) (λ m. in_module m (Some (frame.code.module, arc_to (framed plan frame) to)))
    at-told frame h to later =
        let at = some_from_is_some (unit_of plan frame.code) h in
        let m = frame.code.module in
        let x : ℤ × ℤ = (pos to, pos to) in
        let f = framed plan frame in
        let context = context_of plan frame.label in
        let rows : told_at plan frame to ≡ row_of_step plan frame x = ap (λ u. told_in plan frame u to) at.1 ∙ ap (λ b. row_of_step plan frame (step b at.0.first frame.line to)) kind in
        record {
          found = λ a t has.
              let is = row_if (has_arc (set_of plan m) x) path (path_of plan m) context a x (subst (AreOf path a) rows t) in
              let same : line ≡ to = line_in_two (nat_eq to 0) line to (ap (λ b. has_line line (end_lines b)) (sym is.2) ∙ has) in (
                m,
                shown_line f.first f.line,
                sym is.1,
                among-Contains (pos line, pos line) (set_of plan m) (ap (λ l. among (pos l, pos l) (set_of plan m)) same ∙ is.0),
                subst (λ z. Contains (in_module m (Some (m, arc_to f to))) (shown_line f.first f.line, z)) (shown-is f.first to later ∙ ap pos (sym same))
                    (if_there (nat_eq m m) (arc_to f to) (eq-eqb m m refl)),
              );
          told = λ k.
              let is = is_there (nat_eq m k.0) (k.1, pos line) (arc_to f to) k.4 in
              let same : m ≡ k.0 = eqb-true m k.0 is.0 in
              let to_is : pos line ≡ pos to = ap (λ (p : ℤ × ℤ). p.1) is.1 ∙ shown-is f.first to later in
              subst (AreOf path (pos line, pos line)) (sym rows)
              (row_there (has_arc (set_of plan m) x) path (path_of plan m) context (pos line, pos line) x
              (ap (λ z. among (z, z) (set_of plan m)) (sym to_is) ∙ ap (λ n. among (pos line, pos line) (set_of plan n)) same ∙ Contains-among (pos line, pos line) (set_of plan k.0) k.3)
              (sym k.2 ∙ ap (path_of plan) (sym same))
              (ap (λ z. (z, z)) to_is));
        }

    now-told : (b : Bool) → b ≡ true → (frames : List Open) → AreKnown plan frames → (to : ℕ) → 0 < to → Tell (if b then told_now plan frames to else []) (λ m. in_module m (closed_at (beside plan frames) to))
    now-told true e [] h to later = none
    now-told true e (frame ∷ outer) h to later = at-told frame h.0 to later
    now-told false e frames h to later = cc

    -- leaving a frame tells no line
    left-told : (b : Bool) → b ≡ false → (frames : List Open) → Tell (if b then told_now plan frames 0 else []) (λ m. in_module m (closed_at (beside plan frames) 0))
    left-told true e frames = cc
    left-told false e [] = none
    left-told false e (frame ∷ outer) = record {
      found = λ a h has. absurd h;
      told = λ k.
          let is = is_there (nat_eq frame.code.module k.0) (k.1, pos line) (arc_to (framed plan frame) 0) k.4 in
          absurd (outside (framed plan frame).first line some (ap (λ (p : ℤ × ℤ). p.1) is.1));
    }

    event-told : (frames : List Open) → AreKnown plan frames → (event : Event) → IsKnown plan event → Tell (rows_told plan frames event) (λ m. in_module m (closed (beside plan frames) event))
    event-told frames h (Call code) k = none
    event-told frames h (Line to) k = now-told (is_line to) k frames h to (from_1 to k)
    event-told frames h (Throw thrown) k = none
    event-told frames h Return k = left-told plan.arcs kind frames

    -- ---- a list of events

    pub events-found : (frames : List Open) → AreKnown plan frames → (events : List Event) → AllByRecursion (IsKnown plan) events
        → (a : ℤ × ℤ) → Told plan path a frames events → has_line line (end_lines a) ≡ true
        → IsLineOfPath plan (λ m. arcs_told (first_lines plan) m (beside plan frames) events) path line
    unfolding arcs_told
    events-found frames h [] k a x has = absurd x
    events-found frames h (event ∷ rest) k a x has =
        let e = beside-after plan frames event k.0 in
        (of-append (λ m. in_module m (closed (beside plan frames) event)) (λ m. arcs_told (first_lines plan) m (arcs.after (first_lines plan) (beside plan frames) event) rest)).1 (elim x [
          | inl x ↦ inl ((event-told frames h event k.0).found a x has)
          | inr x ↦ inr (subst (λ fs. IsLineOfPath plan (λ m. arcs_told (first_lines plan) m fs rest) path line) e (events-found (after None frames event) (known-after plan frames event h k.0) rest k.1 a x has))
        ])

    pub events-told : (frames : List Open) → AreKnown plan frames → (events : List Event) → AllByRecursion (IsKnown plan) events
        → IsLineOfPath plan (λ m. arcs_told (first_lines plan) m (beside plan frames) events) path line → Told plan path (pos line, pos line) frames events
    unfolding arcs_told
    events-told frames h [] k x = absurd (no_element (x.1, pos line) x.4)
    events-told frames h (event ∷ rest) k x =
        let e = beside-after plan frames event k.0 in
        elim ((of-append (λ m. in_module m (closed (beside plan frames) event)) (λ m. arcs_told (first_lines plan) m (arcs.after (first_lines plan) (beside plan frames) event) rest)).0 x) [
          | inl x ↦ inl ((event-told frames h event k.0).told x)
          | inr x ↦ inr (events-told (after None frames event) (known-after plan frames event h k.0) rest k.1 (subst (λ fs. IsLineOfPath plan (λ m. arcs_told (first_lines plan) m fs rest) path line) (sym e) x))
        ]
