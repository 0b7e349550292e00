-- Nothing is left out where sets hold what is possible.
use Rattle.std.proofs.Common.{◌≡◌, ◌↔◌, inl, inr, ℕ, zero, suc, ◌+◌, ◌<◌, ◌≤◌, nat_eq, Bool, true, false, if◌then◌else◌, ℤ, pos, negsuc, List, [], ◌∷◌, ◌++◌, length, map, filter, All, Contains, Option, Some, None, refl, ap, sym, subst, ◌∙◌, arith}
use Rattle.std.specs.Prelude.{slice_get}
use Rattle.std.specs.List.{AllByRecursion, range_with_len}
use Rattle.std.proofs.lemmas.Bool.{eqb-true, eq-eqb}
use Rattle.std.proofs.lemmas.List.{length-map}
use Rattle.std.proofs.lemmas.List.Elements.{All-from_recursion, recursion_from_All}
use Rattle.cov_event.specs.declared.event.Event.{Event}
use Rattle.cov_event.specs.declared.event.Event.TheVariants.{Call, Line, Throw, Return}
use Rattle.cov_data.specs.DataSet.{Text}
use Rattle.cov_data.specs.Rows.{RowView}
use Rattle.py_syntax.specs.Prediction.{Arc, possible}
use Rattle.py_meaning.specs.Activations.{Items}
use Rattle.py_meaning.specs.Crossings.{ends, crossings, lines_crossed}
use Rattle.py_meaning.specs.Events.{events_in}
use Rattle.py_meaning.specs.Loading.{loaded}
use Rattle.py_meaning.specs.Modules.{LoadedModule, body_of}
use Rattle.py_meaning.specs.Program.{run_modules, meaning, called}
use Rattle.py_prediction_laws.specs.Sound.{AreForeseen, ModulesSoundness, CallSoundness}
use Rattle.cov_arcs.specs.Laws.{unit_lines, firsts_of, ArcsAgree, ModulesArcsLaw, CallArcsLaw}
use Rattle.cov_arcs.specs.Told.{arcs_told}
use Rattle.cov_recorder.specs.Plan.{Named, Plan, line_of, greatest, lines_to, counted, unit_in, unit_of, set_at, set_of, path_of}
use Rattle.cov_recorder.specs.Recording.{Open, Recording, after, is_line, step, context_of, one_row, told_in, told_now, rows_told}
use Rattle.cov_recorder.specs.Laws.{Tells, RecordingLaw}
use Rattle.cov_recorder_laws.specs.Laws.{first_lines, IsKnown, KeepsMeaning, ModulesStepsLaw, CallStepsLaw}
use Rattle.cov_recorder_laws.proofs.Pairs.{Contains-among}
use Rattle.cov_recorder_laws.proofs.Walk.{bare, bare-after}
use Rattle.cov_recorder_laws.proofs.Law.{in_order}
use Rattle.cov_recorder_laws.proofs.Known.{modules-known, call-known}
use Rattle.cov_measure_laws.specs.Places.{Step, step_in, steps_now, steps_of, steps_told, is_counted, to_line, on_line, shown_arcs}
use Rattle.cov_measure_laws.specs.Whole.{IsWhole, WholePlanLaw, all_in, all_now, all_rows, TellsAll, LeavesNothing, WithoutSetsLaw, KeepsAll, ProgramWholeLaw, ModulesWholeLaw, CallWholeLaw}
use Rattle.cov_measure_laws.proofs.Places.{steps-mine}
use Rattle.cov_measure_laws.proofs.Members.{none_in, first_in, later_in, cases_in, all_at, each_of, in_map, from_map, in_filter, from_filter, shown_more, in_mine}
use Rattle.cov_measure_laws.proofs.Foreseen.{foreseen_arc}

-- ---- plans that are made of sets

set_at-map : (kind : Bool) (sets : List (List Arc)) (m : ℕ) → set_at (map (counted kind) sets) m ≡ counted kind (set_at sets m)
set_at-map true [] m = refl
set_at-map false [] m = refl
set_at-map kind (set ∷ sets) zero = refl
set_at-map kind (set ∷ sets) (suc m) = set_at-map kind sets m

above : (set : List Arc) (a : Arc) → Contains set a → line_of a.1 ≤ greatest set
above [] a h = absurd (none_in a h)
above (x ∷ set) a h = elim (cases_in x a set h) [
  | inl e ↦ let same : line_of x.1 ≡ line_of a.1 = ap (λ (y : Arc). line_of y.1) e in omega (arith, same)
  | inr later ↦ omega (arith, above set a later)
]

in_range : (l a n : ℕ) → a ≤ l → l < a + n → Contains (range_with_len a n) l
in_range l a zero low high = absurd (omega (arith, low, high))
in_range l a (suc n) low high =
    elim (nat_eq a l) as (λ b. nat_eq a l ≡ b → Contains (a ∷ range_with_len (a + 1) n) l) [
      | true ↦ λ e. subst (λ k. Contains (a ∷ range_with_len (a + 1) n) k) (eqb-true a l e) (first_in a (range_with_len (a + 1) n))
      | false ↦ λ e. let other : a ≡ l → ⊥ = λ same. apart a l e same in later_in a l (range_with_len (a + 1) n) (in_range l (a + 1) n (omega (arith, low, other)) (omega (arith, high)))
    ] refl
  where
    apart : (a l : ℕ) → nat_eq a l ≡ false → a ≡ l → ⊥
    apart a l e same =
        let is : true ≡ false = sym (eq-eqb a l same) ∙ e in
        cc

in_lines : (set : List Arc) (x : Arc) → to_line x ≡ true → line_of x.1 ≤ greatest set → Contains (lines_to (greatest set)) (on_line x)
in_lines set (z, pos zero) to h = cc
in_lines set (z, pos (suc l)) to h = in_map (λ l. let a : Arc = (pos l, pos l) in a) (range_with_len 1 (greatest set)) (suc l) (in_range (suc l) 1 (greatest set) (omega arith) (omega (arith, h)))
in_lines set (z, negsuc n) to h = cc

whole_set : (kind : Bool) (set all : List Arc) → ((a : Arc) → Contains all a → Contains set a) → (a : Arc) → Contains (shown_arcs kind all) a → Contains (counted kind set) a
whole_set true set all h a at = h a at
whole_set false set all h a at =
    let x = from_map on_line (filter to_line all) a at in
    let was = from_filter to_line all x.0 x.1 in
    subst (Contains (lines_to (greatest set))) x.2 (in_lines set x.0 was.1 (above set x.0 (h x.0 was.0)))

pub whole_plan : WholePlanLaw
whole_plan units sets arcs fixed ms h = record {
  each = λ m low a at. subst (λ set. Contains set a) (sym (set_at-map arcs sets m)) (whole_set arcs (set_at sets m) (possible (body_of ms m)) (h m low) a at);
}

-- ---- rows without sets

module _ (plan : Plan) where
  abbrev Counts : List Step → Type 0
  Counts steps = AllByRecursion (λ s. is_counted plan s ≡ true) steps

  counts-left : (xs ys : List Step) → Counts (xs ++ ys) → Counts xs
  counts-left [] ys h = tt
  counts-left (x ∷ xs) ys h = (h.0, counts-left xs ys h.1)

  counts-right : (xs ys : List Step) → Counts (xs ++ ys) → Counts ys
  counts-right [] ys h = h
  counts-right (x ∷ xs) ys h = counts-right xs ys h.1

  in-all : (frame : Open) (unit : Option Named) (line : ℕ) → Counts (step_in plan frame unit line) → told_in plan frame unit line ≡ all_in plan frame unit line
  in-all frame None line h = refl
  in-all frame (Some unit) line h =
      ap (λ b. if b then one_row (path_of plan frame.code.module) (context_of plan frame.label) (step plan.arcs unit.first frame.line line) ∷ [] else []) h.0

  now-all : (frames : List Open) (line : ℕ) → Counts (steps_now plan (bare frames) line) → told_now plan frames line ≡ all_now plan frames line
  now-all [] line h = refl
  now-all (frame ∷ outer) line h = in-all frame (unit_of plan frame.code) line h

  if-all : (b : Bool) (frames : List Open) (line : ℕ) → Counts (if b then steps_now plan (bare frames) line else []) → (if b then told_now plan frames line else []) ≡ (if b then all_now plan frames line else [])
  if-all true frames line h = now-all frames line h
  if-all false frames line h = refl

  event-all : (frames : List Open) (event : Event) → Counts (steps_of plan (bare frames) event) → rows_told plan frames event ≡ all_rows plan frames event
  event-all frames (Call code) h = refl
  event-all frames (Line line) h = if-all (is_line line) frames line h
  event-all frames (Throw kind) h = refl
  event-all frames Return h = if-all plan.arcs frames 0 h

  pub tells-all : {C : Type 0} (asks : C → Text → Text → Option (List ℕ) → C → Type 0) (frames : List Open) (old new : C) (events : List Event) (rows : List RowView)
      → Counts (steps_told plan (bare frames) events) → Tells asks plan frames old events rows new → TellsAll asks plan frames old events rows new
  tells-all asks frames old new [] rows k h = h
  tells-all asks frames old new (event ∷ rest) rows k h =
      let later = counts-right (steps_of plan (bare frames) event) (steps_told plan (after None (bare frames) event) rest) k in (
        h.0,
        h.1,
        h.2,
        h.3,
        tells-all asks (after h.0 frames event) h.1 new rest h.2 (subst (λ fs. Counts (steps_told plan fs rest)) (sym (bare-after h.0 frames event)) later) h.4,
        h.5 ∙ ap (λ rows. rows ++ h.2) (event-all frames event (counts-left (steps_of plan (bare frames) event) (steps_told plan (after None (bare frames) event) rest) k)),
      )

  -- ---- steps are in modules of the plan

  abbrev InUnits : List Step → Type 0
  InUnits steps = AllByRecursion (λ (s : Step). s.0 < length plan.units) steps

  has-unit : (units : List (List Named)) (m u : ℕ) (unit : Named) → unit_in (slice_get units m) u ≡ Some unit → m < length units
  has-unit [] m u unit e = cc
  has-unit (x ∷ units) zero u unit e = omega arith
  has-unit (x ∷ units) (suc m) u unit e = omega (arith, has-unit units m u unit e)

  in-units : (frame : Open) (unit : Option Named) → unit_of plan frame.code ≡ unit → (line : ℕ) → InUnits (step_in plan frame unit line)
  in-units frame None e line = tt
  in-units frame (Some unit) e line = (has-unit plan.units frame.code.module frame.code.unit unit e, tt)

  now-units : (frames : List Open) (line : ℕ) → InUnits (steps_now plan frames line)
  now-units [] line = tt
  now-units (frame ∷ outer) line = in-units frame (unit_of plan frame.code) refl line

  if-units : (b : Bool) (frames : List Open) (line : ℕ) → InUnits (if b then steps_now plan frames line else [])
  if-units true frames line = now-units frames line
  if-units false frames line = tt

  event-units : (frames : List Open) (event : Event) → InUnits (steps_of plan frames event)
  event-units frames (Call code) = tt
  event-units frames (Line line) = if-units (is_line line) frames line
  event-units frames (Throw kind) = tt
  event-units frames Return = if-units plan.arcs frames 0

  both-units : (xs ys : List Step) → InUnits xs → InUnits ys → InUnits (xs ++ ys)
  both-units [] ys h k = k
  both-units (x ∷ xs) ys h k = (h.0, both-units xs ys h.1 k)

  pub steps-units : (frames : List Open) (events : List Event) → InUnits (steps_told plan frames events)
  steps-units frames [] = tt
  steps-units frames (event ∷ rest) = both-units (steps_of plan frames event) (steps_told plan (after None frames event) rest) (event-units frames event) (steps-units (after None frames event) rest)

module _ {S C : Type 0} (asks : C → Text → Text → Option (List ℕ) → C → Type 0) (state : S → Recording × C) where
  pub without_sets : {leaves : Plan → List Open → Event → C → C → Type 0} → RecordingLaw asks leaves state → WithoutSetsLaw asks state
  without_sets law plan sources events old new first takes nothing =
      let is = law.of_taken plan sources old new events first takes in
      record {
        rows = is.rows;
        told = tells-all plan asks [] sources (state new).1 events is.rows (recursion_from_All _ (steps_told plan [] events) nothing) is.told;
        counted = is.counted;
      }

-- ---- the steps of a run

module _ (ms : List LoadedModule) (items : Items) (agree : ArcsAgree ms items) (foreseen : AreForeseen ms items) where
  -- an arc that events tell is one that items cross
  told-is : (m : ℕ) (a : Arc) → Contains (arcs_told (firsts_of ms) m [] (events_in items)) a ↔ Contains (map ends (crossings ms m items)) a
  told-is m a =
      let cs = map ends (crossings ms m items) in
      let s = in_order (arcs_told (firsts_of ms) m [] (events_in items)) (lines_crossed (crossings ms m items)) (agree.told m) a in
      let t = in_order cs (lines_crossed (crossings ms m items)) refl a in
      (λ h. t.1 (s.0 h), λ h. s.1 (t.0 h))

  module _ (plan : Plan) (same : first_lines plan ≡ firsts_of ms) (known : All (IsKnown plan) (events_in items)) where
    each-known : AllByRecursion (IsKnown plan) (events_in items)
    each-known = recursion_from_All (IsKnown plan) (events_in items) known

    as-long : length plan.units ≡ length ms
    as-long = sym (length-map plan.units (λ units. map (λ (unit : Named). unit.first) units)) ∙ ap length same ∙ length-map ms unit_lines

    -- a step is in a module, and items cross its arc there
    crossed : (s : Step) → Contains (steps_told plan [] (events_in items)) s → (s.0 < length ms) × Contains (shown_arcs plan.arcs (map ends (crossings ms s.0 items))) s.1
    crossed s at = (
      subst (λ n. s.0 < n) as-long (all_at (λ (s : Step). s.0 < length plan.units) (steps_told plan [] (events_in items)) (steps-units plan [] (events_in items)) s at),
      shown_more plan.arcs (arcs_told (firsts_of ms) s.0 [] (events_in items)) (map ends (crossings ms s.0 items)) (λ a. (told-is s.0 a).0) s.1
          (subst (λ xs. Contains xs s.1)
          (steps-mine plan s.0 plan.arcs refl [] tt (events_in items) each-known ∙ ap (λ firsts. shown_arcs plan.arcs (arcs_told firsts s.0 [] (events_in items))) same)
          (in_mine (steps_told plan [] (events_in items)) s at)),
    )

    -- items cross no arc but in a module
    pub in-modules : plan.arcs ≡ true → (m : ℕ) (a : Arc) → Contains (map ends (crossings ms m items)) a → m < length ms
    in-modules kind m a at =
        let steps = steps_told plan [] (events_in items) in
        let here = subst (λ xs. Contains xs a) (sym (steps-mine plan m true kind [] tt (events_in items) each-known ∙ ap (λ firsts. arcs_told firsts m [] (events_in items)) same)) ((told-is m a).1 at) in
        let s = from_map (λ (s : Step). s.1) (filter (λ (s : Step). nat_eq s.0 m) steps) a here in
        let was = from_filter (λ (s : Step). nat_eq s.0 m) steps s.0 s.1 in
        subst (λ n. n < length ms) (eqb-true s.0.0 m was.1) (crossed s.0 was.0).0

    pub nothing_left : IsWhole plan ms → LeavesNothing plan (events_in items)
    nothing_left whole =
        let steps = steps_told plan [] (events_in items) in
        All-from_recursion _ steps (each_of (λ s. is_counted plan s ≡ true) steps (λ s at.
        let is = crossed s at in
        let could : Contains (shown_arcs plan.arcs (possible (body_of ms s.0))) s.1 =
        shown_more plan.arcs (map ends (crossings ms s.0 items)) (possible (body_of ms s.0)) (λ a x. (foreseen_arc ms items foreseen s.0 a x).possible) s.1 is.1 in
        Contains-among s.1 (set_of plan s.0) (whole.each s.0 is.0 s.1 could)))

-- lines of possible arcs
to_pos : (line : ℕ) → 0 < line → (from : ℤ) → to_line (from, pos line) ≡ true
to_pos zero h from = absurd (omega (arith, h))
to_pos (suc line) h from = refl

module _ {S C : Type 0} (asks : C → Text → Text → Option (List ℕ) → C → Type 0) (state : S → Recording × C) where
  keeps : (ms : List LoadedModule) (items : Items) → ArcsAgree ms items → AreForeseen ms items → ((plan : Plan) → first_lines plan ≡ firsts_of ms → All (IsKnown plan) (events_in items)) → KeepsMeaning asks state ms items → KeepsAll asks state ms items
  keeps ms items agree foreseen known meant = record {
    nothing = λ plan same whole. nothing_left ms items agree foreseen plan same (known plan same) whole;
    steps = λ plan new same whole took.
        let has = meant plan new same took in
        let with_arcs : Plan = record plan { arcs = true } in
        let taken = λ (m : ℕ) (a : Arc). (in_order (map ends (crossings ms m items)) (lines_crossed (crossings ms m items)) refl a).1 in
        let within : (m : ℕ) (a : Arc) → Contains (lines_crossed (crossings ms m items)) a → m < length ms = λ m a at.
        in-modules ms items agree foreseen with_arcs same (known with_arcs same) refl m a (taken m a at) in
        let could : (m : ℕ) (a : Arc) → Contains (lines_crossed (crossings ms m items)) a → Contains (possible (body_of ms m)) a = λ m a at.
        (foreseen_arc ms items foreseen m a (taken m a at)).possible in
        record {
          arcs = λ kind path a.
              let is = has.arcs kind path a in (
                λ h. let x = is.0 h in (x.0, x.1, x.3),
                λ x. is.1 (
                  x.0,
                  x.1,
                  whole.each x.0 (within x.0 a x.2) a (subst (λ b. Contains (shown_arcs b (possible (body_of ms x.0))) a) (sym kind) (could x.0 a x.2)),
                  x.2,
                ),
              );
          lines = λ kind path line some.
              let is = has.lines kind path line some in (
                λ h. let x = is.0 h in (x.0, x.1, x.2, x.4),
                λ x. is.1 (
                  x.0,
                  x.1,
                  x.2,
                  whole.each x.0 (within x.0 (x.1, pos line) x.3) (pos line, pos line)
                      (subst (λ b. Contains (shown_arcs b (possible (body_of ms x.0))) (pos line, pos line)) (sym kind)
                      (in_map on_line (filter to_line (possible (body_of ms x.0))) (x.1, pos line) (in_filter to_line (possible (body_of ms x.0)) (x.1, pos line) (could x.0 (x.1, pos line) x.3) (to_pos line some x.1)))),
                  x.3,
                ),
              );
        };
  }

  pub modules_whole : ModulesArcsLaw → ModulesSoundness → ModulesStepsLaw asks state → ModulesWholeLaw asks state
  modules_whole agree sound steps ms some lines proper words input budget =
      keeps ms (run_modules ms words input budget).items (agree ms words input budget) (sound ms proper words input budget) (λ plan same. modules-known ms lines plan same some words input budget) (steps ms some lines words input budget)

  pub program_whole : ModulesArcsLaw → ModulesSoundness → ModulesStepsLaw asks state → ProgramWholeLaw asks state
  unfolding meaning
  program_whole agree sound steps program some lines proper words input budget = modules_whole agree sound steps (loaded program) some lines proper words input budget

  pub call_whole : CallArcsLaw → CallSoundness → CallStepsLaw asks state → CallWholeLaw asks state
  call_whole agree sound steps ms lines proper w input r budget =
      keeps ms (called ms w input r budget).items (agree ms w input r budget) (sound ms proper w input r budget) (λ plan same. call-known ms lines plan same w input r budget) (steps ms lines w input r budget)
