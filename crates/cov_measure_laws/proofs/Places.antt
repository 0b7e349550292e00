-- The rows of a recorder are the steps of its events.
use Rattle.std.proofs.Common.{◌≡◌, inl, inr, ℕ, zero, suc, ◌+◌, ◌<◌, nat_eq, Bool, true, false, cond, if◌then◌else◌, pos, List, [], ◌∷◌, ◌++◌, map, filter, All, Option, Some, None, count_by, refl, ap, sym, subst, ◌∙◌, arith}
use Rattle.std.specs.Prelude.{neg_ℤ}
use Rattle.std.specs.List.{AllByRecursion}
use Rattle.std.proofs.lemmas.List.{map-append}
use Rattle.std.proofs.lemmas.List.Sums.{sum_by-cons}
use Rattle.std.proofs.lemmas.List.Elements.{filter-append, recursion_from_All}
use Rattle.cov_event.specs.declared.event.Event.{Event}
use Rattle.cov_event.specs.declared.event.Event.TheVariants.{Call, Line, Throw, Return}
use Rattle.cov_event.specs.Moves.{Calls}
use Rattle.cov_data.specs.DataSet.{Text}
use Rattle.cov_data.specs.Rows.{RowView}
use Rattle.cov_data.proofs.MapViews.{some_from_is_some}
use Rattle.py_syntax.specs.Prediction.{Arc}
use Rattle.py_meaning.specs.Activations.{Items}
use Rattle.py_meaning.specs.Crossings.{ends, crossings}
use Rattle.py_meaning.specs.Events.{events_in}
use Rattle.py_meaning.specs.Loading.{loaded}
use Rattle.py_meaning.specs.Modules.{LoadedModule}
use Rattle.py_meaning.specs.Program.{run_modules, meaning, called}
use Rattle.cov_arcs.specs.Laws.{firsts_of}
use Rattle.cov_arcs.specs.Told as arcs
use Rattle.cov_arcs.specs.Told.{closed, closed_at, arc_to, in_module, arcs_told}
use Rattle.cov_recorder.specs.Plan.{Named, Plan, unit_of, set_of, path_of}
use Rattle.cov_recorder.specs.Recording.{Open, Recording, after, is_line, has_arc, step, context_of, one_row, told_in, told_now, rows_told}
use Rattle.cov_recorder.specs.Labels.{IsNext, IsRefused}
use Rattle.cov_recorder.specs.Laws.{Tells, TellsTaken, taken_of, RecordingLaw}
use Rattle.cov_recorder.proofs.Telling.{recording_law}
use Rattle.cov_recorder_laws.specs.Laws.{first_lines, IsKnown}
use Rattle.cov_recorder_laws.proofs.Walk.{bare, bare-after}
use Rattle.cov_recorder_laws.proofs.Beside.{framed, beside, AreKnown, beside-after, known-after, step-is}
use Rattle.cov_recorder_laws.proofs.Lines.{from_1, shown-is}
use Rattle.cov_recorder_laws.proofs.Known.{modules-known, call-known}
use Rattle.cov_arcs.proofs.Following.{none-add}
use Rattle.cov_arcs.specs.Laws.{ArcsAgree, ModulesArcsLaw, CallArcsLaw}
use Rattle.cov_measure_laws.specs.Places.{Step, step_in, steps_now, steps_of, steps_told, is_counted, spot, spot_of, HasPlaces, RecordedPlacesLaw, mine, is_number, to_line, on_line, shown_arcs, PlanPlaces, ProgramPlacesLaw, ModulesPlacesLaw, CallPlacesLaw}

-- ---- rows and steps

module _ (plan : Plan) where
  one-spot : (b : Bool) (m : ℕ) (c : Text) (a : Arc) → map spot (if b then one_row (path_of plan m) c a ∷ [] else []) ≡ map (spot_of plan) (cond b ((m, a) ∷ []) [])
  one-spot true m c a = refl
  one-spot false m c a = refl

  in-spots : (frame : Open) (unit : Option Named) (line : ℕ) → map spot (told_in plan frame unit line) ≡ map (spot_of plan) (filter (is_counted plan) (step_in plan frame unit line))
  in-spots frame None line = refl
  in-spots frame (Some unit) line =
      let a = step plan.arcs unit.first frame.line line in
      one-spot (has_arc (set_of plan frame.code.module) a) frame.code.module (context_of plan frame.label) a

  pub counted_spots : List Step → List (Text × Arc)
  counted_spots steps = map (spot_of plan) (filter (is_counted plan) steps)

  now-spots : (frames : List Open) (line : ℕ) → map spot (told_now plan frames line) ≡ map (spot_of plan) (filter (is_counted plan) (steps_now plan (bare frames) line))
  now-spots [] line = refl
  now-spots (frame ∷ outer) line = in-spots frame (unit_of plan frame.code) line

  if-spots : (b : Bool) (frames : List Open) (line : ℕ)
      → map spot (if b then told_now plan frames line else []) ≡ map (spot_of plan) (filter (is_counted plan) (if b then steps_now plan (bare frames) line else []))
  if-spots true frames line = now-spots frames line
  if-spots false frames line = refl

  event-spots : (frames : List Open) (event : Event) → map spot (rows_told plan frames event) ≡ map (spot_of plan) (filter (is_counted plan) (steps_of plan (bare frames) event))
  event-spots frames (Call code) = refl
  event-spots frames (Line line) = if-spots (is_line line) frames line
  event-spots frames (Throw kind) = refl
  event-spots frames Return = if-spots plan.arcs frames 0

  spots-append : (xs ys : List Step)
      → map (spot_of plan) (filter (is_counted plan) (xs ++ ys)) ≡ map (spot_of plan) (filter (is_counted plan) xs) ++ map (spot_of plan) (filter (is_counted plan) ys)
  spots-append xs ys = ap (map (spot_of plan)) (filter-append (is_counted plan) xs ys) ∙ map-append (spot_of plan) (filter (is_counted plan) xs) (filter (is_counted plan) ys)

  abbrev Spots : List Open → List Event → List RowView → Type 0
  Spots frames events rows = map spot rows ≡ map (spot_of plan) (filter (is_counted plan) (steps_told plan (bare frames) events))

  one-more : (label : Option (List ℕ)) (frames : List Open) (event : Event) (rest : List Event) (rows later : List RowView)
      → rows ≡ rows_told plan frames event ++ later → Spots (after label frames event) rest later → Spots frames (event ∷ rest) rows
  one-more label frames event rest rows later e h =
      ap (map spot) e
      ∙ map-append spot (rows_told plan frames event) later
      ∙ ap (λ w. w ++ map spot later) (event-spots frames event)
      ∙ ap (λ w. map (spot_of plan) (filter (is_counted plan) (steps_of plan (bare frames) event)) ++ w) (h ∙ ap (λ fs. map (spot_of plan) (filter (is_counted plan) (steps_told plan fs rest))) (bare-after label frames event))
      ∙ sym (spots-append (steps_of plan (bare frames) event) (steps_told plan (after None (bare frames) event) rest))

  module _ {C : Type 0} (asks : C → Text → Text → Option (List ℕ) → C → Type 0) where
    pub told-spots : (frames : List Open) (old new : C) (events : List Event) (rows : List RowView) → Tells asks plan frames old events rows new → Spots frames events rows
    told-spots frames old new [] rows h = ap (map spot) h.0
    told-spots frames old new (event ∷ rest) rows h =
        one-more h.0 frames event rest rows h.2 h.5 (told-spots (after h.0 frames event) h.1 new rest h.2 h.4)

    pub taken-spots : (leaves : Plan → List Open → Event → C → C → Type 0) (frames : List Open) (old new : C) (calls : List (Event × Bool)) (rows : List RowView) → TellsTaken asks leaves plan frames old calls rows new
        → Spots frames (taken_of calls) rows
    taken-spots leaves frames old new [] rows h = ap (map spot) h.0
    taken-spots leaves frames old new ((event, true) ∷ rest) rows h =
        one-more h.2.0 frames event (taken_of rest) rows h.1 h.2.3 (taken-spots leaves (after h.2.0 frames event) h.0 new rest h.1 h.2.2)
    taken-spots leaves frames old new ((event, false) ∷ rest) rows h =
        ap (map spot) h.2.2 ∙ taken-spots leaves frames h.0 new rest h.1 h.2.1

module _ {S C : Type 0} (asks : C → Text → Text → Option (List ℕ) → C → Type 0) (state : S → Recording × C) where
  -- whatever refused events leave
  abbrev Any : Plan → List Open → Event → C → C → Type 0
  Any plan frames event old new = Unit {0}

  abbrev Moves : S → Event → S → Type 0
  Moves before event later = IsNext asks (state before) event (state later)

  of-any : (old new : S) (calls : List (Event × Bool)) → Calls Moves (λ before _ later. (state later).0 ≡ (state before).0) old calls new → Calls Moves (λ before event later. IsRefused Any (state before) event (state later)) old calls new
  of-any old new [] h = h
  of-any old new ((event, true) ∷ calls) h = (h.0, h.1, of-any h.0 new calls h.2)
  of-any old new ((event, false) ∷ calls) h = (h.0, (h.1, tt), of-any h.0 new calls h.2)

  abbrev law : RecordingLaw asks Any state
  law = recording_law asks Any state

  pub recorded_places : RecordedPlacesLaw asks state
  recorded_places plan events new took = elim took.3 [
    | inl takes ↦
        let is = law.of_taken plan took.1 took.0 new events took.2 takes in
        record { rows = is.rows; counted = is.counted; spots = told-spots plan asks [] took.1 (state new).1 events is.rows is.told }
    | inr h ↦
        let is = law.of_calls plan took.1 took.0 new h.0 took.2 (of-any took.0 new h.0 h.2) in
        subst (λ es. HasPlaces plan es (state new).0.data) h.1
        (record { rows = is.rows; counted = is.counted; spots = taken-spots plan asks Any [] took.1 (state new).1 h.0 is.rows is.told })
  ]

-- ---- steps and arcs

mine-append : (m : ℕ) (xs ys : List Step) → mine m (xs ++ ys) ≡ mine m xs ++ mine m ys
mine-append m xs ys = ap (map (λ s. s.1)) (filter-append (λ s. nat_eq s.0 m) xs ys) ∙ map-append (λ s. s.1) (filter (λ s. nat_eq s.0 m) xs) (filter (λ s. nat_eq s.0 m) ys)

-- a number that leaves a body is none of a line
not-line : (first : ℕ) → is_number (neg_ℤ (pos first)) ≡ false
not-line zero = refl
not-line (suc first) = refl

shown-append : (kind : Bool) (xs ys : List Arc) → shown_arcs kind (xs ++ ys) ≡ shown_arcs kind xs ++ shown_arcs kind ys
shown-append true xs ys = refl
shown-append false xs ys = ap (map on_line) (filter-append to_line xs ys) ∙ map-append on_line (filter to_line xs) (filter to_line ys)

module _ (plan : Plan) where
  -- one step, in data of arcs
  one-arc : (b : Bool) (k : ℕ) (a x : Arc) → a ≡ x → map (λ (s : Step). s.1) (cond b ((k, a) ∷ []) []) ≡ (if b then x ∷ [] else [])
  one-arc true k a x e = ap (λ y. y ∷ []) e
  one-arc false k a x e = refl

  -- and in data of lines
  one-line : (b : Bool) (k : ℕ) (a x : Arc) → to_line x ≡ true → a ≡ on_line x → map (λ (s : Step). s.1) (cond b ((k, a) ∷ []) []) ≡ map on_line (filter to_line (if b then x ∷ [] else []))
  one-line true k a x to e = ap (λ y. y ∷ []) e ∙ ap (λ c. map on_line (cond c (x ∷ []) [])) (sym to)
  one-line false k a x to e = refl

  no-line : (b : Bool) (x : Arc) → to_line x ≡ false → [] ≡ map on_line (filter to_line (if b then x ∷ [] else []))
  no-line true x e = ap (λ c. map on_line (cond c (x ∷ []) [])) (sym e)
  no-line false x e = refl

  abbrev Beside : Bool → List Open → Event → ℕ → Type 0
  Beside kind frames event m = mine m (steps_of plan frames event) ≡ shown_arcs kind (in_module m (closed (beside plan frames) event))

  module _ (m : ℕ) where
    arc-now : plan.arcs ≡ true → (frames : List Open) → AreKnown plan frames → (line : ℕ) → mine m (steps_now plan frames line) ≡ in_module m (closed_at (beside plan frames) line)
    arc-now kind [] h line = refl
    arc-now kind (frame ∷ outer) h line =
        let at = some_from_is_some (unit_of plan frame.code) h.0 in
        ap (λ u. mine m (step_in plan frame u line)) at.1
        ∙ one-arc (nat_eq frame.code.module m) frame.code.module (step plan.arcs at.0.first frame.line line) (arc_to (framed plan frame) line) (step-is plan [] (pos 0, pos 0) kind frame at.0 line at.1)

    line-now : plan.arcs ≡ false → (frames : List Open) → AreKnown plan frames → (line : ℕ) → 0 < line → mine m (steps_now plan frames line) ≡ map on_line (filter to_line (in_module m (closed_at (beside plan frames) line)))
    line-now kind [] h line some = refl
    line-now kind (frame ∷ outer) h line some =
        let at = some_from_is_some (unit_of plan frame.code) h.0 in
        let shown = shown-is (framed plan frame).first line some in
        ap (λ u. mine m (step_in plan frame u line)) at.1
        ∙ one-line (nat_eq frame.code.module m) frame.code.module (step plan.arcs at.0.first frame.line line) (arc_to (framed plan frame) line)
        (ap is_number shown ∙ is-number line some)
        (ap (λ b. step b at.0.first frame.line line) kind ∙ ap (λ z. (z, z)) (sym shown))
      where
        is-number : (line : ℕ) → 0 < line → is_number (pos line) ≡ true
        is-number zero h = absurd (omega (arith, h))
        is-number (suc line) h = refl

    if-arc : (b : Bool) → b ≡ true → plan.arcs ≡ true → (frames : List Open) → AreKnown plan frames → (line : ℕ) → mine m (if b then steps_now plan frames line else []) ≡ in_module m (closed_at (beside plan frames) line)
    if-arc true e kind frames h line = arc-now kind frames h line
    if-arc false e kind frames h line = cc

    if-line : (b : Bool) → b ≡ true → plan.arcs ≡ false → (frames : List Open) → AreKnown plan frames → (line : ℕ) → 0 < line
        → mine m (if b then steps_now plan frames line else []) ≡ map on_line (filter to_line (in_module m (closed_at (beside plan frames) line)))
    if-line true e kind frames h line some = line-now kind frames h line some
    if-line false e kind frames h line some = cc

    left-line : (b : Bool) → b ≡ false → (frames : List Open) → mine m (if b then steps_now plan frames 0 else []) ≡ map on_line (filter to_line (in_module m (closed_at (beside plan frames) 0)))
    left-line true e frames = cc
    left-line false e [] = refl
    left-line false e (frame ∷ outer) = no-line (nat_eq frame.code.module m) (arc_to (framed plan frame) 0) (not-line (framed plan frame).first)

    event-mine : (kind : Bool) → plan.arcs ≡ kind → (frames : List Open) → AreKnown plan frames → (event : Event) → IsKnown plan event → Beside kind frames event m
    event-mine true kind frames h (Call code) k = refl
    event-mine true kind frames h (Line line) k = if-arc (is_line line) k kind frames h line
    event-mine true kind frames h (Throw thrown) k = refl
    event-mine true kind frames h Return k = if-arc plan.arcs kind kind frames h 0
    event-mine false kind frames h (Call code) k = refl
    event-mine false kind frames h (Line line) k = if-line (is_line line) k kind frames h line (from_1 line k)
    event-mine false kind frames h (Throw thrown) k = refl
    event-mine false kind frames h Return k = left-line plan.arcs kind frames

    pub steps-mine : (kind : Bool) → plan.arcs ≡ kind → (frames : List Open) → AreKnown plan frames → (events : List Event) → AllByRecursion (IsKnown plan) events
        → mine m (steps_told plan frames events) ≡ shown_arcs kind (arcs_told (first_lines plan) m (beside plan frames) events)
    unfolding arcs_told
    steps-mine true kind frames h [] k = refl
    steps-mine false kind frames h [] k = refl
    steps-mine b kind frames h (event ∷ rest) k =
        mine-append m (steps_of plan frames event) (steps_told plan (after None frames event) rest)
        ∙ ap (λ w. w ++ mine m (steps_told plan (after None frames event) rest)) (event-mine b kind frames h event k.0)
        ∙ ap (λ w. shown_arcs b (in_module m (closed (beside plan frames) event)) ++ w) (steps-mine b kind (after None frames event) (known-after plan frames event h k.0) rest k.1 ∙ ap (λ fs. shown_arcs b (arcs_told (first_lines plan) m fs rest)) (beside-after plan frames event k.0))
        ∙ sym (shown-append b (in_module m (closed (beside plan frames) event)) (arcs_told (first_lines plan) m (arcs.after (first_lines plan) (beside plan frames) event) rest))

-- ---- counts

-- lists that count the same do so but for what data of lines show
count-shown : (kind : Bool) (xs ys : List Arc) → ((p : Arc → Bool) → count_by p xs ≡ count_by p ys) → (p : Arc → Bool) → count_by p (shown_arcs kind xs) ≡ count_by p (shown_arcs kind ys)
count-shown true xs ys h p = h p
count-shown false xs ys h p = count-lines p xs ∙ h (λ a. cond (to_line a) (p (on_line a)) false) ∙ sym (count-lines p ys)
  where
    one : (p : Arc → Bool) (b : Bool) (x : Arc) (rest : List Arc) → count_by p (map on_line (cond b (x ∷ rest) rest)) ≡ cond (cond b (p (on_line x)) false) 1 0 + count_by p (map on_line rest)
    one p true x rest = sum_by-cons (λ y. cond (p y) 1 0) (on_line x) (map on_line rest)
    one p false x rest = none-add (count_by p (map on_line rest))

    count-lines : (p : Arc → Bool) (xs : List Arc) → count_by p (map on_line (filter to_line xs)) ≡ count_by (λ a. cond (to_line a) (p (on_line a)) false) xs
    count-lines p [] = refl
    count-lines p (x ∷ xs) =
        one p (to_line x) x (filter to_line xs)
        ∙ ap (λ n. cond (cond (to_line x) (p (on_line x)) false) 1 0 + n) (count-lines p xs)
        ∙ sym (sum_by-cons (λ a. cond (cond (to_line a) (p (on_line a)) false) 1 0) x xs)

places-of : (ms : List LoadedModule) (items : Items) → ArcsAgree ms items → ((plan : Plan) → first_lines plan ≡ firsts_of ms → All (IsKnown plan) (events_in items)) → PlanPlaces ms items
places-of ms items agree known plan same = record {
  places = λ m p.
      ap (count_by p) (steps-mine plan m plan.arcs refl [] tt (events_in items) (recursion_from_All (IsKnown plan) (events_in items) (known plan same)))
      ∙ ap (λ firsts. count_by p (shown_arcs plan.arcs (arcs_told firsts m [] (events_in items)))) same
      ∙ count-shown plan.arcs (arcs_told (firsts_of ms) m [] (events_in items)) (map ends (crossings ms m items)) (agree.places m) p;
}

pub modules_places : ModulesArcsLaw → ModulesPlacesLaw
modules_places agree ms some lines words input budget =
    places-of ms (run_modules ms words input budget).items (agree ms words input budget) (λ plan same. modules-known ms lines plan same some words input budget)

pub program_places : ModulesArcsLaw → ProgramPlacesLaw
unfolding meaning
program_places agree program some lines words input budget = modules_places agree (loaded program) some lines words input budget

pub call_places : CallArcsLaw → CallPlacesLaw
call_places agree ms lines w input r budget =
    places-of ms (called ms w input r budget).items (agree ms w input r budget) (λ plan same. call-known ms lines plan same w input r budget)
