-- What a recorder keeps of a list of events is what the whole list tells.
use Rattle.std.proofs.Common.{◌≡◌, ℕ, ◌+◌, Bool, true, false, cond, if◌then◌else◌, ℤ, List, [], ◌∷◌, ◌++◌, Option, Some, None, refl, ap, sym, subst, ◌∙◌, arith}
use Rattle.std.specs.declared.cmp.Ordering.TheVariants.{Less, Equal, Greater}
use Rattle.std.specs.Prelude.{min, ◌||◌, ◌&&◌, is_some}
use Rattle.std.specs.Option.{unwrap_or}
use Rattle.std.specs.Ordering.{is_eq, eq_by_cmp}
use Rattle.std.specs.List.{fold, list_any, AllByRecursion}
use Rattle.std.specs.FinMap.{get, get-insert, get-empty}
use Rattle.cov_event.specs.declared.event.Event.{Event}
use Rattle.cov_event.specs.declared.event.Event.TheVariants.{Call, Line, Throw, Return}
use Rattle.cov_event.specs.Moves.{Takes, Calls}
use Rattle.cov_data.specs.DataSet.{Text, text_cmp, Place, place_cmp, File, DataSet, joined_count, add_count, no_data, file_in, count_at, has_path, with_path}
use Rattle.cov_data.specs.Rows.{RowView, with_row}
use Rattle.cov_data.proofs.FileViews.{place_cmp_total, place_cmp_same, text_cmp_total, text_cmp_same}
use Rattle.cov_data.proofs.Soundness.{file_in-insert, file_in-none}
use Rattle.cov_recorder.specs.Plan.{Named, Plan, unit_of, set_of}
use Rattle.cov_recorder.specs.Recording.{Open, Recording, after, is_line, has_arc, step, told_in, told_now, rows_told, paths_told, with_told}
use Rattle.cov_recorder.specs.Labels.{Labelled, IsNext, IsRefused}
use Rattle.cov_recorder.specs.Laws.{Tells, TellsTaken, taken_of, all_paths, is_path, is_row, IsCounted, RecordingLaw}
use Rattle.cov_recorder.proofs.Summing.{path-commutes}

-- ---- the count of a row

counted_once : (o : Option ℕ) (k : ℕ) → unwrap_or o 0 ≡ min k 4294967295 → joined_count o 1 ≡ min (k + 1) 4294967295
counted_once None k h = omega (arith, h)
counted_once (Some m) k h = omega (arith, h)

-- in the file of the row
at_place : (f : File) (j k : Place) (n : ℕ) → unwrap_or (get f j) 0 ≡ min n 4294967295
    → unwrap_or (get (add_count f k 1) j) 0 ≡ min (n + cond (eq_by_cmp place_cmp j k) 1 0) 4294967295
at_place f j k n h =
    ap (λ o. unwrap_or o 0) (get-insert place_cmp_total f k (joined_count (get f k) 1) j)
    ∙ elim (place_cmp j k) as (λ r. place_cmp j k ≡ r → unwrap_or (cond (is_eq r) (Some (joined_count (get f k) 1)) (get f j)) 0 ≡ min (n + cond (is_eq r) 1 0) 4294967295) [
      | Less ↦ λ t. omega (arith, h)
      | Equal ↦ λ t. counted_once (get f k) n (ap (λ i. unwrap_or (get f i) 0) (sym (place_cmp_same j k t)) ∙ h)
      | Greater ↦ λ t. omega (arith, h)
    ] refl

count_more : (d : DataSet) (r : RowView) → r.count ≡ 1 → (path context : Text) (from to : ℤ) (n : ℕ) → count_at d path context from to ≡ min n 4294967295
    → count_at (with_row d r) path context from to ≡ min (n + cond (is_row path context from to r) 1 0) 4294967295
count_more d r one path context from to n h =
    let j : Place = (context, (from, to)) in
    let k : Place = (r.context, (r.from, r.to)) in
    let m = d.files in
    ap (λ c. count_at (with_row d (record r { count = c })) path context from to) one
    ∙ ap (λ f. unwrap_or (get f j) 0) (file_in-insert m r.path (add_count (file_in m r.path) k 1) path)
    ∙ elim (text_cmp path r.path) as (λ o. text_cmp path r.path ≡ o → unwrap_or (get (cond (is_eq o) (add_count (file_in m r.path) k 1) (file_in m path)) j) 0 ≡ min (n + cond (is_eq o && eq_by_cmp place_cmp j k) 1 0) 4294967295) [
      | Less ↦ λ t. omega (arith, h)
      | Equal ↦ λ t. at_place (file_in m r.path) j k n (ap (λ p. unwrap_or (get (file_in m p) j) 0) (sym (text_cmp_same path r.path t)) ∙ h)
      | Greater ↦ λ t. omega (arith, h)
    ] refl

counts_more : (rows : List RowView) → AllByRecursion (λ r. r.count ≡ 1) rows → (path context : Text) (from to : ℤ) (d : DataSet) (n : ℕ) → count_at d path context from to ≡ min n 4294967295
    → count_at (fold with_row d rows) path context from to ≡ min (fold (λ a r. a + cond (is_row path context from to r) 1 0) n rows) 4294967295
counts_more [] ones path context from to d n h = h
counts_more (r ∷ rows) ones path context from to d n h = counts_more rows ones.1 path context from to (with_row d r) (n + cond (is_row path context from to r) 1 0) (count_more d r ones.0 path context from to n h)

uncounted : (paths : List Text) (d : DataSet) (path context : Text) (from to : ℤ) → count_at d path context from to ≡ 0 → count_at (fold with_path d paths) path context from to ≡ 0
uncounted [] d path context from to h = h
uncounted (p ∷ paths) d path context from to h =
    let j : Place = (context, (from, to)) in
    let same : count_at (with_path d p) path context from to ≡ count_at d path context from to =
    ap (λ f. unwrap_or (get f j) 0) (file_in-insert d.files p (file_in d.files p) path)
    ∙ elim (text_cmp path p) as (λ o. text_cmp path p ≡ o → unwrap_or (get (cond (is_eq o) (file_in d.files p) (file_in d.files path)) j) 0 ≡ unwrap_or (get (file_in d.files path) j) 0) [
      | Less ↦ λ t. refl
      | Equal ↦ λ t. ap (λ q. unwrap_or (get (file_in d.files q) j) 0) (sym (text_cmp_same path p t))
      | Greater ↦ λ t. refl
    ] refl in
    uncounted paths (with_path d p) path context from to (same ∙ h)

nothing_counted : (arcs : Bool) (path context : Text) (from to : ℤ) → count_at (no_data arcs) path context from to ≡ 0
nothing_counted arcs path context from to =
    let j : Place = (context, (from, to)) in
    ap (λ f. unwrap_or (get f j) 0) (file_in-none path) ∙ ap (λ o. unwrap_or o 0) (get-empty place_cmp j)

-- ---- the paths

some_or : {X : Type 0} (b : Bool) (x : X) (o : Option X) → is_some (cond b (Some x) o) ≡ (is_some o || b)
some_or true x None = refl
some_or true x (Some y) = refl
some_or false x None = refl
some_or false x (Some y) = refl

or_assoc : (a b c : Bool) → ((a || b) || c) ≡ (a || (b || c))
or_assoc true b c = refl
or_assoc false b c = refl

rows_paths : (rows : List RowView) (d : DataSet) (path : Text) → has_path (fold with_row d rows) path ≡ (has_path d path || list_any (λ row. is_path path row.path) rows)
rows_paths [] d path = elim (has_path d path) as (λ b. b ≡ (b || false)) [ true ↦ refl | false ↦ refl ]
rows_paths (r ∷ rows) d path =
    rows_paths rows (with_row d r) path
    ∙ ap (λ b. b || list_any (λ row. is_path path row.path) rows) (ap is_some (get-insert text_cmp_total d.files r.path _ path) ∙ some_or (is_path path r.path) _ (get d.files path))
    ∙ or_assoc (has_path d path) (is_path path r.path) (list_any (λ row. is_path path row.path) rows)

paths_paths : (paths : List Text) (d : DataSet) (path : Text) → has_path (fold with_path d paths) path ≡ (has_path d path || list_any (is_path path) paths)
paths_paths [] d path = elim (has_path d path) as (λ b. b ≡ (b || false)) [ true ↦ refl | false ↦ refl ]
paths_paths (p ∷ paths) d path =
    paths_paths paths (with_path d p) path
    ∙ ap (λ b. b || list_any (is_path path) paths) (ap is_some (get-insert text_cmp_total d.files p _ path) ∙ some_or (is_path path p) _ (get d.files path))
    ∙ or_assoc (has_path d path) (is_path path p) (list_any (is_path path) paths)

rows_kind : (rows : List RowView) (d : DataSet) → (fold with_row d rows).arcs ≡ d.arcs
rows_kind [] d = refl
rows_kind (r ∷ rows) d = rows_kind rows (with_row d r)

paths_kind : (paths : List Text) (d : DataSet) → (fold with_path d paths).arcs ≡ d.arcs
paths_kind [] d = refl
paths_kind (p ∷ paths) d = paths_kind paths (with_path d p)

-- ---- each row that is told is told once

abbrev Ones : List RowView → Type 0
Ones rows = AllByRecursion (λ r. r.count ≡ 1) rows

ones_if : (b : Bool) (rows : List RowView) → Ones rows → Ones (if b then rows else [])
ones_if true rows h = h
ones_if false rows h = tt

ones_in : (plan : Plan) (frame : Open) (unit : Option Named) (line : ℕ) → Ones (told_in plan frame unit line)
ones_in plan frame None line = tt
ones_in plan frame (Some unit) line = ones_if (has_arc (set_of plan frame.code.module) (step plan.arcs unit.first frame.line line)) _ (refl, tt)

ones_now : (plan : Plan) (frames : List Open) (line : ℕ) → Ones (told_now plan frames line)
ones_now plan [] line = tt
ones_now plan (frame ∷ outer) line = ones_in plan frame (unit_of plan frame.code) line

ones_told : (plan : Plan) (frames : List Open) (event : Event) → Ones (rows_told plan frames event)
ones_told plan frames (Call code) = tt
ones_told plan frames (Line line) = ones_if (is_line line) _ (ones_now plan frames line)
ones_told plan frames (Throw kind) = tt
ones_told plan frames Return = ones_if plan.arcs _ (ones_now plan frames 0)

ones_append : (xs ys : List RowView) → Ones xs → Ones ys → Ones (xs ++ ys)
ones_append [] ys h k = k
ones_append (x ∷ xs) ys h k = (h.0, ones_append xs ys h.1 k)

-- ---- a list of events

fold-append : {X Y : Type 0} (f : X → Y → X) (x : X) (xs ys : List Y) → fold f x (xs ++ ys) ≡ fold f (fold f x xs) ys
fold-append f x [] ys = refl
fold-append f x (y ∷ xs) ys = fold-append f (f x y) xs ys

path_later : (rows : List RowView) (d : DataSet) (p : Text) → with_path (fold with_row d rows) p ≡ fold with_row (with_path d p) rows
path_later [] d p = refl
path_later (r ∷ rows) d p = path_later rows (with_row d r) p ∙ ap (λ x. fold with_row x rows) (sym ((path-commutes p).row d r))

paths_later : (paths : List Text) (rows : List RowView) (d : DataSet) → fold with_path (fold with_row d rows) paths ≡ fold with_row (fold with_path d paths) rows
paths_later [] rows d = refl
paths_later (p ∷ paths) rows d = ap (λ x. fold with_path x paths) (path_later rows d p) ∙ paths_later paths rows (with_path d p)

counted : (arcs : Bool) (paths : List Text) (rows : List RowView) → Ones rows → IsCounted arcs paths rows (with_told (no_data arcs) paths rows)
counted arcs paths rows ones = record {
  kind = rows_kind rows (fold with_path (no_data arcs) paths) ∙ paths_kind paths (no_data arcs);
  paths = λ path.
      rows_paths rows (fold with_path (no_data arcs) paths) path
      ∙ ap (λ b. b || list_any (λ row. is_path path row.path) rows)
      (paths_paths paths (no_data arcs) path ∙ ap (λ o. is_some o || list_any (is_path path) paths) (get-empty text_cmp path));
  counts = λ path context from to.
      counts_more rows ones path context from to (fold with_path (no_data arcs) paths) 0
      (uncounted paths (no_data arcs) path context from to (nothing_counted arcs path context from to));
}

-- one event, and then others
told_first : (d : DataSet) (paths : List Text) (first later : List RowView) (more : List Text)
    → with_told (with_told d paths first) more later ≡ with_told d (paths ++ more) (first ++ later)
told_first d paths first later more =
    ap (λ x. fold with_row x later) (paths_later more first (fold with_path d paths))
    ∙ sym (fold-append with_row (fold with_path (fold with_path d paths) more) first later)
    ∙ ap (λ x. fold with_row x (first ++ later)) (sym (fold-append with_path d paths more))

module _ {S C : Type 0} (asks : C → Text → Text → Option (List ℕ) → C → Type 0) (leaves : Plan → List Open → Event → C → C → Type 0) (state : S → Recording × C) where
  abbrev Moves : S → Event → S → Type 0
  Moves before event later = IsNext asks (state before) event (state later)

  abbrev Refused : S → Event → S → Type 0
  Refused before event later = IsRefused leaves (state before) event (state later)

  abbrev at : Plan → List Open → DataSet → C → Recording × C
  at plan frames d c = (record { plan = plan; frames = frames; «data» = d }, c)

  -- what is kept of events from any state on
  record Kept (plan : Plan) (frames : List Open) (d : DataSet) (old : C) (events : List Event) (new : Recording × C) : Type 0 where
    pub rows : List RowView
    pub ones : Ones rows
    pub told : Tells asks plan frames old events rows new.1
    pub found : new.0.data ≡ with_told d (all_paths plan events) rows

  kept : (plan : Plan) (frames : List Open) (d : DataSet) (c : C) (events : List Event) (old new : S) → state old ≡ at plan frames d c → Takes Moves old events new → Kept plan frames d c events (state new)
  kept plan frames d c [] old new is h =
      let same : state new ≡ at plan frames d c = ap state h ∙ is in
      record {
        rows = [];
        ones = tt;
        told = (refl, ap (λ (s : Recording × C). s.1) same);
        found = ap (λ (s : Recording × C). s.0.data) same;
      }
  kept plan frames d c (event ∷ rest) old new is h =
      let moved : IsNext asks (at plan frames d c) event (state h.0) = subst (λ (s : Recording × C). IsNext asks s event (state h.0)) is h.1 in
      let label = moved.0 in
      let middle : C = (state h.0).1 in
      let there : state h.0 ≡ at plan (after label frames event) (with_told d (paths_told plan event) (rows_told plan frames event)) middle = λ i. (moved.2 i, middle) in
      let first = rows_told plan frames event in
      let later = kept plan (after label frames event) (with_told d (paths_told plan event) first) middle rest h.0 new there h.2 in
      record {
        rows = first ++ later.rows;
        ones = ones_append first later.rows (ones_told plan frames event) later.ones;
        told = (label, middle, later.rows, moved.1, later.told, refl);
        found = later.found ∙ told_first d (paths_told plan event) first later.rows (all_paths plan rest);
      }

  -- the same of calls, of which some were refused
  record KeptTaken (plan : Plan) (frames : List Open) (d : DataSet) (old : C) (calls : List (Event × Bool)) (new : Recording × C) : Type 0 where
    pub rows : List RowView
    pub ones : Ones rows
    pub told : TellsTaken asks leaves plan frames old calls rows new.1
    pub found : new.0.data ≡ with_told d (all_paths plan (taken_of calls)) rows

  -- one call more in front
  module _ (plan : Plan) (frames : List Open) (d : DataSet) (c : C) (event : Event) (rest : List (Event × Bool)) (mid : Recording × C) (new : Recording × C) where
    add_taken : (label : Option (List ℕ)) → Labelled asks plan frames event c label mid.1
        → KeptTaken plan (after label frames event) (with_told d (paths_told plan event) (rows_told plan frames event)) mid.1 rest new
        → KeptTaken plan frames d c ((event, true) ∷ rest) new
    add_taken label labelled later =
        let first = rows_told plan frames event in
        record {
          rows = first ++ later.rows;
          ones = ones_append first later.rows (ones_told plan frames event) later.ones;
          told = (mid.1, later.rows, (label, labelled, later.told, refl));
          found = later.found ∙ told_first d (paths_told plan event) first later.rows (all_paths plan (taken_of rest));
        }

    add_refused : leaves plan frames event c mid.1 → KeptTaken plan frames d mid.1 rest new → KeptTaken plan frames d c ((event, false) ∷ rest) new
    add_refused left later = record {
      rows = later.rows;
      ones = later.ones;
      told = (mid.1, later.rows, (left, later.told, refl));
      found = later.found;
    }

  kept_taken : (plan : Plan) (frames : List Open) (d : DataSet) (c : C) (calls : List (Event × Bool)) (old new : S) → state old ≡ at plan frames d c → Calls Moves Refused old calls new → KeptTaken plan frames d c calls (state new)
  kept_taken plan frames d c [] old new is h =
      let same : state new ≡ at plan frames d c = ap state h ∙ is in
      record {
        rows = [];
        ones = tt;
        told = (refl, ap (λ (s : Recording × C). s.1) same);
        found = ap (λ (s : Recording × C). s.0.data) same;
      }
  kept_taken plan frames d c ((event, true) ∷ rest) old new is h =
      let moved : IsNext asks (at plan frames d c) event (state h.0) = subst (λ (s : Recording × C). IsNext asks s event (state h.0)) is h.1 in
      let there : state h.0 ≡ at plan (after moved.0 frames event) (with_told d (paths_told plan event) (rows_told plan frames event)) (state h.0).1 = λ i. (moved.2 i, (state h.0).1) in
      add_taken plan frames d c event rest (state h.0) (state new) moved.0 moved.1
      (kept_taken plan (after moved.0 frames event) (with_told d (paths_told plan event) (rows_told plan frames event)) (state h.0).1 rest h.0 new there h.2)
  kept_taken plan frames d c ((event, false) ∷ rest) old new is h =
      let there : state h.0 ≡ at plan frames d (state h.0).1 = λ i. ((h.1.0 ∙ ap (λ (s : Recording × C). s.0) is) i, (state h.0).1) in
      let left : leaves plan frames event c (state h.0).1 = subst (λ (s : Recording × C). leaves s.0.plan s.0.frames event s.1 (state h.0).1) is h.1.1 in
      add_refused plan frames d c event rest (state h.0) (state new) left (kept_taken plan frames d (state h.0).1 rest h.0 new there h.2)

  pub recording_law : RecordingLaw asks leaves state
  recording_law = record {
    of_taken = λ plan sources old new events is h.
        let all = kept plan [] (no_data plan.arcs) sources events old new is h in
        record {
          rows = all.rows;
          told = all.told;
          counted = subst (IsCounted plan.arcs (all_paths plan events) all.rows) (sym all.found) (counted plan.arcs (all_paths plan events) all.rows all.ones);
        };
    of_calls = λ plan sources old new calls is h.
        let all = kept_taken plan [] (no_data plan.arcs) sources calls old new is h in
        let paths = all_paths plan (taken_of calls) in
        record {
          rows = all.rows;
          told = all.told;
          counted = subst (IsCounted plan.arcs paths all.rows) (sym all.found) (counted plan.arcs paths all.rows all.ones);
        };
  }
