-- The lines of data of arcs are those to which arcs come.
use Rattle.std.proofs.Common.{◌≡◌, ◌↔◌, inl, inr, ℕ, zero, suc, ◌<◌, nat_eq, Bool, true, false, cond, ℤ, pos, negsuc, List, [], ◌∷◌, ◌++◌, map, Option, Contains, refl, ap, sym, subst, ◌∙◌, arith}
use Rattle.std.specs.Prelude.{◌⊎◌, ◌||◌}
use Rattle.std.specs.Ordering.{eq_by_cmp, nat_cmp}
use Rattle.std.specs.FinMap.{entries, nat_cmp-IsAntisymmetric}
use Rattle.std.specs.List.{flat_map}
use Rattle.std.proofs.lemmas.Bool.{eqb-true, eq-eqb}
use Rattle.std.proofs.lemmas.Cmp.{nat_cmp_total}
use Rattle.std.proofs.lemmas.List.Elements.{Contains-append_left, Contains-append_right, Contains-append_cases}
use Rattle.std.proofs.lemmas.List.Folds.{list_any-append}
use Rattle.cov_event.specs.declared.event.Event.{Event}
use Rattle.cov_event.specs.declared.event.Event.TheVariants.{Call, Line, Throw, Return}
use Rattle.cov_data.specs.DataSet.{Text, DataSet, file_of}
use Rattle.cov_data.specs.Rows.{lines_of, lines_in, place_lines}
use Rattle.py_syntax.specs.Prediction.{Arc}
use Rattle.py_meaning.specs.Activations.{Items}
use Rattle.py_meaning.specs.Crossings.{crossings, lines_crossed, shown_line}
use Rattle.py_meaning.specs.Events.{events_in}
use Rattle.py_meaning.specs.Modules.{LoadedModule}
use Rattle.py_meaning.specs.Program.{run_modules, called}
use Rattle.cov_arcs.specs.declared.frames.Frame.{Frame}
use Rattle.cov_arcs.specs.Laws.{firsts_of, ArcsAgree, ModulesArcsLaw, CallArcsLaw}
use Rattle.cov_arcs.specs.Told.{at_line, outer_frames, after, arc_to, closed, closed_at, in_module, arcs_told}
use Rattle.cov_recorder.specs.Plan.{Plan, path_at}
use Rattle.cov_recorder.specs.Recording.{Recording}
use Rattle.cov_recorder_laws.specs.Laws.{first_lines, Took}
use Rattle.cov_recorder_laws.proofs.Lists.{member, member-one, member-itself, member-Contains, Contains-member, member-in_order, same-in_order, or_true}
use Rattle.cov_recorder_laws.proofs.Pairs.{end_lines, has_line, arcs_of-has, lines_of-has}
use Rattle.cov_recorder_laws.proofs.Walk.{kind-first}
use Rattle.cov_recorder_laws.proofs.Beside.{is_there, if_there, no_element}
use Rattle.cov_recorder_laws.proofs.Law.{in_order}
use Rattle.cov_measure_laws.specs.RunLines.{IsEnd, LinesOfArcsLaw, IsRunLine, KeepsLines, ModulesLinesLaw, CallLinesLaw}
use Rattle.cov_measure_laws.specs.Whole.{IsWhole, HasAllSteps, KeepsAll, ModulesWholeLaw, CallWholeLaw}

-- ---- lines of numbers

one_line : (z : ℤ) (line : ℕ) → 0 < line → (has_line line (lines_in z) ≡ true) ↔ (z ≡ pos line)
one_line (negsuc n) line some = (λ h. cc, λ h. cc)
one_line (pos n) line some = go (nat_eq n 0) refl
  where
    never : (n : ℕ) → nat_eq n 0 ≡ true → pos n ≡ pos line → ⊥
    never n e same =
        let is : n ≡ line = cc in
        omega (arith, some, eqb-true n 0 e, is)

    go : (b : Bool) → nat_eq n 0 ≡ b → (has_line line (cond b [] (n ∷ [])) ≡ true) ↔ (pos n ≡ pos line)
    go true e = (λ h. cc, λ same. absurd (never n e same))
    go false e = (
      λ h. ap pos (sym (member-one nat_cmp nat_cmp_total nat_cmp-IsAntisymmetric line n h)),
      λ same. let is : line ≡ n = cc in ap (λ k. has_line k (n ∷ [])) is ∙ member-itself nat_cmp nat_cmp_total nat_cmp-IsAntisymmetric n [],
    )

either_line : (a : Arc) (line : ℕ) → 0 < line → (has_line line (end_lines a) ≡ true) ↔ IsEnd line a
either_line a line some =
    let e : has_line line (end_lines a) ≡ (has_line line (lines_in a.0) || has_line line (lines_in a.1)) = list_any-append (eq_by_cmp nat_cmp line) (lines_in a.0) (lines_in a.1) in (
      λ h. split (has_line line (lines_in a.0)) refl (sym e ∙ h),
      λ h. e ∙ elim h [
        | inl is ↦ ap (λ b. b || has_line line (lines_in a.1)) ((one_line a.0 line some).1 is)
        | inr is ↦ ap (λ b. has_line line (lines_in a.0) || b) ((one_line a.1 line some).1 is) ∙ or_true (has_line line (lines_in a.0))
      ],
    )
  where
    split : (b : Bool) → has_line line (lines_in a.0) ≡ b → (b || has_line line (lines_in a.1)) ≡ true → IsEnd line a
    split true is h = inl ((one_line a.0 line some).0 is)
    split false is h = inr ((one_line a.1 line some).0 h)

pub lines_of_arcs : LinesOfArcsLaw
lines_of_arcs d kind path line some = (
  λ h. let at = (lines_of-has d path line).0 h in (at.0, (arcs_of-has d kind path at.0).1 at.1, (either_line at.0 line some).0 at.2),
  λ h. (lines_of-has d path line).1 (h.0, (arcs_of-has d kind path h.0).0 h.1, (either_line h.0 line some).1 h.2),
)

-- ---- a line that an arc leaves is one that an arc came to

abbrev HasFrame : ℕ → ℕ → List Frame → Type 0
HasFrame m line [] = ⊥
HasFrame m line (f ∷ frames) = ((f.module ≡ m) × (f.line ≡ line)) ⊎ HasFrame m line frames

line_of_shown : (first line l : ℕ) → shown_line first line ≡ pos (suc l) → line ≡ suc l
line_of_shown zero zero l e = cc
line_of_shown (suc first) zero l e = cc
line_of_shown first (suc line) l e = cc

module _ (firsts : List (List ℕ)) (m l : ℕ) where
  abbrev Comes : List (ℤ × ℤ) → Type 0
  Comes arcs = (from : ℤ) × Contains arcs (from, pos (suc l))

  -- the arc that is closed leaves a line that its frame has
  left-at : (frames : List Frame) (to : ℕ) (a : ℤ × ℤ) → Contains (in_module m (closed_at frames to)) a → a.0 ≡ pos (suc l) → HasFrame m (suc l) frames
  left-at [] to a h e = absurd (no_element a h)
  left-at (f ∷ outer) to a h e =
      let is = is_there (nat_eq f.module m) a (arc_to f to) h in
      inl (eqb-true f.module m is.0, line_of_shown f.first f.line l (sym (ap (λ (p : ℤ × ℤ). p.0) is.1) ∙ e))

  left-by : (frames : List Frame) (event : Event) (a : ℤ × ℤ) → Contains (in_module m (closed frames event)) a → a.0 ≡ pos (suc l) → HasFrame m (suc l) frames
  left-by frames (Call code) a h e = absurd (no_element a h)
  left-by frames (Line line) a h e = left-at frames line a h e
  left-by frames (Throw kind) a h e = absurd (no_element a h)
  left-by frames Return a h e = left-at frames 0 a h e

  -- a frame that has a line came to it now, or had it before
  came-at : (frames : List Frame) (to : ℕ) → HasFrame m (suc l) (at_line frames to) → Comes (in_module m (closed_at frames to)) ⊎ HasFrame m (suc l) frames
  came-at [] to h = absurd h
  came-at (f ∷ outer) to h = elim h [
    | inl is ↦
        let arc : arc_to f to ≡ (shown_line f.first f.line, pos (suc l)) = ap (arc_to f) is.1 in
        inl (shown_line f.first f.line, subst (Contains (in_module m (closed_at (f ∷ outer) to))) arc (if_there (nat_eq f.module m) (arc_to f to) (eq-eqb f.module m is.0)))
    | inr later ↦ inr (inr later)
  ]

  outer-has : (frames : List Frame) → HasFrame m (suc l) (outer_frames frames) → HasFrame m (suc l) frames
  outer-has [] h = h
  outer-has (f ∷ outer) h = inr h

  came-by : (frames : List Frame) (event : Event) → HasFrame m (suc l) (after firsts frames event) → Comes (in_module m (closed frames event)) ⊎ HasFrame m (suc l) frames
  came-by frames (Call code) h = elim h [ inl is ↦ absurd (none is.1) | inr later ↦ inr later ]
    where
      none : 0 ≡ suc l → ⊥
      none e = cc
  came-by frames (Line line) h = came-at frames line h
  came-by frames (Throw kind) h = inr h
  came-by frames Return h = inr (outer-has frames h)

  chain : (frames : List Frame) (events : List Event) (a : ℤ × ℤ) → Contains (arcs_told firsts m frames events) a → a.0 ≡ pos (suc l) → Comes (arcs_told firsts m frames events) ⊎ HasFrame m (suc l) frames
  unfolding arcs_told
  chain frames [] a h e = absurd (no_element a h)
  chain frames (event ∷ rest) a h e =
      let here = in_module m (closed frames event) in
      let later = arcs_told firsts m (after firsts frames event) rest in
      elim (Contains-append_cases here later a h) [
        | inl now ↦ inr (left-by frames event a now e)
        | inr next ↦ elim (chain (after firsts frames event) rest a next e) [
          | inl c ↦ inl (c.0, Contains-append_right here later (c.0, pos (suc l)) c.1)
          | inr has ↦ elim (came-by frames event has) [
            | inl c ↦ inl (c.0, Contains-append_left here later (c.0, pos (suc l)) c.1)
            | inr before ↦ inr before
          ]
        ]
      ]

  pub comes : (events : List Event) (a : ℤ × ℤ) → Contains (arcs_told firsts m [] events) a → a.0 ≡ pos (suc l) → Comes (arcs_told firsts m [] events)
  comes events a h e = elim (chain [] events a h e) [ inl c ↦ c | inr never ↦ absurd never ]

-- ---- the lines of a run

module _ {S C : Type 0} (asks : C → Text → Text → Option (List ℕ) → C → Type 0) (state : S → Recording × C) (ms : List LoadedModule) (items : Items) (agree : ArcsAgree ms items) (all : KeepsAll asks state ms items) where
  came : (m line : ℕ) → 0 < line → (a : Arc) → Contains (lines_crossed (crossings ms m items)) a → a.0 ≡ pos line → (from : ℤ) × Contains (lines_crossed (crossings ms m items)) (from, pos line)
  came m zero some a at e = absurd (omega (arith, some))
  came m (suc l) some a at e =
      let s = in_order (arcs_told (firsts_of ms) m [] (events_in items)) (lines_crossed (crossings ms m items)) (agree.told m) in
      let c = comes (firsts_of ms) m l (events_in items) a ((s a).1 at) e in
      (c.0, (s (c.0, pos (suc l))).0 c.1)

  of-arcs : (plan : Plan) (d : DataSet) → HasAllSteps plan (λ m. lines_crossed (crossings ms m items)) d → d.arcs ≡ true → plan.arcs ≡ true → (path : Text) (line : ℕ) → 0 < line
      → Contains (lines_of d path) line ↔ IsRunLine plan ms items path line
  of-arcs plan d has kind is path line some = (
    λ h.
        let at = (lines_of_arcs d kind path line some).0 h in
        let x = (has.arcs is path at.0).0 at.1 in
        elim at.2 [
          | inl e ↦ let c = came x.0 line some at.0 x.2 e in (x.0, c.0, x.1, c.1)
          | inr e ↦ (x.0, at.0.0, x.1, subst (λ z. Contains (lines_crossed (crossings ms x.0 items)) (at.0.0, z)) e x.2)
        ],
    λ x. (lines_of_arcs d kind path line some).1 ((x.1, pos line), (has.arcs is path (x.1, pos line)).1 (x.0, x.2, x.3), inr refl),
  )

  of-kind : (b : Bool) (plan : Plan) (d : DataSet) → HasAllSteps plan (λ m. lines_crossed (crossings ms m items)) d → plan.arcs ≡ b → d.arcs ≡ b → (path : Text) (line : ℕ) → 0 < line
      → Contains (lines_of d path) line ↔ IsRunLine plan ms items path line
  of-kind true plan d has is kind path line some = of-arcs plan d has kind is path line some
  of-kind false plan d has is kind path line some = has.lines is path line some

  run-lines : (plan : Plan) (new : S) → first_lines plan ≡ firsts_of ms → IsWhole plan ms → Took asks state plan (events_in items) new → (path : Text) (line : ℕ) → 0 < line
      → Contains (lines_of (state new).0.data path) line ↔ IsRunLine plan ms items path line
  run-lines plan new same whole took path line some =
      of-kind plan.arcs plan (state new).0.data (all.steps plan new same whole took) refl (kind-first asks state plan (events_in items) new took) path line some

  -- no data have line 0
  no-zero : (d : DataSet) (path : Text) → Contains (lines_of d path) 0 → ⊥
  no-zero d path h = let at = (lines_of-has d path 0).0 h in none at.0.0 at.0.1 at.2
    where
      apart : (n : ℕ) → nat_eq n 0 ≡ false → has_line 0 (n ∷ []) ≡ true → ⊥
      apart n e h =
          let is : true ≡ false = sym (eq-eqb n 0 (sym (member-one nat_cmp nat_cmp_total nat_cmp-IsAntisymmetric 0 n h))) ∙ e in
          cc

      other : (n : ℕ) → nat_eq n 0 ≡ false → (b : Bool) → has_line 0 (n ∷ []) ≡ b → b ≡ false
      other n e true h = absurd (apart n e h)
      other n e false h = refl

      not-line : (n : ℕ) (b : Bool) → nat_eq n 0 ≡ b → has_line 0 (cond b [] (n ∷ [])) ≡ false
      not-line n true e = refl
      not-line n false e = other n e (has_line 0 (n ∷ [])) refl

      not-in : (z : ℤ) → has_line 0 (lines_in z) ≡ false
      not-in (negsuc n) = refl
      not-in (pos n) = not-line n (nat_eq n 0) refl

      none : (y z : ℤ) → has_line 0 (lines_in y ++ lines_in z) ≡ true → ⊥
      none y z h =
          let never : false ≡ true = sym (list_any-append (eq_by_cmp nat_cmp 0) (lines_in y) (lines_in z) ∙ ap (λ b. b || has_line 0 (lines_in z)) (not-in y) ∙ not-in z) ∙ h in
          cc

  same-list : (d e : DataSet) (path : Text) → ((line : ℕ) → 0 < line → Contains (lines_of d path) line ↔ Contains (lines_of e path) line) → lines_of d path ≡ lines_of e path
  same-list d e path alike =
      same-in_order nat_cmp nat_cmp_total nat_cmp-IsAntisymmetric (flat_map (λ x. place_lines x.0) (entries (file_of d path))) (flat_map (λ x. place_lines x.0) (entries (file_of e path)))
      (λ line. (go d e line (λ some. (alike line some).0), go e d line (λ some. (alike line some).1)))
    where
      go : (d e : DataSet) (line : ℕ) → (0 < line → Contains (lines_of d path) line → Contains (lines_of e path) line)
          → member nat_cmp line (flat_map (λ x. place_lines x.0) (entries (file_of d path))) ≡ true → member nat_cmp line (flat_map (λ x. place_lines x.0) (entries (file_of e path))) ≡ true
      go d e zero f h = absurd (no-zero d path (member-Contains nat_cmp nat_cmp_total nat_cmp-IsAntisymmetric 0 (lines_of d path) (member-in_order nat_cmp nat_cmp_total nat_cmp-IsAntisymmetric 0 (flat_map (λ x. place_lines x.0) (entries (file_of d path))) ∙ h)))
      go d e (suc l) f h =
          sym (member-in_order nat_cmp nat_cmp_total nat_cmp-IsAntisymmetric (suc l) (flat_map (λ x. place_lines x.0) (entries (file_of e path))))
          ∙ Contains-member nat_cmp nat_cmp_total nat_cmp-IsAntisymmetric (suc l) (lines_of e path)
          (f (omega arith) (member-Contains nat_cmp nat_cmp_total nat_cmp-IsAntisymmetric (suc l) (lines_of d path) (member-in_order nat_cmp nat_cmp_total nat_cmp-IsAntisymmetric (suc l) (flat_map (λ x. place_lines x.0) (entries (file_of d path))) ∙ h)))

  pub keeps : KeepsLines asks state ms items
  keeps = record {
    lines = run-lines;
    same = λ plan other new later units same whole one took took2 path.
        let same2 : first_lines other ≡ firsts_of ms = ap (λ us. map (λ us. map (λ u. u.first) us) us) (sym units) ∙ same in
        same-list (state new).0.data (state later).0.data path (λ line some.
        let s = run-lines plan new same whole took path line some in
        let t = run-lines other later same2 one took2 path line some in (
          λ h. let x = s.0 h in t.1 (x.0, x.1, ap (λ us. path_at us x.0) (sym units) ∙ x.2, x.3),
          λ h. let x = t.0 h in s.1 (x.0, x.1, ap (λ us. path_at us x.0) units ∙ x.2, x.3),
        ));
  }

module _ {S C : Type 0} (asks : C → Text → Text → Option (List ℕ) → C → Type 0) (state : S → Recording × C) where
  pub modules_lines : ModulesArcsLaw → ModulesWholeLaw asks state → ModulesLinesLaw asks state
  modules_lines agree whole ms some lines proper words input budget =
      keeps asks state ms (run_modules ms words input budget).items (agree ms words input budget) (whole ms some lines proper words input budget)

  pub call_lines : CallArcsLaw → CallWholeLaw asks state → CallLinesLaw asks state
  call_lines agree whole ms lines proper w input r budget =
      keeps asks state ms (called ms w input r budget).items (agree ms w input r budget) (whole ms lines proper w input r budget)
