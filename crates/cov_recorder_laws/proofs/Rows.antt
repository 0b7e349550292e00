-- What recorders keep of the events of some runs.
use Rattle.std.proofs.Common.{◌≡◌, ℕ, zero, suc, true, false, ℤ, pos, negsuc, List, [], ◌∷◌, Option, All, Contains, refl, ap, arith}
use Rattle.std.specs.Prelude.{codes}
use Rattle.std.proofs.lemmas.List.Elements.{All-from_recursion}
use Rattle.cov_event.specs.declared.event.Event.{Event}
use Rattle.cov_event.specs.declared.event.Event.TheVariants.{Call, Line, Throw, Return}
use Rattle.py_value.specs.declared.exception.ExcKind.TheVariants.{ZeroDivisionError}
use Rattle.cov_data.specs.DataSet.{Text}
use Rattle.cov_data.specs.Rows.{arcs_of, lines_of}
use Rattle.py_syntax.specs.Prediction.{Arc}
use Rattle.cov_arcs.specs.Told.{arcs_told}
use Rattle.cov_recorder.specs.Plan.{Named, Plan, plan_of, set_of}
use Rattle.cov_recorder.specs.Recording.{Recording}
use Rattle.cov_recorder_laws.specs.Laws.{first_lines, IsKnown, HasSteps, Took}
use Rattle.cov_recorder_laws.proofs.Pairs.{among, among-Contains, Contains-among}
use Rattle.cov_recorder_laws.proofs.Beside.{no_element}
use Rattle.cov_recorder_laws.proofs.Law.{recorded_law}

abbrev call : ℕ → Event
call unit = Call (record { «module» = 0; unit = unit })

abbrev arc : ℤ → ℤ → Arc
arc from to = (from, to)

abbrev path : Text
path = codes "p.py"

-- a unit of `p.py`, loaded as `__main__`
abbrev unit : Text → ℕ → Named
unit function first = record { path = path; «module» = codes "__main__"; function = function; first = first }

-- ---- Handlers: the exception of line 2 is caught in line 5, and the arc `2 3` isn't in the set

abbrev handlers : Plan
handlers = plan_of ((unit [] 1 ∷ []) ∷ [])
    ((arc (negsuc 0) (pos 1) ∷ arc (pos 1) (pos 2) ∷ arc (pos 3) (pos 5) ∷ arc (pos 5) (pos 6) ∷ arc (pos 6) (pos 7) ∷ arc (pos 7) (negsuc 0) ∷ []) ∷ [])
    true []

abbrev handlers_events : List Event
handlers_events = call 0 ∷ Line 1 ∷ Line 2 ∷ Throw ZeroDivisionError ∷ Line 3 ∷ Line 5 ∷ Line 6 ∷ Line 7 ∷ Return ∷ []

handlers_told : arcs_told (first_lines handlers) 0 [] handlers_events
    ≡ (negsuc 0, pos 1) ∷ (pos 1, pos 2) ∷ (pos 2, pos 3) ∷ (pos 3, pos 5) ∷ (pos 5, pos 6) ∷ (pos 6, pos 7) ∷ (pos 7, negsuc 0) ∷ []
unfolding arcs_told
handlers_told = refl

handlers_known : All (IsKnown handlers) handlers_events
handlers_known = All-from_recursion (IsKnown handlers) handlers_events (refl, (refl, (refl, (tt, (refl, (refl, (refl, (refl, (tt, tt)))))))))

-- ---- One-line loop, as line data: line 2 follows itself, and line 3 has no counter

abbrev loop : Plan
loop = plan_of ((unit [] 1 ∷ []) ∷ []) ((arc (negsuc 0) (pos 1) ∷ arc (pos 1) (pos 2) ∷ arc (pos 2) (negsuc 0) ∷ arc (pos 2) (pos 2) ∷ []) ∷ []) false []

abbrev loop_events : List Event
loop_events = call 0 ∷ Line 1 ∷ Line 2 ∷ Line 2 ∷ Line 3 ∷ Return ∷ []

loop_told : arcs_told (first_lines loop) 0 [] loop_events ≡ (negsuc 0, pos 1) ∷ (pos 1, pos 2) ∷ (pos 2, pos 2) ∷ (pos 2, pos 3) ∷ (pos 3, negsuc 0) ∷ []
unfolding arcs_told
loop_told = refl

loop_known : All (IsKnown loop) loop_events
loop_known = All-from_recursion (IsKnown loop) loop_events (refl, (refl, (refl, (refl, (refl, (tt, tt))))))

-- ---- whatever gives labels

module _ {S C : Type 0} (asks : C → Text → Text → Option (List ℕ) → C → Type 0) (state : S → Recording × C) (new : S) where
  module _ (took : Took asks state handlers handlers_events new) where
    handlers_have : HasSteps handlers (λ m. arcs_told (first_lines handlers) m [] handlers_events) (state new).0.data
    handlers_have = recorded_law asks state handlers handlers_events new handlers_known took

    recorded : Contains (arcs_of (state new).0.data path) (pos 3, pos 5)
    recorded = (handlers_have.arcs refl path (pos 3, pos 5)).1 (
      0,
      refl,
      among-Contains (pos 3, pos 5) (set_of handlers 0) refl,
      among-Contains (pos 3, pos 5) (arcs_told (first_lines handlers) 0 [] handlers_events) (ap (among (pos 3, pos 5)) handlers_told),
    )

    not_recorded : Contains (arcs_of (state new).0.data path) (pos 2, pos 3) → ⊥
    not_recorded h =
        let at = (handlers_have.arcs refl path (pos 2, pos 3)).0 h in
        absent at.0 at.2
      where
        absent : (m : ℕ) → Contains (set_of handlers m) (pos 2, pos 3) → ⊥
        absent zero h =
            let never : false ≡ true = Contains-among (pos 2, pos 3) (set_of handlers 0) h in
            cc
        absent (suc m) h = no_element (pos 2, pos 3) h

  module _ (took : Took asks state loop loop_events new) where
    loop_have : HasSteps loop (λ m. arcs_told (first_lines loop) m [] loop_events) (state new).0.data
    loop_have = recorded_law asks state loop loop_events new loop_known took

    recorded_line : Contains (lines_of (state new).0.data path) 2
    recorded_line = (loop_have.lines refl path 2 (omega arith)).1 (
      0,
      pos 1,
      refl,
      among-Contains (pos 2, pos 2) (set_of loop 0) refl,
      among-Contains (pos 1, pos 2) (arcs_told (first_lines loop) 0 [] loop_events) (ap (among (pos 1, pos 2)) loop_told),
    )

    no_counter : Contains (lines_of (state new).0.data path) 3 → ⊥
    no_counter h =
        let at = (loop_have.lines refl path 3 (omega arith)).0 h in
        absent at.0 at.3
      where
        absent : (m : ℕ) → Contains (set_of loop m) (pos 3, pos 3) → ⊥
        absent zero h =
            let never : false ≡ true = Contains-among (pos 3, pos 3) (set_of loop 0) h in
            cc
        absent (suc m) h = no_element (pos 3, pos 3) h
