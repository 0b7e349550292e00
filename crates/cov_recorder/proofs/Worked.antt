-- The rows that the events of some runs tell, computed.
use Rattle.std.proofs.Common.{◌≡◌, ℕ, true, false, List, [], ◌∷◌, ◌++◌, ℤ, pos, negsuc, Option, Some, None, refl}
use Rattle.std.specs.Prelude.{codes, count_by}
use Rattle.cov_event.specs.declared.event.Event.{Event}
use Rattle.cov_event.specs.declared.event.Event.TheVariants.{Call, Line, Throw, Return}
use Rattle.py_value.specs.declared.exception.ExcKind.TheVariants.{ZeroDivisionError}
use Rattle.cov_data.specs.DataSet.{Text}
use Rattle.cov_data.specs.Rows.{RowView}
use Rattle.py_syntax.specs.Prediction.{Arc}
use Rattle.cov_recorder.specs.Plan.{Named, Plan, plan_of}
use Rattle.cov_recorder.specs.Recording.{Open, after, rows_told, one_row}
use Rattle.cov_recorder.specs.Laws.{all_paths, is_row}

-- the rows that events tell, where the frames that begin have these labels
abbrev rows_by : Plan → List Open → List (Event × Option (List ℕ)) → List RowView
rows_by plan frames [] = []
rows_by plan frames (e ∷ rest) = rows_told plan frames e.0 ++ rows_by plan (after e.1 frames e.0) rest

abbrev call : ℕ → Option (List ℕ) → Event × Option (List ℕ)
call unit label = (Call (record { «module» = 0; unit = unit }), label)

abbrev line : ℕ → Event × Option (List ℕ)
line l = (Line l, None)

abbrev end : Event × Option (List ℕ)
end = (Return, None)

abbrev arc : ℤ → ℤ → Arc
arc from to = (from, to)

-- a unit of `p.py`, loaded as `__main__`
abbrev unit : Text → ℕ → Named
unit function first = record { path = codes "p.py"; «module» = codes "__main__"; function = function; first = first }

abbrev row : Text → ℤ → ℤ → RowView
row context from to = one_row (codes "p.py") context (from, to)

-- ---- Hook and plugin: `test_a` in line 1 and `test_b` in line 3 are called twice each

abbrev tests : Plan
tests = plan_of ((unit [] 1 ∷ unit (codes "test_a") 1 ∷ unit (codes "test_b") 3 ∷ []) ∷ [])
    ((arc (negsuc 2) (pos 4) ∷ arc (negsuc 0) (pos 1) ∷ arc (negsuc 0) (pos 2) ∷ arc (pos 1) (pos 3) ∷ arc (pos 2) (negsuc 0) ∷ arc (pos 3) (pos 5) ∷ arc (pos 4) (negsuc 2) ∷ arc (pos 5) (pos 6) ∷ arc (pos 6) (pos 7) ∷ arc (pos 7) (pos 8) ∷ arc (pos 8) (negsuc 0) ∷ []) ∷ [])
    true []

abbrev tests_events : List (Event × Option (List ℕ))
tests_events =
    call 0 None ∷ line 1 ∷ line 3
    ∷ line 5 ∷ call 1 (Some (codes "h1")) ∷ line 2 ∷ end
    ∷ line 6 ∷ call 2 (Some (codes "h2")) ∷ line 4 ∷ end
    ∷ line 7 ∷ call 1 (Some (codes "__main__.test_a")) ∷ line 2 ∷ end
    ∷ line 8 ∷ call 2 (Some (codes "__main__.test_b")) ∷ line 4 ∷ end
    ∷ end ∷ []

hook_and_plugin_told : rows_by tests [] tests_events
    ≡ row [] (negsuc 0) (pos 1) ∷ row [] (pos 1) (pos 3)
    ∷ row [] (pos 3) (pos 5) ∷ row (codes "h1") (negsuc 0) (pos 2) ∷ row (codes "h1") (pos 2) (negsuc 0)
    ∷ row [] (pos 5) (pos 6) ∷ row (codes "h2") (negsuc 2) (pos 4) ∷ row (codes "h2") (pos 4) (negsuc 2)
    ∷ row [] (pos 6) (pos 7) ∷ row (codes "__main__.test_a") (negsuc 0) (pos 2) ∷ row (codes "__main__.test_a") (pos 2) (negsuc 0)
    ∷ row [] (pos 7) (pos 8) ∷ row (codes "__main__.test_b") (negsuc 2) (pos 4) ∷ row (codes "__main__.test_b") (pos 4) (negsuc 2)
    ∷ row [] (pos 8) (negsuc 0) ∷ []
unfolding lib.Utf8.encode
hook_and_plugin_told = refl

-- ---- A static context: it stands in front of a label

abbrev under_ci : Plan
under_ci = record tests { fixed = codes "ci" }

static_context_told : rows_by under_ci [] (call 0 None ∷ line 1 ∷ call 1 (Some (codes "h1")) ∷ line 2 ∷ end ∷ [])
    ≡ row (codes "ci") (negsuc 0) (pos 1) ∷ row (codes "ci|h1") (negsuc 0) (pos 2) ∷ row (codes "ci|h1") (pos 2) (negsuc 0) ∷ []
unfolding lib.Utf8.encode
static_context_told = refl

-- ---- Handlers: the exception of line 2 is caught in line 5, and the arc `2 3` isn't in the set

abbrev handlers : Plan
handlers = plan_of ((unit [] 1 ∷ []) ∷ [])
    ((arc (negsuc 0) (pos 1) ∷ arc (pos 1) (pos 2) ∷ arc (pos 3) (pos 5) ∷ arc (pos 5) (pos 6) ∷ arc (pos 6) (pos 7) ∷ arc (pos 7) (negsuc 0) ∷ []) ∷ [])
    true []

handlers_told : rows_by handlers [] (call 0 None ∷ line 1 ∷ line 2 ∷ (Throw ZeroDivisionError, None) ∷ line 3 ∷ line 5 ∷ line 6 ∷ line 7 ∷ end ∷ [])
    ≡ row [] (negsuc 0) (pos 1) ∷ row [] (pos 1) (pos 2) ∷ row [] (pos 3) (pos 5) ∷ row [] (pos 5) (pos 6) ∷ row [] (pos 6) (pos 7) ∷ row [] (pos 7) (negsuc 0) ∷ []
handlers_told = refl

-- ---- One-line loop, as line data: line 2 is told four times. Lines 0, 3 and 70000 aren't told

abbrev loop : Plan
loop = plan_of ((unit [] 1 ∷ []) ∷ []) ((arc (negsuc 0) (pos 1) ∷ arc (pos 1) (pos 2) ∷ arc (pos 2) (negsuc 0) ∷ arc (pos 2) (pos 2) ∷ []) ∷ []) false []

abbrev loop_events : List (Event × Option (List ℕ))
loop_events = call 0 None ∷ line 1 ∷ line 2 ∷ line 0 ∷ line 2 ∷ line 70000 ∷ line 2 ∷ line 3 ∷ line 2 ∷ end ∷ []

loop_told : rows_by loop [] loop_events ≡ row [] (pos 1) (pos 1) ∷ row [] (pos 2) (pos 2) ∷ row [] (pos 2) (pos 2) ∷ row [] (pos 2) (pos 2) ∷ row [] (pos 2) (pos 2) ∷ []
loop_told = refl

loop_counted : count_by (is_row (codes "p.py") [] (pos 2) (pos 2)) (rows_by loop [] loop_events) ≡ 4
loop_counted = refl

-- ---- Code outside the table begins a frame that tells nothing; an event outside all frames too

outside_told : rows_by loop [] (line 1 ∷ end ∷ call 7 None ∷ line 2 ∷ end ∷ call 0 None ∷ line 1 ∷ [])
    ≡ row [] (pos 1) (pos 1) ∷ []
outside_told = refl

paths_of_bodies : all_paths tests (Call (record { «module» = 0; unit = 1 }) ∷ Call (record { «module» = 0; unit = 0 }) ∷ Call (record { «module» = 3; unit = 0 }) ∷ []) ≡ codes "p.py" ∷ []
paths_of_bodies = refl
