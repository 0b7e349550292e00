-- The arcs that the events of runs tell, computed.
use Rattle.std.proofs.Common.{◌≡◌, ℕ, List, [], ◌∷◌, ℤ, pos, negsuc, refl}
use Rattle.cov_event.specs.declared.event.Event.{Event}
use Rattle.cov_event.specs.declared.event.Event.TheVariants.{Call, Line, Return}
use Rattle.py_meaning.proofs.ExceptionRows.{two_returns_source, handlers_source, uncaught_source}
use Rattle.py_meaning.proofs.RunRows.{first_run_source, endless_loop_source}
use Rattle.py_meaning.proofs.Sources.{runs, run_in, alone, program}
use Rattle.py_meaning.specs.Crossings.{ordered}
use Rattle.py_meaning.specs.Events.{events_in}
use Rattle.py_meaning.specs.Loading.{loaded}
use Rattle.py_syntax.specs.Tree.{Stmts}
use Rattle.cov_arcs.specs.Laws.{firsts_of}
use Rattle.cov_arcs.specs.Told.{arcs_told}

unit : ℕ → Event
unit u = Call (record { «module» = 0; unit = u })

-- the events of a run of a script, and the arcs that they tell
abbrev events_of : Stmts → ℕ → List Event
events_of source budget = events_in (run_in (alone source) budget).items

abbrev firsts : Stmts → List (List ℕ)
firsts source = firsts_of (loaded (program (alone source)))

abbrev arcs_of : List (List ℕ) → List Event → List (ℤ × ℤ)
arcs_of table events = ordered [] (arcs_told table 0 [] events)

-- First run
first_run_told : arcs_of (firsts first_run_source) (events_of first_run_source 100) ≡ (negsuc 0, pos 1) ∷ (pos 1, pos 2) ∷ (pos 2, pos 3) ∷ (pos 3, negsuc 0) ∷ []
unfolding runs arcs_told ordered
first_run_told = refl

-- Two returns: `def f` in line 2 is called in line 7
abbrev two_returns_events : List Event
two_returns_events = Call (record { «module» = 0; unit = 0 }) ∷ Line 1 ∷ Line 2 ∷ Line 7 ∷ Call (record { «module» = 0; unit = 1 }) ∷ Line 3 ∷ Line 4 ∷ Line 6 ∷ Return ∷ Return ∷ []

two_returns_happen : events_of two_returns_source 100 ≡ two_returns_events
unfolding runs
two_returns_happen = refl

two_returns_told : arcs_of ((1 ∷ 2 ∷ []) ∷ []) two_returns_events ≡ (negsuc 1, pos 3) ∷ (negsuc 0, pos 1) ∷ (pos 1, pos 2) ∷ (pos 2, pos 7) ∷ (pos 3, pos 4) ∷ (pos 4, pos 6) ∷ (pos 6, negsuc 1) ∷ (pos 7, negsuc 0) ∷ []
unfolding arcs_told ordered
two_returns_told = refl

-- Handlers: the exception of line 2 is caught in line 5
handlers_told : arcs_of (firsts handlers_source) (events_of handlers_source 100) ≡ (negsuc 0, pos 1) ∷ (pos 1, pos 2) ∷ (pos 2, pos 3) ∷ (pos 3, pos 5) ∷ (pos 5, pos 6) ∷ (pos 6, pos 7) ∷ (pos 7, negsuc 0) ∷ []
unfolding runs arcs_told ordered
handlers_told = refl

-- Uncaught: an exception leaves three frames
uncaught_told : arcs_of (firsts uncaught_source) (events_of uncaught_source 100)
    ≡ (negsuc 2, pos 4) ∷ (negsuc 0, pos 1) ∷ (negsuc 0, pos 2) ∷ (pos 1, pos 3) ∷ (pos 2, negsuc 0) ∷ (pos 3, pos 5) ∷ (pos 4, negsuc 2) ∷ (pos 5, negsuc 0) ∷ []
unfolding runs arcs_told ordered
uncaught_told = refl

-- Endless loop: the run is cut, and its last arc isn't closed
endless_loop_told : arcs_of (firsts endless_loop_source) (events_of endless_loop_source 5) ≡ (negsuc 0, pos 1) ∷ (pos 1, pos 2) ∷ (pos 2, pos 1) ∷ []
unfolding runs arcs_told ordered
endless_loop_told = refl
