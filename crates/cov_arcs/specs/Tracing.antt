-- What a tracer of arcs keeps, and how an event changes it.
--     Tracing           the first lines of the units, the open frames and the arcs of each module
--     at_first          before the first event
--     next, IsNext      after one more
--     TracingLaw        the arcs after a list of events
use Rattle.std.specs.Prelude.{◌≡◌, ℕ, zero, suc, ◌<◌, List, [], ◌∷◌, length, replicate, ℤ, Option, Some, None, slice_get}
use Rattle.std.specs.BTreeSet.{insert_key}
use Rattle.cov_event.specs.declared.event.Event.{Event}
use Rattle.cov_event.specs.Moves.{Takes}
use Rattle.py_meaning.specs.Crossings.{by_lines, ordered}
use Rattle.cov_arcs.specs.declared.frames.Frame.{Frame}
use Rattle.cov_arcs.specs.Told.{after, closed, arcs_told}

-- The innermost frame is in front, and the arcs of each module are in order.
pub record Tracing : Type 0 where
  pub firsts : List (List ℕ)
  pub frames : List Frame
  pub arcs : List (List (ℤ × ℤ))

-- no open frame, and no arc in any module of the table
abbrev pub at_first : List (List ℕ) → Tracing
at_first firsts = record { firsts = firsts; frames = []; arcs = replicate (length firsts) [] }

-- the arcs of each module, with one more in the module of this number, where there is that module
unfoldable pub with_arc : List (List (ℤ × ℤ)) → ℕ → ℤ × ℤ → List (List (ℤ × ℤ))
with_arc [] m a = []
with_arc (arcs ∷ rest) zero a = insert_key by_lines arcs a ∷ rest
with_arc (arcs ∷ rest) (suc m) a = arcs ∷ with_arc rest m a

-- with the arc that was closed
abbrev pub with_closed : List (List (ℤ × ℤ)) → Option (ℕ × (ℤ × ℤ)) → List (List (ℤ × ℤ))
with_closed arcs None = arcs
with_closed arcs (Some a) = with_arc arcs a.0 a.1

-- after one more event
abbrev pub next : Tracing → Event → Tracing
next t event = record {
  firsts = t.firsts;
  frames = after t.firsts t.frames event;
  arcs = with_closed t.arcs (closed t.frames event);
}

-- as a relation of two states
abbrev pub IsNext : Tracing → Event → Tracing → Type 0
IsNext old event new = new ≡ next old event

-- What is kept after events, in each module of the table, are the arcs that they told, and those
-- that were kept before them.
pub record TracingLaw : Type 0 where
  pub from_first : (firsts : List (List ℕ)) (events : List Event) (new : Tracing) →
      Takes IsNext (at_first firsts) events new → (m : ℕ) → m < length firsts →
      slice_get new.arcs m ≡ Some (ordered [] (arcs_told firsts m [] events))
  pub from_any : (old : Tracing) (events : List Event) (new : Tracing) →
      Takes IsNext old events new → (m : ℕ) (found : List (ℤ × ℤ)) →
      slice_get old.arcs m ≡ Some found →
      slice_get new.arcs m ≡ Some (ordered found (arcs_told old.firsts m old.frames events))
