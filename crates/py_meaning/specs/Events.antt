-- The events of an activation, in order: it is called, its lines begin, exceptions are thrown, and
-- it returns.
use Rattle.std.specs.Prelude.{ℕ, Bool, true, false, List, [], ◌∷◌, ◌++◌}
use Rattle.cov_event.specs.declared.event.Event.{Event}
use Rattle.cov_event.specs.declared.event.Event.TheVariants.{Call, Line, Throw, Return}
use Rattle.py_meaning.specs.Activations.{Activation, activation, Items, no_items, more, mark, again, throw, sub, is_kept}

-- Events come after those that came before.
abbrev pub line_unless : Bool → ℕ → List Event → List Event
line_unless true l events = events
line_unless false l events = events ++ Line l ∷ []

-- with a return, where an activation ended
abbrev pub return_if : Bool → List Event → List Event
return_if true events = events ++ Return ∷ []
return_if false events = events

unfoldable mutual
  -- the events of these items
  pub told : List Event → Items → List Event
  told events no_items = events
  told events (more before (mark l)) = line_unless (is_kept l before) l (told events before)
  told events (more before (again l)) = told events before ++ Line l ∷ []
  told events (more before (throw kind)) = told events before ++ Throw kind ∷ []
  told events (more before (sub a)) = told_of (told events before) a

  -- those of an activation
  pub told_of : List Event → Activation → List Event
  told_of events (activation code items ended) =
      return_if ended (told (events ++ Call code ∷ []) items)

-- the events of an activation
abbrev pub events_of : Activation → List Event
events_of a = told_of [] a

-- those of what happened in a run
abbrev pub events_in : Items → List Event
events_in items = told [] items
