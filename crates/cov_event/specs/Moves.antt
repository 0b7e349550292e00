-- Events, one after another.
use Rattle.std.specs.Prelude.{◌≡◌, Bool, List, [], ◌∷◌}
use Rattle.std.specs.Bool.{MatchBool}
use Rattle.cov_event.specs.declared.event.Event.{Event}

-- these events, each of them taken, lead a tracer from the old state to the new one
abbrev pub Takes : {T : Type 0} → (T → Event → T → Type 0) → T → List Event → T → Type 0
Takes moves old [] new = new ≡ old
Takes {T} moves old (event ∷ events) new =
    (mid : T) × moves old event mid × Takes moves mid events new

-- so do calls with these events, of which those with `true` were taken, and the others refused
abbrev pub Calls : {T : Type 0} → (T → Event → T → Type 0) → (T → Event → T → Type 0) → T
    → List (Event × Bool) → T → Type 0
Calls moves refused old [] new = new ≡ old
Calls {T} moves refused old (call ∷ calls) new =
    (mid : T) × MatchBool call.1 (moves old call.0 mid) (refused old call.0 mid)
    × Calls moves refused mid calls new
