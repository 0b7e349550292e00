-- Objects that answer calls.
--     Moves           a call and its answer lead from one state to another
--     nobody          nothing is called
--     beside          two objects, of which either answers
use Rattle.std.specs.Prelude.{◌≡◌, ◌⊎◌}

-- which answers an object may give to a call, from one state to another
abbrev pub Moves : (C : Type 0) → (C → Type 0) → Type 0 → Type 1
Moves C Answer W = W → (call : C) → Answer call → W → Type 0

-- no object, which answers nothing
abbrev pub nobody : (C : Type 0) (Answer : C → Type 0) → Moves C Answer (Unit {0})
nobody C Answer old call answer new = ⊥

-- two objects: one answers, and the other stays as it was
abbrev pub beside : {C : Type 0} {Answer : C → Type 0} {U V : Type 0} → Moves C Answer U
    → Moves C Answer V → Moves C Answer (U × V)
beside left right old call answer new =
    (left old.0 call answer new.0 × (new.1 ≡ old.1))
    ⊎ (right old.1 call answer new.1 × (new.0 ≡ old.0))
