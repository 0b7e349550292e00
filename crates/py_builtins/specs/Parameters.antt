-- The values of a function's parameters in a call, and the frames on each other (Python Language
-- Reference, 6.3.4 and 8.7).
use Rattle.std.specs.Prelude.{ℕ, ◌+◌, ◌-◌, nat_le, ◌&&◌, if◌then◌else◌, List, [], ◌++◌, length, drop, Option, Some, None, ◌∷◌}
use Rattle.py_value.specs.Heaps.{list_items}
use Rattle.py_value.specs.Plain.{PlainValue, PlainHeap, list_at}
use Rattle.py_builtins.specs.World.{Names}

-- at most so many frames stand on each other
abbrev pub most_frames : ℕ
most_frames = 1000

-- the values of the parameters: those given, and for the last ones the defaults; none where they
-- don't fit
abbrev pub arguments : List (List ℕ) → List PlainValue → List PlainValue → Option (List PlainValue)
arguments params defaults vs =
    if nat_le (length params) (length vs + length defaults) && nat_le (length vs) (length params)
    then Some (vs ++ drop (length vs + length defaults - length params) defaults) else None

-- the defaults of a function, which stand in a list
abbrev pub defaults_at : PlainHeap → Option ℕ → List PlainValue
defaults_at h None = []
defaults_at h (Some a) = list_items h a

-- the address of a list
abbrev pub address_of : PlainValue → Option ℕ
address_of (list_at a) = Some a
address_of v = None

-- the parameters with their values
abbrev pub parameters : List (List ℕ) → List PlainValue → Names
parameters [] vs = []
parameters (x ∷ xs) [] = []
parameters (x ∷ xs) (v ∷ vs) = (x, v) ∷ parameters xs vs
