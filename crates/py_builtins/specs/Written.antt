-- How writing comes out in the code.
use Rattle.std.specs.Prelude.{◌≡◌, ℕ, zero, suc, nat_lt, Bool, true, ◌&&◌, List, [], ◌∷◌, Result, Ok, Err, codes}
use Rattle.py_builtins.specs.declared.writer.Stop.{Stop}
use Rattle.py_builtins.specs.declared.writer.Stop.TheVariants.{Raises, NoMemory}
use Rattle.py_builtins.specs.Writing.{Writing, whole, ◌▸◌, answer_of}

-- the answer is settled, whatever would follow; want of memory settles nothing
abbrev pub Settles : Stop → Writing → Type 0
Settles (Raises cause) w = (rest : Writing) → answer_of (w ▸ rest) ≡ Err cause
Settles NoMemory w = Unit {0}

-- what was to be written after a text stands there now, or the answer is settled
abbrev pub IsWritten : Result (Unit {0}) Stop → List ℕ → List ℕ → Writing → Type 0
IsWritten (Ok u) before now w = whole before ▸ w ≡ whole now
IsWritten (Err stop) before now w = Settles stop (whole before ▸ w)

-- the mark in front of the item at a place
abbrev pub separator : ℕ → List ℕ
separator zero = []
separator (suc i) = codes ", "

-- whether all characters are ASCII
abbrev pub are_ascii : List ℕ → Bool
are_ascii [] = true
are_ascii (c ∷ cs) = nat_lt c 128 && are_ascii cs
