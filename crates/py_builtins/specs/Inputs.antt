-- What a call read, byte by byte, and what this says of the input, its answer and its output.
--     Fed, AsksOnce     what the answers of reads say of the input, and that its end is asked for
--                       once at most
--     OnReads           what holds of every input that gives the answers which were read
--     Gives, Wrote      what a call of the table gives and writes, and what it leaves of the input
use Rattle.std.specs.Prelude.{◌≡◌, ℕ, List, [], ◌∷◌, ◌++◌, Option, Some, None}
use Rattle.py_builtins.specs.Arguments.{Answer}
use Rattle.py_builtins.specs.Builtins.{Done}

-- reads that gave these answers, the newest in front, lead from all bytes to the rest of them: each
-- byte was the next one, and none is the end of the input
abbrev pub Fed : List (Option ℕ) → List ℕ → List ℕ → Type 0
Fed [] all rest = all ≡ rest
Fed (Some b ∷ reads) all rest = Fed reads all (b ∷ rest)
Fed (None ∷ reads) all rest = (rest ≡ []) × Fed reads all rest

-- each of these answers is a byte
abbrev pub AreBytes : List (Option ℕ) → Type 0
AreBytes [] = Unit {0}
AreBytes (Some b ∷ reads) = AreBytes reads
AreBytes (None ∷ reads) = ⊥

-- a source that was at its end isn't read again: only the newest answer may be the end
abbrev pub AsksOnce : List (Option ℕ) → Type 0
AsksOnce [] = Unit {0}
AsksOnce (answer ∷ reads) = AreBytes reads

-- It holds of every input that gives the answers which were read, and of what this input has left
-- then. There is such an input, and the bytes of a source that tells them are one.
pub record OnReads (tells : Type 0) (before after : List ℕ)
    (P : List ℕ → List ℕ → Type 0) : Type 0 where
  pub heard : List (Option ℕ)
  pub input : List ℕ
  pub rest : List ℕ
  pub once : AsksOnce heard
  pub fed : Fed heard input rest
  pub told : tells → (input ≡ before) × (rest ≡ after)
  pub holds : (all rest : List ℕ) → Fed heard all rest → P all rest

-- these bytes were written, where the sink tells
abbrev pub Wrote : Type 0 → List ℕ → List ℕ → List ℕ → Type 0
Wrote tells before after bytes = tells → after ≡ before ++ bytes

-- the call answers so, its bytes were written, and it leaves this rest
abbrev pub Gives : Done → Answer → (List ℕ → Type 0) → List ℕ → Type 0
Gives done answer wrote rest = (answer ≡ done.answer) × wrote done.written × (rest ≡ done.left)
