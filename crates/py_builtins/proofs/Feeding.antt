-- Reads, and the bytes that they took.
use Rattle.std.proofs.Common.{ℕ, List, [], ◌∷◌, ◌++◌, Option, Some, None, refl, subst}
use Rattle.py_builtins.specs.Inputs.{Fed, AreBytes, AsksOnce, OnReads}

-- the answers of reads that took these bytes, and of the reads before
abbrev pub after_bytes : List (Option ℕ) → List ℕ → List (Option ℕ)
after_bytes reads [] = reads
after_bytes reads (b ∷ bs) = after_bytes (Some b ∷ reads) bs

pub fed_bytes : (reads : List (Option ℕ)) (bs all rest : List ℕ) → Fed reads all (bs ++ rest) → Fed (after_bytes reads bs) all rest
fed_bytes reads [] all rest h = h
fed_bytes reads (b ∷ bs) all rest h = fed_bytes (Some b ∷ reads) bs all rest h

pub bytes_fed : (reads : List (Option ℕ)) (bs all rest : List ℕ) → Fed (after_bytes reads bs) all rest → Fed reads all (bs ++ rest)
bytes_fed reads [] all rest h = h
bytes_fed reads (b ∷ bs) all rest h = bytes_fed (Some b ∷ reads) bs all rest h

pub all_bytes : (reads : List (Option ℕ)) (bs : List ℕ) → AreBytes reads → AreBytes (after_bytes reads bs)
all_bytes reads [] h = h
all_bytes reads (b ∷ bs) h = all_bytes (Some b ∷ reads) bs h

pub asks_once : (reads : List (Option ℕ)) → AreBytes reads → AsksOnce reads
asks_once [] h = tt
asks_once (Some b ∷ reads) h = h
asks_once (None ∷ reads) h = absurd h

-- the reads of two calls, one after the other
pub fed_then : (old new : List (Option ℕ)) (all mid rest : List ℕ) → Fed old all mid → Fed new mid rest → Fed (new ++ old) all rest
fed_then old [] all mid rest f g = subst (λ xs. Fed old all xs) g f
fed_then old (Some b ∷ new) all mid rest f g = fed_then old new all mid (b ∷ rest) f g
fed_then old (None ∷ new) all mid rest f g = (g.0, fed_then old new all mid rest f g.1)

pub fed_apart : (old new : List (Option ℕ)) (all rest : List ℕ) → Fed (new ++ old) all rest → (mid : List ℕ) × Fed old all mid × Fed new mid rest
fed_apart old [] all rest f = (rest, f, refl)
fed_apart old (Some b ∷ new) all rest f = fed_apart old new all (b ∷ rest) f
fed_apart old (None ∷ new) all rest f = let t = fed_apart old new all rest f.1 in (t.0, t.1, (f.0, t.2))

-- what follows of every such input
pub on_reads : (tells : Type 0) (before after : List ℕ) (P Q : List ℕ → List ℕ → Type 0) → ((all rest : List ℕ) → P all rest → Q all rest) → OnReads tells before after P → OnReads tells before after Q
on_reads tells before after P Q f h = record {
  heard = h.heard;
  input = h.input;
  rest = h.rest;
  once = h.once;
  fed = h.fed;
  told = h.told;
  holds = λ all rest fed. f all rest (h.holds all rest fed);
}
