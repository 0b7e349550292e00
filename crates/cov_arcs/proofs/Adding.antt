-- An arc more in one set of several.
use Rattle.std.proofs.Common.{◌≡◌, ℕ, zero, suc, ◌<◌, ◌≤◌, ℤ, List, [], ◌∷◌, length, map, set, get_or, refl, ap, ◌∙◌, arith}
use Rattle.std.specs.BTreeSet.{BTreeSet, insert_key}
use Rattle.py_meaning.specs.Crossings.{by_lines}
use Rattle.cov_arcs.specs.Tracing.{with_arc}

abbrev pub listed : List (BTreeSet (ℤ × ℤ)) → List (List (ℤ × ℤ))
listed sets = map (λ s. s.keys) sets

pub put-added : (sets : List (BTreeSet (ℤ × ℤ))) (m : ℕ) → m < length sets → (old new : BTreeSet (ℤ × ℤ)) → old ≡ get_or sets m old → (a : ℤ × ℤ) → new.keys ≡ insert_key by_lines old.keys a
    → listed (set sets m new) ≡ with_arc (listed sets) m a
unfolding with_arc
put-added [] m h old new is a e = absurd (omega (arith, h))
put-added (s ∷ sets) zero h old new is a e = ap (λ w. w ∷ listed sets) (e ∙ ap (λ w. insert_key by_lines w.keys a) is)
put-added (s ∷ sets) (suc m) h old new is a e = ap (λ w. s.keys ∷ w) (put-added sets m (omega (arith, h)) old new is a e)

pub put-same : (sets : List (BTreeSet (ℤ × ℤ))) (m : ℕ) → m < length sets → (old new : BTreeSet (ℤ × ℤ)) → old ≡ get_or sets m old → new.keys ≡ old.keys → listed (set sets m new) ≡ listed sets
put-same [] m h old new is e = absurd (omega (arith, h))
put-same (s ∷ sets) zero h old new is e = ap (λ w. w ∷ listed sets) (e ∙ ap (λ (w : BTreeSet (ℤ × ℤ)). w.keys) is)
put-same (s ∷ sets) (suc m) h old new is e = ap (λ w. s.keys ∷ w) (put-same sets m (omega (arith, h)) old new is e)

pub no-module : (sets : List (BTreeSet (ℤ × ℤ))) (m : ℕ) → length sets ≤ m → (a : ℤ × ℤ) → listed sets ≡ with_arc (listed sets) m a
unfolding with_arc
no-module [] m h a = refl
no-module (s ∷ sets) zero h a = absurd (omega (arith, h))
no-module (s ∷ sets) (suc m) h a = ap (λ w. s.keys ∷ w) (no-module sets m (omega (arith, h)) a)
