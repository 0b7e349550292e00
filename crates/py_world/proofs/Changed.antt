-- Numbers that are added and taken away.
use Rattle.std.proofs.Common.{◌≡◌, ℕ, zero, suc, List, [], ◌∷◌, ◌++◌, Some, None, refl, sym, ap, ◌∙◌}
use Rattle.std.specs.Prelude.{slice_get, remove}
use Rattle.py_builtins.specs.World.{Names}
use Rattle.py_world.specs.Numbered.{Named, Numbered, set_then, named_then, listed}
use Rattle.py_world.proofs.Listed.{listed_none, listed_next, named_append}

-- a number at the end
pub listed_push : (es : Numbered) (n : ℕ) (e : Named) (ms : List ℕ) → slice_get es n ≡ Some e → listed es (ms ++ n ∷ []) ≡ listed es ms ++ set_then e.0 e.1 []
listed_push es n e [] at = listed_next es n [] ∙ ap (λ o. named_then o (listed es [])) at ∙ ap (set_then e.0 e.1) (listed_none es) ∙ ap (λ ns. ns ++ set_then e.0 e.1 []) (sym (listed_none es))
listed_push es n e (m ∷ ms) at =
    listed_next es m (ms ++ n ∷ [])
    ∙ ap (named_then (slice_get es m)) (listed_push es n e ms at)
    ∙ named_append (slice_get es m) (listed es ms) (set_then e.0 e.1 [])
    ∙ ap (λ ns. ns ++ set_then e.0 e.1 []) (sym (listed_next es m ms))

-- the number of a name that isn't set, away
pub listed_remove : (es : Numbered) (n : ℕ) (x : List ℕ) (p : ℕ) (ms : List ℕ) → slice_get es n ≡ Some (x, None) → slice_get ms p ≡ Some n → listed es (remove ms p) ≡ listed es ms
listed_remove es n x p [] at there = absurd cc
listed_remove es n x zero (m ∷ ms) at there =
    let same : m ≡ n = cc in sym (listed_next es m ms ∙ ap (λ o. named_then o (listed es ms)) (ap (slice_get es) same ∙ at))
listed_remove es n x (suc p) (m ∷ ms) at there = listed_next es m (remove ms p) ∙ ap (named_then (slice_get es m)) (listed_remove es n x p ms at there) ∙ sym (listed_next es m ms)

-- a new name that isn't set
named_more : (es : Numbered) (x : List ℕ) (ns : Names) (m : ℕ) → named_then (slice_get (es ++ (x, None) ∷ []) m) ns ≡ named_then (slice_get es m) ns
named_more [] x ns zero = refl
named_more [] x ns (suc m) = refl
named_more (e ∷ es) x ns zero = refl
named_more (e ∷ es) x ns (suc m) = named_more es x ns m

pub listed_more : (es : Numbered) (x : List ℕ) (ms : List ℕ) → listed (es ++ (x, None) ∷ []) ms ≡ listed es ms
listed_more es x [] = listed_none (es ++ (x, None) ∷ []) ∙ sym (listed_none es)
listed_more es x (m ∷ ms) =
    listed_next (es ++ (x, None) ∷ []) m ms
    ∙ named_more es x (listed (es ++ (x, None) ∷ []) ms) m
    ∙ ap (named_then (slice_get es m)) (listed_more es x ms)
    ∙ sym (listed_next es m ms)
