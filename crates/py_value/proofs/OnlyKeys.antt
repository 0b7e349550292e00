-- Pairs whose keys may be keys, as the code changes them.
use Rattle.std.proofs.Common.{◌≡◌, ℕ, zero, suc, Bool, true, false, ◌&&◌, cond, IsTrue, List, [], ◌∷◌, ◌++◌, map, get_or, refl, ap, ◌∙◌}
use Rattle.std.proofs.Math.ListN.{set}
use Rattle.std.proofs.lemmas.List.{map-append}
use Rattle.std.specs.List.{remove}
use Rattle.py_value.specs.declared.pairs.Pair.{Pair}
use Rattle.py_value.specs.declared.value.Value.{Value}
use Rattle.py_value.specs.Plain.{PlainValue}
use Rattle.py_value.specs.View.{plain}
use Rattle.py_value.specs.Pairs.{plain_pair}
use Rattle.py_value.specs.Keys.{is_key, has_only_keys}
use Rattle.py_value.proofs.DistinctKeys.{revalued}
use Rattle.py_text.proofs.TestLaws.{both_true, first_true, second_true}

-- a pair with a key at the end
only-append : (ps : List (PlainValue × PlainValue)) (r : PlainValue × PlainValue) → IsTrue (has_only_keys ps) → IsTrue (is_key r.0) → IsTrue (has_only_keys (ps ++ r ∷ []))
only-append [] r h k = both_true (is_key r.0) true k refl
only-append (p ∷ ps) r h k = both_true (is_key p.0) _ (first_true (is_key p.0) _ h) (only-append ps r (second_true (is_key p.0) _ h) k)

-- the code's push, which may find no memory
pub only-pushed : (b : Bool) (ps : List Pair) (r : Pair) → IsTrue (has_only_keys (map plain_pair ps)) → IsTrue (is_key (plain r.key)) → IsTrue (has_only_keys (map plain_pair (cond b (ps ++ r ∷ []) ps)))
only-pushed true ps r h k = ap has_only_keys (map-append plain_pair ps (r ∷ [])) ∙ only-append (map plain_pair ps) (plain_pair r) h k
only-pushed false ps r h k = h

-- one value replaced
pub only-set : (ps : List Pair) (i : ℕ) (o : Pair) (v : Value) → o ≡ get_or ps i o → has_only_keys (map plain_pair (set ps i (revalued o v))) ≡ has_only_keys (map plain_pair ps)
only-set [] i o v e = refl
only-set (p ∷ ps) zero o v e = ap (λ (q : Pair). is_key (plain q.key) && has_only_keys (map plain_pair ps)) e
only-set (p ∷ ps) (suc i) o v e = ap (λ b. is_key (plain p.key) && b) (only-set ps i o v e)

-- one pair removed
pub only-remove : (ps : List (PlainValue × PlainValue)) (i : ℕ) → IsTrue (has_only_keys ps) → IsTrue (has_only_keys (remove ps i))
only-remove [] zero h = refl
only-remove [] (suc i) h = refl
only-remove (p ∷ ps) zero h = second_true (is_key p.0) _ h
only-remove (p ∷ ps) (suc i) h = both_true (is_key p.0) _ (first_true (is_key p.0) _ h) (only-remove ps i (second_true (is_key p.0) _ h))
