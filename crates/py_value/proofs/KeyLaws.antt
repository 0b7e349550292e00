-- Keys that are the same.
use Rattle.std.proofs.Common.{◌≡◌, ◌≢◌, ℕ, Bool, true, false, ◌&&◌, nat_eq, IsTrue, List, [], ◌∷◌, length, refl, ap, sym, ◌∙◌, arith}
use Rattle.std.proofs.lemmas.Bool.{eqb-true, eq-eqb}
use Rattle.py_value.specs.declared.value.Value.{Value}
use Rattle.py_value.specs.Plain.{packed}
use Rattle.py_value.specs.View.{plain, plains}
use Rattle.py_text.proofs.TestLaws.{both_true, first_true, second_true}
use Rattle.py_value.specs.Keys.{is_same_text, is_same_key, are_same_keys}

-- tuples of different lengths
pub other_length : (vs ws : List Value) → length vs ≢ length ws → are_same_keys (packed (plains vs)) (packed (plains ws)) ≡ false
other_length [] [] h = absurd (h refl)
other_length [] (w ∷ ws) h = refl
other_length (v ∷ vs) [] h = refl
other_length (v ∷ vs) (w ∷ ws) h = and_false (is_same_key (plain v) (plain w)) _ (other_length vs ws (λ e. h (omega (arith, e))))
  where
    and_false : (a b : Bool) → b ≡ false → (a && b) ≡ false
    and_false true b e = e
    and_false false b e = refl
