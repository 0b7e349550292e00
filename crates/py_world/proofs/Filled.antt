-- The values of parameters.
use Rattle.std.proofs.Common.{◌≡◌, ℕ, ◌+◌, ◌-◌, ◌<◌, ◌≤◌, List, ◌++◌, length, drop, Some, None, Bool, true, false, refl, ap, ◌∙◌, arith}
use Rattle.std.specs.Prelude.{nat_le, ◌&&◌, if◌then◌else◌}
use Rattle.std.proofs.lemmas.Bool.Decides.{nat_tests}
use Rattle.py_value.specs.Plain.{PlainValue}
use Rattle.py_builtins.specs.Parameters.{arguments}

le_true : (a b : ℕ) → a ≤ b → nat_le a b ≡ true
le_true a b h = grind (arith, nat_tests)

le_false : (a b : ℕ) → b < a → nat_le a b ≡ false
le_false a b h = grind (arith, nat_tests)

second_false : (a : Bool) → (a && false) ≡ false
second_false true = refl
second_false false = refl

pub too_many : (params : List (List ℕ)) (defaults vs : List PlainValue) → length params < length vs → arguments params defaults vs ≡ None
too_many params defaults vs lt =
    ap (λ b. if nat_le (length params) (length vs + length defaults) && b then Some (vs ++ drop (length vs + length defaults - length params) defaults) else None) (le_false (length vs) (length params) lt)
    ∙ ap (λ b. if b then Some (vs ++ drop (length vs + length defaults - length params) defaults) else None) (second_false (nat_le (length params) (length vs + length defaults)))

pub too_few : (params : List (List ℕ)) (defaults vs : List PlainValue) → length vs + length defaults < length params → arguments params defaults vs ≡ None
too_few params defaults vs lt =
    ap (λ b. if b && nat_le (length vs) (length params) then Some (vs ++ drop (length vs + length defaults - length params) defaults) else None) (le_false (length params) (length vs + length defaults) lt)

pub enough : (params : List (List ℕ)) (defaults vs : List PlainValue) (first : ℕ) → length vs ≤ length params → length params ≤ length vs + length defaults
    → length vs + length defaults - length params ≡ first → arguments params defaults vs ≡ Some (vs ++ drop first defaults)
enough params defaults vs first le ge e =
    ap (λ b. if b && nat_le (length vs) (length params) then Some (vs ++ drop (length vs + length defaults - length params) defaults) else None) (le_true (length params) (length vs + length defaults) ge)
    ∙ ap (λ b. if b then Some (vs ++ drop (length vs + length defaults - length params) defaults) else None) (le_true (length vs) (length params) le)
    ∙ ap (λ k. Some (vs ++ drop k defaults)) e
