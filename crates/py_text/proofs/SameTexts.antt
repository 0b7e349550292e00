-- Texts that are the same.
use Rattle.std.proofs.Common.{◌≡◌, ℕ, Bool, true, false, nat_eq, IsTrue, List, [], ◌∷◌, refl, ap, sym, ◌∙◌}
use Rattle.std.proofs.lemmas.Bool.{eqb-true, eq-eqb}
use Rattle.py_text.proofs.TestLaws.{both_true, first_true, second_true}
use Rattle.py_text.specs.Comparison.{is_same_text}

-- two answers to one question
pub same_answer : (a b : Bool) (P : Type 0) → (IsTrue a → P) → (P → IsTrue a) → (IsTrue b → P) → (P → IsTrue b) → a ≡ b
same_answer true true P f g h k = refl
same_answer true false P f g h k = sym (k (f refl))
same_answer false true P f g h k = g (h refl)
same_answer false false P f g h k = refl

pub same_text : (s t : List ℕ) → IsTrue (is_same_text s t) → s ≡ t
same_text [] [] h = refl
same_text [] (d ∷ ds) h = absurd (cc)
same_text (c ∷ cs) [] h = absurd (cc)
same_text (c ∷ cs) (d ∷ ds) h =
    let e : c ≡ d = eqb-true c d (first_true (nat_eq c d) (is_same_text cs ds) h) in
    let f : cs ≡ ds = same_text cs ds (second_true (nat_eq c d) (is_same_text cs ds) h) in
    cc

pub text_is_same : (s : List ℕ) → IsTrue (is_same_text s s)
text_is_same [] = refl
text_is_same (c ∷ cs) = both_true (nat_eq c c) (is_same_text cs cs) (eq-eqb c c refl) (text_is_same cs)

pub same_text_from : (s t : List ℕ) → s ≡ t → IsTrue (is_same_text s t)
same_text_from s t e = ap (λ x. is_same_text s x) (sym e) ∙ text_is_same s

-- what the code's test of texts says
pub text_test : (b : Bool) (s t : List ℕ) → (IsTrue b → s ≡ t) × (s ≡ t → IsTrue b) → b ≡ is_same_text s t
text_test b s t h = same_answer b (is_same_text s t) (s ≡ t) h.0 h.1 (same_text s t) (same_text_from s t)
