-- Names that are set, set again and unset.
use Rattle.std.proofs.Common.{◌≡◌, ℕ, Bool, true, false, List, [], ◌∷◌, Option, Some, None, refl, sym, ap, ◌∙◌, if◌then◌else◌}
use Rattle.py_text.specs.Comparison.{is_same_text}
use Rattle.py_value.specs.Plain.{PlainValue}
use Rattle.py_text.proofs.SameTexts.{same_text, text_is_same}
use Rattle.py_builtins.specs.NameLaws.{NameLaw}
use Rattle.py_builtins.specs.World.{Names, value_of, with_name, without_name}

apart : false ≡ true → ⊥
apart q = cc

-- two names that are apart are found apart
other-name : (x y z : List ℕ) → is_same_text x z ≡ false → is_same_text y z ≡ true → is_same_text y x ≡ false
other-name x y z e r = go (is_same_text y x) refl
  where
    go : (c : Bool) → is_same_text y x ≡ c → is_same_text y x ≡ false
    go true w = let a : y ≡ x = same_text y x w in absurd (apart (sym e ∙ ap (λ t. is_same_text t z) (sym a) ∙ r))
    go false w = w

pub value-with : (x y : List ℕ) (v : PlainValue) (ns : Names) → value_of y (with_name x v ns) ≡ (if is_same_text y x then Some v else value_of y ns)
unfolding value_of with_name
value-with x y v [] = refl
value-with x y v (n ∷ ns) = go (is_same_text x n.0) refl (value-with x y v ns)
  where
    go : (b : Bool) → is_same_text x n.0 ≡ b → value_of y (with_name x v ns) ≡ (if is_same_text y x then Some v else value_of y ns)
        → value_of y (if b then (x, v) ∷ ns else n ∷ with_name x v ns) ≡ (if is_same_text y x then Some v else (if is_same_text y n.0 then Some n.1 else value_of y ns))
    go true e h = let q : x ≡ n.0 = same_text x n.0 e in here (is_same_text y x) (ap (is_same_text y) (sym q))
      where
        here : (b : Bool) → is_same_text y n.0 ≡ b → (if b then Some v else value_of y ns) ≡ (if b then Some v else (if is_same_text y n.0 then Some n.1 else value_of y ns))
        here true r = refl
        here false r = ap (λ b. if b then Some n.1 else value_of y ns) (sym r)
    go false e h = there (is_same_text y n.0) refl
      where
        there : (b : Bool) → is_same_text y n.0 ≡ b → (if b then Some n.1 else value_of y (with_name x v ns)) ≡ (if is_same_text y x then Some v else (if b then Some n.1 else value_of y ns))
        there true r = sym (ap (λ b. if b then Some v else Some n.1) (other-name x y n.0 e r))
        there false r = h

with-again : (x : List ℕ) (v w : PlainValue) (ns : Names) → with_name x w (with_name x v ns) ≡ with_name x w ns
unfolding with_name
with-again x v w [] = ap (λ b. if b then (x, w) ∷ [] else (x, v) ∷ (x, w) ∷ []) (text_is_same x)
with-again x v w (n ∷ ns) = go (is_same_text x n.0) refl (with-again x v w ns)
  where
    go : (b : Bool) → is_same_text x n.0 ≡ b → with_name x w (with_name x v ns) ≡ with_name x w ns
        → with_name x w (if b then (x, v) ∷ ns else n ∷ with_name x v ns) ≡ (if b then (x, w) ∷ ns else n ∷ with_name x w ns)
    go true e h = ap (λ b. if b then (x, w) ∷ ns else (x, v) ∷ with_name x w ns) (text_is_same x)
    go false e h = ap (λ b. if b then (x, w) ∷ with_name x v ns else n ∷ with_name x w (with_name x v ns)) e ∙ ap (λ t. n ∷ t) h

pub value-without : (x y : List ℕ) (ns : Names) → value_of y (without_name x ns) ≡ (if is_same_text y x then None else value_of y ns)
unfolding value_of without_name
value-without x y [] = both (is_same_text y x)
  where
    nothing : Option PlainValue
    nothing = None

    both : (b : Bool) → nothing ≡ (if b then None else nothing)
    both true = refl
    both false = refl
value-without x y (n ∷ ns) = go (is_same_text x n.0) refl (value-without x y ns)
  where
    go : (b : Bool) → is_same_text x n.0 ≡ b → value_of y (without_name x ns) ≡ (if is_same_text y x then None else value_of y ns)
        → value_of y (if b then without_name x ns else n ∷ without_name x ns) ≡ (if is_same_text y x then None else (if is_same_text y n.0 then Some n.1 else value_of y ns))
    go true e h = let q : x ≡ n.0 = same_text x n.0 e in h ∙ here (is_same_text y x) (ap (is_same_text y) (sym q))
      where
        here : (b : Bool) → is_same_text y n.0 ≡ b → (if b then None else value_of y ns) ≡ (if b then None else (if is_same_text y n.0 then Some n.1 else value_of y ns))
        here true r = refl
        here false r = ap (λ b. if b then Some n.1 else value_of y ns) (sym r)
    go false e h = there (is_same_text y n.0) refl
      where
        there : (b : Bool) → is_same_text y n.0 ≡ b → (if b then Some n.1 else value_of y (without_name x ns)) ≡ (if is_same_text y x then None else (if b then Some n.1 else value_of y ns))
        there true r = sym (ap (λ b. if b then None else Some n.1) (other-name x y n.0 e r))
        there false r = h

pub name_law : NameLaw
name_law = record { of_set = value-with; of_set_again = with-again; of_unset = value-without }
