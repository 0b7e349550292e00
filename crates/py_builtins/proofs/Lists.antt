-- Loops over the items and the keys of a call.
use Rattle.std.proofs.Common.{◌≡◌, ℕ, zero, suc, ◌+◌, List, [], ◌∷◌, ◌++◌, length, drop, Option, Some, None, refl, ap, sym, ◌∙◌, arith, append_assoc, length-append}
use Rattle.std.proofs.lemmas.List.{map-append}
use Rattle.std.specs.List.{slice_get}
use Rattle.py_value.specs.declared.value.Value.{Value}
use Rattle.py_value.specs.View.{plain, plains}
use Rattle.py_value.specs.Plain.{PlainValue}
use Rattle.py_builtins.specs.Methods.{each_after, each_length}

-- a list with an item at a place, from there on
pub drop_at : {A : Type 0} (ks : List A) (i : ℕ) (v : A) → slice_get ks i ≡ Some v → drop i ks ≡ v ∷ drop (suc i) ks
drop_at [] i v e = absurd (cc)
drop_at (k ∷ ks) zero v e = ap (λ x. x ∷ ks) (ap (λ o. or_else k o) e)
  where
    or_else : {A : Type 0} → A → Option A → A
    or_else d None = d
    or_else d (Some x) = x
drop_at (k ∷ ks) (suc i) v e = drop_at ks i v e

-- one more key
pub key_on : (ks now : List PlainValue) (i : ℕ) (v : PlainValue) → slice_get ks i ≡ Some v → now ++ drop i ks ≡ ks → (now ++ v ∷ []) ++ drop (i + 1) ks ≡ ks
key_on ks now i v e h =
    let one : i + 1 ≡ suc i = omega arith in
    append_assoc now (v ∷ []) (drop (i + 1) ks) ∙ ap (λ n. now ++ (v ∷ drop n ks)) one ∙ ap (λ zs. now ++ zs) (sym (drop_at ks i v e)) ∙ h

pub key_pushed : (ks : List PlainValue) (old new : List Value) (key : Value) (i : ℕ) → new ≡ old ++ key ∷ [] → slice_get ks i ≡ Some (plain key) → plains old ++ drop i ks ≡ ks → plains new ++ drop (i + 1) ks ≡ ks
key_pushed ks old new key i n e h =
    ap (λ (vs : List Value). plains vs ++ drop (i + 1) ks) n ∙ ap (λ zs. zs ++ drop (i + 1) ks) (map-append plain old (key ∷ [])) ∙ key_on ks (plains old) i (plain key) e h

-- the characters of some texts, each with another text before it
pub length_each_after : (b : List ℕ) (ts : List (List ℕ)) → length (each_after b ts) ≡ each_length (length b) ts
length_each_after b [] = refl
length_each_after b (t ∷ ts) =
    length-append b (t ++ each_after b ts) ∙ ap (λ n. length b + n) (length-append t (each_after b ts) ∙ ap (λ n. length t + n) (length_each_after b ts))
