-- The end of a loop over the keys of a dict.
use Rattle.std.proofs.Common.{◌≡◌, ℕ, ◌≤◌, List, ◌++◌, length, drop, ap, sym, ◌∙◌}
use Rattle.std.proofs.lemmas.List.{at_drop_all, append-nil}
use Rattle.py_value.specs.Plain.{PlainValue}

-- no key is left after the last one
pub keys_end : (ks now : List PlainValue) (i : ℕ) → length ks ≤ i → now ++ drop i ks ≡ ks → now ≡ ks
keys_end ks now i l h =
    sym (append-nil now) ∙ ap (λ zs. now ++ zs) (sym (at_drop_all (λ zs. zs) ks i l)) ∙ h
