-- The names `match` and `case`.
use Rattle.std.proofs.Common.{◌≡◌, ℕ, nat_eq, Bool, true, false, List, [], ◌∷◌, bytes_eq, refl, sym, ap, ◌∙◌}
use Rattle.std.specs.Prelude.{encode_utf8_all}
use Rattle.std.specs.Str.{chars}
use Rattle.std.specs.Cmp.Lexicographic.{same_text, other_text}
use lib.Pointwise.{pointwise}
use Rattle.py_syntax.specs.Kinds.{Name}
use Rattle.py_syntax.specs.Headers.{match_name, is_match}
use Rattle.py_syntax.specs.Statements.{case_name}

pub same_case : (name bytes : List ℕ) → bytes ≡ encode_utf8_all name → chars bytes ≡ name → pointwise nat_eq bytes case_name ≡ bytes_eq name case_name
unfolding lib.Utf8.encode chars
same_case name bytes encoded decoded = go (pointwise nat_eq bytes case_name) refl
  where
    is_it : (b : Bool) → bytes_eq name case_name ≡ b → pointwise nat_eq bytes case_name ≡ false → false ≡ b
    is_it false is differ = refl
    is_it true is differ = absurd (other_text bytes case_name (sym differ) (encoded ∙ ap encode_utf8_all (same_text name case_name (sym is))))

    go : (b : Bool) → pointwise nat_eq bytes case_name ≡ b → b ≡ bytes_eq name case_name
    go true is = let same = same_text bytes case_name (sym is) in let it : name ≡ case_name = sym decoded ∙ ap chars same in sym (ap (λ (x : List ℕ). bytes_eq x case_name) it)
    go false is = is_it (bytes_eq name case_name) refl is

is_bytes : (x : List ℕ) → is_match (Name x) ≡ bytes_eq x match_name
is_bytes [] = refl
is_bytes (a ∷ []) = refl
is_bytes (a ∷ b ∷ []) = refl
is_bytes (a ∷ b ∷ c ∷ []) = refl
is_bytes (a ∷ b ∷ c ∷ d ∷ []) = refl
is_bytes (a ∷ b ∷ c ∷ d ∷ e ∷ []) = refl
is_bytes (a ∷ b ∷ c ∷ d ∷ e ∷ f ∷ xs) = refl

pub same_match : (name bytes : List ℕ) → bytes ≡ encode_utf8_all name → chars bytes ≡ name → pointwise nat_eq bytes match_name ≡ is_match (Name name)
unfolding lib.Utf8.encode chars
same_match name bytes encoded decoded = go (pointwise nat_eq bytes match_name) refl ∙ sym (is_bytes name)
  where
    is_it : (b : Bool) → bytes_eq name match_name ≡ b → pointwise nat_eq bytes match_name ≡ false → false ≡ b
    is_it false is differ = refl
    is_it true is differ = absurd (other_text bytes match_name (sym differ) (encoded ∙ ap encode_utf8_all (same_text name match_name (sym is))))

    go : (b : Bool) → pointwise nat_eq bytes match_name ≡ b → b ≡ bytes_eq name match_name
    go true is = let same = same_text bytes match_name (sym is) in let it : name ≡ match_name = sym decoded ∙ ap chars same in sym (ap (λ (x : List ℕ). bytes_eq x match_name) it)
    go false is = is_it (bytes_eq name match_name) refl is
