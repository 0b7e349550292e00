-- The parts of the data file, name by name.
use Rattle.std.proofs.Common.{◌≡◌, ℕ, suc, ◌==◌, Bool, true, false, cond, List, [], ◌∷◌, ◌++◌, length, map, filter, codes, String, None, refl, sym, ap, ◌∙◌, string_bytes}
use Rattle.std.specs.Bool.{nat_eq, MatchBool}
use Rattle.std.specs.List.{starts_with}
use Rattle.std.specs.Str.Pattern.{FindsTextPrefix, HasPrefixMatch}
use Rattle.std.specs.declared.alloc.Global.{Global}
use Rattle.std.proofs.lemmas.List.{append-nil, map-append}
use Rattle.std.proofs.lemmas.List.Elements.{filter-append}
use Rattle.std.proofs.lemmas.Bool.{eqb-true}
use Rattle.std.proofs.lemmas.Str.Pattern.{starts_text}
use Rattle.cov_step.specs.Phases.{is_part_of}

-- what a text's test says
pub part-so : (r : Bool) (name start own : List ℕ) → MatchBool r (HasPrefixMatch (FindsTextPrefix start) name) (FindsTextPrefix start name None) → start ≡ own ++ codes "." → r ≡ is_part_of own name
part-so r name start own h is = starts_text r start name h ∙ ap (starts_with nat_eq name) is

module _ (own : List ℕ) (parts before : List (String Global)) (name : String Global) (so : map string_bytes parts ≡ filter (is_part_of own) (map string_bytes before)) where
  next : (b : Bool) → is_part_of own (string_bytes name) ≡ b → filter (is_part_of own) (map string_bytes (before ++ name ∷ [])) ≡ map string_bytes parts ++ cond b (string_bytes name ∷ []) []
  next b is =
      ap (filter (is_part_of own)) (map-append string_bytes before (name ∷ []))
      ∙ filter-append (is_part_of own) (map string_bytes before) (string_bytes name ∷ [])
      ∙ ap (λ (t : Bool). filter (is_part_of own) (map string_bytes before) ++ cond t (string_bytes name ∷ []) []) is
      ∙ ap (λ (k : List (List ℕ)). k ++ cond b (string_bytes name ∷ []) []) (sym so)

  pub part-kept : (more : List (String Global)) → more ≡ parts ++ name ∷ [] → is_part_of own (string_bytes name) ≡ true → map string_bytes more ≡ filter (is_part_of own) (map string_bytes (before ++ name ∷ []))
  part-kept more is so_it_is = ap (map string_bytes) is ∙ map-append string_bytes parts (name ∷ []) ∙ sym (next true so_it_is)

  pub part-left : is_part_of own (string_bytes name) ≡ false → map string_bytes parts ≡ filter (is_part_of own) (map string_bytes (before ++ name ∷ []))
  part-left isnt = sym (append-nil (map string_bytes parts)) ∙ sym (next false isnt)

-- no names, where their number is 0
pub no-names : {A : Type 0} (names : List A) → (length names == 0) ≡ true → names ≡ []
no-names [] h = refl
no-names (n ∷ ns) h = absurd (suc-no-zero (eqb-true (suc (length ns)) 0 h))
  where
    suc-no-zero : {k : ℕ} → suc k ≡ 0 → ⊥
    suc-no-zero e = cc
