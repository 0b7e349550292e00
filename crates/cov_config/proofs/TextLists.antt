-- Lists of texts that are rules: none is empty, nor the list.
use Rattle.std.proofs.Common.{◌≡◌, List, [], ◌∷◌, length, map, Option, Some, None, refl, ap, ◌∙◌, Global, String, string_bytes, Bool, false, ◌||◌, ◌==◌, cond}
use Rattle.std.proofs.lemmas.List.{length-map}
use Rattle.std.specs.Option.{option_and_then}
use Rattle.std.specs.List.{list_any}
use Rattle.toml.specs.Data.{Data}
use Rattle.cov_file_names.specs.Forms.{Text, is_empty}
use Rattle.cov_config.specs.Forms.{texts, rule_texts}

list_any-map : {A : Type 0} (p : Text → Bool) (f : A → Text) (xs : List A) → list_any p (map f xs) ≡ list_any (λ x. p (f x)) xs
list_any-map p f [] = refl
list_any-map p f (x ∷ xs) = ap (λ b. p (f x) || b) (list_any-map p f xs)

-- a list that isn't empty, and whether one of its texts is
pub rule_texts-of : (d : Data) (xs : List (String Global)) (bad : Bool) → texts d ≡ Some (map string_bytes xs) → (length xs == 0) ≡ false
    → list_any (λ t. is_empty (string_bytes t)) xs ≡ bad → rule_texts d ≡ cond bad None (Some (map string_bytes xs))
rule_texts-of d xs bad is some any =
    let ts = map string_bytes xs in
    let form : List Text → Option (List Text) = λ ts. cond (is_empty ts || list_any is_empty ts) None (Some ts) in
    ap (option_and_then form) is
    ∙ ap (λ b. cond (b || list_any is_empty ts) None (Some ts)) (ap (λ n. n == 0) (length-map xs (λ (t : String Global). string_bytes t)) ∙ some)
    ∙ ap (λ b. cond b None (Some ts)) (list_any-map is_empty (λ (t : String Global). string_bytes t) xs ∙ any)
