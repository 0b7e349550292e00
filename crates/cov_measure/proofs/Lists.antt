-- Words that are copied.
use Rattle.std.proofs.Common.{◌≡◌, List, [], ◌∷◌, ◌++◌, String, string_bytes, refl, ap, ◌∙◌}
use Rattle.std.specs.declared.alloc.Global.{Global}
use Rattle.std.specs.List.{AllZip, AppendsClones}
use Rattle.std.specs.Str.{chars}
use Rattle.cov_measure.specs.Requests.{words_in}

abbrev IsCopy : String Global → String Global → Type 0
IsCopy s t = string_bytes t ≡ string_bytes s

copied : (xs ys : List (String Global)) → AllZip IsCopy xs ys → words_in ys ≡ words_in xs
copied [] [] h = refl
copied [] (y ∷ ys) h = absurd h
copied (x ∷ xs) [] h = absurd h
copied (x ∷ xs) (y ∷ ys) h = (λ i. chars (h.0 i) ∷ words_in ys) ∙ ap (λ ws. chars (string_bytes x) ∷ ws) (copied xs ys h.1)

pub words-copied : (old new more : List (String Global)) (s x : String Global) → old ≡ s ∷ [] → string_bytes s ≡ string_bytes x → AppendsClones IsCopy old new more → words_in new ≡ chars (string_bytes x) ∷ words_in more
words-copied old new more s x is same h =
    ap words_in (h.1 ∙ ap (λ ws. ws ++ h.0) is) ∙ (λ i. chars (same i) ∷ words_in h.0) ∙ ap (λ ws. chars (string_bytes x) ∷ ws) (copied more h.0 h.2)
