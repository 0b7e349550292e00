-- Lists, item by item.
use Rattle.std.proofs.Common.{◌≡◌, ℕ, ◌+◌, ◌<◌, Bool, true, false, cond, List, [], ◌∷◌, ◌++◌, length, take, get_or, sym, ap, ◌∙◌, append-nil}
use Rattle.std.specs.Prelude.{filter}
use Rattle.std.proofs.lemmas.List.Elements.{filter_more}

-- those of the items so far that pass, and one more that does
pub kept_more : {X : Type 0} (p : X → Bool) (xs : List X) (at : ℕ) (d : X) (old new : List X) → at < length xs → p (get_or xs at d) ≡ true → old ≡ filter p (take at xs) → new ≡ old ++ get_or xs at d ∷ []
    → new ≡ filter p (take (at + 1) xs)
kept_more p xs at d old new within passes before after =
    after ∙ ap (λ kept. kept ++ get_or xs at d ∷ []) before ∙ ap (λ b. filter p (take at xs) ++ cond b (get_or xs at d ∷ []) []) (sym passes) ∙ sym (filter_more p xs at d within)

-- and one more that doesn't
pub left_more : {X : Type 0} (p : X → Bool) (xs : List X) (at : ℕ) (d : X) (old new : List X) → at < length xs → p (get_or xs at d) ≡ false → old ≡ filter p (take at xs) → new ≡ old → new ≡ filter p (take (at + 1) xs)
left_more p xs at d old new within passes before after =
    after ∙ before ∙ sym (append-nil (filter p (take at xs))) ∙ ap (λ b. filter p (take at xs) ++ cond b (get_or xs at d ∷ []) []) (sym passes) ∙ sym (filter_more p xs at d within)
