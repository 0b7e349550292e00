-- Loops that keep what passes, map each item, or look whether one passes.
use Rattle.std.proofs.Common.{◌≡◌, ℕ, ◌+◌, ◌<◌, Bool, cond, if◌then◌else◌, ◌||◌, List, [], ◌∷◌, ◌++◌, length, get_or, take, map, sym, ap, ap₂, ◌∙◌}
use Rattle.std.specs.Prelude.{filter}
use Rattle.std.specs.List.{list_any}
use Rattle.std.proofs.lemmas.List.{map_more}
use Rattle.std.proofs.lemmas.List.Elements.{filter_more}
use Rattle.std.proofs.lemmas.List.Folds.{list_any_more}

-- one more item that is kept where it passes
pub kept_more : {X : Type 0} (p : X → Bool) (xs : List X) (at : ℕ) (d : X) (old new : List X) (passes : Bool) → at < length xs → passes ≡ p (get_or xs at d) → old ≡ filter p (take at xs)
    → new ≡ old ++ (if passes then get_or xs at d ∷ [] else []) → new ≡ filter p (take (at + 1) xs)
kept_more p xs at d old new passes within is before after =
    after ∙ ap₂ (λ kept t. kept ++ cond t (get_or xs at d ∷ []) []) before is ∙ sym (filter_more p xs at d within)

-- one more item that is mapped
pub mapped_more : {X Y : Type 0} (f : X → Y) (xs : List X) (at : ℕ) (d : X) (old new : List Y) (y : Y) → at < length xs → y ≡ f (get_or xs at d) → old ≡ map f (take at xs)
    → new ≡ old ++ y ∷ [] → new ≡ map f (take (at + 1) xs)
mapped_more f xs at d old new y within is before after =
    after ∙ ap₂ (λ made z. made ++ z ∷ []) before is ∙ sym (map_more f xs at d within)

-- whether one of the items so far passes, and one more
pub any_more : {X : Type 0} (p : X → Bool) (xs : List X) (at : ℕ) (d : X) (old new : Bool) → at < length xs → old ≡ list_any p (take at xs) → new ≡ (old || p (get_or xs at d)) → new ≡ list_any p (take (at + 1) xs)
any_more p xs at d old new within before after = after ∙ ap (λ b. b || p (get_or xs at d)) before ∙ sym (list_any_more p xs at d within)
