-- The places of a row, one after the other.
use Rattle.std.proofs.Common.{◌≡◌, ℕ, ◌+◌, ◌<◌, Bool, false, ◌||◌, ◌&&◌, List, [], ◌∷◌, ◌++◌, length, get_or, take, drop, ap, sym, ◌∙◌, arith, append_assoc}
use Rattle.std.proofs.Math.ListN.{set}
use Rattle.std.proofs.lemmas.List.{take_more_set, drop-set-lt, drop_more, drop_all, take-append-drop}
use Rattle.cov_config.specs.Rows.{spread, advanced}

-- a row with the place i written
written : {X : Type 0} (xs : List X) (i : ℕ) (y : X) → i < length xs → drop (i + 1) (set xs i y) ≡ drop (i + 1) xs
written xs i y h = drop-set-lt (i + 1) xs i y (omega arith)

pub spread_more : (row : List Bool) (i : ℕ) (r : Bool) → i < length row → let new = r || get_or row i false in
    take (i + 1) (set row i new) ++ spread new (drop (i + 1) (set row i new)) ≡ take i row ++ spread r (drop i row)
spread_more row i r h =
    let new = r || get_or row i false in
    ap (λ t. t ++ spread new (drop (i + 1) (set row i new))) (take_more_set row i new h)
    ∙ ap (λ d. (take i row ++ new ∷ []) ++ spread new d) (written row i new h)
    ∙ append_assoc (take i row) (new ∷ []) (spread new (drop (i + 1) row))
    ∙ ap (λ d. take i row ++ spread r d) (sym (drop_more row i false h))

pub advanced_more : (row ts : List Bool) (i : ℕ) (r : Bool) → i < length row → i < length ts
    → take (i + 1) (set row i r) ++ advanced (get_or row i false && get_or ts i false) (drop (i + 1) (set row i r)) (drop (i + 1) ts) ≡ take i row ++ advanced r (drop i row) (drop i ts)
advanced_more row ts i r h k =
    let new = get_or row i false && get_or ts i false in
    ap (λ f. f ++ advanced new (drop (i + 1) (set row i r)) (drop (i + 1) ts)) (take_more_set row i r h)
    ∙ ap (λ d. (take i row ++ r ∷ []) ++ advanced new d (drop (i + 1) ts)) (written row i r h)
    ∙ append_assoc (take i row) (r ∷ []) (advanced new (drop (i + 1) row) (drop (i + 1) ts))
    ∙ ap (λ d. take i row ++ advanced r d (get_or ts i false ∷ drop (i + 1) ts)) (sym (drop_more row i false h))
    ∙ ap (λ d. take i row ++ advanced r (drop i row) d) (sym (drop_more ts i false k))

-- the last place
pub advanced_last : (row ts : List Bool) (i n : ℕ) (r : Bool) → i ≡ n → n ≡ length ts → n < length row → set row n r ≡ take i row ++ advanced r (drop i row) (drop i ts)
advanced_last row ts i n r same ends h =
    let first : set row n r ≡ take n row ++ (r ∷ drop (n + 1) row) =
    sym (take-append-drop (n + 1) (set row n r)) ∙ ap (λ f. f ++ drop (n + 1) (set row n r)) (take_more_set row n r h)
    ∙ ap (λ d. (take n row ++ r ∷ []) ++ d) (written row n r h) ∙ append_assoc (take n row) (r ∷ []) (drop (n + 1) row) in
    first
    ∙ ap (λ d. take n row ++ advanced r d []) (sym (drop_more row n false h))
    ∙ ap (λ d. take n row ++ advanced r (drop n row) d) (sym (drop_all n ts (omega arith)))
    ∙ ap (λ k. take k row ++ advanced r (drop k row) (drop k ts)) (sym same)
