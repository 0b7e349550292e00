-- Texts cut into components.
use Rattle.std.proofs.Common.{◌≡◌, ℕ, ◌+◌, ◌<◌, Bool, true, false, cond, List, [], ◌∷◌, ◌++◌, length, get_or, drop, refl, ap, sym, ◌∙◌, append-nil, drop-cons, add-one}
use Rattle.std.specs.Prelude.{◌||◌, ◌==◌}
use Rattle.std.specs.List.{slice_split, onto_first, flat_map}
use Rattle.cov_combine.specs.Aliases.{components, joined, after}

abbrev is_slash : ℕ → Bool
is_slash b = b == 47

abbrev is_backslash : ℕ → Bool
is_backslash b = b == 92

-- cut at `/`, and then each part at `\`
abbrev pub cut_twice : List (List ℕ) → List (List ℕ)
cut_twice parts = flat_map (slice_split is_backslash) parts

-- a cut gives at least one part
some_part : (p : ℕ → Bool) (bs : List ℕ) → (x : List ℕ) × ((xs : List (List ℕ)) × (slice_split p bs ≡ x ∷ xs))
some_part p [] = ([], ([], refl))
some_part p (b ∷ bs) =
    let rest = some_part p bs in
    elim (p b) as (λ t. (x : List ℕ) × ((xs : List (List ℕ)) × (cond t ([] ∷ slice_split p bs) (onto_first b (slice_split p bs)) ≡ x ∷ xs))) [
      | true ↦ ([], (slice_split p bs, refl))
      | false ↦ (b ∷ rest.0, (rest.1.0, ap (onto_first b) rest.1.1))
    ]

onto_append : (b : ℕ) (p : ℕ → Bool) (bs : List ℕ) (ys : List (List ℕ)) → onto_first b (slice_split p bs) ++ ys ≡ onto_first b (slice_split p bs ++ ys)
onto_append b p bs ys =
    let some = some_part p bs in
    ap (λ s. onto_first b s ++ ys) some.1.1 ∙ sym (ap (λ s. onto_first b (s ++ ys)) some.1.1)

cut_onto : (b : ℕ) (bs : List ℕ) → cut_twice (onto_first b (slice_split is_slash bs)) ≡ cond (is_backslash b) ([] ∷ cut_twice (slice_split is_slash bs)) (onto_first b (cut_twice (slice_split is_slash bs)))
cut_onto b bs =
    let some = some_part is_slash bs in
    let p = some.0 in
    let ps = some.1.0 in
    ap (λ s. cut_twice (onto_first b s)) some.1.1
    ∙ elim (is_backslash b) as (λ t. cond t ([] ∷ slice_split is_backslash p) (onto_first b (slice_split is_backslash p)) ++ cut_twice ps ≡ cond t ([] ∷ cut_twice (p ∷ ps)) (onto_first b (cut_twice (p ∷ ps)))) [
      | true ↦ refl
      | false ↦ onto_append b is_backslash p (cut_twice ps)
    ]
    ∙ sym (ap (λ s. cond (is_backslash b) ([] ∷ cut_twice s) (onto_first b (cut_twice s))) some.1.1)

pub components-twice : (text : List ℕ) → components text ≡ cut_twice (slice_split is_slash text)
components-twice [] = refl
components-twice (b ∷ bs) =
    let rest = components-twice bs in
    let S = slice_split is_slash bs in
    elim (is_slash b) as (λ t. cond (t || is_backslash b) ([] ∷ components bs) (onto_first b (components bs)) ≡ cut_twice (cond t ([] ∷ S) (onto_first b S))) [
      | true ↦ ap (λ parts. [] ∷ parts) rest
      | false ↦ ap (λ parts. cond (is_backslash b) ([] ∷ parts) (onto_first b parts)) rest ∙ sym (cut_onto b bs)
    ]

-- ---- joined again

pub joined-cons : (x : List ℕ) (xs : List (List ℕ)) → joined (x ∷ xs) ≡ x ++ after xs
joined-cons x [] = sym (append-nil x)
joined-cons x (y ∷ ys) = ap (λ t. x ++ (47 ∷ t)) (joined-cons y ys)

pub drop_at : {X : Type 0} (xs : List X) (i : ℕ) (d : X) → i < length xs → drop i xs ≡ get_or xs i d ∷ drop (i + 1) xs
drop_at xs i d h = drop-cons xs i d h ∙ ap (λ k. get_or xs i d ∷ drop k xs) (sym (add-one i))
