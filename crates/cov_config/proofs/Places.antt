-- What the places of a row stand for, as a pattern is passed.
use Rattle.std.proofs.Common.{◌≡◌, ℕ, zero, suc, ◌+◌, ◌==◌, Bool, true, false, ◌||◌, ◌&&◌, cond, List, [], ◌∷◌, length, get_or, map, refl, ap, sym, ◌∙◌, arith, codes, add-one, Bor}
use Rattle.std.specs.Prelude.{replicate}
use Rattle.std.proofs.lemmas.List.{length-replicate, length-map}
use Rattle.std.proofs.lemmas.Bool.Decides.{nat_tests}
use Rattle.std.specs.Str.{bytes_eq, chars}
use Rattle.cov_file_names.specs.Forms.{Text}
use Rattle.cov_config.specs.Omits.{some_end, first_then, fits, covers}
use Rattle.cov_config.specs.Rows.{spread, advanced, any_at}

or_and : (s b p : Bool) → ((s || b) && p) ≡ ((s && p) || (b && p))
or_and true b true = refl
or_and true true false = refl
or_and true false false = refl
or_and false b p = refl

or_steps : (s b p q r : Bool) → (((s || b) && p) || (((s || b) && q) || r)) ≡ ((s && (p || q)) || ((b && (p || q)) || r))
or_steps true b true q r = refl
or_steps true b false true r = refl
or_steps true true false false r = refl
or_steps true false false false r = refl
or_steps false true true q r = refl
or_steps false true false q r = refl
or_steps false false p q r = refl

-- a run that goes on may pass each further place
spread_at : {A : Type 0} (f : List A → Bool) (s : Bool) (row : List Bool) (xs : List A) → length row ≡ length xs + 1
    → any_at (spread s row) f xs ≡ ((s && some_end f xs) || any_at row (some_end f) xs)
spread_at f s [] xs h = absurd (omega arith)
spread_at f s (b ∷ bs) [] h = or_and s b (f [])
spread_at f s (b ∷ bs) (x ∷ xs) h =
    let rest : length bs ≡ length xs + 1 = omega arith in
    ap (λ t. ((s || b) && f (x ∷ xs)) || t) (spread_at f (s || b) bs xs rest) ∙ or_steps s b (f (x ∷ xs)) (some_end f xs) (any_at bs (some_end f) xs)

or_false : (p b : Bool) → p ≡ (p || (b && false))
or_false true b = refl
or_false false true = refl
or_false false false = refl

and_assoc : (b t u : Bool) → ((b && t) && u) ≡ (b && (t && u))
and_assoc true t u = refl
and_assoc false t u = refl

-- one element follows, which passes
advanced_at : {A : Type 0} (one : A → Bool) (f : List A → Bool) (s : Bool) (row : List Bool) (xs : List A) → length row ≡ length xs + 1
    → any_at (advanced s row (map one xs)) f xs ≡ ((s && f xs) || any_at row (first_then one f) xs)
advanced_at one f s [] xs h = absurd (omega arith)
advanced_at one f s (b ∷ bs) [] h = or_false (s && f []) b
advanced_at one f s (b ∷ bs) (x ∷ xs) h =
    let rest : length bs ≡ length xs + 1 = omega arith in
    let more = any_at bs (first_then one f) xs in
    ap (λ t. (s && f (x ∷ xs)) || t) (advanced_at one f (b && one x) bs xs rest ∙ ap (λ t. t || more) (and_assoc b (one x) (f xs)))

none_at : {A : Type 0} (f : List A → Bool) (n : ℕ) (xs : List A) → any_at (replicate n false) f xs ≡ false
none_at f zero xs = refl
none_at f (suc n) [] = refl
none_at f (suc n) (x ∷ xs) = none_at f n xs

or-false : (p : Bool) → (p || false) ≡ p
or-false true = refl
or-false false = refl

-- at first the empty front alone is reached
pub first_at : {A : Type 0} (f : List A → Bool) (n : ℕ) (xs : List A) → any_at (true ∷ replicate n false) f xs ≡ f xs
first_at f n [] = refl
first_at f n (x ∷ xs) = ap (λ t. f (x ∷ xs) || t) (none_at f n xs) ∙ or-false (f (x ∷ xs))

and-true : (b : Bool) → (b && true) ≡ b
and-true true = refl
and-true false = refl

and-false : (b : Bool) → (b && false) ≡ false
and-false true = refl
and-false false = refl

-- at last the whole has to be reached
last_at : {A : Type 0} (f : List A → Bool) → f [] ≡ true → ((x : A) (xs : List A) → f (x ∷ xs) ≡ false)
    → (row : List Bool) (xs : List A) → length row ≡ length xs + 1 → any_at row f xs ≡ get_or row (length xs) false
last_at f at none [] xs h = absurd (omega arith)
last_at f at none (b ∷ bs) [] h = ap (λ e. b && e) at ∙ and-true b
last_at f at none (b ∷ bs) (x ∷ xs) h =
    let rest : length bs ≡ length xs + 1 = omega arith in
    ap (λ e. (b && e) || any_at bs f xs) (none x xs) ∙ ap (λ e. e || any_at bs f xs) (and-false b) ∙ last_at f at none bs xs rest

pub fits_last : (row : List Bool) (cs : List ℕ) → length row ≡ length cs + 1 → any_at row (fits []) cs ≡ get_or row (length cs) false
fits_last row cs h = last_at (fits []) refl (λ x xs. refl) row cs h

pub covers_last : (row : List Bool) (parts : List Text) → length row ≡ length parts + 1 → any_at row (covers []) parts ≡ get_or row (length parts) false
covers_last row parts h = last_at (covers []) refl (λ x xs. refl) row parts h

pub fits_run : (row : List Bool) (p : ℕ) (ps cs : List ℕ) → (p == 42) ≡ true → length row ≡ length cs + 1 → any_at (spread false row) (fits ps) cs ≡ any_at row (fits (p ∷ ps)) cs
fits_run row p ps cs is h =
    spread_at (fits ps) false row cs h
    ∙ ap (λ b. any_at row (λ xs. cond b (some_end (fits ps) xs) (first_then (λ c. p == 63 || p == c) (fits ps) xs)) cs) (sym is)

pub fits_one : (row : List Bool) (p : ℕ) (ps cs : List ℕ) → (p == 42) ≡ false → length row ≡ length cs + 1
    → any_at (advanced false row (map (λ c. p == 63 || p == c) cs)) (fits ps) cs ≡ any_at row (fits (p ∷ ps)) cs
fits_one row p ps cs is h =
    advanced_at (λ c. p == 63 || p == c) (fits ps) false row cs h
    ∙ ap (λ b. any_at row (λ xs. cond b (some_end (fits ps) xs) (first_then (λ c. p == 63 || p == c) (fits ps) xs)) cs) (sym is)

pub covers_run : (row : List Bool) (p : Text) (ps parts : List Text) → bytes_eq p (codes "**") ≡ true → length row ≡ length parts + 1
    → any_at (spread false row) (covers ps) parts ≡ any_at row (covers (p ∷ ps)) parts
covers_run row p ps parts is h =
    spread_at (covers ps) false row parts h
    ∙ ap (λ b. any_at row (λ xs. cond b (some_end (covers ps) xs) (first_then (λ part. fits (chars p) (chars part)) (covers ps) xs)) parts) (sym is)

pub covers_one : (row : List Bool) (p : Text) (ps parts : List Text) → bytes_eq p (codes "**") ≡ false → length row ≡ length parts + 1
    → any_at (advanced false row (map (λ part. fits (chars p) (chars part)) parts)) (covers ps) parts ≡ any_at row (covers (p ∷ ps)) parts
covers_one row p ps parts is h =
    advanced_at (λ part. fits (chars p) (chars part)) (covers ps) false row parts h
    ∙ ap (λ b. any_at row (λ xs. cond b (some_end (covers ps) xs) (first_then (λ part. fits (chars p) (chars part)) (covers ps) xs)) parts) (sym is)

pub is_star : (p : ℕ) → p ≡ 42 → (p == 42) ≡ true
is_star p h = grind (arith, nat_tests)

pub no_star : (p : ℕ) → (p ≡ 42 → ⊥) → (p == 42) ≡ false
no_star p h = grind (arith, nat_tests)

-- the row of an empty pattern
pub first_row : {A : Type 0} (row : List Bool) (xs : List A) → row ≡ true ∷ replicate (length xs) false → length row ≡ length xs + 1
first_row row xs is = ap length is ∙ ap (λ n. suc n) (length-replicate (length xs) false) ∙ sym (add-one (length xs))

pub starts_at : {A : Type 0} (f : List A → Bool) (row : List Bool) (xs : List A) → row ≡ true ∷ replicate (length xs) false → any_at row f xs ≡ f xs
starts_at f row xs is = ap (λ r. any_at r f xs) is ∙ first_at f (length xs) xs

pub reach : (row : List Bool) (parts : List (Bor Text)) → length row ≡ length parts + 1 → length row ≡ length (map (λ (p : Bor Text). p.now) parts) + 1
reach row parts h = h ∙ ap (λ n. n + 1) (sym (length-map parts (λ (p : Bor Text). p.now)))

pub map-now : {B : Type 0} (f : Text → B) (parts : List (Bor Text)) → map f (map (λ (p : Bor Text). p.now) parts) ≡ map (λ (p : Bor Text). f p.now) parts
map-now f [] = refl
map-now f (p ∷ ps) = ap (λ xs. f p.now ∷ xs) (map-now f ps)

pub starts_at_now : (f : List Text → Bool) (row : List Bool) (parts : List (Bor Text)) → row ≡ true ∷ replicate (length parts) false
    → any_at row f (map (λ (p : Bor Text). p.now) parts) ≡ f (map (λ (p : Bor Text). p.now) parts)
starts_at_now f row parts is = starts_at f row _ (is ∙ ap (λ n. true ∷ replicate n false) (sym (length-map parts (λ (p : Bor Text). p.now))))
