-- The words of a line: cut at blanks, and each part at tabs.
use Rattle.std.proofs.Common.{◌≡◌, ◌∙◌, ℕ, ◌+◌, ◌<◌, Bool, true, false, cond, not, if◌then◌else◌, List, [], ◌∷◌, ◌++◌, length, get_or, drop, refl, ap, sym, true≢false, drop-cons, add-one, map, String, Global, string_bytes, arith}
use Rattle.std.specs.Prelude.{◌||◌, ◌==◌}
use Rattle.std.specs.List.{slice_split, onto_first, flat_map}
use Rattle.std.proofs.lemmas.Bool.{eqb-true}
use Rattle.std.proofs.lemmas.List.{map-append}
use Rattle.cov_programs.specs.Programs.{give}
use Rattle.cov_step.specs.Scripts.{is_blank, is_nothing, words_in, words_done, line_done}
use Rattle.cov_words.specs.Values.{Word}
use Rattle.cov_app.specs.Words.{filled}

abbrev is_space : ℕ → Bool
is_space b = b == 32

abbrev is_tab : ℕ → Bool
is_tab b = b == 9

-- a cut gives at least one part
some_part : (p : ℕ → Bool) (bs : List ℕ) → (x : List ℕ) × ((xs : List (List ℕ)) × (slice_split p bs ≡ x ∷ xs))
some_part p [] = ([], ([], refl))
some_part p (b ∷ bs) =
    let rest = some_part p bs in
    elim (p b) as (λ t. (x : List ℕ) × ((xs : List (List ℕ)) × (cond t ([] ∷ slice_split p bs) (onto_first b (slice_split p bs)) ≡ x ∷ xs))) [
      | true ↦ ([], (slice_split p bs, refl))
      | false ↦ (b ∷ rest.0, (rest.1.0, ap (onto_first b) rest.1.1))
    ]

-- cut at blanks, and then each part at tabs
abbrev cut_twice : List (List ℕ) → List (List ℕ)
cut_twice parts = flat_map (slice_split is_tab) parts

onto_append : (b : ℕ) (p : ℕ → Bool) (bs : List ℕ) (ys : List (List ℕ)) → onto_first b (slice_split p bs) ++ ys ≡ onto_first b (slice_split p bs ++ ys)
onto_append b p bs ys =
    let some = some_part p bs in
    ap (λ s. onto_first b s ++ ys) some.1.1 ∙ sym (ap (λ s. onto_first b (s ++ ys)) some.1.1)

cut_onto : (b : ℕ) (bs : List ℕ) → cut_twice (onto_first b (slice_split is_space bs)) ≡ cond (is_tab b) ([] ∷ cut_twice (slice_split is_space bs)) (onto_first b (cut_twice (slice_split is_space bs)))
cut_onto b bs =
    let some = some_part is_space bs in
    let p = some.0 in
    let ps = some.1.0 in
    ap (λ s. cut_twice (onto_first b s)) some.1.1
    ∙ elim (is_tab b) as (λ t. cond t ([] ∷ slice_split is_tab p) (onto_first b (slice_split is_tab p)) ++ cut_twice ps ≡ cond t ([] ∷ cut_twice (p ∷ ps)) (onto_first b (cut_twice (p ∷ ps)))) [
      | true ↦ refl
      | false ↦ onto_append b is_tab p (cut_twice ps)
    ]
    ∙ sym (ap (λ s. cond (is_tab b) ([] ∷ cut_twice s) (onto_first b (cut_twice s))) some.1.1)

cut-is : (line : List ℕ) → slice_split is_blank line ≡ cut_twice (slice_split is_space line)
cut-is [] = refl
cut-is (b ∷ bs) =
    let rest = cut-is bs in
    let S = slice_split is_space bs in
    elim (is_space b) as (λ t. cond (t || is_tab b) ([] ∷ slice_split is_blank bs) (onto_first b (slice_split is_blank bs)) ≡ cut_twice (cond t ([] ∷ S) (onto_first b S))) [
      | true ↦ ap (λ parts. [] ∷ parts) rest
      | false ↦ ap (λ parts. cond (is_tab b) ([] ∷ parts) (onto_first b parts)) rest ∙ sym (cut_onto b bs)
    ]

-- ---- words that aren't empty

pub filled-append : (xs ys : List Word) → filled (xs ++ ys) ≡ filled xs ++ filled ys
filled-append [] ys = refl
filled-append (x ∷ xs) ys =
    elim (is_nothing x) as (λ t. (if not t then x ∷ filled (xs ++ ys) else filled (xs ++ ys)) ≡ (if not t then x ∷ filled xs else filled xs) ++ filled ys) [
      | true ↦ filled-append xs ys
      | false ↦ ap (λ ws. x ∷ ws) (filled-append xs ys)
    ]

-- the words of several parts
abbrev pub words_of : List (List ℕ) → List Word
words_of [] = []
words_of (p ∷ ps) = filled (slice_split is_tab p) ++ words_of ps

words-of : (ps : List (List ℕ)) → filled (cut_twice ps) ≡ words_of ps
words-of [] = refl
words-of (p ∷ ps) = filled-append (slice_split is_tab p) (cut_twice ps) ∙ ap (λ ws. filled (slice_split is_tab p) ++ ws) (words-of ps)

pub words-in : (line : List ℕ) → words_of (slice_split is_space line) ≡ words_in line
words-in line = sym (words-of (slice_split is_space line)) ∙ ap filled (sym (cut-is line))

pub drop_at : {X : Type 0} (xs : List X) (i : ℕ) (d : X) → i < length xs → drop i xs ≡ get_or xs i d ∷ drop (i + 1) xs
drop_at xs i d h = drop-cons xs i d h ∙ ap (λ k. get_or xs i d ∷ drop k xs) (sym (add-one i))

-- a word that is empty, and one that isn't
pub filled-none : (w : Word) (ws : List Word) → (length w == 0) ≡ true → filled (w ∷ ws) ≡ filled ws
filled-none [] ws e = refl
filled-none (b ∷ bs) ws e = absurd (omega (arith, eqb-true (length (b ∷ bs)) 0 e))

pub filled-some : (w : Word) (ws : List Word) → (length w == 0) ≡ false → filled (w ∷ ws) ≡ w ∷ filled ws
filled-some [] ws e = absurd (true≢false e)
filled-some (b ∷ bs) ws e = refl

-- it is appended so
pub pushed : (old new : List (String Global)) (s : String Global) (w : Word) → new ≡ old ++ s ∷ [] → string_bytes s ≡ w → (length w == 0) ≡ false → map string_bytes new ≡ map string_bytes old ++ filled (w ∷ [])
pushed old new s w so is e =
    ap (map string_bytes) so ∙ map-append string_bytes old (s ∷ []) ∙ ap (λ x. map string_bytes old ++ x ∷ []) is ∙ ap (λ ws. map string_bytes old ++ ws) (sym (filled-some w [] e))

-- ---- the words of a line, done

pub words-none : (ws : List (String Global)) → (length ws == 0) ≡ true → words_done (map string_bytes ws) ≡ give tt
words-none [] e = refl
words-none (w ∷ ws) e = absurd (omega (arith, eqb-true (length (w ∷ ws)) 0 e))

pub words-some : (ws : List (String Global)) → (length ws == 0) ≡ false → words_done (map string_bytes ws) ≡ line_done (map string_bytes ws)
words-some [] e = absurd (true≢false e)
words-some (w ∷ ws) e = refl
