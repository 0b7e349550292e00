-- How many lines characters stand on.
use Rattle.std.proofs.Common.{◌≡◌, ◌+◌, ◌≤◌, max, ℕ, zero, suc, Bool, true, false, cond, ◌&&◌, List, [], ◌∷◌, ◌++◌, length, take, drop, eqb, refl, sym, ap, ◌∙◌, arith, append_assoc, length-append, length-drop}
use Rattle.std.proofs.lemmas.Bool.{eq-eqb}
use Rattle.py_token.specs.Source.{begins, without_mark, joined_ends, source_text, line_count}

pub line_count-cons : (c : ℕ) (cs : List ℕ) → (line_count cs ≤ line_count (c ∷ cs)) × (1 ≤ line_count (c ∷ cs))
unfolding line_count
line_count-cons c cs = go (eqb c 10)
  where
    go : (b : Bool) → (line_count cs ≤ cond b (suc (line_count cs)) (max 1 (line_count cs))) × (1 ≤ cond b (suc (line_count cs)) (max 1 (line_count cs)))
    go true = (omega arith, omega arith)
    go false = (omega arith, omega arith)

pub line_count-end : (c : ℕ) (cs : List ℕ) → c ≡ 10 → line_count (c ∷ cs) ≡ suc (line_count cs)
unfolding line_count
line_count-end c cs is = ap (λ b. cond b (suc (line_count cs)) (max 1 (line_count cs))) (eq-eqb c 10 is)

pub line_count-drop : (n : ℕ) (cs : List ℕ) → line_count (drop n cs) ≤ line_count cs
line_count-drop zero cs = omega arith
line_count-drop (suc n) [] = omega arith
line_count-drop (suc n) (c ∷ cs) = let h = line_count-drop n cs in let k = (line_count-cons c cs).0 in omega (arith, h, k)

pub line_count-take : (n : ℕ) (cs : List ℕ) → line_count (take n cs) ≤ line_count cs
unfolding line_count
line_count-take zero cs = omega arith
line_count-take (suc n) [] = omega arith
line_count-take (suc n) (c ∷ cs) = go (eqb c 10) (line_count-take n cs)
  where
    go : (b : Bool) → line_count (take n cs) ≤ line_count cs → cond b (suc (line_count (take n cs))) (max 1 (line_count (take n cs))) ≤ cond b (suc (line_count cs)) (max 1 (line_count cs))
    go true h = omega arith
    go false h = omega arith

-- the characters after marks are some of those after the first
pub line_count-marks : (triple : Bool) (cs : List ℕ) → line_count (drop (cond triple 2 0) cs) ≤ line_count cs
line_count-marks true cs = line_count-drop 2 cs
line_count-marks false cs = omega arith

pub length-marks : (triple : Bool) (cs : List ℕ) → length (drop (cond triple 2 0) cs) ≤ length cs
length-marks true cs = let h = length-drop 2 cs in omega (arith, h)
length-marks false cs = omega arith

-- characters that are no line ends are dropped
joined_lines : (cs : List ℕ) → line_count (joined_ends cs) ≤ line_count cs
unfolding line_count joined_ends
joined_lines [] = omega arith
joined_lines (c ∷ cs) = go (eqb c 13) (begins 10 cs) (eqb c 10) (joined_lines cs)
  where
    go : (a b d : Bool) → line_count (joined_ends cs) ≤ line_count cs → line_count (cond (a && b) (joined_ends cs) (c ∷ joined_ends cs)) ≤ cond (eqb c 10) (suc (line_count cs)) (max 1 (line_count cs))
    go true true d h = let k = (line_count-cons c cs).0 in omega (arith, h, k)
    go true false d h = keeps (eqb c 10) h
      where
        keeps : (e : Bool) → line_count (joined_ends cs) ≤ line_count cs → cond e (suc (line_count (joined_ends cs))) (max 1 (line_count (joined_ends cs))) ≤ cond e (suc (line_count cs)) (max 1 (line_count cs))
        keeps true h = omega arith
        keeps false h = omega arith
    go false b d h = keeps (eqb c 10) h
      where
        keeps : (e : Bool) → line_count (joined_ends cs) ≤ line_count cs → cond e (suc (line_count (joined_ends cs))) (max 1 (line_count (joined_ends cs))) ≤ cond e (suc (line_count cs)) (max 1 (line_count cs))
        keeps true h = omega arith
        keeps false h = omega arith

unmarked_lines : (cs : List ℕ) → line_count (without_mark cs) ≤ line_count cs
unmarked_lines [] = omega arith
unmarked_lines (c ∷ cs) = go (eqb c 0xFEFF)
  where
    go : (b : Bool) → line_count (cond b cs (c ∷ cs)) ≤ line_count (c ∷ cs)
    go true = (line_count-cons c cs).0
    go false = omega arith

pub source_lines : (cs : List ℕ) → line_count (source_text cs) ≤ line_count cs
source_lines cs = let h = joined_lines (without_mark cs) in let k = unmarked_lines cs in omega (arith, h, k)

-- ---- a character more

pub few_more : (xs : List ℕ) (c n : ℕ) → n ≤ length xs → n + 1 ≤ length (xs ++ c ∷ [])
few_more xs c n few = let e = length-append xs (c ∷ []) in omega (arith, e, few)

pub still_few : (xs : List ℕ) (c n : ℕ) → n ≤ length xs → n ≤ length (xs ++ c ∷ [])
still_few xs c n few = let e = length-append xs (c ∷ []) in omega (arith, e, few)

line_more : (xs : List ℕ) (c n : ℕ) (going : Bool) (rest : List ℕ) → ((ys : List ℕ) → line_count (xs ++ ys) ≡ n + cond going (max 1 (line_count ys)) (line_count ys)) → line_count ((xs ++ c ∷ []) ++ rest) ≡ n + line_count (c ∷ rest)
line_more xs c n going rest same = ap line_count (append_assoc xs (c ∷ []) rest) ∙ same (c ∷ rest) ∙ ap (λ k. n + k) (go going (line_count-cons c rest).1)
  where
    go : (b : Bool) → 1 ≤ line_count (c ∷ rest) → cond b (max 1 (line_count (c ∷ rest))) (line_count (c ∷ rest)) ≡ line_count (c ∷ rest)
    go true h = omega (arith, h)
    go false h = refl

pub after_end : (xs : List ℕ) (c n : ℕ) (going : Bool) (rest : List ℕ) → true ≡ (eqb c 10) → ((ys : List ℕ) → line_count (xs ++ ys) ≡ n + cond going (max 1 (line_count ys)) (line_count ys)) → line_count ((xs ++ c ∷ []) ++ rest) ≡ n + 1 + line_count rest
unfolding line_count
after_end xs c n going rest is same =
    let e : line_count ((xs ++ c ∷ []) ++ rest) ≡ n + suc (line_count rest) = line_more xs c n going rest same ∙ ap (λ b. n + cond b (suc (line_count rest)) (max 1 (line_count rest))) (sym is) in
    omega (arith, e)

pub in_line : (xs : List ℕ) (c n : ℕ) (going : Bool) (rest : List ℕ) → false ≡ (eqb c 10) → ((ys : List ℕ) → line_count (xs ++ ys) ≡ n + cond going (max 1 (line_count ys)) (line_count ys)) → line_count ((xs ++ c ∷ []) ++ rest) ≡ n + max 1 (line_count rest)
unfolding line_count
in_line xs c n going rest is same = line_more xs c n going rest same ∙ ap (λ b. n + cond b (suc (line_count rest)) (max 1 (line_count rest))) (sym is)
