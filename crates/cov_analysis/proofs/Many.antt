-- How many branches and lines a source can have.
use Rattle.std.proofs.Common.{◌≡◌, ◌≤◌, ◌<◌, ◌<ℤ◌, ℕ, ◌+◌, ◌*◌, ◌-◌, ℤ, pos, negsuc, Bool, true, false, cond, List, [], ◌∷◌, ◌++◌, length, refl, arith}
use Rattle.std.specs.declared.cmp.Ordering.{Ordering}
use Rattle.std.specs.declared.cmp.Ordering.TheVariants.{Less, Equal, Greater}
use Rattle.std.specs.Prelude.{filter}
use Rattle.std.specs.Cmp.{int_ranks}
use Rattle.std.specs.List.{AllByRecursion}
use Rattle.std.specs.List.Sorted.{IsStrictlySortedBy}
use Rattle.std.specs.Ordering.{MatchOrdering, nat_cmp, int_cmp, ordering_then}
use Rattle.std.proofs.lemmas.Cmp.{ranked}
use Rattle.std.proofs.lemmas.Int.{ints}
use Rattle.py_syntax.specs.Prediction.{Arc}
use Rattle.cov_analysis.specs.Branches.{Branch, branch_cmp, is_open, open_branches, branches_of}
use Rattle.cov_analysis.proofs.Leaving.{EndIn, ArcIn}

-- a line of a source
abbrev pub IsSmall : ℕ → Type 0
IsSmall l = l ≤ 65535

abbrev place : ℤ → ℕ
place (pos l) = 65535 + l
place (negsuc n) = 65534 - n

place-most : (z : ℤ) → EndIn IsSmall z → place z ≤ 131070
place-most (pos l) h = omega (arith, h)
place-most (negsuc n) h = omega (arith, h)

place-less : (z w : ℤ) → EndIn IsSmall z → EndIn IsSmall w → z <ℤ w → place z < place w
place-less (pos l) (pos k) h g less = omega (arith, ints, less)
place-less (pos l) (negsuc n) h g less = absurd (omega (arith, ints, less))
place-less (negsuc n) (pos k) h g less = omega (arith, h)
place-less (negsuc n) (negsuc m) h g less = omega (arith, ints, less, h, g)

abbrev rank : Branch → ℕ
rank b = b.0 * 131071 + place b.1

abbrev pub IsLow : Branch → Type 0
IsLow b = IsSmall b.0 × EndIn IsSmall b.1

rank-less : (a b : Branch) → IsLow a → IsLow b → branch_cmp a b ≡ Less → rank a < rank b
rank-less a b h g less = go (nat_cmp a.0 b.0) (int_cmp a.1 b.1) (ranked a.0 b.0 _ refl) (int_ranks a.1 b.1) less
  where
    most : place a.1 ≤ 131070
    most = place-most a.1 h.1

    go : (r s : Ordering) → MatchOrdering r (a.0 < b.0) (a.0 ≡ b.0) (b.0 < a.0) → MatchOrdering s (a.1 <ℤ b.1) (a.1 ≡ b.1) (b.1 <ℤ a.1) → ordering_then r s ≡ Less → rank a < rank b
    go Less s lines ends is = omega (arith, lines, most)
    go Equal Less lines ends is = let later : place a.1 < place b.1 = place-less a.1 b.1 h.1 g.1 ends in omega (arith, lines, later)
    go Equal Equal lines ends is = absurd cc
    go Equal Greater lines ends is = absurd cc
    go Greater s lines ends is = absurd cc

-- as many as there are places from the first on
up_to : (bs : List Branch) (low : ℕ) → AllByRecursion IsLow bs → IsStrictlySortedBy branch_cmp bs → AllByRecursion (λ b. low ≤ rank b) bs → low ≤ 8590000000 → low + length bs ≤ 8590000000
unfolding IsStrictlySortedBy
up_to [] low h sorted least within = omega (arith, within)
up_to (b ∷ bs) low h sorted least within =
    let most : place b.1 ≤ 131070 = place-most b.1 h.0.1 in
    let here : rank b + 1 ≤ 8590000000 = omega (arith, h.0.0, most) in
    let later = up_to bs (rank b + 1) h.1 sorted.1 (after bs h.1 sorted.0) here in
    omega (arith, later, least.0)
  where
    after : (cs : List Branch) → AllByRecursion IsLow cs → AllByRecursion (λ y. branch_cmp b y ≡ Less) cs → AllByRecursion (λ c. rank b + 1 ≤ rank c) cs
    after [] k less = tt
    after (c ∷ cs) k less = (let is : rank b < rank c = rank-less b c h.0 k.0 less.0 in omega (arith, is), after cs k.1 less.1)

none-below : (bs : List Branch) → AllByRecursion (λ b. 0 ≤ rank b) bs
none-below [] = tt
none-below (b ∷ bs) = (omega arith, none-below bs)

pub few_branches : (bs : List Branch) → AllByRecursion IsLow bs → IsStrictlySortedBy branch_cmp bs → length bs ≤ 72057594037927935
few_branches bs h sorted = let all = up_to bs 0 h sorted (none-below bs) (omega arith) in omega (arith, all)

-- and so with lines
lines_up_to : (ls : List ℕ) (low : ℕ) → AllByRecursion IsSmall ls → IsStrictlySortedBy nat_cmp ls → AllByRecursion (λ l. low ≤ l) ls → low ≤ 65536 → low + length ls ≤ 65536
unfolding IsStrictlySortedBy
lines_up_to [] low h sorted least within = omega (arith, within)
lines_up_to (l ∷ ls) low h sorted least within =
    let later = lines_up_to ls (l + 1) h.1 sorted.1 (after ls sorted.0) (omega (arith, h.0)) in
    omega (arith, later, least.0)
  where
    above : (k : ℕ) → nat_cmp l k ≡ Less → l + 1 ≤ k
    above k is = go (nat_cmp l k) (ranked l k _ refl) is
      where
        go : (r : Ordering) → MatchOrdering r (l < k) (l ≡ k) (k < l) → r ≡ Less → l + 1 ≤ k
        go Less m is = omega (arith, m)
        go Equal m is = absurd cc
        go Greater m is = absurd cc

    after : (ks : List ℕ) → AllByRecursion (λ y. nat_cmp l y ≡ Less) ks → AllByRecursion (λ k. l + 1 ≤ k) ks
    after [] less = tt
    after (k ∷ ks) less = (above k less.0, after ks less.1)

not-below : (ls : List ℕ) → AllByRecursion (λ l. 0 ≤ l) ls
not-below [] = tt
not-below (l ∷ ls) = (omega arith, not-below ls)

pub few_lines : (ls : List ℕ) → AllByRecursion IsSmall ls → IsStrictlySortedBy nat_cmp ls → length ls ≤ 72057594037927935
few_lines ls h sorted = let all = lines_up_to ls 0 h sorted (not-below ls) (omega arith) in omega (arith, all)

-- what holds of each item holds of those that are kept
pub kept : {X : Type 0} (Q : X → Type 0) (p : X → Bool) (xs : List X) → AllByRecursion Q xs → AllByRecursion Q (filter p xs)
kept Q p [] h = tt
kept Q p (x ∷ xs) h = elim (p x) as (λ b. AllByRecursion Q (cond b (x ∷ filter p xs) (filter p xs))) [ true ↦ (h.0, kept Q p xs h.1) | false ↦ kept Q p xs h.1 ]

opened : (excluded : List ℕ) (arcs : List Arc) → AllByRecursion (ArcIn IsSmall) arcs → AllByRecursion IsLow (open_branches excluded arcs)
opened excluded [] h = tt
opened excluded ((pos n, to) ∷ rest) h =
    elim (is_open excluded (n, to)) as (λ b. AllByRecursion IsLow (cond b ((n, to) ∷ []) [] ++ open_branches excluded rest)) [ true ↦ ((h.0.0, h.0.1), opened excluded rest h.1) | false ↦ opened excluded rest h.1 ]
opened excluded ((negsuc n, to) ∷ rest) h = opened excluded rest h.1

pub low_branches : (excluded : List ℕ) (arcs : List Arc) → AllByRecursion (ArcIn IsSmall) arcs → AllByRecursion IsLow (branches_of excluded arcs)
low_branches excluded arcs h = kept IsLow _ (open_branches excluded arcs) (opened excluded arcs h)
