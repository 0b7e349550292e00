-- Counts of mutants, part by part and item by item.
use Rattle.std.proofs.Common.{suc, drop-cons, add-one, ◌≡◌, ℕ, ◌+◌, ◌<◌, ◌≤◌, min, List, [], ◌∷◌, ◌++◌, length, drop, get_or, refl, sym, ap, ◌∙◌, arith}
use Rattle.std.proofs.Math.ListN.{drop_of_length-le}
use Rattle.py_changes.specs.Mutants.{Token, around, at_mark}
use Rattle.cov_places.specs.Counting.{one_more, counted_to, counted, most, Counts}

counted-append : {A : Type 0} (limit n : ℕ) (xs ys : List A)
    → counted_to limit n (xs ++ ys) ≡ counted_to limit (counted_to limit n xs) ys
counted-append limit n [] ys = refl
counted-append limit n (x ∷ xs) ys = counted-append limit (one_more limit n) xs ys

counted-around : {X A B : Type 0} (F : A → B) (limit n : ℕ) (xs : List (X × A))
    → counted_to limit n (around F xs) ≡ counted_to limit n xs
counted-around F limit n [] = refl
counted-around F limit n (x ∷ xs) = counted-around F limit (one_more limit n) xs

pub counted-mark : {A : Type 0} (limit n l : ℕ) (xs : List (Token × A))
    → counted_to limit n (at_mark l xs) ≡ counted_to limit n xs
counted-mark limit n l [] = refl
counted-mark limit n l (x ∷ xs) = counted-mark limit (one_more limit n) l xs

-- the mutants of a part, and others behind it
then : {X A B : Type 0} (F : A → B) (n : ℕ) (xs : List (X × A)) (ys : List (X × B))
    → counted n (around F xs ++ ys) ≡ counted (counted n xs) ys
then F n xs ys = counted-append most n (around F xs) ys ∙ ap (λ k. counted k ys) (counted-around F most n xs)

-- ---- of one part, two, three and four

pub count-none : {C G : Type 0} (mutants : C → List G) (n : ℕ) (z c : C) → z ≡ c → mutants c ≡ [] → n ≡ counted n (mutants z)
count-none mutants n z c is law = sym (ap (λ x. counted n (mutants x)) is ∙ ap (counted n) law)

pub count-one : {X A C : Type 0} (mutants : C → List (X × C)) (firsts : A → List (X × A)) (F : A → C) (n m : ℕ) (x : A) (z : C)
    → z ≡ F x → mutants (F x) ≡ around F (firsts x) → m ≡ counted n (firsts x) → m ≡ counted n (mutants z)
count-one mutants firsts F n m x z is law h =
    h ∙ sym (ap (λ c. counted n (mutants c)) is ∙ ap (counted n) law ∙ counted-around F most n (firsts x))

pub count-two : {X A B C : Type 0} (mutants : C → List (X × C)) (firsts : A → List (X × A)) (seconds : B → List (X × B))
    (F : A → B → C) (n m k : ℕ) (x : A) (y : B) (z : C) → z ≡ F x y
    → mutants (F x y) ≡ around (λ a. F a y) (firsts x) ++ around (λ b. F x b) (seconds y)
    → m ≡ counted n (firsts x) → k ≡ counted m (seconds y) → k ≡ counted n (mutants z)
count-two mutants firsts seconds F n m k x y z is law h i =
    i ∙ ap (λ j. counted j (seconds y)) h ∙ sym (ap (λ c. counted n (mutants c)) is ∙ ap (counted n) law
    ∙ then (λ a. F a y) n (firsts x) (around (λ b. F x b) (seconds y))
    ∙ counted-around (λ b. F x b) most (counted n (firsts x)) (seconds y))

pub count-three : {X A B C D : Type 0} (mutants : D → List (X × D)) (firsts : A → List (X × A)) (seconds : B → List (X × B))
    (thirds : C → List (X × C)) (F : A → B → C → D) (n m k j : ℕ) (x : A) (y : B) (w : C) (z : D) → z ≡ F x y w
    → mutants (F x y w) ≡ around (λ a. F a y w) (firsts x)
    ++ (around (λ b. F x b w) (seconds y) ++ around (λ c. F x y c) (thirds w))
    → m ≡ counted n (firsts x) → k ≡ counted m (seconds y) → j ≡ counted k (thirds w) → j ≡ counted n (mutants z)
count-three mutants firsts seconds thirds F n m k j x y w z is law h i g =
    g ∙ ap (λ q. counted q (thirds w)) (i ∙ ap (λ q. counted q (seconds y)) h)
    ∙ sym (ap (λ c. counted n (mutants c)) is ∙ ap (counted n) law
    ∙ then (λ a. F a y w) n (firsts x) (around (λ b. F x b w) (seconds y) ++ around (λ c. F x y c) (thirds w))
    ∙ then (λ b. F x b w) (counted n (firsts x)) (seconds y) (around (λ c. F x y c) (thirds w))
    ∙ counted-around (λ c. F x y c) most (counted (counted n (firsts x)) (seconds y)) (thirds w))

pub count-four : {X A B C D E : Type 0} (mutants : E → List (X × E)) (firsts : A → List (X × A)) (seconds : B → List (X × B))
    (thirds : C → List (X × C)) (fourths : D → List (X × D)) (F : A → B → C → D → E) (n m k j o : ℕ) (x : A) (y : B) (w : C) (v : D) (z : E)
    → z ≡ F x y w v
    → mutants (F x y w v) ≡ around (λ a. F a y w v) (firsts x)
    ++ (around (λ b. F x b w v) (seconds y)
    ++ (around (λ c. F x y c v) (thirds w) ++ around (λ d. F x y w d) (fourths v)))
    → m ≡ counted n (firsts x) → k ≡ counted m (seconds y) → j ≡ counted k (thirds w) → o ≡ counted j (fourths v)
    → o ≡ counted n (mutants z)
count-four mutants firsts seconds thirds fourths F n m k j o x y w v z is law h i g f =
    f ∙ ap (λ q. counted q (fourths v)) (g ∙ ap (λ q. counted q (thirds w)) (i ∙ ap (λ q. counted q (seconds y)) h))
    ∙ sym (ap (λ c. counted n (mutants c)) is ∙ ap (counted n) law
    ∙ then (λ a. F a y w v) n (firsts x) (around (λ b. F x b w v) (seconds y) ++ (around (λ c. F x y c v) (thirds w) ++ around (λ d. F x y w d) (fourths v)))
    ∙ then (λ b. F x b w v) (counted n (firsts x)) (seconds y) (around (λ c. F x y c v) (thirds w) ++ around (λ d. F x y w d) (fourths v))
    ∙ then (λ c. F x y c v) (counted (counted n (firsts x)) (seconds y)) (thirds w) (around (λ d. F x y w d) (fourths v))
    ∙ counted-around (λ d. F x y w d) most (counted (counted (counted n (firsts x)) (seconds y)) (thirds w)) (fourths v))

-- ---- rows

-- the items from one on
pub the_drop : {N : Type 0} (xs : List N) (i : ℕ) (x : N) → i < length xs → x ≡ get_or xs i x
    → drop i xs ≡ x ∷ drop (i + 1) xs
the_drop xs i x lt is =
    drop-cons xs i x lt ∙ ap (λ y. y ∷ drop (suc i) xs) (sym is)
    ∙ ap (λ k. x ∷ drop k xs) (sym (add-one i))

pub counts-none : {X R : Type 0} (mutants : R → List (X × R)) (item F : R → R) (n : ℕ) → ((r : R) → item r ≡ F r)
    → ((r : R) → mutants (F r) ≡ around F (mutants r)) → Counts mutants item n n
counts-none mutants item F n is law r =
    ap (λ x. counted n (mutants x)) (is r) ∙ ap (counted n) (law r) ∙ counted-around F most n (mutants r)

pub counts-one : {X A R : Type 0} (mutants : R → List (X × R)) (firsts : A → List (X × A)) (item : R → R) (F : A → R → R) (n m : ℕ) (x : A)
    → ((r : R) → item r ≡ F x r)
    → ((r : R) → mutants (F x r) ≡ around (λ a. F a r) (firsts x) ++ around (λ s. F x s) (mutants r))
    → m ≡ counted n (firsts x) → Counts mutants item n m
counts-one mutants firsts item F n m x is law h r =
    ap (λ c. counted n (mutants c)) (is r) ∙ ap (counted n) (law r)
    ∙ then (λ a. F a r) n (firsts x) (around (λ s. F x s) (mutants r))
    ∙ counted-around (λ s. F x s) most (counted n (firsts x)) (mutants r) ∙ ap (λ k. counted k (mutants r)) (sym h)

pub counts-two : {X A B R : Type 0} (mutants : R → List (X × R)) (firsts : A → List (X × A)) (seconds : B → List (X × B))
    (item : R → R) (F : A → B → R → R) (n m k : ℕ) (x : A) (y : B) → ((r : R) → item r ≡ F x y r)
    → ((r : R) → mutants (F x y r) ≡ around (λ a. F a y r) (firsts x)
    ++ (around (λ b. F x b r) (seconds y) ++ around (λ s. F x y s) (mutants r)))
    → m ≡ counted n (firsts x) → k ≡ counted m (seconds y) → Counts mutants item n k
counts-two mutants firsts seconds item F n m k x y is law h i r =
    ap (λ c. counted n (mutants c)) (is r) ∙ ap (counted n) (law r)
    ∙ then (λ a. F a y r) n (firsts x) (around (λ b. F x b r) (seconds y) ++ around (λ s. F x y s) (mutants r))
    ∙ then (λ b. F x b r) (counted n (firsts x)) (seconds y) (around (λ s. F x y s) (mutants r))
    ∙ counted-around (λ s. F x y s) most (counted (counted n (firsts x)) (seconds y)) (mutants r)
    ∙ ap (λ q. counted q (mutants r)) (sym (i ∙ ap (λ q. counted q (seconds y)) h))

pub count-next : {X N R : Type 0} (mutants : R → List (X × R)) (put : N → R → R) (rows : List N → R)
    → ((n : N) (ns : List N) → rows (n ∷ ns) ≡ put n (rows ns)) → (now next total : ℕ) (items : List N) (i : ℕ) (x : N)
    → i < length items → x ≡ get_or items i x → Counts mutants (put x) now next
    → counted now (mutants (rows (drop i items))) ≡ total → counted next (mutants (rows (drop (i + 1) items))) ≡ total
count-next mutants put rows step now next total items i x lt is c g =
    sym (c (rows (drop (i + 1) items)))
    ∙ sym (ap (λ r. counted now (mutants r)) (ap rows (the_drop items i x lt is) ∙ step x (drop (i + 1) items))) ∙ g

pub count-end : {X N R : Type 0} (mutants : R → List (X × R)) (rows : List N → R) (now total : ℕ) (items : List N) (i : ℕ)
    → mutants (rows []) ≡ [] → length items ≤ i → counted now (mutants (rows (drop i items))) ≡ total → now ≡ total
count-end mutants rows now total items i none le g =
    sym (ap (λ ns. counted now (mutants (rows ns))) (drop_of_length-le items le) ∙ ap (counted now) none) ∙ g

-- ---- the number of a list

count-length : {A : Type 0} (limit n : ℕ) (xs : List A) → n ≤ limit → counted_to limit n xs ≡ min (n + length xs) limit
count-length limit n [] le = omega arith
count-length limit n (x ∷ xs) le = omega (arith, count-length limit (one_more limit n) xs (omega arith))

pub all-counted : {A : Type 0} (xs : List A) → counted 0 xs ≡ min (length xs) most
all-counted xs = count-length most 0 xs (omega arith) ∙ ap (λ k. min k most) (omega arith)

-- what stands at a mark
pub at_a_mark : {A : Type 0} (l n m : ℕ) (xs : List (Token × A)) → m ≡ counted n xs → m ≡ counted n (at_mark l xs)
at_a_mark l n m xs h = h ∙ sym (counted-mark most n l xs)

-- a form with a part that has no mutant, behind the others or between them
abbrev pub with_last : {A K C : Type 0} → (A → K → C) → K → A → C
with_last F k a = F a k

abbrev pub with_third : {A B K C : Type 0} → (A → B → K → C) → K → A → B → C
with_third F k a b = F a b k

abbrev pub with_middle : {A K B C : Type 0} → (A → K → B → C) → K → A → B → C
with_middle F k a b = F a k b
