-- Copies of what has several parts.
use Rattle.std.proofs.Common.{◌≡◌, zero, suc, List, [], ◌∷◌, ◌++◌, Result, Ok, Err, IfOk, refl, sym, ap, ◌∙◌, subst}
use Rattle.std.specs.Result.{IsOkAnd}
use Rattle.py_changes.specs.Mutants.{around}
use Rattle.cov_mutants_expr.specs.Search.{Reached, left, found, past, changed, Copied}

pub past-none : {X : Type 0} (A : Type 0) (s : Reached X) → past {A = A} s [] ≡ s
past-none A (found x) = refl
past-none A (left n) = refl

pub changed-none : {X A : Type 0} (s : Reached X) (a : A) → changed s a [] ≡ a
changed-none (found x) a = refl
changed-none (left n) a = refl

pub past-append : {X A : Type 0} (s : Reached X) (xs ys : List (X × A))
    → past s (xs ++ ys) ≡ past (past s xs) ys
past-append (found x) xs ys = refl
past-append (left n) [] ys = refl
past-append (left zero) (x ∷ xs) ys = refl
past-append (left (suc n)) (x ∷ xs) ys = past-append (left n) xs ys

pub past-around : {X A B : Type 0} (F : A → B) (s : Reached X) (xs : List (X × A))
    → past s (around F xs) ≡ past s xs
past-around F (found x) xs = refl
past-around F (left n) [] = refl
past-around F (left zero) (x ∷ xs) = refl
past-around F (left (suc n)) (x ∷ xs) = past-around F (left n) xs

-- a part, and what stands behind it
pub past-then : {X A B : Type 0} (F : A → B) (s : Reached X) (xs : List (X × A))
    (ys : List (X × B)) → past s (around F xs ++ ys) ≡ past (past s xs) ys
past-then F s xs ys = past-append s (around F xs) ys ∙ ap (λ t. past t ys) (past-around F s xs)

pub changed-around : {X A B : Type 0} (F : A → B) (s : Reached X) (a : A) (xs : List (X × A))
    → changed s (F a) (around F xs) ≡ F (changed s a xs)
changed-around F (found x) a xs = refl
changed-around F (left n) a [] = refl
changed-around F (left zero) a (x ∷ xs) = refl
changed-around F (left (suc n)) a (x ∷ xs) = changed-around F (left n) a xs

-- two parts
pub changed-two : {X A B C : Type 0} (F : A → B → C) (s : Reached X) (a : A) (b : B)
    (xs : List (X × A)) (ys : List (X × B))
    → changed s (F a b) (around (λ x. F x b) xs ++ around (λ y. F a y) ys)
    ≡ F (changed s a xs) (changed (past s xs) b ys)
changed-two F (found x) a b xs ys = refl
changed-two F (left n) a b [] ys = changed-around (F a) (left n) b ys
changed-two F (left zero) a b (x ∷ xs) ys = refl
changed-two F (left (suc n)) a b (x ∷ xs) ys = changed-two F (left n) a b xs ys

-- three parts
pub changed-three : {X A B C D : Type 0} (F : A → B → C → D) (s : Reached X) (a : A) (b : B) (c : C)
    (xs : List (X × A)) (ys : List (X × B)) (zs : List (X × C))
    → changed s (F a b c)
    (around (λ x. F x b c) xs ++ (around (λ y. F a y c) ys ++ around (λ z. F a b z) zs))
    ≡ F (changed s a xs) (changed (past s xs) b ys) (changed (past (past s xs) ys) c zs)
changed-three F (found x) a b c xs ys zs = refl
changed-three F (left n) a b c [] ys zs = changed-two (F a) (left n) b c ys zs
changed-three F (left zero) a b c (x ∷ xs) ys zs = refl
changed-three F (left (suc n)) a b c (x ∷ xs) ys zs = changed-three F (left n) a b c xs ys zs

-- four parts
pub changed-four : {X A B C D E : Type 0} (F : A → B → C → D → E) (s : Reached X) (a : A) (b : B)
    (c : C) (d : D) (ws : List (X × A)) (xs : List (X × B)) (ys : List (X × C)) (zs : List (X × D))
    → changed s (F a b c d)
    (around (λ w. F w b c d) ws ++ (around (λ x. F a x c d) xs
    ++ (around (λ y. F a b y d) ys ++ around (λ z. F a b c z) zs)))
    ≡ F (changed s a ws) (changed (past s ws) b xs) (changed (past (past s ws) xs) c ys)
    (changed (past (past (past s ws) xs) ys) d zs)
changed-four F (found w) a b c d ws xs ys zs = refl
changed-four F (left n) a b c d [] xs ys zs = changed-three (F a) (left n) b c d xs ys zs
changed-four F (left zero) a b c d (w ∷ ws) xs ys zs = refl
changed-four F (left (suc n)) a b c d (w ∷ ws) xs ys zs =
    changed-four F (left n) a b c d ws xs ys zs

-- ---- copies

-- what has no mutant
pub copied-none : {X A : Type 0} {mutants : A → List (X × A)} (s : Reached X) (a : A)
    → mutants a ≡ [] → Copied mutants s s a a
copied-none {A = A} s a e = record {
  tree = sym (ap (changed s a) e ∙ changed-none s a);
  state = sym (ap (past s) e ∙ past-none A s);
}

-- one part
pub copied-one : {X A B : Type 0} {firsts : A → List (X × A)} {mutants : B → List (X × B)}
    (F : A → B) {s t : Reached X} {a a' : A} → mutants (F a) ≡ around F (firsts a)
    → Copied firsts s t a a' → Copied mutants s t (F a) (F a')
copied-one {firsts = firsts} F {s = s} {a = a} e h = record {
  tree =
      ap F h.tree ∙ sym (changed-around F s a (firsts a)) ∙ ap (changed s (F a)) (sym e);
  state = h.state ∙ sym (past-around F s (firsts a)) ∙ ap (past s) (sym e);
}

-- two parts
pub copied-two : {X A B C : Type 0} {firsts : A → List (X × A)} {seconds : B → List (X × B)}
    {mutants : C → List (X × C)} (F : A → B → C) {s t u : Reached X} {a a' : A} {b b' : B}
    → mutants (F a b) ≡ around (λ x. F x b) (firsts a) ++ around (λ y. F a y) (seconds b)
    → Copied firsts s t a a' → Copied seconds t u b b' → Copied mutants s u (F a b) (F a' b')
copied-two {firsts = firsts} {seconds = seconds} F {s = s} {t = t} {a = a} {a' = a'} {b = b} e h k = record {
  tree =
      ap (F a') (k.tree ∙ ap (λ r. changed r b (seconds b)) h.state)
      ∙ ap (λ x. F x (changed (past s (firsts a)) b (seconds b))) h.tree
      ∙ sym (changed-two F s a b (firsts a) (seconds b)) ∙ ap (changed s (F a b)) (sym e);
  state =
      k.state ∙ ap (λ r. past r (seconds b)) h.state
      ∙ sym (past-around (F a) (past s (firsts a)) (seconds b))
      ∙ sym (past-then (λ x. F x b) s (firsts a) (around (λ y. F a y) (seconds b)))
      ∙ ap (past s) (sym e);
}

-- three parts
pub copied-three : {X A B C D : Type 0} {firsts : A → List (X × A)} {seconds : B → List (X × B)}
    {thirds : C → List (X × C)} {mutants : D → List (X × D)} (F : A → B → C → D)
    {s t u v : Reached X} {a a' : A} {b b' : B} {c c' : C}
    → mutants (F a b c) ≡ around (λ x. F x b c) (firsts a)
    ++ (around (λ y. F a y c) (seconds b) ++ around (λ z. F a b z) (thirds c))
    → Copied firsts s t a a' → Copied seconds t u b b' → Copied thirds u v c c'
    → Copied mutants s v (F a b c) (F a' b' c')
copied-three {firsts = firsts} {seconds = seconds} {thirds = thirds} F {s = s} {a = a} {a' = a'} {b = b} {b' = b'} {c = c} e h k m =
    let two = k.state ∙ ap (λ r. past r (seconds b)) h.state in record {
      tree =
          ap (F a' b') (m.tree ∙ ap (λ r. changed r c (thirds c)) two)
          ∙ ap (λ y. F a' y (changed (past (past s (firsts a)) (seconds b)) c (thirds c))) (k.tree ∙ ap (λ r. changed r b (seconds b)) h.state)
          ∙ ap (λ x. F x (changed (past s (firsts a)) b (seconds b)) (changed (past (past s (firsts a)) (seconds b)) c (thirds c))) h.tree
          ∙ sym (changed-three F s a b c (firsts a) (seconds b) (thirds c)) ∙ ap (changed s (F a b c)) (sym e);
      state =
          m.state ∙ ap (λ r. past r (thirds c)) two
          ∙ sym (past-around (F a b) (past (past s (firsts a)) (seconds b)) (thirds c))
          ∙ sym (past-then (λ y. F a y c) (past s (firsts a)) (seconds b) (around (λ z. F a b z) (thirds c)))
          ∙ sym (past-then (λ x. F x b c) s (firsts a) (around (λ y. F a y c) (seconds b) ++ around (λ z. F a b z) (thirds c)))
          ∙ ap (past s) (sym e);
    }

-- four parts
pub copied-four : {X A B C D E : Type 0} {firsts : A → List (X × A)} {seconds : B → List (X × B)}
    {thirds : C → List (X × C)} {fourths : D → List (X × D)} {mutants : E → List (X × E)}
    (F : A → B → C → D → E) {s t u v w : Reached X} {a a' : A} {b b' : B} {c c' : C} {d d' : D}
    → mutants (F a b c d) ≡ around (λ x. F x b c d) (firsts a)
    ++ (around (λ y. F a y c d) (seconds b)
    ++ (around (λ z. F a b z d) (thirds c) ++ around (λ z. F a b c z) (fourths d)))
    → Copied firsts s t a a' → Copied seconds t u b b' → Copied thirds u v c c'
    → Copied fourths v w d d' → Copied mutants s w (F a b c d) (F a' b' c' d')
copied-four {firsts = firsts} {seconds = seconds} {thirds = thirds} {fourths = fourths} F {s = s} {a = a} {a' = a'} {b = b} {b' = b'} {c = c} {c' = c'} {d = d} e h k m n =
    let one = past s (firsts a) in let two = past one (seconds b) in let three = past two (thirds c) in
    let at_two = k.state ∙ ap (λ r. past r (seconds b)) h.state in
    let at_three = m.state ∙ ap (λ r. past r (thirds c)) at_two in record {
      tree =
          ap (F a' b' c') (n.tree ∙ ap (λ r. changed r d (fourths d)) at_three)
          ∙ ap (λ z. F a' b' z (changed three d (fourths d))) (m.tree ∙ ap (λ r. changed r c (thirds c)) at_two)
          ∙ ap (λ y. F a' y (changed two c (thirds c)) (changed three d (fourths d))) (k.tree ∙ ap (λ r. changed r b (seconds b)) h.state)
          ∙ ap (λ x. F x (changed one b (seconds b)) (changed two c (thirds c)) (changed three d (fourths d))) h.tree
          ∙ sym (changed-four F s a b c d (firsts a) (seconds b) (thirds c) (fourths d)) ∙ ap (changed s (F a b c d)) (sym e);
      state =
          n.state ∙ ap (λ r. past r (fourths d)) at_three
          ∙ sym (past-around (F a b c) three (fourths d))
          ∙ sym (past-then (λ z. F a b z d) two (thirds c) (around (λ z. F a b c z) (fourths d)))
          ∙ sym (past-then (λ y. F a y c d) one (seconds b) (around (λ z. F a b z d) (thirds c) ++ around (λ z. F a b c z) (fourths d)))
          ∙ sym (past-then (λ x. F x b c d) s (firsts a) (around (λ y. F a y c d) (seconds b) ++ (around (λ z. F a b z d) (thirds c) ++ around (λ z. F a b c z) (fourths d))))
          ∙ ap (past s) (sym e);
    }

-- under other names
pub copied-as : {X A : Type 0} {mutants : A → List (X × A)} {s t : Reached X} {a b a' b' : A}
    → a ≡ b → a' ≡ b' → Copied mutants s t b b' → Copied mutants s t a a'
copied-as {mutants = mutants} {s = s} {t = t} {b = b} {a' = a'} e f h =
    subst (λ x. Copied mutants s t x a') (sym e) (subst (λ y. Copied mutants s t b y) (sym f) h)

-- what follows from what holds of two results, of which the second holds the first
pub over : {T U E D : Type 0} {P : T → Type 0} {Q : T → U → Type 0} {G : U → Type 0} (q : Result T E)
    (r : Result U D) → ((x : T) (y : U) → P x → Q x y → G y) → IfOk q P
    → IfOk r (λ y. IsOkAnd q (λ x. Q x y)) → IfOk r G
over (Ok x) (Ok y) f h k = f x y h k
over (Ok x) (Err e) f h k = tt
over (Err e) (Ok y) f h k = absurd k
over (Err e) (Err d) f h k = tt

-- what a result holds
pub was_ok : {T E : Type 0} (Q : T → Type 0) (q : Result T E) (x : T) → q ≡ Ok x → Q x → IsOkAnd q Q
was_ok Q (Ok y) x e h = let k : x ≡ y = cc in subst Q k h
was_ok Q (Err y) x e h = absurd cc
