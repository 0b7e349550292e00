-- What is said of programs one after another, by what is said of each.
use Rattle.std.proofs.Common.{ℕ, zero, suc, ◌+◌, ◌≤◌, Bool, true, false, if◌then◌else◌, true≢false, List, [], ◌∷◌, sym, ◌∙◌, subst, arith}
use Rattle.cov_programs.specs.Programs.{Program, give, settle, refuse, ask, bind, each}
use Rattle.cov_programs.specs.Laws.{IsWant, Yields, IsCareful, OnlyKeeps, CallsAtMost, BlamesOnly}

module _ {C : Type 0} {Answer : C → Type 0} {R : Type 0} (keeps : (call : C) → Answer call → Bool) where
  pub then-keeps : {A B : Type 0} (p : Program C Answer R A) (next : A → Program C Answer R B) → OnlyKeeps keeps p → ((a : A) → OnlyKeeps keeps (next a)) → OnlyKeeps keeps (bind p next)
  then-keeps (give a) next k h = h a
  then-keeps (settle a) next k h = h a
  then-keeps (refuse r) next k h = tt
  then-keeps (ask call f) next k h = λ x. ((k x).0, then-keeps (f x) next (k x).1 h)

  pub each-keeps : {A B : Type 0} (p : A → Program C Answer R B) → ((a : A) → OnlyKeeps keeps (p a)) → (xs : List A) → OnlyKeeps keeps (each p xs)
  each-keeps p h [] = tt
  each-keeps p h (x ∷ rest) = then-keeps (p x) (λ b. bind (each p rest) (λ more. give (b ∷ more))) (h x) (λ b. then-keeps (each p rest) (λ more. give (b ∷ more)) (each-keeps p h rest) (λ more. tt))

  pub then-careful : {A B : Type 0} (p : Program C Answer R A) (next : A → Program C Answer R B) → OnlyKeeps keeps p → ((a : A) → IsCareful keeps (next a)) → IsCareful keeps (bind p next)
  then-careful (give a) next k h = h a
  then-careful (settle a) next k h = h a
  then-careful (refuse r) next k h = tt
  then-careful (ask call f) next k h = λ x. (λ e. absurd (true≢false (sym (k x).0 ∙ e)), then-careful (f x) next (k x).1 h)

  pub keeps-careful : {A : Type 0} (p : Program C Answer R A) → OnlyKeeps keeps p → IsCareful keeps p
  keeps-careful (give a) k = tt
  keeps-careful (settle a) k = tt
  keeps-careful (refuse r) k = tt
  keeps-careful (ask call f) k = λ x. (λ e. absurd (true≢false (sym (k x).0 ∙ e)), keeps-careful (f x) (k x).1)

module _ {C : Type 0} {Answer : C → Type 0} {R : Type 0} (counts : C → Bool) where
  either-way : {A : Type 0} (b : Bool) (n : ℕ) (q : Program C Answer R A) → CallsAtMost counts n q → CallsAtMost counts (suc n) q → CallsAtMost counts (if b then n else suc n) q
  either-way true n q g h = g
  either-way false n q g h = h

  from-one : {A B : Type 0} (b : Bool) (n k : ℕ) (p : Program C Answer R A) (q : Program C Answer R B) → CallsAtMost counts (if b then n else suc n) p
      → (CallsAtMost counts n p → CallsAtMost counts k q) → (CallsAtMost counts (suc n) p → CallsAtMost counts (suc k) q) → CallsAtMost counts (if b then k else suc k) q
  from-one true n k p q c g h = g c
  from-one false n k p q c g h = h c

  -- more are allowed than are made
  pub few-of : {A : Type 0} (p : Program C Answer R A) (n k : ℕ) → n ≤ k → CallsAtMost counts n p → CallsAtMost counts k p
  few-of (give a) n k le c = tt
  few-of (settle a) n k le c = tt
  few-of (refuse r) n k le c = tt
  few-of (ask call f) zero zero le c = c
  few-of (ask call f) zero (suc k) le c = λ x. either-way (counts call) k (f x) (few-of (f x) zero k (omega arith) (c.1 x)) (few-of (f x) zero (suc k) le (c.1 x))
  few-of (ask call f) (suc n) zero le c = absurd (omega (arith, le))
  few-of (ask call f) (suc n) (suc k) le c = λ x. from-one (counts call) n k (f x) (f x) (c x) (few-of (f x) n k (omega (arith, le))) (few-of (f x) (suc n) (suc k) le)

  pub then-few : {A B : Type 0} (p : Program C Answer R A) (next : A → Program C Answer R B) (n : ℕ) → CallsAtMost counts zero p → ((a : A) → CallsAtMost counts n (next a)) → CallsAtMost counts n (bind p next)
  then-few (give a) next n z h = h a
  then-few (settle a) next n z h = h a
  then-few (refuse r) next n z h = tt
  then-few (ask call f) next zero z h = (z.0, λ x. then-few (f x) next zero (z.1 x) h)
  then-few (ask call f) next (suc n) z h = λ x. subst (λ b. CallsAtMost counts (if b then n else suc n) (bind (f x) next)) (sym z.0) (then-few (f x) next (suc n) (z.1 x) h)

  -- at most so many calls, and then so many
  pub then-more : {A B : Type 0} (p : Program C Answer R A) (next : A → Program C Answer R B) (n m k : ℕ) → n + m ≤ k → CallsAtMost counts n p → ((a : A) → CallsAtMost counts m (next a)) → CallsAtMost counts k (bind p next)
  then-more (give a) next n m k le c h = few-of (next a) m k (omega (arith, le)) (h a)
  then-more (settle a) next n m k le c h = few-of (next a) m k (omega (arith, le)) (h a)
  then-more (refuse r) next n m k le c h = tt
  then-more (ask call f) next zero m k le c h = few-of (bind (ask call f) next) m k (omega (arith, le)) (then-few (ask call f) next m c h)
  then-more (ask call f) next (suc n) m zero le c h = absurd (omega (arith, le))
  then-more (ask call f) next (suc n) m (suc k) le c h = λ x. from-one (counts call) n k (f x) (bind (f x) next) (c x)
      (λ g. then-more (f x) next n m k (omega (arith, le)) g h) (λ g. then-more (f x) next (suc n) m (suc k) le g h)

module _ {C : Type 0} {Answer : C → Type 0} {R : Type 0} (brings : (call : C) → Answer call → Bool) (fault : R) where
  pub then-blames : {A B : Type 0} (p : Program C Answer R A) (next : A → Program C Answer R B) → BlamesOnly brings fault p → ((a : A) → BlamesOnly brings fault (next a)) → BlamesOnly brings fault (bind p next)
  then-blames (give a) next c h = h a
  then-blames (settle a) next c h = h a
  then-blames (refuse r) next c h = c
  then-blames (ask call f) next c h = λ x e. then-blames (f x) next (c x e) h

  pub each-blames : {A B : Type 0} (p : A → Program C Answer R B) → ((a : A) → BlamesOnly brings fault (p a)) → (xs : List A) → BlamesOnly brings fault (each p xs)
  each-blames p h [] = tt
  each-blames p h (x ∷ rest) = then-blames (p x) (λ b. bind (each p rest) (λ more. give (b ∷ more))) (h x) (λ b. then-blames (each p rest) (λ more. give (b ∷ more)) (each-blames p h rest) (λ more. tt))

module _ {C : Type 0} {Answer : C → Type 0} {R : Type 0} (wants : R → Type 0) (hungry : (call : C) → Answer call → Bool) where
  then-want : {A B : Type 0} (p : Program C Answer R A) (next : A → Program C Answer R B) → IsWant wants p → IsWant wants (bind p next)
  then-want (give a) next w = absurd w
  then-want (settle a) next w = absurd w
  then-want (refuse r) next w = w
  then-want (ask call f) next w = absurd w

  pub then-yields : {A B : Type 0} (p : Program C Answer R A) (next : A → Program C Answer R B) → Yields wants hungry p → ((a : A) → Yields wants hungry (next a)) → Yields wants hungry (bind p next)
  then-yields (give a) next y h = h a
  then-yields (settle a) next y h = h a
  then-yields (refuse r) next y h = tt
  then-yields (ask call f) next y h = λ x. (λ e. then-want (f x) next ((y x).0 e), then-yields (f x) next (y x).1 h)

  pub each-yields : {A B : Type 0} (p : A → Program C Answer R B) → ((a : A) → Yields wants hungry (p a)) → (xs : List A) → Yields wants hungry (each p xs)
  each-yields p h [] = tt
  each-yields p h (x ∷ rest) = then-yields (p x) (λ b. bind (each p rest) (λ more. give (b ∷ more))) (h x) (λ b. then-yields (each p rest) (λ more. give (b ∷ more)) (each-yields p h rest) (λ more. tt))
