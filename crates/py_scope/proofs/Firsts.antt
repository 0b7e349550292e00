-- The fault that comes first.
use Rattle.std.proofs.Common.{◌≡◌, ◌<◌, ◌+◌, ◌⊎◌, inl, inr, ⊎_elim, ℕ, List, length, get_or, sym, ◌∙◌, subst, arith}
use Rattle.std.specs.Prelude.{Contains}
use Rattle.std.proofs.lemmas.Bool.{cases_eq}
use Rattle.py_scope.specs.declared.error.ScopeError.{ScopeError}
use Rattle.py_scope.specs.Answer.{ComesBefore}

pub before-trans : (x f b : ScopeError) → ComesBefore x f → ComesBefore f b → ComesBefore x b
before-trans x f b (inl p) (inl q) = inl (omega (arith, p, q))
before-trans x f b (inl p) (inr (e, q)) = inl (omega (arith, p, e))
before-trans x f b (inr (e, p)) (inl q) = inl (omega (arith, e, q))
before-trans x f b (inr (e, p)) (inr (g, q)) = inr (e ∙ g, omega (arith, p, q))

pub before-irrefl : (f : ScopeError) → ComesBefore f f → ⊥
before-irrefl f (inl p) = omega (arith, p)
before-irrefl f (inr (e, p)) = omega (arith, p)

one_more : (P : ℕ → Type 0) (i : ℕ) → ((k : ℕ) → k < i → P k) → P i → (k : ℕ) → k < i + 1 → P k
one_more P i h p k l = ⊎_elim (λ e. subst P (sym e) p) (λ n. h k (omega arith)) (cases_eq k i)

-- a turn of the loop that looks for it: f is at place i, and next is the one of best and f that comes first
abbrev pub Chosen : ScopeError → ScopeError → ScopeError → Type 0
Chosen best f next = ((next ≡ best) × (ComesBefore f best → ⊥)) ⊎ ((next ≡ f) × ComesBefore f best)

chosen-first : (best f next x : ScopeError) → Chosen best f next → (ComesBefore x best → ⊥) → ComesBefore x next → ⊥
chosen-first best f next x (inl (e, stays)) h c = h (subst (ComesBefore x) e c)
chosen-first best f next x (inr (e, moves)) h c = h (before-trans x f best (subst (ComesBefore x) e c) moves)

chosen-new : (best f next : ScopeError) → Chosen best f next → ComesBefore f next → ⊥
chosen-new best f next (inl (e, stays)) c = stays (subst (ComesBefore f) e c)
chosen-new best f next (inr (e, moves)) c = before-irrefl f (subst (ComesBefore f) e c)

pub chosen-one : (fs : List ScopeError) (i : ℕ) (best f next : ScopeError) → i < length fs → ((d : ScopeError) → get_or fs i d ≡ f) → Chosen best f next → Contains fs best → Contains fs next
chosen-one fs i best f next lt is (inl (e, stays)) h = subst (Contains fs) (sym e) h
chosen-one fs i best f next lt is (inr (e, moves)) h = (i, lt, is next ∙ sym e)

pub chosen-all : (fs : List ScopeError) (i : ℕ) (best f next : ScopeError) → ((d : ScopeError) → get_or fs i d ≡ f) → Chosen best f next → ((k : ℕ) (d : ScopeError) → k < i → ComesBefore (get_or fs k d) best → ⊥)
    → (k : ℕ) (d : ScopeError) → k < i + 1 → ComesBefore (get_or fs k d) next → ⊥
chosen-all fs i best f next is w h k d =
    one_more (λ j. ComesBefore (get_or fs j d) next → ⊥) i (λ j lt. chosen-first best f next (get_or fs j d) w (h j d lt)) (λ c. chosen-new best f next w (subst (λ x. ComesBefore x next) (is d) c)) k
