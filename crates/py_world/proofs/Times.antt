-- How often numbers stand in lists.
use Rattle.std.proofs.Common.{◌≡◌, ℕ, zero, suc, ◌+◌, ◌<◌, List, [], ◌∷◌, ◌++◌, length, Some, None, Bool, true, false, refl, sym, ap, ◌∙◌, arith}
use Rattle.std.specs.Prelude.{nat_eq, if◌then◌else◌, slice_get, slice_set, remove}
use Rattle.std.proofs.lemmas.Bool.Decides.{nat_tests}
use Rattle.py_world.specs.Numbered.{Named, Numbered, times, times_set, times_named, AreListed}
use Rattle.py_world.proofs.Places.{got_set, got_other}

-- a number is that one, or another
pub data Which (n m : ℕ) : Type 0 where
  this : m ≡ n → Which n m
  other : (m ≡ n → ⊥) → Which n m

pub same_number : (n m : ℕ) → m ≡ n → nat_eq n m ≡ true
same_number n m e = grind (arith, nat_tests)

pub which : (n m : ℕ) → Which n m
which n m = by_case (nat_eq n m) refl
  where
    by_case : (b : Bool) → nat_eq n m ≡ b → Which n m
    by_case true h = this (grind (arith, nat_tests))
    by_case false h = other (λ e. absurd (let f : nat_eq n m ≡ true = same_number n m e in cc))

pub other_number : (n m : ℕ) → (m ≡ n → ⊥) → nat_eq n m ≡ false
other_number n m ne = by_case (nat_eq n m) refl
  where
    by_case : (b : Bool) → nat_eq n m ≡ b → nat_eq n m ≡ false
    by_case true h = absurd (ne (grind (arith, nat_tests)))
    by_case false h = h

pub times_this : (n m : ℕ) (ms : List ℕ) → m ≡ n → times n (m ∷ ms) ≡ 1 + times n ms
unfolding times
times_this n m ms e = ap (λ b. (if b then 1 else 0) + times n ms) (same_number n m e)

pub times_other : (n m : ℕ) (ms : List ℕ) → (m ≡ n → ⊥) → times n (m ∷ ms) ≡ times n ms
unfolding times
times_other n m ms ne = ap (λ b. (if b then 1 else 0) + times n ms) (other_number n m ne) ∙ omega arith

pub times_none : (n : ℕ) → times n [] ≡ 0
unfolding times
times_none n = refl

pub pushed_this : (n : ℕ) (ms : List ℕ) → times n (ms ++ n ∷ []) ≡ times n ms + 1
pushed_this n [] = times_this n n [] refl ∙ omega (arith, times_none n)
pushed_this n (m ∷ ms) = elim (which n m) [
  | this e ↦ times_this n m (ms ++ n ∷ []) e ∙ omega (arith, times_this n m ms e, pushed_this n ms)
  | other ne ↦ times_other n m (ms ++ n ∷ []) ne ∙ pushed_this n ms ∙ ap (λ k. k + 1) (sym (times_other n m ms ne))
]

pub pushed_other : (n k : ℕ) (ms : List ℕ) → (n ≡ k → ⊥) → times k (ms ++ n ∷ []) ≡ times k ms
pushed_other n k [] ne = times_other k n [] ne
pushed_other n k (m ∷ ms) ne = elim (which k m) [
  | this e ↦ times_this k m (ms ++ n ∷ []) e ∙ ap (λ t. 1 + t) (pushed_other n k ms ne) ∙ sym (times_this k m ms e)
  | other me ↦ times_other k m (ms ++ n ∷ []) me ∙ pushed_other n k ms ne ∙ sym (times_other k m ms me)
]

-- the list without the element at a place
pub without_first : {A : Type 0} (x : A) (xs : List A) → remove (x ∷ xs) 0 ≡ xs
without_first x xs = refl

pub without_later : {A : Type 0} (x : A) (xs : List A) (p : ℕ) → remove (x ∷ xs) (suc p) ≡ x ∷ remove xs p
without_later x xs p = refl

pub removed_this : (n p : ℕ) (ms : List ℕ) → slice_get ms p ≡ Some n → times n (remove ms p) + 1 ≡ times n ms
removed_this n p [] at = absurd cc
removed_this n zero (m ∷ ms) at = let e : m ≡ n = cc in omega (arith, times_this n m ms e)
removed_this n (suc p) (m ∷ ms) at = elim (which n m) [
  | this e ↦ omega (arith, times_this n m ms e, times_this n m (remove ms p) e, removed_this n p ms at)
  | other ne ↦ omega (arith, times_other n m ms ne, times_other n m (remove ms p) ne, removed_this n p ms at)
]

pub removed_other : (n k p : ℕ) (ms : List ℕ) → slice_get ms p ≡ Some n → (n ≡ k → ⊥) → times k (remove ms p) ≡ times k ms
removed_other n k p [] at ne = absurd cc
removed_other n k zero (m ∷ ms) at ne = let e : m ≡ n = cc in sym (times_other k m ms (λ f. ne (sym e ∙ f)))
removed_other n k (suc p) (m ∷ ms) at ne = elim (which k m) [
  | this e ↦ times_this k m (remove ms p) e ∙ ap (λ t. 1 + t) (removed_other n k p ms at ne) ∙ sym (times_this k m ms e)
  | other me ↦ times_other k m (remove ms p) me ∙ removed_other n k p ms at ne ∙ sym (times_other k m ms me)
]

-- the numbers that are listed, after one name is set or unset
pub listed_after : (es : Numbered) (n : ℕ) (e : Named) (old new : List ℕ) → n < length es → AreListed es old → times n new ≡ times_set e.1 → ((k : ℕ) → (k ≡ n → ⊥) → times k new ≡ times k old)
    → AreListed (slice_set es n e) new
listed_after es n e old new lt h at others = λ k. elim (which n k) [
  | this same ↦ ap (λ j. times j new) same ∙ at ∙ ap times_named (sym (ap (λ j. slice_get (slice_set es n e) j) same ∙ got_set es n e lt))
  | other ne ↦ others k ne ∙ h k ∙ ap times_named (sym (got_other es n k e ne))
]

-- a new name is not set
pub named_more : (es : Numbered) (x : List ℕ) (k : ℕ) → times_named (slice_get (es ++ (x, None) ∷ []) k) ≡ times_named (slice_get es k)
named_more [] x zero = refl
named_more [] x (suc k) = refl
named_more (e ∷ es) x zero = refl
named_more (e ∷ es) x (suc k) = named_more es x k

pub listed_more : (es : Numbered) (x : List ℕ) (ns : List ℕ) → AreListed es ns → AreListed (es ++ (x, None) ∷ []) ns
listed_more es x ns h = λ k. h k ∙ sym (named_more es x k)
