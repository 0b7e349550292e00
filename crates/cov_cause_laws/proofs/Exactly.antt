-- What is known over the contents of objects is known of how a program ends over the objects.
use Rattle.std.proofs.Common.{◌≡◌, ◌≢◌, ◌⊎◌, inl, inr, subst, Bool, true, false, refl, Result, Ok, Err}
use Rattle.cov_programs.specs.Ends.{Ends}
use Rattle.cov_programs.specs.Laws.{IsTelling, IsFed, Yields}
use Rattle.cov_programs.specs.Objects.{Moves}
use Rattle.cov_programs.proofs.Telling.{told-of}
use Rattle.cov_step.specs.Calls.{Call, Answer, Step, IsNoMemory}
use Rattle.cov_step.specs.Promises.{is_hungry}
use Rattle.cov_why.specs.Answers.{Refusal, PlainWhy, no_memory}
use Rattle.cov_complete_laws.proofs.Holding.{Holding, told}
use Rattle.cov_cause_laws.specs.Causes.{is_bad_pattern}
use Rattle.cov_cause_laws.specs.Exactly.{EndsBy, IsExact}
use Rattle.cov_cause_laws.proofs.Ways.{Came, under-ends}
use Rattle.cov_cause_laws.proofs.Parts.{As}
use Rattle.cov_cause_laws.proofs.Doing.{Free, Exact}

-- it is want of memory, or it isn't
is-memory : (r : Refusal) → (r ≡ no_memory) ⊎ (r ≢ no_memory)
is-memory no_memory = inl refl
is-memory r = inr (λ e. cc)

err-is : {A R : Type 0} {a b : R} → ◌≡◌ {A = Result A R} (Err a) (Err b) → a ≡ b
err-is e = cc

ended-memory : {A B : Type 0} {a : A} {b : B} → ◌≡◌ {A = Result A B} (Ok a) (Err b) → ⊥
ended-memory e = cc

fed-by : (r : Refusal) → r ≢ no_memory → IsNoMemory (Err r) → ⊥
fed-by r n e = n (err-is e)

-- one of two causes, neither of them a pattern's
abbrev pub IsOne : (Refusal → Type 0) → Type 0
IsOne P = (r s : Refusal) → is_bad_pattern r ≡ false → is_bad_pattern s ≡ false → P r → P s → r ≡ s

ends-by-one : (P : Refusal → Type 0) → IsOne P → (r why : Refusal) (b : Bool) → is_bad_pattern r ≡ b → P r → is_bad_pattern why ≡ false → P why → (r ≡ why) ⊎ ((r ≡ no_memory) ⊎ (is_bad_pattern r ≡ true))
ends-by-one P one r why true e h good cause = inr (inr e)
ends-by-one P one r why false e h good cause = inl (one r why e good h cause)

module _ {W : Type 0} (moves : Moves Call Answer W) (tells : IsTelling moves is_hungry told) where
  -- how a program came to its end, where memory sufficed
  came : {A : Type 0} (P : Refusal → Type 0) (p : Step A) (old new : W) (e : Result A PlainWhy) → Yields IsNoMemory is_hungry p → tells.counting.NoneRose old new → Exact P p (tells.view old)
      → Ends moves IsNoMemory p old e new → IsFed IsNoMemory e → Came (λ (a : A) (u : Holding). Free P) (As P) e (tells.view new)
  came P p old new e y none h k fed =
      under-ends told (λ a u. Free P) (As P) p (tells.view old) (tells.view new) e (told-of tells IsNoMemory p old new e y fed none k) h

  pub exactly : {A : Type 0} (P : Refusal → Type 0) → IsOne P → (p : Step A) (old new : W) (e : Result A PlainWhy) → Yields IsNoMemory is_hungry p → tells.counting.NoneRose old new → Exact P p (tells.view old)
      → Ends moves IsNoMemory p old e new → IsExact P e
  exactly {A} P one p old new e y none h k = record { only = only; wherever = λ why good cause. wherever e why good cause (came P p old new e y none h k) }
    where
      only : (why : Refusal) → why ≢ no_memory → e ≡ Err (Err why) → P why
      only why n is = came P p old new (Err (Err why)) y none h (subst (λ d. Ends moves IsNoMemory p old d new) is k) (fed-by why n)

      by-memory : (r why : Refusal) → (r ≡ no_memory) ⊎ (r ≢ no_memory) → is_bad_pattern why ≡ false → P why → (IsFed {A = A} IsNoMemory (Err (Err r)) → P r) → (r ≡ why) ⊎ ((r ≡ no_memory) ⊎ (is_bad_pattern r ≡ true))
      by-memory r why (inl m) good cause f = inr (inl m)
      by-memory r why (inr n) good cause f = ends-by-one P one r why (is_bad_pattern r) refl (f (fed-by r n)) good cause

      wherever : (d : Result A PlainWhy) (why : Refusal) → is_bad_pattern why ≡ false → P why → (IsFed IsNoMemory d → Came (λ (a : A) (u : Holding). Free P) (As P) d (tells.view new)) → EndsBy why d
      wherever (Ok a) why good cause f = f tt why good cause
      wherever (Err (Ok ended)) why good cause f = f (λ m. ended-memory m)
      wherever (Err (Err r)) why good cause f = by-memory r why (is-memory r) good cause f
