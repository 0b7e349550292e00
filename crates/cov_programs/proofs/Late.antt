-- Refusals that come before anything is changed.
use Rattle.std.proofs.Common.{◌≡◌, inl, inr, Bool, true, false, true≢false, List, [], ◌∷◌, refl, sym, ◌∙◌, ap, subst, Result, Ok, Err}
use Rattle.cov_programs.specs.Programs.{Program, give, settle, refuse, ask, bind, each}
use Rattle.cov_programs.specs.Objects.{Moves}
use Rattle.cov_programs.specs.Ends.{Starves, Ends}
use Rattle.cov_programs.specs.Laws.{OnlyKeeps, OnlyRefuses, IsLate}
use Rattle.cov_programs.proofs.Results.{ok_no_err, err_is}

-- ---- part by part

module _ {C : Type 0} {Answer : C → Type 0} {R : Type 0} (late : R → Bool) where
  pub then-refuses : {A B : Type 0} (p : Program C Answer R A) (next : A → Program C Answer R B) → OnlyRefuses late p → ((a : A) → OnlyRefuses late (next a)) → OnlyRefuses late (bind p next)
  then-refuses (give a) next k h = h a
  then-refuses (settle a) next k h = h a
  then-refuses (refuse r) next k h = k
  then-refuses (ask call f) next k h = λ x. then-refuses (f x) next (k x) h

  pub each-refuses : {A B : Type 0} (p : A → Program C Answer R B) → ((a : A) → OnlyRefuses late (p a)) → (xs : List A) → OnlyRefuses late (each p xs)
  each-refuses p h [] = tt
  each-refuses p h (x ∷ rest) = then-refuses (p x) (λ b. bind (each p rest) (λ more. give (b ∷ more))) (h x) (λ b. then-refuses (each p rest) (λ more. give (b ∷ more)) (each-refuses p h rest) (λ more. tt))

  module _ (keeps : (call : C) → Answer call → Bool) where
    pub refuses-late : {A : Type 0} (p : Program C Answer R A) → OnlyRefuses late p → IsLate keeps late p
    refuses-late (give a) k = tt
    refuses-late (settle a) k = tt
    refuses-late (refuse r) k = tt
    refuses-late (ask call f) k = λ x. ((λ e. k x), refuses-late (f x) (k x))

    pub then-late : {A B : Type 0} (p : Program C Answer R A) (next : A → Program C Answer R B) → OnlyKeeps keeps p → ((a : A) → IsLate keeps late (next a)) → IsLate keeps late (bind p next)
    then-late (give a) next k h = h a
    then-late (settle a) next k h = h a
    then-late (refuse r) next k h = tt
    then-late (ask call f) next k h = λ x. (λ e. absurd (true≢false (sym (k x).0 ∙ e)), then-late (f x) next (k x).1 h)

    pub keeps-late : {A : Type 0} (p : Program C Answer R A) → OnlyKeeps keeps p → IsLate keeps late p
    keeps-late (give a) k = tt
    keeps-late (settle a) k = tt
    keeps-late (refuse r) k = tt
    keeps-late (ask call f) k = λ x. (λ e. absurd (true≢false (sym (k x).0 ∙ e)), keeps-late (f x) (k x).1)

-- ---- what an early refusal leaves

module _ {C : Type 0} {Answer : C → Type 0} {R W : Type 0} (moves : Moves C Answer W) (wants : R → Type 0) (late : R → Bool) (hunger : (r : R) → wants r → late r ≡ true) where
  starved : {A : Type 0} {old new : W} (r : R) → Starves {A = A} wants old (Err r) new → late r ≡ true
  starved r s = hunger r (subst wants (sym (err_is s.is)) s.wanting)

  late-refused : {A : Type 0} (p : Program C Answer R A) (old new : W) (r : R) → OnlyRefuses late p → Ends moves wants p old (Err r) new → late r ≡ true
  late-refused (give a) old new r c (inl s) = starved r s
  late-refused (give a) old new r c (inr (is, same)) = absurd (ok_no_err (sym is))
  late-refused (settle a) old new r c (is, same) = absurd (ok_no_err (sym is))
  late-refused (refuse q) old new r c (inl s) = starved r s
  late-refused (refuse q) old new r c (inr (is, same)) = ap late (err_is is) ∙ c
  late-refused (ask call f) old new r c (inl s) = starved r s
  late-refused (ask call f) old new r c (inr (x, u, m, rest)) = late-refused (f x) u new r (c x) rest

  module _ {K : Type 0} (part : W → K) (keeps : (call : C) → Answer call → Bool)
      (kept : (u : W) (call : C) (answer : Answer call) (v : W) → moves u call answer v → keeps call answer ≡ true → part v ≡ part u) where
    pub early-keeps : {A : Type 0} (p : Program C Answer R A) (old new : W) (r : R) → late r ≡ false → IsLate keeps late p → Ends moves wants p old (Err r) new → part new ≡ part old
    early-keeps (give a) old new r early c (inl s) = ap part s.same
    early-keeps (give a) old new r early c (inr (is, same)) = ap part same
    early-keeps (settle a) old new r early c (is, same) = ap part same
    early-keeps (refuse q) old new r early c (inl s) = ap part s.same
    early-keeps (refuse q) old new r early c (inr (is, same)) = ap part same
    early-keeps (ask call f) old new r early c (inl s) = ap part s.same
    early-keeps (ask call f) old new r early c (inr (x, u, m, rest)) = by-kept (keeps call x) refl (early-keeps (f x) u new r early (c x).1 rest)
      where
        by-kept : (b : Bool) → keeps call x ≡ b → part new ≡ part u → part new ≡ part old
        by-kept true e h = h ∙ kept old call x u m e
        by-kept false e h = absurd (true≢false (sym (late-refused (f x) u new r ((c x).0 e) rest) ∙ early))
