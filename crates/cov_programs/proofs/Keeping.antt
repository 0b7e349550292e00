-- What a program keeps: what a refusal leaves, and what is left by a program that only keeps.
use Rattle.std.proofs.Common.{◌≡◌, inl, inr, Bool, true, false, refl, ◌∙◌, ap, Result, Ok, Err}
use Rattle.cov_programs.specs.Programs.{Program, give, settle, refuse, ask}
use Rattle.cov_programs.specs.Objects.{Moves}
use Rattle.cov_programs.specs.Ends.{Ends}
use Rattle.cov_programs.specs.Laws.{IsSettled, IsCareful, OnlyKeeps}

module _ {C : Type 0} {Answer : C → Type 0} {R W : Type 0} (moves : Moves C Answer W) (wants : R → Type 0) {K : Type 0} (part : W → K) (keeps : (call : C) → Answer call → Bool)
    (kept : (u : W) (call : C) (answer : Answer call) (v : W) → moves u call answer v → keeps call answer ≡ true → part v ≡ part u) where
  settled-gives : {A : Type 0} (p : Program C Answer R A) (old new : W) (r : R) → IsSettled p → Ends moves wants p old (Err r) new → ⊥
  settled-gives (settle a) old new r h (is, same) = no-ok is
    where
      no-ok : Err r ≡ Ok a → ⊥
      no-ok e = cc
  settled-gives (give a) old new r h g = h
  settled-gives (refuse s) old new r h g = h
  settled-gives (ask call f) old new r h g = h

  pub refusal-keeps : {A : Type 0} (p : Program C Answer R A) (old new : W) (r : R) → IsCareful keeps p → Ends moves wants p old (Err r) new → part new ≡ part old
  refusal-keeps (give a) old new r c (inl s) = ap part s.same
  refusal-keeps (give a) old new r c (inr (is, same)) = ap part same
  refusal-keeps (settle a) old new r c (is, same) = ap part same
  refusal-keeps (refuse s) old new r c (inl t) = ap part t.same
  refusal-keeps (refuse s) old new r c (inr (is, same)) = ap part same
  refusal-keeps (ask call f) old new r c (inl s) = ap part s.same
  refusal-keeps (ask call f) old new r c (inr (x, u, m, rest)) = by-kept (keeps call x) refl (refusal-keeps (f x) u new r (c x).1 rest)
    where
      by-kept : (b : Bool) → keeps call x ≡ b → part new ≡ part u → part new ≡ part old
      by-kept true e h = h ∙ kept old call x u m e
      by-kept false e h = absurd (settled-gives (f x) u new r ((c x).0 e) rest)

  -- whatever it ends with
  pub keeps-all : {A : Type 0} (p : Program C Answer R A) (old new : W) (e : Result A R) → OnlyKeeps keeps p → Ends moves wants p old e new → part new ≡ part old
  keeps-all (give a) old new e c (inl s) = ap part s.same
  keeps-all (give a) old new e c (inr (is, same)) = ap part same
  keeps-all (settle a) old new e c (is, same) = ap part same
  keeps-all (refuse r) old new e c (inl s) = ap part s.same
  keeps-all (refuse r) old new e c (inr (is, same)) = ap part same
  keeps-all (ask call f) old new e c (inl s) = ap part s.same
  keeps-all (ask call f) old new e c (inr (x, u, m, rest)) = keeps-all (f x) u new e (c x).1 rest ∙ kept old call x u m (c x).0
