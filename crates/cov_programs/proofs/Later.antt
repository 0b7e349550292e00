-- States that come later: what each call keeps or makes greater, a program does.
use Rattle.std.proofs.Common.{◌≡◌, inl, inr, sym, subst, Result}
use Rattle.cov_programs.specs.Programs.{Program, give, settle, refuse, ask}
use Rattle.cov_programs.specs.Objects.{Moves}
use Rattle.cov_programs.specs.Ends.{Ends}
use Rattle.cov_programs.specs.Laws.{Counting}

module _ {C : Type 0} {Answer : C → Type 0} {R W : Type 0} (moves : Moves C Answer W) (wants : R → Type 0) (Later : W → W → Type 0)
    (still : (w : W) → Later w w) (onward : (u v w : W) → Later u v → Later v w → Later u w)
    (later : (u : W) (call : C) (answer : Answer call) (v : W) → moves u call answer v → Later u v) where
  unmoved : {old new : W} → new ≡ old → Later old new
  unmoved {old = old} same = subst (Later old) (sym same) (still old)

  -- what holds along each call holds along a program, as that no count falls, or that output only grows
  pub ends-onward : {A : Type 0} (p : Program C Answer R A) (old new : W) (e : Result A R) → Ends moves wants p old e new → Later old new
  ends-onward (give a) old new e (inl s) = unmoved s.same
  ends-onward (give a) old new e (inr (is, same)) = unmoved same
  ends-onward (settle a) old new e (is, same) = unmoved same
  ends-onward (refuse r) old new e (inl s) = unmoved s.same
  ends-onward (refuse r) old new e (inr (is, same)) = unmoved same
  ends-onward (ask call f) old new e (inl s) = unmoved s.same
  ends-onward (ask call f) old new e (inr (x, u, m, rest)) = onward old u new (later old call x u m) (ends-onward (f x) u new e rest)

-- counts never fall
pub ends-later : {C : Type 0} {Answer : C → Type 0} {R W : Type 0} (moves : Moves C Answer W) (wants : R → Type 0) (counting : Counting W)
    (later : (u : W) (call : C) (answer : Answer call) (v : W) → moves u call answer v → counting.Later u v)
    {A : Type 0} (p : Program C Answer R A) (old new : W) (e : Result A R) → Ends moves wants p old e new → counting.Later old new
ends-later moves wants counting later p old new e h = ends-onward moves wants counting.Later counting.still (λ u v w. counting.onward) later p old new e h
