-- What a refused command leaves of a part of its objects, where that part tells what it holds.
use Rattle.std.proofs.Common.{◌≡◌, ◌⊎◌, inl, inr, ◌∙◌, Bool, true, false, refl, sym, ap, subst, List, Result, Ok, Err}
use Rattle.cov_programs.specs.Programs.{Program, give, settle, refuse, ask}
use Rattle.cov_programs.specs.Objects.{Moves, beside}
use Rattle.cov_programs.specs.Ends.{Ends, Follows}
use Rattle.cov_programs.specs.Laws.{IsCareful, IsLate}
use Rattle.cov_programs.proofs.Keeping.{refusal-keeps}
use Rattle.cov_programs.proofs.Late.{early-keeps}
use Rattle.cov_why.specs.Answers.{no_memory, PlainWhy}
use Rattle.cov_step.specs.Calls.{Call, Answer, Step, IsNoMemory}
use Rattle.cov_step.specs.Promises.{keeps}

module _ {W K : Type 0} (moves : Moves Call Answer W) (part : W → K) (Tells : W → Type 0)
    (onward : (u : W) (call : Call) (x : Answer call) (v : W) → moves u call x v → Tells u → Tells v)
    (kept : (u : W) (call : Call) (x : Answer call) (v : W) → moves u call x v → Tells u → keeps call x ≡ true → part v ≡ part u) where
  -- moves from states that tell
  abbrev telling : Moves Call Answer W
  telling u call x v = moves u call x v × Tells u

  told-ends : {A : Type 0} (p : Step A) (old new : W) (e : Result A PlainWhy) → Tells old → Ends moves IsNoMemory p old e new → Ends telling IsNoMemory p old e new
  told-ends (give a) old new e t h = h
  told-ends (settle a) old new e t h = h
  told-ends (refuse r) old new e t h = h
  told-ends (ask call f) old new e t (inl s) = inl s
  told-ends (ask call f) old new e t (inr (x, u, m, rest)) = inr (x, u, (m, t), told-ends (f x) u new e (onward old call x u m t) rest)

  pub leaves : {A : Type 0} (p : Step A) (old new : W) (r : PlainWhy) → IsCareful keeps p → Tells old → Follows moves IsNoMemory p old (Err r) new → part new ≡ part old
  leaves p old new r c t f = refusal-keeps telling IsNoMemory part keeps (λ u call x v m e. kept u call x v m.0 m.1 e) p old new r c (told-ends p old new (Err r) t f.ends)

  -- so does one that is refused before it changed anything
  pub leaves-early : (late : PlainWhy → Bool) → late (Err no_memory) ≡ true → {A : Type 0} (p : Step A) (old new : W) (r : PlainWhy) → late r ≡ false → IsLate keeps late p → Tells old → Follows moves IsNoMemory p old (Err r) new → part new ≡ part old
  leaves-early late h p old new r e c t f = early-keeps telling IsNoMemory late (λ q w. ap late w ∙ h) part keeps (λ u call x v m k. kept u call x v m.0 m.1 k) p old new r e c (told-ends p old new (Err r) t f.ends)

-- ---- objects side by side

module _ {U V : Type 0} (left : Moves Call Answer U) (right : Moves Call Answer V) where
  pub left-onward : (Tells : U → Type 0) → ((u : U) (call : Call) (x : Answer call) (v : U) → left u call x v → Tells u → Tells v)
      → (p : U × V) (call : Call) (x : Answer call) (q : U × V) → beside left right p call x q → Tells p.0 → Tells q.0
  left-onward Tells h p call x q (inl (m, same)) t = h p.0 call x q.0 m t
  left-onward Tells h p call x q (inr (m, same)) t = subst Tells (sym same) t

  pub right-onward : (Tells : V → Type 0) → ((u : V) (call : Call) (x : Answer call) (v : V) → right u call x v → Tells u → Tells v)
      → (p : U × V) (call : Call) (x : Answer call) (q : U × V) → beside left right p call x q → Tells p.1 → Tells q.1
  right-onward Tells h p call x q (inl (m, same)) t = subst Tells (sym same) t
  right-onward Tells h p call x q (inr (m, same)) t = h p.1 call x q.1 m t

  pub left-kept : {K : Type 0} (part : U → K) (Tells : U → Type 0) → ((u : U) (call : Call) (x : Answer call) (v : U) → left u call x v → Tells u → keeps call x ≡ true → part v ≡ part u)
      → (p : U × V) (call : Call) (x : Answer call) (q : U × V) → beside left right p call x q → Tells p.0 → keeps call x ≡ true → part q.0 ≡ part p.0
  left-kept part Tells h p call x q (inl (m, same)) t e = h p.0 call x q.0 m t e
  left-kept part Tells h p call x q (inr (m, same)) t e = ap part same

  pub right-kept : {K : Type 0} (part : V → K) (Tells : V → Type 0) → ((u : V) (call : Call) (x : Answer call) (v : V) → right u call x v → Tells u → keeps call x ≡ true → part v ≡ part u)
      → (p : U × V) (call : Call) (x : Answer call) (q : U × V) → beside left right p call x q → Tells p.1 → keeps call x ≡ true → part q.1 ≡ part p.1
  right-kept part Tells h p call x q (inl (m, same)) t e = ap part same
  right-kept part Tells h p call x q (inr (m, same)) t e = h p.1 call x q.1 m t e
