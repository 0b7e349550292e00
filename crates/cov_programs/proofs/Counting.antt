-- How often an object is called, and which call brings a fault.
use Rattle.std.proofs.Common.{◌≡◌, inl, inr, ℕ, zero, suc, Bool, true, false, if◌then◌else◌, refl, sym, ◌∙◌, ap, subst, Result, Err}
use Rattle.cov_programs.specs.Programs.{Program, give, settle, refuse, ask}
use Rattle.cov_programs.specs.Objects.{Moves}
use Rattle.cov_programs.specs.Ends.{Starves, Ends}
use Rattle.cov_programs.specs.Laws.{Counting, CallsAtMost, LedBy, BlamesOnly, Brought}
use Rattle.cov_programs.proofs.Results.{ok_no_err, err_is}
use Rattle.cov_programs.proofs.Later.{ends-later}

module _ {C : Type 0} {Answer : C → Type 0} {R W V : Type 0} (moves : Moves C Answer W) (wants : R → Type 0) (part : W → V) (counts : C → Bool)
    (kept : (u : W) (call : C) (answer : Answer call) (v : W) → moves u call answer v → counts call ≡ false → part v ≡ part u) where
  led-still : (n : ℕ) (a b : V) → b ≡ a → LedBy moves part n a b
  led-still zero a b e = e
  led-still (suc n) a b e = inl e

  pub few-calls : {A : Type 0} (p : Program C Answer R A) (n : ℕ) (old new : W) (e : Result A R) → CallsAtMost counts n p → Ends moves wants p old e new → LedBy moves part n (part old) (part new)
  few-calls (give a) n old new e c (inl s) = led-still n (part old) (part new) (ap part s.same)
  few-calls (give a) n old new e c (inr (is, same)) = led-still n (part old) (part new) (ap part same)
  few-calls (settle a) n old new e c (is, same) = led-still n (part old) (part new) (ap part same)
  few-calls (refuse r) n old new e c (inl s) = led-still n (part old) (part new) (ap part s.same)
  few-calls (refuse r) n old new e c (inr (is, same)) = led-still n (part old) (part new) (ap part same)
  few-calls (ask call f) n old new e c (inl s) = led-still n (part old) (part new) (ap part s.same)
  few-calls (ask call f) zero old new e c (inr (x, u, m, rest)) = few-calls (f x) zero u new e (c.1 x) rest ∙ kept old call x u m c.0
  few-calls (ask call f) (suc n) old new e c (inr (x, u, m, rest)) = by (counts call) refl (few-calls (f x) (if counts call then n else suc n) u new e (c x) rest)
    where
      by : (b : Bool) → counts call ≡ b → LedBy moves part (if b then n else suc n) (part u) (part new) → LedBy moves part (suc n) (part old) (part new)
      by true e h = inr (old, u, call, x, refl, m, h)
      by false e h = subst (λ a. LedBy moves part (suc n) a (part new)) (kept old call x u m e) h

module _ {C : Type 0} {Answer : C → Type 0} {R W : Type 0} (moves : Moves C Answer W) (wants : R → Type 0) (counting : Counting W) (brings : (call : C) → Answer call → Bool) (fault : R)
    (other : ¬ (wants fault)) (later : (u : W) (call : C) (answer : Answer call) (v : W) → moves u call answer v → counting.Later u v) where
  hungry : {A : Type 0} {old new : W} → Starves {A = A} wants old (Err fault) new → ⊥
  hungry s = other (subst wants (sym (err_is s.is)) s.wanting)

  pub blames : {A : Type 0} (p : Program C Answer R A) (old new : W) → BlamesOnly brings fault p → Ends moves wants p old (Err fault) new → Brought moves counting.Later brings old new
  blames (give a) old new c (inl s) = absurd (hungry s)
  blames (give a) old new c (inr (is, same)) = absurd (ok_no_err (sym is))
  blames (settle a) old new c (is, same) = absurd (ok_no_err (sym is))
  blames (refuse r) old new c (inl s) = absurd (hungry s)
  blames (refuse r) old new c (inr (is, same)) = absurd (c (sym (err_is is)))
  blames (ask call f) old new c (inl s) = absurd (hungry s)
  blames {A} (ask call f) old new c (inr (x, u, m, rest)) = by (brings call x) refl (λ e. blames (f x) u new (c x e) rest)
    where
      by : (b : Bool) → brings call x ≡ b → (brings call x ≡ false → Brought moves counting.Later brings u new) → Brought moves counting.Later brings old new
      by true e h = record { before = old; after = u; call = call; answer = x; moved = m; is = e; early = counting.still old; late = ends-later moves wants counting later (f x) u new (Err fault) rest }
      by false e h = let t = h e in record { before = t.before; after = t.after; call = t.call; answer = t.answer; moved = t.moved; is = t.is; early = counting.onward (later old call x u m) t.early; late = t.late }
