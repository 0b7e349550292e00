-- The arcs of the last marks of a part, by each way out of it.
use Rattle.std.proofs.Common.{◌≡◌, ℕ, pos, Bool, false, List, [], ◌++◌, refl, ap, sym, ◌∙◌}
use Rattle.std.specs.Prelude.{◌||◌, ◌&&◌, not}
use Rattle.std.proofs.Math.Bool.{or_assoc}
use Rattle.py_syntax.specs.FirstMarks.{only}
use Rattle.py_syntax.specs.LastMarks.{Way, onward, breaking, continuing, returning, raising, is_onward, own_way, may_raise, onward_only, past_loop}
use Rattle.py_syntax.specs.Prediction.{Arc}
use Rattle.cov_predict.specs.Walk.{Target, Targets, arcs_to, raises, turn, in_loop, before, own_walk}
use Rattle.cov_predict.proofs.Hits.{choices, hits, hits-append, hits-if, hits-arcs_to, from, firsts, all_from, all_from-none, all_from-one, all_from-append, all_from-only, all_from-entering}

around : (a b c d e : Bool) → (a || (b || (c || (d || e)))) ≡ ((a || c) || (b || (d || e)))
around a b c d e = simp choices

module _ (q : Arc) where
  unfoldable pub ways : (Way → List ℕ) → Targets → Bool
  ways f t = all_from q (f onward) t.onward || (all_from q (f breaking) t.breaking || (all_from q (f continuing) t.continuing || (all_from q (f returning) t.returning || all_from q (f raising) t.raising)))

  pub ways-is : (f : Way → List ℕ) (t : Targets) → ways f t ≡ (all_from q (f onward) t.onward || (all_from q (f breaking) t.breaking || (all_from q (f continuing) t.continuing || (all_from q (f returning) t.returning || all_from q (f raising) t.raising))))
  unfolding ways
  ways-is f t = refl

  pub ways-append : (f g : Way → List ℕ) (t : Targets) → ways (λ w. f w ++ g w) t ≡ (ways f t || ways g t)
  ways-append f g t = simp (ways-is, all_from-append, choices)

  pub ways-none : (t : Targets) → ways (λ w. []) t ≡ false
  ways-none t = simp (ways-is, all_from-none)

  pub ways-may_raise : (any : Bool) (l : ℕ) (t : Targets) → ways (λ w. may_raise any w l) t ≡ (any && from q l t.raising)
  ways-may_raise any l t = simp (ways-is, all_from-only, all_from-one, choices)

  pub ways-onward_only : (xs : List ℕ) (t : Targets) → ways (λ w. onward_only w xs) t ≡ all_from q xs t.onward
  ways-onward_only xs t = simp (ways-is, all_from-only, choices)

  -- a mark that is left onward, and by the other ways
  pub own-onward : (any : Bool) (l : ℕ) (t : Targets) → ways (λ w. own_way onward any w l) t ≡ (from q l t.onward || (any && from q l t.raising))
  own-onward any l t = simp (ways-is, all_from-only, all_from-one, choices)

  pub own-breaking : (any : Bool) (l : ℕ) (t : Targets) → ways (λ w. own_way breaking any w l) t ≡ (from q l t.breaking || (any && from q l t.raising))
  own-breaking any l t = simp (ways-is, all_from-only, all_from-one, choices)

  pub own-continuing : (any : Bool) (l : ℕ) (t : Targets) → ways (λ w. own_way continuing any w l) t ≡ (from q l t.continuing || (any && from q l t.raising))
  own-continuing any l t = simp (ways-is, all_from-only, all_from-one, choices)

  pub own-returning : (any : Bool) (l : ℕ) (t : Targets) → ways (λ w. own_way returning any w l) t ≡ (from q l t.returning || (any && from q l t.raising))
  own-returning any l t = simp (ways-is, all_from-only, all_from-one, choices)

  pub own-raising : (any : Bool) (l : ℕ) (t : Targets) → ways (λ w. own_way raising any w l) t ≡ from q l t.raising
  own-raising any l t = simp (ways-is, all_from-only, all_from-one, choices)

  -- the arcs of one mark
  pub hits-raises : (any : Bool) (t : Targets) (l : ℕ) → hits q (raises any t (pos l)) ≡ (any && from q l t.raising)
  hits-raises any t l = hits-if q any (arcs_to (pos l) t.raising) ∙ ap (λ b. any && b) (hits-arcs_to q l t.raising)

  pub hits-own_walk : (any : Bool) (t : Targets) (l : ℕ) (to : List Target) → hits q (own_walk any t (pos l) to) ≡ (from q l to || (any && from q l t.raising))
  hits-own_walk any t l to =
      hits-append q (arcs_to (pos l) to) (raises any t (pos l))
      ∙ ap (λ b. b || hits q (raises any t (pos l))) (hits-arcs_to q l to)
      ∙ ap (λ b. from q l to || b) (hits-raises any t l)

  -- in front of what follows in a row
  pub ways-before : (f : Way → List ℕ) (ms : List ℕ) (e : Bool) (t : Targets)
      → ways f (before ms e t) ≡ (all_from q (f onward) (firsts q ms) || ways (λ w. only (not (is_onward w) || e) (f w)) t)
  unfolding ways
  ways-before f ms e t =
      let others = all_from q (f breaking) t.breaking || (all_from q (f continuing) t.continuing || (all_from q (f returning) t.returning || all_from q (f raising) t.raising)) in
      ap (λ z. z || others) (all_from-entering q (f onward) ms e t.onward)
      ∙ or_assoc (all_from q (f onward) (firsts q ms)) (e && all_from q (f onward) t.onward) others
      ∙ ap (λ z. all_from q (f onward) (firsts q ms) || (z || others)) (sym (all_from-only q e (f onward) t.onward))

  -- in a loop
  pub ways-in_loop : (f : Way → List ℕ) (h : ℕ) (t : Targets)
      → ways f (in_loop (pos h) t) ≡ ((all_from q (f onward) (turn (pos h)) || all_from q (f continuing) (turn (pos h))) || ways (λ w. past_loop w (f breaking) (f w)) t)
  unfolding ways all_from
  ways-in_loop f h t = around (all_from q (f onward) (turn (pos h))) (all_from q (f breaking) t.onward) (all_from q (f continuing) (turn (pos h))) (all_from q (f returning) t.returning) (all_from q (f raising) t.raising)
