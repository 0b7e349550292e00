-- A run, one move at a time: `go` needs no count.
use Rattle.std.proofs.Common.{◌≡◌, ℕ, zero, suc, ◌<◌, ◌≤◌, Bool, true, false, refl, sym, ap, ◌∙◌, ⊎_elim, arith}
use Rattle.std.specs.Prelude.{nat_lt, if◌then◌else◌}
use Rattle.std.proofs.lemmas.Bool.{cases_lt}
use Rattle.std.proofs.lemmas.Bool.Decides.{nat_tests}
use Rattle.py_code.specs.Run.{Move, Goes, Ticks, Ends, Machine, lands, follow, walk, run, go}

lt_true : (a b : ℕ) → a < b → nat_lt a b ≡ true
lt_true a b h = grind (arith, nat_tests)

lt_false : (a b : ℕ) → b ≤ a → nat_lt a b ≡ false
lt_false a b h = grind (arith, nat_tests)

module _ {C R : Type 0} (m : Machine C R) where
  -- any room that is enough gives one result
  follow_same : (tick f g : C → R) (n : ℕ) → ((c : C) → m.rank c < n → f c ≡ g c) → (v : Move C R) → follow m tick f n v ≡ follow m tick g n v
  follow_same tick f g n h (Goes c) =
      ⊎_elim
      (λ lt. let e = lt_true (m.rank c) n lt in ap (λ b. if b then f c else lands m tick c (m.move c)) e ∙ h c lt ∙ sym (ap (λ b. if b then g c else lands m tick c (m.move c)) e))
      (λ le. let e = lt_false (m.rank c) n le in ap (λ b. if b then f c else lands m tick c (m.move c)) e ∙ sym (ap (λ b. if b then g c else lands m tick c (m.move c)) e))
      (cases_lt (m.rank c) n)
  follow_same tick f g n h (Ticks c) = refl
  follow_same tick f g n h (Ends r) = refl

  enough : (tick : C → R) (p q : ℕ) (c : C) → m.rank c < p → m.rank c < q → walk m tick p c ≡ walk m tick q c
  enough tick zero q c hp hq = absurd (omega arith)
  enough tick (suc p) zero c hp hq = absurd (omega arith)
  enough tick (suc p) (suc q) c hp hq =
      follow_same tick (walk m tick p) (walk m tick q) (m.rank c) (λ d lt. enough tick p q d (omega arith) (omega arith)) (m.move c)

  abbrev ticking : ℕ → C → R
  ticking zero = m.cut
  ticking (suc n) = run m n

  run_walks : (n : ℕ) (c : C) → run m n c ≡ walk m (ticking n) (suc (m.rank c)) c
  run_walks zero c = refl
  run_walks (suc n) c = refl

  -- a run from a place goes on as its move says
  unfolds : (n : ℕ) (c : C) → run m n c ≡ follow m (ticking n) (run m n) (m.rank c) (m.move c)
  unfolds n c =
      run_walks n c
      ∙ follow_same (ticking n) (walk m (ticking n) (m.rank c)) (run m n) (m.rank c)
      (λ d lt. enough (ticking n) (m.rank c) (suc (m.rank d)) d lt (omega arith) ∙ sym (run_walks n d))
      (m.move c)

  pub goes : (c d : C) → m.move c ≡ Goes d → m.rank d < m.rank c → m.left c ≡ m.left d → go m c ≡ go m d
  goes c d e lt same =
      unfolds (m.left c) c
      ∙ ap (follow m (ticking (m.left c)) (run m (m.left c)) (m.rank c)) e
      ∙ ap (λ b. if b then run m (m.left c) d else lands m (ticking (m.left c)) d (m.move d)) (lt_true (m.rank d) (m.rank c) lt)
      ∙ ap (λ n. run m n d) same

  pub ticks : (c d : C) → m.move c ≡ Ticks d → m.left c ≡ suc (m.left d) → go m c ≡ go m d
  ticks c d e same =
      unfolds (m.left c) c
      ∙ ap (follow m (ticking (m.left c)) (run m (m.left c)) (m.rank c)) e
      ∙ ap (λ n. ticking n d) same

  pub ends : (c : C) (r : R) → m.move c ≡ Ends r → go m c ≡ r
  ends c r e = unfolds (m.left c) c ∙ ap (follow m (ticking (m.left c)) (run m (m.left c)) (m.rank c)) e

  -- a jump back to what takes a step or ends
  pub back_ticks : (c d t : C) → m.move c ≡ Goes d → m.rank c ≤ m.rank d → m.left c ≡ m.left d → m.move d ≡ Ticks t → go m c ≡ go m d
  back_ticks c d t e le same f =
      unfolds (m.left c) c
      ∙ ap (follow m (ticking (m.left c)) (run m (m.left c)) (m.rank c)) e
      ∙ ap (λ b. if b then run m (m.left c) d else lands m (ticking (m.left c)) d (m.move d)) (lt_false (m.rank d) (m.rank c) le)
      ∙ ap (lands m (ticking (m.left c)) d) f
      ∙ ap (λ n. ticking n t) same
      ∙ sym (unfolds (m.left d) d ∙ ap (follow m (ticking (m.left d)) (run m (m.left d)) (m.rank d)) f)

  pub back_ends : (c d : C) (r : R) → m.move c ≡ Goes d → m.rank c ≤ m.rank d → m.move d ≡ Ends r → go m c ≡ go m d
  back_ends c d r e le f =
      unfolds (m.left c) c
      ∙ ap (follow m (ticking (m.left c)) (run m (m.left c)) (m.rank c)) e
      ∙ ap (λ b. if b then run m (m.left c) d else lands m (ticking (m.left c)) d (m.move d)) (lt_false (m.rank d) (m.rank c) le)
      ∙ ap (lands m (ticking (m.left c)) d) f
      ∙ sym (ends d r f)

  -- what holds of a configuration and a result wherever it holds of the next one and that result, holds of the run
  module _ (K : C → R → Type 0) (at_stuck : (c : C) → K c (m.stuck c)) (at_cut : (c : C) → K c (m.cut c))
      (at_end : (c : C) (r : R) → m.move c ≡ Ends r → K c r)
      (back_goes : (c d : C) (r : R) → m.move c ≡ Goes d → K d r → K c r) (back_tick : (c d : C) (r : R) → m.move c ≡ Ticks d → K d r → K c r) where
    at_lands : (tick : C → R) → ((c : C) → K c (tick c)) → (d : C) (v : Move C R) → m.move d ≡ v → K d (lands m tick d v)
    at_lands tick h d (Goes c) e = at_stuck d
    at_lands tick h d (Ticks c) e = back_tick d c (tick c) e (h c)
    at_lands tick h d (Ends r) e = at_end d r e

    at_choice : (tick next : C → R) → ((c : C) → K c (tick c)) → ((c : C) → K c (next c)) → (d : C) (b : Bool) → K d (if b then next d else lands m tick d (m.move d))
    at_choice tick next h k d true = k d
    at_choice tick next h k d false = at_lands tick h d (m.move d) refl

    at_follow : (tick next : C → R) (n : ℕ) → ((c : C) → K c (tick c)) → ((c : C) → K c (next c)) → (c : C) (v : Move C R) → m.move c ≡ v → K c (follow m tick next n v)
    at_follow tick next n h k c (Goes d) e = back_goes c d _ e (at_choice tick next h k d (nat_lt (m.rank d) n))
    at_follow tick next n h k c (Ticks d) e = back_tick c d (tick d) e (h d)
    at_follow tick next n h k c (Ends r) e = at_end c r e

    at_walk : (tick : C → R) → ((c : C) → K c (tick c)) → (n : ℕ) (c : C) → K c (walk m tick n c)
    at_walk tick h zero c = at_stuck c
    at_walk tick h (suc n) c = at_follow tick (walk m tick n) (m.rank c) h (at_walk tick h n) c (m.move c) refl

    at_run : (n : ℕ) (c : C) → K c (run m n c)
    at_run zero c = at_walk m.cut at_cut (suc (m.rank c)) c
    at_run (suc n) c = at_walk (run m n) (at_run n) (suc (m.rank c)) c

    pub at_go : (c : C) → K c (go m c)
    at_go c = at_run (m.left c) c
