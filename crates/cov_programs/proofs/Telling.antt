-- Where no count rises and memory suffices, a program ends as the contents of the objects say, and in
-- one way.
use Rattle.std.proofs.Common.{◌≡◌, inl, inr, Bool, true, false, refl, sym, ◌∙◌, ap, subst, Result, Ok, Err}
use Rattle.cov_programs.specs.Programs.{Program, give, settle, refuse, ask}
use Rattle.cov_programs.specs.Objects.{Moves, beside}
use Rattle.cov_programs.specs.Ends.{Starves, Ends}
use Rattle.cov_programs.specs.Laws.{nothing_wants, IsFed, IsWant, Yields, IsTelling, AnswersOnce}
use Rattle.cov_programs.proofs.Results.{ok_no_err, err_is}
use Rattle.cov_programs.proofs.Later.{ends-later}

module _ {C : Type 0} {Answer : C → Type 0} {R W T : Type 0} {moves : Moves C Answer W} {hungry : (call : C) → Answer call → Bool} {told : Moves C Answer T} (t : IsTelling moves hungry told) (wants : R → Type 0) where
  full : {A : Type 0} (e : Result A R) (old new : W) → IsFed wants e → Starves wants old e new → ⊥
  full (Ok a) old new h s = ok_no_err s.is
  full (Err r) old new h s = h (subst wants (sym (err_is s.is)) s.wanting)

  only-wants : {A : Type 0} (q : Program C Answer R A) (u v : W) (e : Result A R) → IsWant wants q → Ends moves wants q u e v → IsFed wants e → ⊥
  only-wants (give a) u v e w h f = w
  only-wants (settle a) u v e w h f = w
  only-wants (refuse r) u v e w (inl s) f = full e u v f s
  only-wants (refuse r) u v (Ok a) w (inr (is, same)) f = ok_no_err is
  only-wants (refuse r) u v (Err q) w (inr (is, same)) f = f (subst wants (sym (err_is is)) w)
  only-wants (ask call g) u v e w h f = w

  -- the same program over what the objects tell
  pub told-of : {A : Type 0} (p : Program C Answer R A) (old new : W) (e : Result A R) → Yields wants hungry p → IsFed wants e → t.counting.NoneRose old new → Ends moves wants p old e new
      → Ends told nothing_wants p (t.view old) e (t.view new)
  told-of (give a) old new e y f n (inl s) = absurd (full e old new f s)
  told-of (give a) old new e y f n (inr (is, same)) = inr (is, ap t.view same)
  told-of (settle a) old new e y f n (is, same) = (is, ap t.view same)
  told-of (refuse r) old new e y f n (inl s) = absurd (full e old new f s)
  told-of (refuse r) old new e y f n (inr (is, same)) = inr (is, ap t.view same)
  told-of (ask call g) old new e y f n (inl s) = absurd (full e old new f s)
  told-of {A} (ask call g) old new e y f n (inr (x, u, m, rest)) = by (hungry call x) refl (λ a b. told-of (g x) u new e (y x).1 f b rest)
    where
      first : t.counting.Later old u
      first = t.later old call x u m

      second : t.counting.Later u new
      second = ends-later moves wants t.counting t.later (g x) u new e rest

      by : (b : Bool) → hungry call x ≡ b → (t.counting.Later u new → t.counting.NoneRose u new → Ends told nothing_wants (g x) (t.view u) e (t.view new)) → Ends told nothing_wants (ask call g) (t.view old) e (t.view new)
      by true h ih = absurd (only-wants (g x) u new e ((y x).0 h) rest f)
      by false h ih = inr (x, t.view u, t.tells old call x u m (t.counting.before first second n) h, ih second (t.counting.after first second n))

-- two objects that tell, side by side
pub both-tell : {C : Type 0} {Answer : C → Type 0} {U V S T : Type 0} {left : Moves C Answer U} {right : Moves C Answer V} {hungry : (call : C) → Answer call → Bool} {of_left : Moves C Answer S} {of_right : Moves C Answer T}
    → IsTelling left hungry of_left → IsTelling right hungry of_right → IsTelling (beside left right) hungry (beside of_left of_right)
both-tell {C = C} {Answer = Answer} {U = U} {V = V} {left = left} {right = right} {hungry = hungry} {of_left = of_left} {of_right = of_right} a b = record {
  counting = record {
    Later = λ p q. a.counting.Later p.0 q.0 × b.counting.Later p.1 q.1;
    still = λ p. (a.counting.still p.0, b.counting.still p.1);
    onward = λ g h. (a.counting.onward g.0 h.0, b.counting.onward g.1 h.1);
    NoneRose = λ p q. a.counting.NoneRose p.0 q.0 × b.counting.NoneRose p.1 q.1;
    before = λ g h n. (a.counting.before g.0 h.0 n.0, b.counting.before g.1 h.1 n.1);
    after = λ g h n. (a.counting.after g.0 h.0 n.0, b.counting.after g.1 h.1 n.1);
  };
  view = λ p. (a.view p.0, b.view p.1);
  later = λ p call x q m. later-of p call x q m;
  tells = λ p call x q m n h. tells-of p call x q m n h;
}
  where
    later-of : (p : U × V) (call : C) (x : Answer call) (q : U × V) → beside left right p call x q → a.counting.Later p.0 q.0 × b.counting.Later p.1 q.1
    later-of p call x q (inl (m, same)) = (a.later p.0 call x q.0 m, subst (b.counting.Later p.1) (sym same) (b.counting.still p.1))
    later-of p call x q (inr (m, same)) = (subst (a.counting.Later p.0) (sym same) (a.counting.still p.0), b.later p.1 call x q.1 m)

    tells-of : (p : U × V) (call : C) (x : Answer call) (q : U × V) → beside left right p call x q → a.counting.NoneRose p.0 q.0 × b.counting.NoneRose p.1 q.1 → hungry call x ≡ false
        → beside of_left of_right (a.view p.0, b.view p.1) call x (a.view q.0, b.view q.1)
    tells-of p call x q (inl (m, same)) n h = inl (a.tells p.0 call x q.0 m n.0 h, ap b.view same)
    tells-of p call x q (inr (m, same)) n h = inr (b.tells p.1 call x q.1 m n.1 h, ap a.view same)

-- ---- one ending

module _ {C : Type 0} {Answer : C → Type 0} {R W : Type 0} (moves : Moves C Answer W) (once : AnswersOnce moves) where
  pub one-ending : {A : Type 0} (p : Program C Answer R A) (old u v : W) (d e : Result A R) → Ends moves nothing_wants p old d u → Ends moves nothing_wants p old e v → (d ≡ e) × (u ≡ v)
  one-ending (give a) old u v d e (inl s) h = absurd s.wanting
  one-ending (give a) old u v d e (inr g) (inl s) = absurd s.wanting
  one-ending (give a) old u v d e (inr (is, same)) (inr (also, too)) = (is ∙ sym also, same ∙ sym too)
  one-ending (settle a) old u v d e (is, same) (also, too) = (is ∙ sym also, same ∙ sym too)
  one-ending (refuse r) old u v d e (inl s) h = absurd s.wanting
  one-ending (refuse r) old u v d e (inr g) (inl s) = absurd s.wanting
  one-ending (refuse r) old u v d e (inr (is, same)) (inr (also, too)) = (is ∙ sym also, same ∙ sym too)
  one-ending (ask call f) old u v d e (inl s) h = absurd s.wanting
  one-ending (ask call f) old u v d e (inr g) (inl s) = absurd s.wanting
  one-ending {A} (ask call f) old u v d e (inr (x, w, m, rest)) (inr (y, z, n, others)) =
      let same = once old call x y w z m n in
      one-ending (f x) w u v d e rest (subst (λ s. Ends moves nothing_wants (f x) s e v) (sym same.1) (subst (λ b. Ends moves nothing_wants (f b) z e v) (sym same.0) others))
