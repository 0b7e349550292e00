-- How programs that follow one another end, and programs over more objects.
use Rattle.std.specs.Result.{IsErr, IsErrAnd}
use Rattle.std.proofs.Common.{◌≡◌, inl, inr, refl, sym, ap, subst, Result, Ok, Err}
use Rattle.cov_programs.specs.Programs.{Program, give, settle, refuse, ask, bind}
use Rattle.cov_programs.specs.Objects.{Moves, nobody, beside}
use Rattle.cov_programs.specs.Ends.{Ends, IsOpen, Follows, seen}
use Rattle.cov_programs.proofs.Results.{ok_is, err_is, ok_no_err, handed}

module _ {C : Type 0} {Answer : C → Type 0} {R W : Type 0} (moves : Moves C Answer W) (wants : R → Type 0) where
  -- memory is wanting where a program begins
  pub starves-open : {B : Type 0} (q : Program C Answer R B) → IsOpen q → (old new : W) (r : R) → wants r → new ≡ old → Ends moves wants q old (Err r) new
  starves-open (give b) o old new r h same = inl (record { why = r; wanting = h; is = refl; same = same })
  starves-open (settle b) o old new r h same = absurd o
  starves-open (refuse s) o old new r h same = inl (record { why = r; wanting = h; is = refl; same = same })
  starves-open (ask call f) o old new r h same = inl (record { why = r; wanting = h; is = refl; same = same })

  -- the first one gives a value, and the next goes on
  pub then-gave : {A B : Type 0} (p : Program C Answer R A) (next : A → Program C Answer R B) (old mid new : W) (a : A) (e : Result B R)
      → Ends moves wants p old (Ok a) mid → Ends moves wants (next a) mid e new → Ends moves wants (bind p next) old e new
  then-gave (give b) next old mid new a e (inl s) h = absurd (ok_no_err s.is)
  then-gave (give b) next old mid new a e (inr (is, same)) h = subst (λ w. Ends moves wants (next b) w e new) same (subst (λ x. Ends moves wants (next x) mid e new) (ok_is is) h)
  then-gave (settle b) next old mid new a e (is, same) h = subst (λ w. Ends moves wants (next b) w e new) same (subst (λ x. Ends moves wants (next x) mid e new) (ok_is is) h)
  then-gave (refuse r) next old mid new a e (inl s) h = absurd (ok_no_err s.is)
  then-gave (refuse r) next old mid new a e (inr (is, same)) h = absurd (ok_no_err is)
  then-gave (ask call f) next old mid new a e (inl s) h = absurd (ok_no_err s.is)
  then-gave (ask call f) next old mid new a e (inr (x, w, moved, rest)) h = inr (x, w, moved, then-gave (f x) next w mid new a e rest h)

  -- the first one is refused, and so is the whole
  pub then-refused : {A B : Type 0} (p : Program C Answer R A) (next : A → Program C Answer R B) (old new : W) (r : R)
      → Ends moves wants p old (Err r) new → ((a : A) → IsOpen (next a)) → Ends moves wants (bind p next) old (Err r) new
  then-refused (give b) next old new r (inl s) o = starves-open (next b) (o b) old new r (subst wants (sym (err_is s.is)) s.wanting) s.same
  then-refused (give b) next old new r (inr (is, same)) o = absurd (ok_no_err (sym is))
  then-refused (settle b) next old new r (is, same) o = absurd (ok_no_err (sym is))
  then-refused (refuse s) next old new r (inl t) o = inl (record { why = t.why; wanting = t.wanting; is = ap Err (err_is t.is); same = t.same })
  then-refused (refuse s) next old new r (inr (is, same)) o = inr (ap Err (err_is is), same)
  then-refused (ask call f) next old new r (inl t) o = inl (record { why = t.why; wanting = t.wanting; is = ap Err (err_is t.is); same = t.same })
  then-refused (ask call f) next old new r (inr (x, w, moved, rest)) o = inr (x, w, moved, then-refused (f x) next w new r rest o)

-- a program over some objects, among more of them
module _ {C : Type 0} {Answer : C → Type 0} {R U W : Type 0} (few : Moves C Answer U) (all : Moves C Answer W) (wants : R → Type 0) (at : U → W)
    (moved : (u : U) (call : C) (answer : Answer call) (v : U) → few u call answer v → all (at u) call answer (at v)) where
  pub along : {A : Type 0} (p : Program C Answer R A) (old new : U) (e : Result A R) → Ends few wants p old e new → Ends all wants p (at old) e (at new)
  along (give a) old new e (inl s) = inl (record { why = s.why; wanting = s.wanting; is = s.is; same = ap at s.same })
  along (give a) old new e (inr (is, same)) = inr (is, ap at same)
  along (settle a) old new e (is, same) = (is, ap at same)
  along (refuse r) old new e (inl s) = inl (record { why = s.why; wanting = s.wanting; is = s.is; same = ap at s.same })
  along (refuse r) old new e (inr (is, same)) = inr (is, ap at same)
  along (ask call f) old new e (inl s) = inl (record { why = s.why; wanting = s.wanting; is = s.is; same = ap at s.same })
  along (ask call f) old new e (inr (x, u, m, rest)) = inr (x, at u, moved old call x u m, along (f x) u new e rest)

  pub among : {A : Type 0} {p : Program C Answer R A} {old new : U} {e : Result A R} → Follows few wants p old e new → Follows all wants p (at old) e (at new)
  among {p = p} {old = old} {new = new} {e = e} f = record { ends = along p old new e f.ends }

-- ---- in short, by what is shown

module _ {C : Type 0} {Answer : C → Type 0} {R W : Type 0} {moves : Moves C Answer W} {wants : R → Type 0} where
  pub goes-on : {A B : Type 0} {p : Program C Answer R A} {old mid new : W} {a : A} {e : Result B R} (next : A → Program C Answer R B)
      → Follows moves wants p old (Ok a) mid → Follows moves wants (next a) mid e new → Follows moves wants (bind p next) old e new
  goes-on {p = p} {old = old} {mid = mid} {new = new} {a = a} {e = e} next f g = record { ends = then-gave moves wants p next old mid new a e f.ends g.ends }

  pub stops : {A B : Type 0} {p : Program C Answer R A} {old new : W} {r : R} (next : A → Program C Answer R B)
      → Follows moves wants p old (Err r) new → ((a : A) → IsOpen (next a)) → Follows moves wants (bind p next) old (Err r) new
  stops {p = p} {old = old} {new = new} {r = r} next f o = record { ends = then-refused moves wants p next old new r f.ends o }

  pub starves : {A : Type 0} {p : Program C Answer R A} {old : W} {r : R} → IsOpen p → wants r → Follows moves wants p old (Err r) old
  starves {p = p} {old = old} {r = r} o h = record { ends = starves-open moves wants p o old old r h refl }

  pub gives : {A : Type 0} {a : A} {old : W} → Follows moves wants (give a) old (Ok a) old
  gives = record { ends = inr (refl, refl) }

  pub settles : {A : Type 0} {a : A} {old : W} → Follows moves wants (settle a) old (Ok a) old
  settles = record { ends = (refl, refl) }

  pub refuses : {A : Type 0} {r : R} {old : W} → Follows {A = A} moves wants (refuse r) old (Err r) old
  refuses = record { ends = inr (refl, refl) }

  pub asks : {A : Type 0} {call : C} {f : Answer call → Program C Answer R A} {old new : W} {e : Result A R} (answer : Answer call) (mid : W)
      → moves old call answer mid → Follows moves wants (f answer) mid e new → Follows moves wants (ask call f) old e new
  asks answer mid m f = record { ends = inr (answer, mid, m, f.ends) }

module _ {C : Type 0} {Answer : C → Type 0} {R U V : Type 0} (left : Moves C Answer U) (right : Moves C Answer V) {wants : R → Type 0} {A : Type 0} where
  -- programs over one of two objects
  pub on-left : {p : Program C Answer R A} {old new : U} {e : Result A R} (v : V) → Follows left wants p old e new → Follows (beside left right) wants p (old, v) e (new, v)
  on-left {p = p} {old = old} {new = new} {e = e} v h = record { ends = along left (beside left right) wants (λ u. (u, v)) (λ u call answer w m. inl (m, refl)) p old new e h.ends }

  pub on-right : {p : Program C Answer R A} {old new : V} {e : Result A R} (u : U) → Follows right wants p old e new → Follows (beside left right) wants p (u, old) e (u, new)
  on-right {p = p} {old = old} {new = new} {e = e} u h = record { ends = along right (beside left right) wants (λ v. (u, v)) (λ v call answer w m. inr (m, refl)) p old new e h.ends }

-- programs that call nothing
pub on-nobody : {C : Type 0} {Answer : C → Type 0} {R A W : Type 0} (moves : Moves C Answer W) {wants : R → Type 0} {p : Program C Answer R A} (old : W) {e : Result A R}
    → Follows (nobody C Answer) wants p tt e tt → Follows moves wants p old e old
on-nobody {C = C} {Answer = Answer} moves {wants = wants} {p = p} old {e = e} h = record { ends = along (nobody C Answer) moves wants (λ u. old) (λ u call answer w m. absurd m) p tt tt e h.ends }

-- what a `?` hands on
pub hands-on : {C : Type 0} {Answer : C → Type 0} {R W A B : Type 0} {moves : Moves C Answer W} {wants : R → Type 0} {p : Program C Answer R A} {old new : W} {r : R} (next : A → Program C Answer R B)
    → Follows moves wants p old (Err r) new → ((a : A) → IsOpen (next a)) → (d : Result B R) → IsErr d × IsErrAnd d (λ e. e ≡ r) → Follows moves wants (bind p next) old d new
hands-on {moves = moves} {wants = wants} {p = p} {old = old} {new = new} {r = r} next f o d h = subst (λ e. Follows moves wants (bind p next) old e new) (sym (handed d r h)) (stops next f o)

-- the same of a value that is seen so
pub hands-on-seen : {C : Type 0} {Answer : C → Type 0} {R W A B X : Type 0} {moves : Moves C Answer W} {wants : R → Type 0} {p : Program C Answer R A} {old new : W} {r : R} (next : A → Program C Answer R B) (view : X → B)
    → Follows moves wants p old (Err r) new → ((a : A) → IsOpen (next a)) → (d : Result X R) → IsErr d × IsErrAnd d (λ e. e ≡ r) → Follows moves wants (bind p next) old (seen view d) new
hands-on-seen {moves = moves} {wants = wants} {p = p} {old = old} {new = new} {r = r} next view f o d h = subst (λ e. Follows moves wants (bind p next) old (seen view e) new) (sym (handed d r h)) (stops next f o)

-- memory is wanting where a `?` hands it on
pub starves-seen : {C : Type 0} {Answer : C → Type 0} {R W B X : Type 0} {moves : Moves C Answer W} {wants : R → Type 0} (p : Program C Answer R B) (view : X → B) (old : W) (r : R)
    → IsOpen p → wants r → (d : Result X R) → IsErr d × IsErrAnd d (λ e. e ≡ r) → Follows moves wants p old (seen view d) old
starves-seen {moves = moves} {wants = wants} p view old r o w d h = subst (λ e. Follows moves wants p old (seen view e) old) (sym (handed d r h)) (starves o w)

pub starves-so : {C : Type 0} {Answer : C → Type 0} {R W B : Type 0} {moves : Moves C Answer W} {wants : R → Type 0} (p : Program C Answer R B) (old : W) (r : R)
    → IsOpen p → wants r → (d : Result B R) → IsErr d × IsErrAnd d (λ e. e ≡ r) → Follows moves wants p old d old
starves-so {moves = moves} {wants = wants} p old r o w d h = subst (λ e. Follows moves wants p old e old) (sym (handed d r h)) (starves o w)

-- ---- under other names

-- the same program, ending and states
pub followed-so : {C : Type 0} {Answer : C → Type 0} {R W A : Type 0} (moves : Moves C Answer W) {wants : R → Type 0} {p q : Program C Answer R A} {old new : W} {d e : Result A R}
    → p ≡ q → d ≡ e → Follows moves wants p old d new → Follows moves wants q old e new
followed-so moves {wants = wants} {q = q} {old = old} {new = new} {d = d} is too f = subst (λ r. Follows moves wants q old r new) too (subst (λ r. Follows moves wants r old d new) is f)
