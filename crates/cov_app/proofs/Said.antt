-- What becomes of all that is said.
use Rattle.std.proofs.Common.{◌≡◌, ◌≢◌, ◌∙◌, inl, inr, ℕ, ◌≤◌, true, true≢false, refl, sym, ap, subst, List, Result, Ok, Err, arith}
use Rattle.cov_outside.specs.Counts.{Rose}
use Rattle.cov_outside.specs.declared.sink.Sink.{Ghosts as SinkOf}
use Rattle.cov_programs.specs.Ends.{Ends, Follows}
use Rattle.cov_programs.specs.Laws.{OnlyKeeps}
use Rattle.cov_programs.specs.Objects.{Moves, beside}
use Rattle.cov_programs.specs.Programs.{bind}
use Rattle.cov_programs.proofs.Keeping.{keeps-all}
use Rattle.cov_programs.proofs.Later.{ends-onward}
use Rattle.cov_step.specs.Answers.{given_or}
use Rattle.cov_step.specs.Calls.{Call, spells, checks, reads, puts, opens, lists, loads, saves, removes, makes, writes, crosses, measures, tries, tests, selects, judges, says, Answer, Answered, Step, IsNoMemory}
use Rattle.cov_step.specs.Objects.{Told, whole, failed, no_room, Saying, IsSaid, SayOf, on_err}
use Rattle.cov_step.specs.Promises.{is_silent}
use Rattle.cov_step.specs.Step.{step, doing, IsSpelled}
use Rattle.cov_step.proofs.Rising.{raised-on, stays-raised}
use Rattle.cov_step.proofs.Silence.{law_of_quiet}
use Rattle.cov_why.specs.Answers.{PlainWhy, usage}
use Rattle.cov_words.specs.Values.{Word}
use Rattle.cov_app.specs.Objects.{told_view, saying}
use Rattle.cov_app.specs.Taken.{HasOneText}
use Rattle.cov_app.specs.declared.answer.Told.{Told as Became}
use Rattle.cov_app.specs.declared.answer.Told.TheVariants as became

whole-failed : whole ≡ failed → ⊥
whole-failed e = cc

failed-room : failed ≡ no_room → ⊥
failed-room e = cc

failed-whole : failed ≡ whole → ⊥
failed-whole e = cc

room-whole : no_room ≡ whole → ⊥
room-whole e = cc

-- ---- one state of `err` after another

-- once something was refused nothing changes, and a failed write raised the count
pub record GoesOn {E : Type 0} (err : SinkOf E) (u v : Saying E) : Type 0 where
  pub count : err.faults u.sink ≤ err.faults v.sink
  pub over : u.told ≢ whole → v ≡ u
  pub rose : u.told ≡ whole → v.told ≡ failed → Rose (err.faults u.sink) (err.faults v.sink)

module _ {E : Type 0} (err : SinkOf E) where
  goes-still : (u : Saying E) → GoesOn err u u
  goes-still u = record { count = omega arith; over = λ n. refl; rose = λ a b. absurd (whole-failed (sym a ∙ b)) }

  goes-same : (u v : Saying E) → v ≡ u → GoesOn err u v
  goes-same u v e = subst (GoesOn err u) (sym e) (goes-still u)

  rose-by : (u v w : Saying E) → GoesOn err u v → GoesOn err v w → u.told ≡ whole → w.told ≡ failed → (t : Told) → v.told ≡ t → Rose (err.faults u.sink) (err.faults w.sink)
  rose-by u v w g h a f whole e = raised-on (err.faults u.sink) (err.faults v.sink) (err.faults w.sink) g.count (h.rose e f)
  rose-by u v w g h a f failed e = stays-raised (err.faults u.sink) (err.faults v.sink) (err.faults w.sink) (g.rose a e) h.count
  rose-by u v w g h a f no_room e = absurd (failed-room (sym f ∙ (ap (λ (s : Saying E). s.told) (h.over (λ x. room-whole (sym e ∙ x))) ∙ e)))

  pub goes-onward : (u v w : Saying E) → GoesOn err u v → GoesOn err v w → GoesOn err u w
  goes-onward u v w g h = record {
    count = omega (arith, g.count, h.count);
    over = λ n. h.over (λ x. n (sym (ap (λ (s : Saying E). s.told) (g.over n)) ∙ x)) ∙ g.over n;
    rose = λ a f. rose-by u v w g h a f v.told refl;
  }

  pub said-on : (u v : Saying E) (text : List ℕ) → SayOf err u text v → GoesOn err u v
  said-on u v text m = record { count = m.count; over = m.over; rose = m.rose }

  err-goes : (u : Saying E) (call : Call) (x : Answer call) (v : Saying E) → on_err err u call x v → GoesOn err u v
  err-goes u (spells words) x v m = absurd m
  err-goes u (checks bytes) x v m = absurd m
  err-goes u (reads name most) x v m = absurd m
  err-goes u (puts name bytes) x v m = absurd m
  err-goes u (opens name script) x v m = absurd m
  err-goes u lists x v m = absurd m
  err-goes u (loads name) x v m = absurd m
  err-goes u (saves name content) x v m = absurd m
  err-goes u (removes name) x v m = absurd m
  err-goes u (makes texts) x v m = absurd m
  err-goes u (writes bytes) x v m = absurd m
  err-goes u (crosses modules words budget) x v m = absurd m
  err-goes u (measures asked modules hook) x v m = absurd m
  err-goes u (tries modules words budget) x v m = absurd m
  err-goes u (tests asked modules) x v m = absurd m
  err-goes u (selects budget before after) x v m = absurd m
  err-goes u (judges budget modules) x v m = absurd m
  err-goes u (says text) x v m = said-on u v text m

  -- nothing that isn't said changes it
  err-silent : (u : Saying E) (call : Call) (x : Answer call) (v : Saying E) → on_err err u call x v → is_silent call x ≡ true → v ≡ u
  err-silent u (spells words) x v m e = absurd m
  err-silent u (checks bytes) x v m e = absurd m
  err-silent u (reads name most) x v m e = absurd m
  err-silent u (puts name bytes) x v m e = absurd m
  err-silent u (opens name script) x v m e = absurd m
  err-silent u lists x v m e = absurd m
  err-silent u (loads name) x v m e = absurd m
  err-silent u (saves name content) x v m e = absurd m
  err-silent u (removes name) x v m e = absurd m
  err-silent u (makes texts) x v m e = absurd m
  err-silent u (writes bytes) x v m e = absurd m
  err-silent u (crosses modules words budget) x v m e = absurd m
  err-silent u (measures asked modules hook) x v m e = absurd m
  err-silent u (tries modules words budget) x v m e = absurd m
  err-silent u (tests asked modules) x v m e = absurd m
  err-silent u (selects budget before after) x v m e = absurd m
  err-silent u (judges budget modules) x v m e = absurd m
  err-silent u (says text) x v m e = absurd (true≢false (sym e))

-- ---- beside other objects

module _ {W E : Type 0} (moves : Moves Call Answer W) (err : SinkOf E) where
  abbrev both : Moves Call Answer (W × Saying E)
  both = beside moves (on_err err)

  both-goes : (p : W × Saying E) (call : Call) (x : Answer call) (q : W × Saying E) → both p call x q → GoesOn err p.1 q.1
  both-goes p call x q (inl (m, same)) = goes-same err p.1 q.1 same
  both-goes p call x q (inr (m, same)) = err-goes err p.1 call x q.1 m

  both-silent : (p : W × Saying E) (call : Call) (x : Answer call) (q : W × Saying E) → both p call x q → is_silent call x ≡ true → q.1 ≡ p.1
  both-silent p call x q (inl (m, same)) e = same
  both-silent p call x q (inr (m, same)) e = err-silent err p.1 call x q.1 m e

  -- whatever a program says
  pub says-on : {A : Type 0} (p : Step A) (old new : W × Saying E) (e : Result A PlainWhy) → Follows both IsNoMemory p old e new → GoesOn err old.1 new.1
  says-on p old new e f = ends-onward both IsNoMemory (λ u v. GoesOn err u.1 v.1) (λ u. goes-still err u.1) (λ u v w. goes-onward err u.1 v.1 w.1) both-goes p old new e f.ends

  rest-silent : (words : List Word) (x : Answer (spells words)) → HasOneText words → IsSpelled words x → OnlyKeeps is_silent (bind (given_or usage x) doing)
  rest-silent words (Ok c) one is = law_of_quiet c (one c is)
  rest-silent words (Err i) one is = tt

  module _ (spelled : (u : W × Saying E) (words : List Word) (x : Answer (spells words)) (v : W × Saying E) → both u (spells words) x v → IsSpelled words x) where
    by-ends : (words : List Word) (old new : W × Saying E) (e : Result Answered PlainWhy) → HasOneText words → Ends both IsNoMemory (step words) old e new → new.1 ≡ old.1
    by-ends words old new e one (inl s) = ap (λ (u : W × Saying E). u.1) s.same
    by-ends words old new e one (inr (x, mid, m, rest)) =
        keeps-all both IsNoMemory (λ u. u.1) is_silent both-silent (bind (given_or usage x) doing) mid new e (rest-silent words x one (spelled old words x mid m)) rest ∙ both-silent old (spells words) x mid m refl

    -- a command of one text says nothing before it ended
    pub says-nothing : (words : List Word) (old new : W × Saying E) (e : Result Answered PlainWhy) → HasOneText words → Follows both IsNoMemory (step words) old e new → new.1 ≡ old.1
    says-nothing words old new e one f = by-ends words old new e one f.ends

-- ---- a text of the code

module _ {E : Type 0} (err : SinkOf E) where
  failed-is : (r : Became) → told_view r ≡ failed → r ≡ became.Failed
  failed-is became.Whole e = absurd (whole-failed e)
  failed-is became.Failed e = refl
  failed-is became.NoMemory e = absurd (failed-room (sym e))

  pub said-first : (old new : E) (text : List ℕ) (t r : Became) → t ≡ became.Whole → (err.tells → IsSaid (told_view r) text (err.contents old) (err.contents new)) → err.faults old ≤ err.faults new
      → (r ≡ became.Failed → Rose (err.faults old) (err.faults new)) → SayOf err (saying old t) text (saying new r)
  said-first old new text t r is said count rose = record {
    said = λ a h. said h;
    over = λ n. absurd (n (ap told_view is));
    count = count;
    rose = λ a f. rose (failed-is r f);
  }

  pub said-failed : (old : E) (text : List ℕ) (t : Became) → t ≡ became.Failed → SayOf err (saying old t) text (saying old became.Failed)
  said-failed old text t is = record {
    said = λ a h. absurd (failed-whole (sym (ap told_view is) ∙ a));
    over = λ n. ap (saying old) (sym is);
    count = omega arith;
    rose = λ a f. absurd (failed-whole (sym (ap told_view is) ∙ a));
  }

  pub said-starved : (old : E) (text : List ℕ) (t : Became) → t ≡ became.NoMemory → SayOf err (saying old t) text (saying old became.NoMemory)
  said-starved old text t is = record {
    said = λ a h. absurd (room-whole (sym (ap told_view is) ∙ a));
    over = λ n. ap (saying old) (sym is);
    count = omega arith;
    rose = λ a f. absurd (room-whole (sym (ap told_view is) ∙ a));
  }

  -- what was said at last tells of all, where nothing was said before it
  pub only-said : (old new : E) (said : Saying E) (text : List ℕ) (r : Became) → said ≡ saying old became.Whole → SayOf err said text (saying new r) → err.tells → IsSaid (told_view r) text (err.contents old) (err.contents new)
  only-said old new said text r is m h = (subst (λ s. SayOf err s text (saying new r)) is m).said refl h

  -- a failed write raised the count, whenever it was
  pub failed-raised : (old new : E) (said : Saying E) (text : List ℕ) (r : Became) → GoesOn err (saying old became.Whole) said → SayOf err said text (saying new r) → r ≡ became.Failed → Rose (err.faults old) (err.faults new)
  failed-raised old new said text r g m is = (goes-onward err (saying old became.Whole) said (saying new r) g (said-on err said (saying new r) text m)).rose refl (ap told_view is)

  -- the count of `err` doesn't fall
  pub said-counts : (old new : E) (said : Saying E) (text : List ℕ) (r : Became) → GoesOn err (saying old became.Whole) said → SayOf err said text (saying new r) → err.faults old ≤ err.faults new
  said-counts old new said text r g m = (goes-onward err (saying old became.Whole) said (saying new r) g (said-on err said (saying new r) text m)).count
