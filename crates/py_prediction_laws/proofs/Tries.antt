-- `try` and `finally` leave arcs that are as asked.
use Rattle.std.proofs.Common.{◌≡◌, ℕ, Bool, true, false, not, IsTrue, List, [], ◌∷◌, ◌++◌, refl, sym, subst, ◌⊎◌, inl, inr}
use Rattle.py_value.specs.Plain.{PlainRaised}
use Rattle.py_syntax.specs.FirstMarks.{only}
use Rattle.py_syntax.specs.LastMarks.{Way, onward, breaking, continuing, returning, raising, past_try, past_finally, comes, has_clause, is_onward}
use Rattle.py_syntax.specs.Neighbours.{by_each_way}
use Rattle.py_syntax.specs.Tree.{Clauses}
use Rattle.py_meaning.specs.Computations.{M}
use Rattle.py_meaning.specs.Statements.{Out, normal, breaks, continues, returns, raises, handle, settle}
use Rattle.py_prediction_laws.proofs.Members.{in-none, Mark, left, right, when, untrue}
use Rattle.py_prediction_laws.proofs.Tracks.{Fact, follows-give}
use Rattle.py_prediction_laws.proofs.Posts.{Frame, Holds, Goes, At, Post, throws, widened}

-- ---- in front of `finally`

-- Of the mark of a `try`, whether its suite is empty, and the last marks of the suite, of its clauses and of its `else`.
abbrev pub try_last : ℕ → Bool → (Way → List ℕ) → Clauses → (Way → List ℕ) → Bool → (Way → List ℕ) → Way → List ℕ
try_last l empty body cs clauses passed orelse w = past_try w (has_clause cs) passed (body onward ++ only empty (l ∷ [])) (body w) ++ (clauses w ++ orelse w)

module _ (F : Frame) where
  module _ (l : ℕ) (empty : Bool) (body : Way → List ℕ) (cs : Clauses) (clauses : Way → List ℕ) (passed : Bool) (orelse : Way → List ℕ) (pre : Fact) where
    abbrev Left : Out → Fact
    Left = Post F false (try_last l empty body cs clauses passed orelse) pre

    abbrev Body : Out → Fact
    Body = Post F empty body (At F l)

    -- at the end of the suite
    pub body-ended : (k : ℕ) (t : Bool) → Body normal k t → Mark k (body onward ++ only empty (l ∷ []))
    body-ended k t (inl m) = left (only empty (l ∷ [])) m
    body-ended k t (inr h) = right (body onward) (when h.0 h.1)

    else-left : (m : M Out) → Goes F (Body normal) m (Post F passed orelse (Body normal)) → Goes F (Body normal) m Left
    else-left m h =
        widened F passed false orelse (try_last l empty body cs clauses passed orelse) (Body normal) pre m
        (λ w k q. right (past_try w (has_clause cs) passed (body onward ++ only empty (l ∷ [])) (body w)) (right (clauses w) q))
        (λ k t e p. inl (left (clauses onward ++ orelse onward) (when e (body-ended k t p)))) h

    -- no clause
    no-clause : has_clause cs ≡ false → (k : ℕ) → Mark k (body raising) → Mark k (try_last l empty body cs clauses passed orelse raising)
    no-clause n k m = left (clauses raising ++ orelse raising) (when (subst (λ b. IsTrue (not b)) (sym n) refl) m)

    pub handle-goes : (has : Bool) → has_clause cs ≡ has → (h : PlainRaised → M Out) (m : M Out)
        → (IsTrue has → (e : PlainRaised) (t : Bool) → Goes F (Body (raises e t)) (h e) Left) → Goes F (Body normal) m (Post F passed orelse (Body normal)) → (o : Out) → Goes F (Body o) (handle has o h m) Left
    handle-goes has n h m hs els normal = else-left m els
    handle-goes has n h m hs els breaks = follows-give F.rule F.code _ breaks Left (λ k t q. left (clauses breaking ++ orelse breaking) q)
    handle-goes has n h m hs els continues = follows-give F.rule F.code _ continues Left (λ k t q. left (clauses continuing ++ orelse continuing) q)
    handle-goes has n h m hs els (returns v) = follows-give F.rule F.code _ (returns v) Left (λ k t q. left (clauses returning ++ orelse returning) q)
    handle-goes true n h m hs els (raises e t) = hs refl e t
    handle-goes false n h m hs els (raises e false) = follows-give F.rule F.code _ (raises e false) Left (λ k t q. no-clause n k q)
    handle-goes false n h m hs els (raises e true) = follows-give F.rule F.code _ (raises e true) Left (λ k t q. (q.0, λ a. no-clause n k (q.1 a)))

  -- an exception that comes to the clauses
  pub raised-mark : (empty : Bool) (last : Way → List ℕ) (pre : Fact) (e : PlainRaised) (th : Bool) (k : ℕ) (t : Bool) → Post F empty last pre (raises e th) k t → Holds t F.any → Mark k (last raising)
  raised-mark empty last pre e false k t q ok = q
  raised-mark empty last pre e true k t q ok = q.1 (subst (λ b. Holds b F.any) q.0 ok)

  -- ---- `finally`

  module _ (came : Way → List ℕ) (pre : Fact) where
    abbrev Pending : Out → Fact
    Pending = Post F false came pre

    some-mark : (k : ℕ) (ls : List ℕ) → Mark k ls → IsTrue (comes ls)
    some-mark k [] m = absurd (in-none k m.found)
    some-mark k (l ∷ ls) m = refl

    -- by the way of the pending outcome something comes
    abbrev pub Came : Out → Type 0
    Came normal = IsTrue (comes (came onward))
    Came breaks = IsTrue (comes (came breaking))
    Came continues = IsTrue (comes (came continuing))
    Came (returns v) = IsTrue (comes (came returning))
    Came (raises e false) = IsTrue (comes (came raising))
    Came (raises e true) = IsTrue F.any → IsTrue (comes (came raising))

    pub has-come : (o : Out) (k : ℕ) (t : Bool) → Pending o k t → Came o
    has-come normal k t (inl m) = some-mark k (came onward) m
    has-come normal k t (inr h) = absurd (untrue h.0)
    has-come breaks k t m = some-mark k (came breaking) m
    has-come continues k t m = some-mark k (came continuing) m
    has-come (returns v) k t m = some-mark k (came returning) m
    has-come (raises e false) k t m = some-mark k (came raising) m
    has-come (raises e true) k t h = λ a. some-mark k (came raising) (h.1 a)

    some-way : (w : Way) (k : ℕ) → Mark k (came w) → Mark k (by_each_way came)
    some-way onward k m = left _ m
    some-way breaking k m = right (came onward) (left _ m)
    some-way continuing k m = right (came onward) (right (came breaking) (left _ m))
    some-way returning k m = right (came onward) (right (came breaking) (right (came continuing) (left _ m)))
    some-way raising k m = right (came onward) (right (came breaking) (right (came continuing) (right (came returning) m)))

    -- whatever the way
    pub pending-mark : (o : Out) (k : ℕ) (t : Bool) → Pending o k t → Holds t F.any → Mark k (by_each_way came)
    pending-mark normal k t (inl m) ok = some-way onward k m
    pending-mark normal k t (inr h) ok = absurd (untrue h.0)
    pending-mark breaks k t m ok = some-way breaking k m
    pending-mark continues k t m ok = some-way continuing k m
    pending-mark (returns v) k t m ok = some-way returning k m
    pending-mark (raises e th) k t q ok = some-way raising k (raised-mark false came pre e th k t q ok)

    module _ (empty : Bool) (body : Way → List ℕ) where
      abbrev pub finally_out : Way → List ℕ
      finally_out w = past_finally w empty (came w) (body onward) (body w)

      -- the end of the suite, with marks in it and without
      through : (w : Way) (k : ℕ) → IsTrue (comes (came w)) → Mark k (body onward) → Mark k (finally_out w)
      through w k c m = left _ (when c m)

      stays : (w : Way) (k : ℕ) → IsTrue empty → Mark k (came w) → Mark k (finally_out w)
      stays w k e m = right (only (comes (came w)) (body onward)) (left _ (when e m))

      goes-on : (w : Way) (k : ℕ) → IsTrue (comes (came w)) → (Mark k (body onward)) ⊎ (IsTrue empty × Mark k (came w)) → Mark k (finally_out w)
      goes-on w k c (inl m) = through w k c m
      goes-on w k c (inr h) = stays w k h.0 h.1

      -- another way out of the suite
      leaves : (w : Way) (k : ℕ) → is_onward w ≡ false → Mark k (body w) → Mark k (finally_out w)
      leaves w k n m = right (only (comes (came w)) (body onward)) (right (only empty (came w)) (when (subst (λ b. IsTrue (not b)) (sym n) refl) m))

      abbrev Suite : Out → Out → Fact
      Suite o = Post F empty body (Pending o)

      abbrev Out_left : Out → Fact
      Out_left = Post F false finally_out pre

      ended-normal : (k : ℕ) (t : Bool) → Came normal → Suite normal normal k t → Out_left normal k t
      ended-normal k t c (inl m) = inl (through onward k c m)
      ended-normal k t c (inr (e, inl m)) = inl (stays onward k e m)
      ended-normal k t c (inr (e, inr h)) = absurd (untrue h.0)

      ended-thrown : (e : PlainRaised) (k : ℕ) (t : Bool) → Came (raises e true) → Suite (raises e true) normal k t → IsTrue F.any → Mark k (finally_out raising)
      ended-thrown e k t c (inl m) a = through raising k (c a) m
      ended-thrown e k t c (inr (i, h)) a = stays raising k i (h.1 a)

      after-suite : (o : Out) → Came o → Goes F (Suite o normal) (settle normal o) Out_left
      after-suite normal c = follows-give F.rule F.code _ normal Out_left (λ k t q. ended-normal k t c q)
      after-suite breaks c = follows-give F.rule F.code _ breaks Out_left (λ k t q. goes-on breaking k c q)
      after-suite continues c = follows-give F.rule F.code _ continues Out_left (λ k t q. goes-on continuing k c q)
      after-suite (returns v) c = follows-give F.rule F.code _ (returns v) Out_left (λ k t q. goes-on returning k c q)
      after-suite (raises e false) c = follows-give F.rule F.code _ (raises e false) Out_left (λ k t q. goes-on raising k c q)
      after-suite (raises e true) c = throws F _ e Out_left (λ k t q. (refl, ended-thrown e k t c q))

      pub settle-goes : (o : Out) → Came o → (r : Out) → Goes F (Suite o r) (settle r o) Out_left
      settle-goes o c normal = after-suite o c
      settle-goes o c breaks = follows-give F.rule F.code _ breaks Out_left (λ k t q. leaves breaking k refl q)
      settle-goes o c continues = follows-give F.rule F.code _ continues Out_left (λ k t q. leaves continuing k refl q)
      settle-goes o c (returns v) = follows-give F.rule F.code _ (returns v) Out_left (λ k t q. leaves returning k refl q)
      settle-goes o c (raises e false) = follows-give F.rule F.code _ (raises e false) Out_left (λ k t q. leaves raising k refl q)
      settle-goes o c (raises e true) = follows-give F.rule F.code _ (raises e true) Out_left (λ k t q. (q.0, λ a. leaves raising k refl (q.1 a)))
