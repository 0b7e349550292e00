-- Loops leave arcs that are as asked.
use Rattle.std.proofs.Common.{◌≡◌, ℕ, zero, suc, ◌<◌, Bool, true, false, IsTrue, List, [], ◌∷◌, ◌++◌, Option, Some, None, Ok, pos, negsuc, refl, inl, inr}
use Rattle.py_value.specs.Plain.{PlainRaised}
use Rattle.py_syntax.specs.Constants.{is_constant}
use Rattle.py_syntax.specs.FirstMarks.{only}
use Rattle.py_syntax.specs.LastMarks.{Way, onward, breaking, continuing, returning, raising, may_raise, past_loop, onward_only}
use Rattle.py_syntax.specs.Neighbours.{turned}
use Rattle.py_syntax.specs.Tree.{Expr, int, bool}
use Rattle.py_meaning.specs.Activations.{mark, again}
use Rattle.py_meaning.specs.Calls.{Calls}
use Rattle.py_meaning.specs.Computations.{State, done, M, give, chain, read, value, branch}
use Rattle.py_meaning.specs.Expressions.{eval}
use Rattle.py_meaning.specs.Places.{Place}
use Rattle.py_meaning.specs.Statements.{Out, normal, breaks, continues, returns, raises, using, looped, Loop, if_turn, turns, loop, while_header}
use Rattle.py_prediction_laws.proofs.Members.{Mark, left, right, when, regroup, in-turned, untrue}
use Rattle.py_prediction_laws.proofs.Tracks.{Fact, follows-give, follows-chain, follows-within, follows-stop, follows-weaken, IsQuiet}
use Rattle.py_prediction_laws.proofs.Posts.{Frame, Holds, Goes, At, Post, Enter, Joins, marked, marked-again, uses, uses-answer, widened, raise-at}

-- ---- tests that always hold

pub constant-answers : (c : Calls) (p : Place) (t : Expr) → IsTrue (is_constant t) → (s : State) (n : ℕ) → while_header (eval c p t) s n ≡ done (Ok (Some tt)) s n
unfolding eval value chain branch read give
constant-answers c p (bool true) h s n = refl
constant-answers c p (bool false) h s n = absurd (untrue h)
constant-answers c p (int (pos zero)) h s n = absurd (untrue h)
constant-answers c p (int (pos (suc k))) h s n = refl
constant-answers c p (int (negsuc k)) h s n = refl
constant-answers c p _ h s n = absurd (untrue h)

-- the marks in front of a further turn, of the last marks of the suite
abbrev pub last_in_turn : ℕ → Bool → (Way → List ℕ) → List ℕ
last_in_turn l empty body = body onward ++ (body continuing ++ only empty (l ∷ []))

module _ (F : Frame) where
  -- the last marks of a turn, at whose beginning a `for` may raise
  abbrev pub turn_last : ℕ → (Way → List ℕ) → Way → List ℕ
  turn_last l body onward = body onward
  turn_last l body breaking = body breaking
  turn_last l body continuing = body continuing
  turn_last l body returning = body returning
  turn_last l body raising = may_raise F.any raising l ++ body raising

  -- those of a loop, whether it may pass on by its header, and the last marks of the `else`
  abbrev pub loop_last : ℕ → (Way → List ℕ) → Bool → (Way → List ℕ) → Way → List ℕ
  loop_last l body passed orelse w = may_raise F.any w l ++ (past_loop w (body breaking) (body w) ++ (onward_only w (only passed (l ∷ [])) ++ orelse w))

  pub while-turn : (l : ℕ) (body : Way → List ℕ) (w : Way) (k : ℕ) → Mark k (body w) → Mark k (turn_last l body w)
  while-turn l body onward k m = m
  while-turn l body breaking k m = m
  while-turn l body continuing k m = m
  while-turn l body returning k m = m
  while-turn l body raising k m = right (may_raise F.any raising l) m

  pub else-goes : (l : ℕ) (body : Way → List ℕ) (passed : Bool) (orelse : Way → List ℕ) (pre : Fact) (e : Bool) (m : M Out) → (IsTrue e → IsTrue passed) → Goes F (At F l) m (Post F e orelse (At F l)) → Goes F (At F l) m (Post F false (loop_last l body passed orelse) pre)
  else-goes l body passed orelse pre e m f h =
      widened F e false orelse (loop_last l body passed orelse) (At F l) pre m
      (λ w k q. right (may_raise F.any w l) (right (past_loop w (body breaking) (body w)) (right (onward_only w (only passed (l ∷ []))) q)))
      (λ k t i p. inl (right (may_raise F.any onward l) (right (body breaking) (left (orelse onward) (when (f i) p))))) h

  pub header-raises : (l : ℕ) (body : Way → List ℕ) (passed : Bool) (orelse : Way → List ℕ) (pre : Fact) (e : PlainRaised) (k : ℕ) (t : Bool) → At F l k t → Post F false (loop_last l body passed orelse) pre (raises e true) k true
  header-raises l body passed orelse pre e k t p = (refl, λ a. left _ (raise-at F k l a p))

  module _ {T : Type 0} (x : Loop T) (empty : Bool) (body : Way → List ℕ) (passed : Bool) (orelse : Way → List ℕ) (up : 0 < x.line) (pre : Fact) where
    abbrev Left : Out → Fact
    Left = Post F false (loop_last x.line body passed orelse) pre

    -- A header marks, and its turn or the `else` goes as asked.
    abbrev pub HeaderGoes : Type 0
    HeaderGoes = (b : Option T) (f : T → M Out) → ((t : T) → Goes F (At F x.line) (f t) Left) → Goes F (At F x.line) (using (x.header b) (λ found. if_turn found x.orelse f)) Left

    -- a header that may answer anything
    pub any-header : ((b : Option T) → IsQuiet F.rule (x.header b)) → Goes F (At F x.line) x.orelse Left → HeaderGoes
    any-header q o b f h = uses F (At F x.line) (x.header b) _ Left (q b) go (header-raises x.line body passed orelse pre)
      where
        go : (found : Option T) → Goes F (At F x.line) (if_turn found x.orelse f) Left
        go None = o
        go (Some t) = h t

    abbrev Turned : Type 0
    Turned = Joins F (turned x.line (last_in_turn x.line empty body))

    turned-round : Turned → (k : ℕ) → Mark k (last_in_turn x.line empty body) → F.Claim k x.line
    turned-round j k m = j k x.line m.up up (in-turned k x.line (last_in_turn x.line empty body) m.found)

    -- in front of a further turn
    abbrev Round : Fact
    Round k t = Holds t F.any → F.Claim k x.line

    ended : (k : ℕ) (t : Bool) → Post F empty (turn_last x.line body) (At F x.line) normal k t → Mark k (last_in_turn x.line empty body)
    ended k t (inl m) = left (body continuing ++ only empty (x.line ∷ [])) m
    ended k t (inr h) = right (body onward) (right (body continuing) (when h.0 h.1))

    after-turn : Turned → (m : M Out) → Goes F Round m Left → (o : Out) → Goes F (Post F empty (turn_last x.line body) (At F x.line) o) (looped o m) Left
    after-turn j m h normal = follows-weaken F.rule F.code Round _ m Left Left (λ k t q ok. turned-round j k (ended k t q)) (λ o k t q. q) h
    after-turn j m h continues =
        follows-weaken F.rule F.code Round _ m Left Left (λ k t q ok. turned-round j k (right (body onward) (left (only empty (x.line ∷ [])) q))) (λ o k t q. q) h
    after-turn j m h breaks = follows-give F.rule F.code _ normal Left (λ k t q. inl (right (may_raise F.any onward x.line) (left _ q)))
    after-turn j m h (returns v) = follows-give F.rule F.code _ (returns v) Left (λ k t q. right (may_raise F.any returning x.line) (left _ q))
    after-turn j m h (raises e false) = follows-give F.rule F.code _ (raises e false) Left (λ k t q. regroup (may_raise F.any raising x.line) (body raising) _ q)
    after-turn j m h (raises e true) = follows-give F.rule F.code _ (raises e true) Left (λ k t q. (q.0, λ a. regroup (may_raise F.any raising x.line) (body raising) _ (q.1 a)))

    abbrev Turning : Type 0
    Turning = (t : T) → Goes F (At F x.line) (x.turn t) (Post F empty (turn_last x.line body) (At F x.line))

    a-turn : Turned → (b : Option T) → HeaderGoes → Turning → (rest : T → M Out) → ((t : T) → Goes F Round (rest t) Left) → Goes F (At F x.line) (using (x.header b) (λ found. if_turn found x.orelse (λ t. chain (x.turn t) (λ o. looped o (rest t))))) Left
    a-turn j b head turn rest h = head b _ (λ t. follows-chain F.rule F.code (At F x.line) (x.turn t) (Post F empty (turn_last x.line body) (At F x.line)) _ Left (turn t) (after-turn j (rest t) (h t)))

    turns-again : Turned → HeaderGoes → Turning → (k : ℕ) (b : Option T) → Goes F Round (turns x k (again x.line) b) Left
    unfolding turns
    turns-again j head turn zero b = follows-stop F.rule F.code Round Left
    turns-again j head turn (suc k) b =
        marked-again F Round x.line _ Left up (λ k t q ok. q ok) (a-turn j b head turn _ (λ t. turns-again j head turn k (Some t)))

    turns-first : Turned → HeaderGoes → Turning → Enter F pre (x.line ∷ []) → (k : ℕ) (b : Option T) → Goes F pre (turns x k (mark x.line) b) Left
    unfolding turns
    turns-first j head turn enter zero b = follows-stop F.rule F.code pre Left
    turns-first j head turn enter (suc k) b =
        marked F pre x.line _ Left up enter (a-turn j b head turn _ (λ t. turns-again j head turn k (Some t)))

    pub loop-goes : Turned → HeaderGoes → Turning → Enter F pre (x.line ∷ []) → (b : Option T) → Goes F pre (loop x (mark x.line) b) Left
    unfolding loop
    loop-goes j head turn enter b = follows-within F.rule F.code pre _ Left (λ n. turns-first j head turn enter n b)

    -- a header whose answer is always the same
    pub constant-header : (t : T) → ((b : Option T) (s : State) (n : ℕ) → x.header b s n ≡ done (Ok (Some t)) s n) → HeaderGoes
    constant-header t is b f h = uses-answer F (At F x.line) (x.header b) (Some t) _ Left (is b) (h t)
