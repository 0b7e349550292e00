-- How parts of a body are entered and left, by the marks that a prediction has.
use Rattle.std.proofs.Common.{◌≡◌, ℕ, ◌<◌, Bool, true, false, IsTrue, List, [], ◌∷◌, ◌++◌, Ok, Err, refl, sym, subst, ◌⊎◌, inl, inr}
use Rattle.std.proofs.lemmas.Bool.{eqb-false}
use Rattle.cov_event.specs.declared.event.CodeId.{CodeId}
use Rattle.py_value.specs.Plain.{PlainValue, PlainRaised}
use Rattle.py_syntax.specs.LastMarks.{Way, onward, breaking, continuing, returning, raising, own_way, may_raise}
use Rattle.py_syntax.specs.Neighbours.{Pair, joined}
use Rattle.py_meaning.specs.Activations.{mark, again, kept_line, is_thrown, Arc, arc_to}
use Rattle.py_meaning.specs.Computations.{Setting, State, done, Ans, M, bind, give, chain, step, ask, branch, read}
use Rattle.py_meaning.specs.Statements.{Out, normal, breaks, continues, returns, raises, throwing, on_answer, using, simply}
use Rattle.py_prediction_laws.proofs.Members.{In, in-joined, in-left, in-right, Mark, mark-at, when, and-true}
use Rattle.py_prediction_laws.proofs.Tracks.{Rule, Fact, Good, Follows, follows-give, follows-chain, follows-mark, follows-again, follows-throw, follows-read, follows-if, follows-weaken, IsQuiet, follows-quiet}

-- what is asked holds of an arc, where everything may raise or no throw came
abbrev pub Holds : Bool → Bool → Type 0
Holds false any = Unit {0}
Holds true any = IsTrue any

-- an activation of a body: whether everything may raise, and what is asked of its arcs, by the rule of all activations
pub record Frame : Type 1 where
  pub any : Bool
  pub rule : Rule
  pub code : CodeId
  pub Claim : ℕ → ℕ → Type 0
  pub claims : (x : Arc) → (Holds x.thrown any → Claim x.from x.to) → rule code x

module _ (F : Frame) where
  abbrev pub Goes : {A : Type 0} → Fact → M A → (A → Fact) → Type 0
  Goes pre m post = Follows F.rule F.code pre m post

  -- the last mark is that of this line
  abbrev pub At : ℕ → Fact
  At l k t = Mark k (l ∷ [])

  -- A part is left after one of its last marks, or where it is empty as it was entered. After a throw this is asked only where
  -- everything may raise.
  abbrev pub Post : Bool → (Way → List ℕ) → Fact → Out → Fact
  Post empty last pre normal k t = Mark k (last onward) ⊎ (IsTrue empty × pre k t)
  Post empty last pre breaks k t = Mark k (last breaking)
  Post empty last pre continues k t = Mark k (last continuing)
  Post empty last pre (returns v) k t = Mark k (last returning)
  Post empty last pre (raises e false) k t = Mark k (last raising)
  Post empty last pre (raises e true) k t = IsTrue t × (IsTrue F.any → Mark k (last raising))

  -- a mark that comes next gives an arc that is as asked
  abbrev pub Enter : Fact → List ℕ → Type 0
  Enter pre first = (k : ℕ) (t : Bool) (x : ℕ) → pre k t → Holds t F.any → (k ≡ x → ⊥) → Mark x first → F.Claim k x

  -- pairs of marks are arcs that are as asked
  abbrev pub Joins : List Pair → Type 0
  Joins pairs = (k x : ℕ) → 0 < k → 0 < x → In {A = Pair} (k, x) pairs → F.Claim k x

  pub joins-left : (ps qs : List Pair) → Joins (ps ++ qs) → Joins ps
  joins-left ps qs h k x p q i = h k x p q (in-left {A = Pair} (k, x) ps qs i)

  pub joins-right : (ps qs : List Pair) → Joins (ps ++ qs) → Joins qs
  joins-right ps qs h k x p q i = h k x p q (in-right {A = Pair} (k, x) ps qs i)

  pub split4 : (a b c d : List Pair) → Joins (a ++ (b ++ (c ++ d))) → Joins a × Joins b × Joins c × Joins d
  split4 a b c d h =
      let more = joins-right a (b ++ (c ++ d)) h in
      let last = joins-right b (c ++ d) more in
      (joins-left a (b ++ (c ++ d)) h, joins-left b (c ++ d) more, joins-left c d last, joins-right c d last)

  pub split5 : (a b c d e : List Pair) → Joins (a ++ (b ++ (c ++ (d ++ e)))) → Joins a × Joins b × Joins c × Joins d × Joins e
  split5 a b c d e h = let r = split4 b c d e (joins-right a (b ++ (c ++ (d ++ e))) h) in (joins-left a (b ++ (c ++ (d ++ e))) h, r.0, r.1, r.2, r.3)

  pub split8 : (a b c d e f g i : List Pair) → Joins (a ++ (b ++ (c ++ (d ++ (e ++ (f ++ (g ++ i))))))) → Joins a × Joins b × Joins c × Joins d × Joins e × Joins f × Joins g × Joins i
  split8 a b c d e f g i h =
      let tail = f ++ (g ++ i) in
      let r = split5 a b c d (e ++ tail) h in
      let q = split4 e f g i r.4 in
      (r.0, r.1, r.2, r.3, q.0, q.1, q.2, q.3)

  -- what follows these marks is entered after them
  pub enter-joined : (last first : List ℕ) (pre : Fact) → Joins (joined last first) → ((k : ℕ) (t : Bool) → pre k t → Holds t F.any → Mark k last) → Enter pre first
  enter-joined last first pre j h k t x p ok apart m = let l = h k t p ok in j k x l.up m.up (in-joined k x last first apart l.found m.found)

  pub enter-after : (l : ℕ) (first : List ℕ) → Joins (joined (l ∷ []) first) → Enter (At l) first
  enter-after l first j = enter-joined (l ∷ []) first (At l) j (λ k t p ok. p)

  -- ---- marks, answers and choices

  pub marked : {A : Type 0} (pre : Fact) (l : ℕ) (m : M A) (post : A → Fact) → 0 < l → Enter pre (l ∷ []) → Goes (At l) m post → Goes pre (step (mark l) m) post
  marked pre l m post up enter h =
      follows-mark F.rule F.code pre l m post
      (λ p q off. F.claims (arc_to p l) (λ ok. enter (kept_line p) (is_thrown p) l q ok (λ e. eqb-false l (kept_line p) off (sym e)) (mark-at l l up refl)))
      (follows-weaken F.rule F.code (At l) (λ k t. k ≡ l) m post post (λ k t e. mark-at k l up e) (λ a k t q. q) h)

  pub marked-again : {A : Type 0} (pre : Fact) (l : ℕ) (m : M A) (post : A → Fact) → 0 < l → ((k : ℕ) (t : Bool) → pre k t → Holds t F.any → F.Claim k l) → Goes (At l) m post → Goes pre (step (again l) m) post
  marked-again pre l m post up turn h =
      follows-again F.rule F.code pre l m post
      (λ p q. F.claims (arc_to p l) (λ ok. turn (kept_line p) (is_thrown p) q ok))
      (follows-weaken F.rule F.code (At l) (λ k t. k ≡ l) m post post (λ k t e. mark-at k l up e) (λ a k t q. q) h)

  pub throws : (pre : Fact) (e : PlainRaised) (post : Out → Fact) → ((k : ℕ) (t : Bool) → pre k t → post (raises e true) k true) → Goes pre (throwing e) post
  throws pre e post h = follows-throw F.rule F.code pre e.kind (raises e true) post h

  pub answers : {A : Type 0} (pre : Fact) (a : Ans A) (f : A → M Out) (post : Out → Fact) → ((v : A) → Goes pre (f v) post) → ((e : PlainRaised) (k : ℕ) (t : Bool) → pre k t → post (raises e true) k true) → Goes pre (on_answer a f) post
  answers pre (Ok v) f post h g = h v
  answers pre (Err e) f post h g = throws pre e post (g e)

  pub uses : {A : Type 0} (pre : Fact) (m : M (Ans A)) (f : A → M Out) (post : Out → Fact) → IsQuiet F.rule m → ((v : A) → Goes pre (f v) post) → ((e : PlainRaised) (k : ℕ) (t : Bool) → pre k t → post (raises e true) k true) → Goes pre (using m f) post
  unfolding using
  uses pre m f post q h g = follows-chain F.rule F.code pre m (λ a. pre) _ post (follows-quiet F.rule F.code pre m q) (λ a. answers pre a f post h g)

  -- what is answered whatever happens
  pub uses-answer : {A : Type 0} (pre : Fact) (m : M (Ans A)) (v : A) (f : A → M Out) (post : Out → Fact) → ((s : State) (n : ℕ) → m s n ≡ done (Ok v) s n) → Goes pre (f v) post → Goes pre (using m f) post
  unfolding Follows using chain
  uses-answer {A} pre m v f post is h s n l p = subst (λ r. Good F.rule F.code post (bind r (λ a. on_answer a f))) (sym (is s n)) (h s n l p)

  pub uses-asked : {A : Type 0} (pre : Fact) (g : Setting → Ans A) (f : A → M Out) (post : Out → Fact) → ((w : Setting) → Goes pre (on_answer (g w) f) post) → Goes pre (using (ask g) f) post
  unfolding Follows using chain ask read give
  uses-asked pre g f post h s n l p = h s.now s n l p

  pub branches : (pre : Fact) (v : PlainValue) (f g : M Out) (post : Out → Fact) → Goes pre f post → Goes pre g post → Goes pre (branch v f g) post
  unfolding branch
  branches pre v f g post hf hg = follows-read F.rule F.code pre _ post (λ w. follows-if F.rule F.code pre _ f g post hf hg)

  -- ---- more last marks

  pub widen : (E E' : Bool) (L L' : Way → List ℕ) (pre pre' : Fact) → ((w : Way) (k : ℕ) → Mark k (L w) → Mark k (L' w)) → ((k : ℕ) (t : Bool) → IsTrue E → pre k t → Post E' L' pre' normal k t)
      → (o : Out) (k : ℕ) (t : Bool) → Post E L pre o k t → Post E' L' pre' o k t
  widen E E' L L' pre pre' f g normal k t (inl m) = inl (f onward k m)
  widen E E' L L' pre pre' f g normal k t (inr h) = g k t h.0 h.1
  widen E E' L L' pre pre' f g breaks k t m = f breaking k m
  widen E E' L L' pre pre' f g continues k t m = f continuing k m
  widen E E' L L' pre pre' f g (returns v) k t m = f returning k m
  widen E E' L L' pre pre' f g (raises e false) k t m = f raising k m
  widen E E' L L' pre pre' f g (raises e true) k t h = (h.0, λ a. f raising k (h.1 a))

  pub widened : (E E' : Bool) (L L' : Way → List ℕ) (pre pre' : Fact) (m : M Out) → ((w : Way) (k : ℕ) → Mark k (L w) → Mark k (L' w)) → ((k : ℕ) (t : Bool) → IsTrue E → pre k t → Post E' L' pre' normal k t)
      → Goes pre m (Post E L pre) → Goes pre m (Post E' L' pre')
  widened E E' L L' pre pre' m f g h = follows-weaken F.rule F.code pre pre m (Post E L pre) (Post E' L' pre') (λ k t q. q) (widen E E' L L' pre pre' f g) h

  -- everything that marks may raise at its mark
  pub raise-at : (k l : ℕ) → IsTrue F.any → Mark k (l ∷ []) → Mark k (may_raise F.any raising l)
  raise-at k l a m = when (and-true F.any true a refl) m

  -- ---- simple statements

  abbrev pub Own : Way → ℕ → Way → List ℕ
  Own own l w = own_way own F.any w l

  pub simple : {A : Type 0} (pre : Fact) (l : ℕ) (m : M (Ans A)) → 0 < l → Enter pre (l ∷ []) → IsQuiet F.rule m → Goes pre (step (mark l) (simply m)) (Post false (Own onward l) pre)
  simple pre l m up enter q =
      marked pre l _ _ up enter (uses (At l) m _ _ q (λ v. follows-give F.rule F.code (At l) normal _ (λ k t p. inl p)) (λ e k t p. (refl, λ a. raise-at k l a p)))
