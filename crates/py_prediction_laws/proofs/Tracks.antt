-- What runs leave after: arcs that are as they should be, and the line and the flag that the next arc begins with.
use Rattle.std.proofs.Common.{◌≡◌, ℕ, zero, suc, Bool, true, false, cond, refl, sym, ◌∙◌, subst, List, ◌++◌, Ok, Err}
use Rattle.cov_event.specs.declared.event.CodeId.{CodeId}
use Rattle.py_value.specs.declared.exception.ExcKind.{ExcKind}
use Rattle.py_meaning.specs.Activations.{mark, again, throw, sub, Activation, activation, Items, no_items, more, kept_line, is_kept, is_thrown, Arc, arc_to}
use Rattle.py_meaning.specs.Computations.{Setting, State, Res, done, cut, M, Ans, bind, add, put, give, chain, step, tick, note, read, write, say, within, stop, on_value, value, ask, worked, work, branch}
use Rattle.py_meaning.specs.Calls.{Calls}
use Rattle.py_value.specs.Plain.{PlainValue, PlainHeap}

abbrev pub Unless : Bool → Type 0 → Type 0
Unless true A = Unit {0}
Unless false A = A

-- something about an arc of an activation of this code
abbrev pub Rule : Type 1
Rule = CodeId → Arc → Type 0

abbrev mutual
  -- each arc of these items is by the rule, and each activation in them is
  pub Linked : Rule → CodeId → Items → Type 0
  Linked R c no_items = Unit {0}
  Linked R c (more p (mark l)) = Linked R c p × Unless (is_kept l p) (R c (arc_to p l))
  Linked R c (more p (again l)) = Linked R c p × R c (arc_to p l)
  Linked R c (more p (throw kind)) = Linked R c p
  Linked R c (more p (sub a)) = Linked R c p × IsLinked R a

  -- also the arc that leaves an activation
  pub IsLinked : Rule → Activation → Type 0
  IsLinked R (activation c items true) = Linked R c items × R c (arc_to items 0)
  IsLinked R (activation c items false) = Linked R c items

-- something about the kept line, and about whether a throw came after it
abbrev pub Fact : Type 1
Fact = ℕ → Bool → Type 0

module _ (R : Rule) where
  abbrev pub Good : {A : Type 0} → CodeId → (A → Fact) → Res A → Type 0
  Good c post (done a s n) = Linked R c s.items × post a (kept_line s.items) (is_thrown s.items)
  Good c post (cut s) = Linked R c s.items

  -- where the items so far are linked and `pre` holds, they stay linked, and at the end `post` holds
  unfoldable pub Follows : {A : Type 0} → CodeId → Fact → M A → (A → Fact) → Type 0
  Follows c pre m post = (s : State) (n : ℕ) → Linked R c s.items → pre (kept_line s.items) (is_thrown s.items) → Good c post (m s n)

  module _ (c : CodeId) where
    pub follows-give : {A : Type 0} (pre : Fact) (a : A) (post : A → Fact) → ((k : ℕ) (t : Bool) → pre k t → post a k t) → Follows c pre (give a) post
    unfolding Follows give
    follows-give pre a post h s n l p = (l, h (kept_line s.items) (is_thrown s.items) p)

    pub follows-chain : {A B : Type 0} (pre : Fact) (m : M A) (mid : A → Fact) (f : A → M B) (post : B → Fact) → Follows c pre m mid → ((a : A) → Follows c (mid a) (f a) post) → Follows c pre (chain m f) post
    unfolding Follows chain
    follows-chain {A} {B} pre m mid f post hm hf s n l p = go (m s n) (hm s n l p)
      where
        go : (r : Res A) → Good c mid r → Good c post (bind r f)
        go (done a u i) g = hf a u i g.0 g.1
        go (cut u) g = g

    unless-of : (b : Bool) (A : Type 0) → (b ≡ false → A) → Unless b A
    unless-of true A a = tt
    unless-of false A a = a refl

    -- a mark, whose arc is by the rule where it has one
    pub follows-mark : {A : Type 0} (pre : Fact) (l : ℕ) (m : M A) (post : A → Fact)
        → ((p : Items) → pre (kept_line p) (is_thrown p) → is_kept l p ≡ false → R c (arc_to p l)) → Follows c (λ k t. k ≡ l) m post → Follows c pre (step (mark l) m) post
    unfolding Follows step
    follows-mark pre l m post h hm s zero li p = li
    follows-mark pre l m post h hm s (suc n) li p = hm (add (mark l) s) n (li, unless-of (is_kept l s.items) _ (h s.items p)) refl

    pub follows-again : {A : Type 0} (pre : Fact) (l : ℕ) (m : M A) (post : A → Fact)
        → ((p : Items) → pre (kept_line p) (is_thrown p) → R c (arc_to p l)) → Follows c (λ k t. k ≡ l) m post → Follows c pre (step (again l) m) post
    unfolding Follows step
    follows-again pre l m post h hm s zero li p = li
    follows-again pre l m post h hm s (suc n) li p = hm (add (again l) s) n (li, h s.items p) refl

    pub follows-throw : {A : Type 0} (pre : Fact) (kind : ExcKind) (a : A) (post : A → Fact) → ((k : ℕ) (t : Bool) → pre k t → post a k true) → Follows c pre (note (throw kind) (give a)) post
    unfolding Follows note give
    follows-throw pre kind a post h s n l p = (l, h (kept_line s.items) (is_thrown s.items) p)

    pub follows-write : {A : Type 0} (pre : Fact) (w : Setting → Setting) (m : M A) (post : A → Fact) → Follows c pre m post → Follows c pre (write w m) post
    unfolding Follows write
    follows-write pre w m post hm s n l p = hm (put w s) n l p

    pub follows-read : {A : Type 0} (pre : Fact) (f : Setting → M A) (post : A → Fact) → ((w : Setting) → Follows c pre (f w) post) → Follows c pre (read f) post
    unfolding Follows read
    follows-read pre f post h s n l p = h s.now s n l p

    pub follows-within : {A : Type 0} (pre : Fact) (f : ℕ → M A) (post : A → Fact) → ((n : ℕ) → Follows c pre (f n) post) → Follows c pre (within f) post
    unfolding Follows within
    follows-within pre f post h s n l p = h n s n l p

    pub follows-stop : {A : Type 0} (pre : Fact) (post : A → Fact) → Follows c pre stop post
    unfolding Follows stop
    follows-stop pre post s n l p = l

    pub follows-if : {A : Type 0} (pre : Fact) (b : Bool) (f g : M A) (post : A → Fact) → Follows c pre f post → Follows c pre g post → Follows c pre (cond b f g) post
    follows-if pre true f g post hf hg = hf
    follows-if pre false f g post hf hg = hg

    pub follows-weaken : {A : Type 0} (pre pre' : Fact) (m : M A) (post post' : A → Fact) → ((k : ℕ) (t : Bool) → pre' k t → pre k t) → ((a : A) (k : ℕ) (t : Bool) → post a k t → post' a k t) → Follows c pre m post → Follows c pre' m post'
    unfolding Follows
    follows-weaken {A} pre pre' m post post' hp hq h s n l p = go (m s n) (h s n l (hp _ _ p))
      where
        go : (r : Res A) → Good c post r → Good c post' r
        go (done a u i) g = (g.0, hq a _ _ g.1)
        go (cut u) g = g

    -- what holds at first may be used
    pub follows-given : {A : Type 0} (pre : Fact) (m : M A) (post : A → Fact) → ((k : ℕ) (t : Bool) → pre k t → Follows c pre m post) → Follows c pre m post
    unfolding Follows
    follows-given pre m post h s n l p = h (kept_line s.items) (is_thrown s.items) p s n l p

  -- ---- what marks and throws nothing of its own

  abbrev pub Stays : {A : Type 0} → CodeId → State → Res A → Type 0
  Stays c s (done a t n) = Linked R c t.items × (kept_line t.items ≡ kept_line s.items) × (is_thrown t.items ≡ is_thrown s.items)
  Stays c s (cut t) = Linked R c t.items

  -- the items stay linked, and the line and the flag as they are
  unfoldable pub IsQuiet : {A : Type 0} → M A → Type 0
  IsQuiet m = (c : CodeId) (s : State) (n : ℕ) → Linked R c s.items → Stays c s (m s n)

  pub follows-quiet : {A : Type 0} (c : CodeId) (pre : Fact) (m : M A) → IsQuiet m → Follows c pre m (λ a. pre)
  unfolding IsQuiet Follows
  follows-quiet {A} c pre m h s n l p = go (m s n) (h c s n l)
    where
      go : (r : Res A) → Stays c s r → Good c (λ a. pre) r
      go (done a t i) g = (g.0, subst (λ k. pre k (is_thrown t.items)) (sym g.1) (subst (λ b. pre (kept_line s.items) b) (sym g.2) p))
      go (cut t) g = g

  pub quiet-give : {A : Type 0} (a : A) → IsQuiet (give a)
  unfolding IsQuiet give
  quiet-give a c s n l = (l, refl, refl)

  pub quiet-stop : (A : Type 0) → IsQuiet {A = A} stop
  unfolding IsQuiet stop
  quiet-stop A c s n l = l

  stays-on : {A : Type 0} (c : CodeId) (s t : State) (r : Res A) → kept_line t.items ≡ kept_line s.items → is_thrown t.items ≡ is_thrown s.items → Stays c t r → Stays c s r
  stays-on c s t (done a u n) e f g = (g.0, g.1 ∙ e, g.2 ∙ f)
  stays-on c s t (cut u) e f g = g

  pub quiet-chain : {A B : Type 0} (m : M A) (f : A → M B) → IsQuiet m → ((a : A) → IsQuiet (f a)) → IsQuiet (chain m f)
  unfolding IsQuiet chain
  quiet-chain {A} {B} m f hm hf c s n l = go (m s n) (hm c s n l)
    where
      go : (r : Res A) → Stays c s r → Stays c s (bind r f)
      go (done a t i) g = stays-on c s t (f a t i) g.1 g.2 (hf a c t i g.0)
      go (cut t) g = g

  pub quiet-tick : {A : Type 0} (m : M A) → IsQuiet m → IsQuiet (tick m)
  unfolding IsQuiet tick
  quiet-tick m h c s zero l = l
  quiet-tick m h c s (suc n) l = h c s n l

  pub quiet-write : {A : Type 0} (w : Setting → Setting) (m : M A) → IsQuiet m → IsQuiet (write w m)
  unfolding IsQuiet write
  quiet-write w m h c s n l = h c (put w s) n l

  pub quiet-say : {A : Type 0} (bytes : List ℕ) (m : M A) → IsQuiet m → IsQuiet (say bytes m)
  unfolding IsQuiet say
  quiet-say bytes m h c s n l = h c (record s { out = s.out ++ bytes }) n l

  pub quiet-read : {A : Type 0} (f : Setting → M A) → ((w : Setting) → IsQuiet (f w)) → IsQuiet (read f)
  unfolding IsQuiet read
  quiet-read f h c s n l = h s.now c s n l

  pub quiet-if : {A : Type 0} (b : Bool) (f g : M A) → IsQuiet f → IsQuiet g → IsQuiet (cond b f g)
  quiet-if true f g h k = h
  quiet-if false f g h k = k

  quiet-on_value : {A B : Type 0} (a : Ans A) (f : A → M (Ans B)) → ((v : A) → IsQuiet (f v)) → IsQuiet (on_value a f)
  quiet-on_value (Ok v) f h = h v
  quiet-on_value (Err e) f h = quiet-give _

  pub quiet-value : {A B : Type 0} (m : M (Ans A)) (f : A → M (Ans B)) → IsQuiet m → ((v : A) → IsQuiet (f v)) → IsQuiet (value m f)
  unfolding value
  quiet-value m f h g = quiet-chain m _ h (λ a. quiet-on_value a f g)

  pub quiet-ask : {A : Type 0} (f : Setting → Ans A) → IsQuiet (ask f)
  unfolding ask
  quiet-ask f = quiet-read _ (λ w. quiet-give (f w))

  pub quiet-worked : {A : Type 0} (a : Ans (A × PlainHeap)) → IsQuiet (worked a)
  quiet-worked (Ok r) = quiet-write _ _ (quiet-give _)
  quiet-worked (Err e) = quiet-give _

  pub quiet-work : {A : Type 0} (f : PlainHeap → Ans (A × PlainHeap)) → IsQuiet (work f)
  unfolding work
  quiet-work f = quiet-read _ (λ w. quiet-worked (f w.world.heap))

  pub quiet-branch : {A : Type 0} (v : PlainValue) (f g : M A) → IsQuiet f → IsQuiet g → IsQuiet (branch v f g)
  unfolding branch
  quiet-branch v f g h k = quiet-read _ (λ w. quiet-if _ f g h k)

  abbrev pub AreQuiet : Calls → Type 0
  AreQuiet c = (m u : ℕ) (vs : List PlainValue) → IsQuiet (c m u vs)
