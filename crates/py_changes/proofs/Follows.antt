-- Where a run of an old computation ends and reached only safe lines, the new computation does the
-- same
-- from the same state, and what is known of functions stays known.
--     Follows              the relation, as far as something holds that came before
--     follow-..            a lemma for each way in which computations are put together
use Rattle.std.proofs.Common.{◌≡◌, ℕ, zero, suc, Bool, true, false, cond, List, ◌++◌, Option, Some, None, Ok, Err, refl, sym, ap, subst}
use Rattle.py_value.specs.declared.value.FuncId.{FuncId}
use Rattle.py_value.specs.Plain.{PlainValue, PlainHeap, PlainRaised}
use Rattle.py_meaning.specs.Activations.{Item, again, more}
use Rattle.py_meaning.specs.Computations.{Setting, State, Res, done, cut, M, Ans, bind, add, put, give, chain, step, tick, note, read, write, say, within, stop, on_value, value, ask, set_heap, worked, work, branch}
use Rattle.py_value.specs.Operators.{truth_of}
use Rattle.py_meaning.specs.Statements.{Out, normal, breaks, continues, returns, raises, throwing, on_answer, using, next, looped, Loop, if_turn, turns, loop}
use Rattle.py_meaning.proofs.Budget.{end_of}
use Rattle.py_changes.proofs.Kept.{Suit, SuitsRaised, NamesSuit, HeapSuits, WorldSuits}
use Rattle.py_changes.proofs.Reached.{ReachOnly, ReachesOnly}
use Rattle.py_changes.proofs.Results.{ResultSuits}
use Rattle.py_changes.proofs.Growth.{Grows}

-- what is known of the functions of a setting
abbrev pub Kept : (FuncId → Type 0) → Setting → Type 0
Kept K w = WorldSuits K w.world × NamesSuit K w.locals

-- of an outcome
abbrev pub OutSuits : (FuncId → Type 0) → Out → Type 0
OutSuits K normal = Unit {0}
OutSuits K breaks = Unit {0}
OutSuits K continues = Unit {0}
OutSuits K (returns v) = Suit K v
OutSuits K (raises e t) = SuitsRaised K e

-- what is known of a turn, where there is one
abbrev pub TurnSuits : {T : Type 0} → (T → Type 0) → Option T → Type 0
TurnSuits Q None = Unit {0}
TurnSuits Q (Some t) = Q t

module _ (Safe : ℕ → ℕ → Type 0) (K : FuncId → Type 0) where
  -- the new run does what the old one did, if that ended and reached only safe lines
  abbrev pub Held : {A : Type 0} → ℕ → (A → Type 0) → Res A → Res A → Type 0
  Held m Q (done a t k) r = ReachOnly Safe m t.items → (r ≡ done a t k) × Kept K t.now × Q a
  Held m Q (cut t) r = Unit {0}

  -- of two computations in the module with a number, as far as C holds
  pub record Follows {A : Type 0} (C : Type 0) (m : ℕ) (Q : A → Type 0) (f g : M A) : Type 0 where
    pub run : (s : State) (n : ℕ)
        → (ReachOnly Safe m (end_of (f s n)).items → ReachOnly Safe m s.items)
        × (C → Kept K s.now → Held m Q (f s n) (g s n))

  -- a loop whose parts are followed by those of another
  pub record Loops {T : Type 0} (C : Type 0) (m : ℕ) (Q : T → Type 0) (x y : Loop T) : Type 0 where
    pub line : y.line ≡ x.line
    pub header : (b : Option T)
        → Follows (C × TurnSuits Q b) m (ResultSuits K (TurnSuits Q)) (x.header b) (y.header b)
    pub turn : (t : T) → Follows (C × Q t) m (OutSuits K) (x.turn t) (y.turn t)
    pub orelse : Follows C m (OutSuits K) x.orelse y.orelse

  -- what holds where the begin reached only safe lines, holds where the end did
  by-growth : {A : Type 0} (m : ℕ) (Q : A → Type 0) (P : Type 0) (r q : Res A)
      → (ReachOnly Safe m (end_of r).items → P) → (P → Held m Q r q) → Held m Q r q
  by-growth m Q P (done a t k) q g h = λ clean. h (g clean) clean
  by-growth m Q P (cut t) q g h = tt

module _ (K : FuncId → Type 0) where
  -- with the heap that an answer leaves
  pub with-heap : (h : PlainHeap) (w : Setting) → Kept K w → HeapSuits K h → Kept K (set_heap h w)
  with-heap h w kept i = ((kept.0.0, i), kept.1)

module _ {Safe : ℕ → ℕ → Type 0} {K : FuncId → Type 0} where
  pub follow-under : {A C D : Type 0} {m : ℕ} {Q : A → Type 0} {f g : M A} → (D → C)
      → Follows Safe K C m Q f g → Follows Safe K D m Q f g
  follow-under i h = record { run = λ s n. ((h.run s n).0, λ d. (h.run s n).1 (i d)) }

  -- where C can't hold, an old computation whose items grow is followed by any
  pub follow-never : {A C : Type 0} {m : ℕ} {Q : A → Type 0} {f g : M A} → Grows Safe m A f
      → (C → ⊥) → Follows Safe K C m Q f g
  unfolding Grows
  follow-never h never = record { run = λ s n. (h s n, λ c. absurd (never c)) }

  pub follow-give : {A C : Type 0} {m : ℕ} {Q : A → Type 0} (a : A) → (C → Q a)
      → Follows Safe K C m Q (give a) (give a)
  unfolding give
  follow-give a h = record { run = λ s n. (λ c. c, λ c k clean. (refl, k, h c)) }

  pub follow-stop : {A C : Type 0} {m : ℕ} {Q : A → Type 0} → Follows Safe K C m Q stop stop
  unfolding stop
  follow-stop = record { run = λ s n. (λ c. c, λ c k. tt) }

  pub follow-chain : {A B C : Type 0} {m : ℕ} {Q : A → Type 0} {R : B → Type 0} {f g : M A}
      {h j : A → M B} → Follows Safe K C m Q f g
      → ((a : A) → Follows Safe K (C × Q a) m R (h a) (j a))
      → Follows Safe K C m R (chain f h) (chain g j)
  unfolding chain
  follow-chain {A} {B} {C} {m} {Q} {R} {f} {g} {h} {j} fg hj =
      record { run = λ s n. go s (f s n) (g s n) (fg.run s n) }
    where
      go : (s : State) (r q : Res A)
          → (ReachOnly Safe m (end_of r).items → ReachOnly Safe m s.items)
          × (C → Kept K s.now → Held Safe K m Q r q)
          → (ReachOnly Safe m (end_of (bind r h)).items → ReachOnly Safe m s.items)
          × (C → Kept K s.now → Held Safe K m R (bind r h) (bind q j))
      go s (cut t) q e = (e.0, λ c k. tt)
      go s (done a t k) q e =
          let later = (hj a).run t k in (
            λ clean. e.0 (later.0 clean),
            λ c kept. by-growth Safe K m R (ReachOnly Safe m t.items) (h a t k) (bind q j) later.0
                (λ clean.
                let first = e.1 c kept clean in
                subst (λ x. Held Safe K m R (h a t k) (bind x j)) (sym first.0)
                (later.1 (c, first.2) first.1)),
          )

  -- a step and an item, which is safe where the end is clean
  pub follow-step : {A C : Type 0} {m : ℕ} {Q : A → Type 0} {f g : M A} (i : Item)
      → Follows Safe K (C × ReachesOnly Safe m i) m Q f g
      → Follows Safe K C m Q (step i f) (step i g)
  unfolding step
  follow-step {C = C} {m = m} {Q = Q} {f = f} {g = g} i h = record { run = by_steps }
    where
      by_steps : (s : State) (n : ℕ)
          → (ReachOnly Safe m (end_of (step i f s n)).items → ReachOnly Safe m s.items)
          × (C → Kept K s.now → Held Safe K m Q (step i f s n) (step i g s n))
      by_steps s zero = (λ c. c, λ c k. tt)
      by_steps s (suc n) =
          let later = h.run (add i s) n in (
            λ clean. (later.0 clean).0,
            λ c kept. by-growth Safe K m Q (ReachOnly Safe m (more s.items i)) (f (add i s) n)
                (g (add i s) n) later.0 (λ clean. later.1 (c, clean.1) kept),
          )

  pub follow-note : {A C : Type 0} {m : ℕ} {Q : A → Type 0} {f g : M A} (i : Item)
      → Follows Safe K C m Q f g → Follows Safe K C m Q (note i f) (note i g)
  unfolding note
  follow-note i h =
      record { run = λ s n. let later = h.run (add i s) n in (λ clean. (later.0 clean).0, later.1) }

  pub follow-tick : {A C : Type 0} {m : ℕ} {Q : A → Type 0} {f g : M A} → Follows Safe K C m Q f g
      → Follows Safe K C m Q (tick f) (tick g)
  unfolding tick
  follow-tick {C = C} {m = m} {Q = Q} {f = f} {g = g} h = record { run = by_steps }
    where
      by_steps : (s : State) (n : ℕ)
          → (ReachOnly Safe m (end_of (tick f s n)).items → ReachOnly Safe m s.items)
          × (C → Kept K s.now → Held Safe K m Q (tick f s n) (tick g s n))
      by_steps s zero = (λ c. c, λ c k. tt)
      by_steps s (suc n) = h.run s n

  pub follow-read : {A C : Type 0} {m : ℕ} {Q : A → Type 0} {f g : Setting → M A}
      → ((w : Setting) → Follows Safe K (C × Kept K w) m Q (f w) (g w))
      → Follows Safe K C m Q (read f) (read g)
  unfolding read
  follow-read h =
      record {
        run = λ s n. let later = (h s.now).run s n
            in (later.0, λ c kept. later.1 (c, kept) kept);
      }

  pub follow-write : {A C : Type 0} {m : ℕ} {Q : A → Type 0} {f g : M A} (u v : Setting → Setting)
      → ((w : Setting) → C → Kept K w → (v w ≡ u w) × Kept K (u w)) → Follows Safe K C m Q f g
      → Follows Safe K C m Q (write u f) (write v g)
  unfolding write
  follow-write {m = m} {Q = Q} {f = f} {g = g} u v e h = record {
    run = λ s n.
        let later = h.run (put u s) n in (
          later.0,
          λ c kept. let is = e s.now c kept in subst
              (λ x. Held Safe K m Q (f (put u s) n) (g (record s { now = x }) n)) (sym is.0)
              (later.1 c is.1),
        );
  }

  pub follow-say : {A C : Type 0} {m : ℕ} {Q : A → Type 0} {f g : M A} (bytes : List ℕ)
      → Follows Safe K C m Q f g → Follows Safe K C m Q (say bytes f) (say bytes g)
  unfolding say
  follow-say bytes h = record { run = λ s n. h.run (record s { out = s.out ++ bytes }) n }

  pub follow-within : {A C : Type 0} {m : ℕ} {Q : A → Type 0} {f g : ℕ → M A}
      → ((n : ℕ) → Follows Safe K C m Q (f n) (g n)) → Follows Safe K C m Q (within f) (within g)
  unfolding within
  follow-within h = record { run = λ s n. (h n).run s n }

  -- ---- answers

  follow-on_value : {A B C : Type 0} {m : ℕ} {Q : A → Type 0} {R : B → Type 0} {h j : A → M (Ans B)}
      (a : Ans A) → ((v : A) → Follows Safe K (C × Q v) m (ResultSuits K R) (h v) (j v))
      → Follows Safe K (C × ResultSuits K Q a) m (ResultSuits K R) (on_value a h) (on_value a j)
  follow-on_value (Ok v) hj = hj v
  follow-on_value (Err e) hj = follow-give _ (λ c. c.1)

  pub follow-value : {A B C : Type 0} {m : ℕ} {Q : A → Type 0} {R : B → Type 0} {f g : M (Ans A)}
      {h j : A → M (Ans B)} → Follows Safe K C m (ResultSuits K Q) f g
      → ((v : A) → Follows Safe K (C × Q v) m (ResultSuits K R) (h v) (j v))
      → Follows Safe K C m (ResultSuits K R) (value f h) (value g j)
  unfolding value
  follow-value fg hj = follow-chain fg (λ a. follow-on_value a hj)

  pub follow-ask : {A C : Type 0} {m : ℕ} {Q : A → Type 0} {f g : Setting → Ans A}
      → ((w : Setting) → C → Kept K w → (g w ≡ f w) × ResultSuits K Q (f w))
      → Follows Safe K C m (ResultSuits K Q) (ask f) (ask g)
  unfolding ask read give
  follow-ask {A} h =
      record {
        run = λ s n. (
          λ c. c,
          λ c kept clean. let is = h s.now c kept
              in (ap (λ (a : Ans A). done a s n) is.0, kept, is.1),
        );
      }

  -- the same question
  pub follow-asked : {A C : Type 0} {m : ℕ} {Q : A → Type 0} (f : Setting → Ans A)
      → ((w : Setting) → C → Kept K w → ResultSuits K Q (f w))
      → Follows Safe K C m (ResultSuits K Q) (ask f) (ask f)
  follow-asked f h = follow-ask (λ w c kept. (refl, h w c kept))

  pub follow-worked : {A C : Type 0} {m : ℕ} {Q : A → Type 0} (a : Ans (A × PlainHeap))
      → (C → ResultSuits K (λ r. Q r.0 × HeapSuits K r.1) a)
      → Follows Safe K C m (ResultSuits K Q) (worked a) (worked a)
  follow-worked (Ok r) h =
      follow-write _ _ (λ w c kept. (refl, with-heap K r.1 w kept (h c).1))
      (follow-give _ (λ c. (h c).0))
  follow-worked (Err e) h = follow-give _ h

  pub follow-work : {A C : Type 0} {m : ℕ} {Q : A → Type 0} (f : PlainHeap → Ans (A × PlainHeap))
      → ((h : PlainHeap) → C → HeapSuits K h → ResultSuits K (λ r. Q r.0 × HeapSuits K r.1) (f h))
      → Follows Safe K C m (ResultSuits K Q) (work f) (work f)
  unfolding work
  follow-work f h =
      follow-read (λ w. follow-worked (f w.world.heap) (λ c. h w.world.heap c.0 c.1.0.1))

  pub follow-if : {A C : Type 0} {m : ℕ} {Q : A → Type 0} {f g f' g' : M A} (b : Bool)
      → Follows Safe K C m Q f f' → Follows Safe K C m Q g g'
      → Follows Safe K C m Q (cond b f g) (cond b f' g')
  follow-if true h j = h
  follow-if false h j = j

  pub follow-branch : {A C : Type 0} {m : ℕ} {Q : A → Type 0} {f g f' g' : M A} (v : PlainValue)
      → Follows Safe K C m Q f f' → Follows Safe K C m Q g g'
      → Follows Safe K C m Q (branch v f g) (branch v f' g')
  unfolding branch
  follow-branch v h j =
      follow-read (λ w. follow-if (truth_of v w.world.heap) (follow-under (λ c. c.0) h)
      (follow-under (λ c. c.0) j))

  -- ---- statements

  pub follow-throw : {C : Type 0} {m : ℕ} (e : PlainRaised) → (C → SuitsRaised K e)
      → Follows Safe K C m (OutSuits K) (throwing e) (throwing e)
  follow-throw e h = follow-note _ (follow-give _ h)

  follow-on_answer : {A C : Type 0} {m : ℕ} {Q : A → Type 0} {h j : A → M Out} (a : Ans A)
      → ((v : A) → Follows Safe K (C × Q v) m (OutSuits K) (h v) (j v))
      → Follows Safe K (C × ResultSuits K Q a) m (OutSuits K) (on_answer a h) (on_answer a j)
  follow-on_answer (Ok v) hj = hj v
  follow-on_answer (Err e) hj = follow-throw e (λ c. c.1)

  pub follow-using : {A C : Type 0} {m : ℕ} {Q : A → Type 0} {f g : M (Ans A)} {h j : A → M Out}
      → Follows Safe K C m (ResultSuits K Q) f g
      → ((v : A) → Follows Safe K (C × Q v) m (OutSuits K) (h v) (j v))
      → Follows Safe K C m (OutSuits K) (using f h) (using g j)
  unfolding using
  follow-using fg hj = follow-chain fg (λ a. follow-on_answer a hj)

  pub follow-next : {C : Type 0} {m : ℕ} {f g : M Out} (o : Out)
      → Follows Safe K C m (OutSuits K) f g
      → Follows Safe K (C × OutSuits K o) m (OutSuits K) (next o f) (next o g)
  follow-next normal h = follow-under (λ c. c.0) h
  follow-next breaks h = follow-give _ (λ c. tt)
  follow-next continues h = follow-give _ (λ c. tt)
  follow-next (returns v) h = follow-give _ (λ c. c.1)
  follow-next (raises e t) h = follow-give _ (λ c. c.1)

  -- ---- loops

  pub follow-looped : {C : Type 0} {m : ℕ} {f g : M Out} (o : Out)
      → Follows Safe K C m (OutSuits K) f g
      → Follows Safe K (C × OutSuits K o) m (OutSuits K) (looped o f) (looped o g)
  follow-looped normal h = follow-under (λ c. c.0) h
  follow-looped breaks h = follow-give _ (λ c. tt)
  follow-looped continues h = follow-under (λ c. c.0) h
  follow-looped (returns v) h = follow-give _ (λ c. c.1)
  follow-looped (raises e t) h = follow-give _ (λ c. c.1)

  pub follow-if_turn : {T C : Type 0} {m : ℕ} {Q : T → Type 0} {e e' : M Out} {f g : T → M Out}
      (b : Option T) → Follows Safe K C m (OutSuits K) e e'
      → ((t : T) → Follows Safe K (C × Q t) m (OutSuits K) (f t) (g t))
      → Follows Safe K (C × TurnSuits Q b) m (OutSuits K) (if_turn b e f) (if_turn b e' g)
  follow-if_turn None h j = follow-under (λ c. c.0) h
  follow-if_turn (Some t) h j = j t

  pub follow-turns : {T C : Type 0} {m : ℕ} {Q : T → Type 0} {x y : Loop T} (k : ℕ) (i : Item)
      (b : Option T) → Loops Safe K C m Q x y
      → Follows Safe K (C × TurnSuits Q b) m (OutSuits K) (turns x k i b) (turns y k i b)
  unfolding turns
  follow-turns zero i b h = follow-stop
  follow-turns {T} {C = C} {m = m} {Q = Q} {x = x} {y = y} (suc k) i b h =
      follow-step i
      (follow-using (follow-under (λ c. c.0) (h.header b)) (λ found.
      follow-if_turn {Q = Q} found (follow-under (λ c. c.0.0) h.orelse) (λ t.
      follow-chain (follow-under (λ c. (c.0.0.0, c.1)) (h.turn t)) (λ o.
      follow-looped o
      (subst (λ l. Follows Safe K (((C × TurnSuits Q b) × ReachesOnly Safe m i) × Q t) m
      (OutSuits K) (turns x k (again x.line) (Some t)) (turns y k (again l) (Some t))) (sym h.line)
      (follow-under (λ c. (c.0.0.0, c.1)) (follow-turns k (again x.line) (Some t) h)))))))

  pub follow-loop : {T C : Type 0} {m : ℕ} {Q : T → Type 0} {x y : Loop T} (i : Item)
      → Loops Safe K C m Q x y → Follows Safe K C m (OutSuits K) (loop x i None) (loop y i None)
  unfolding loop
  follow-loop i h = follow-within (λ n. follow-under (λ c. (c, tt)) (follow-turns n i None h))
