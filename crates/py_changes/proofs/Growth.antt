-- Items only grow: where no line but safe ones was reached up to the end of a run, none was up to
-- its begin.
use Rattle.std.proofs.Common.{ℕ, zero, suc, List, [], ◌∷◌, Ok, Err}
use Rattle.cov_event.specs.declared.event.CodeId.{CodeId}
use Rattle.py_value.specs.Plain.{PlainValue}
use Rattle.py_syntax.specs.Tree.{Stmts}
use Rattle.py_syntax.specs.Marks.{stmts_marks}
use Rattle.py_builtins.specs.World.{Names}
use Rattle.py_meaning.specs.Activations.{Item, no_items}
use Rattle.py_meaning.specs.Calls.{Calls}
use Rattle.py_meaning.specs.Computations.{Setting, State, Res, done, cut, M, Ans, bind, add, put, give, chain, step, tick, note, read, write, say, within, stop}
use Rattle.py_meaning.specs.Frames.{in_frame, left_by, framed, ended, in_unit, unit_call, calls}
use Rattle.py_meaning.specs.Modules.{LoadedModule}
use Rattle.py_meaning.specs.Places.{Place}
use Rattle.py_meaning.specs.Statements.{Out, exec}
use Rattle.py_meaning.proofs.Budget.{end_of}
use Rattle.py_changes.proofs.Reached.{ReachOnly}
use Rattle.cov_arcs.proofs.Everywhere.{AreOn, IsOn, Ways, in-exec}

module _ (Safe : ℕ → ℕ → Type 0) where
  -- where the end reached only safe lines, so did the begin
  unfoldable pub Grows : ℕ → (A : Type 0) → M A → Type 0
  Grows m A f =
      (s : State) (n : ℕ) → ReachOnly Safe m (end_of (f s n)).items → ReachOnly Safe m s.items

  -- every line may be marked
  abbrev pub Any : ℕ → Type 0
  Any l = Unit {0}

  -- the items of calls grow, whatever the module of the caller
  abbrev pub EachGrows : Calls → Type 0
  EachGrows c = (m k u : ℕ) (vs : List PlainValue) → Grows m (Ans PlainValue) (c k u vs)

  module _ (m : ℕ) where
    pub grow-give : {A : Type 0} (a : A) → Grows m A (give a)
    unfolding Grows give
    grow-give a s n h = h

    grow-stop : (A : Type 0) → Grows m A stop
    unfolding Grows stop
    grow-stop A s n h = h

    grow-chain : {A B : Type 0} (f : M A) (g : A → M B) → Grows m A f → ((a : A) → Grows m B (g a))
        → Grows m B (chain f g)
    unfolding Grows chain
    grow-chain {A} f g hf hg s n h = go (f s n) (hf s n) h
      where
        go : (r : Res A) → (ReachOnly Safe m (end_of r).items → ReachOnly Safe m s.items)
            → ReachOnly Safe m (end_of (bind r g)).items → ReachOnly Safe m s.items
        go (done a t k) e c = e (hg a t k c)
        go (cut t) e c = e c

    pub grow-step : {A : Type 0} (i : Item) (f : M A) → Grows m A f → IsOn Any i
        → Grows m A (step i f)
    unfolding Grows step
    grow-step i f hf on s zero h = h
    grow-step i f hf on s (suc n) h = (hf (add i s) n h).0

    grow-note : {A : Type 0} (i : Item) (f : M A) → Grows m A f → IsOn Any i → Grows m A (note i f)
    unfolding Grows note
    grow-note i f hf on s n h = (hf (add i s) n h).0

    grow-tick : {A : Type 0} (f : M A) → Grows m A f → Grows m A (tick f)
    unfolding Grows tick
    grow-tick f hf s zero h = h
    grow-tick f hf s (suc n) h = hf s n h

    grow-read : {A : Type 0} (f : Setting → M A) → ((w : Setting) → Grows m A (f w))
        → Grows m A (read f)
    unfolding Grows read
    grow-read f hf s n h = hf s.now s n h

    grow-write : {A : Type 0} (u : Setting → Setting) (f : M A) → Grows m A f
        → Grows m A (write u f)
    unfolding Grows write
    grow-write u f hf s n h = hf (put u s) n h

    grow-say : {A : Type 0} (bytes : List ℕ) (f : M A) → Grows m A f → Grows m A (say bytes f)
    unfolding Grows say
    grow-say bytes f hf s n h = hf _ n h

    grow-within : {A : Type 0} (f : ℕ → M A) → ((n : ℕ) → Grows m A (f n)) → Grows m A (within f)
    unfolding Grows within
    grow-within f hf s n h = hf n s n h

    growing : Ways (Grows m) Any
    growing = record {
      give = grow-give;
      stop = grow-stop;
      chain = grow-chain;
      step = grow-step;
      note = grow-note;
      tick = grow-tick;
      read = grow-read;
      write = grow-write;
      say = grow-say;
      within = grow-within;
    }

    -- a body in a frame of its own adds one item to those of its caller
    grow-framed : (code : CodeId) (names : Names) (f : M Out)
        → Grows m (Ans PlainValue) (framed code names f)
    unfolding Grows framed
    grow-framed code names f s n h =
        go (f (record { now = in_frame names s.now; out = s.out; items = no_items }) n) h
      where
        go : (r : Res Out) → ReachOnly Safe m (end_of (left_by code s r)).items
            → ReachOnly Safe m s.items
        go (done o t k) c = c.0
        go (cut t) c = c.0

    grow-ended : (k : ℕ) (a : Ans PlainValue) → Grows m (Ans PlainValue) (ended k a)
    grow-ended k (Ok v) = grow-give _
    grow-ended k (Err e) = grow-write _ _ (grow-give _)

    grow-in_unit : (ms : List LoadedModule) (k u : ℕ) (f : M (Ans PlainValue))
        → Grows m (Ans PlainValue) f → Grows m (Ans PlainValue) (in_unit ms k u f)
    unfolding in_unit
    grow-in_unit ms k zero f h = grow-write _ _ (grow-chain _ _ h (grow-ended k))
    grow-in_unit ms k (suc u) f h = h

    pub grow-unit : (c : Calls) (ms : List LoadedModule) (k u : ℕ) (vs : List PlainValue)
        → Grows m (Ans PlainValue) (unit_call c ms k u vs)
    grow-unit c ms k u vs = grow-tick _ (grow-in_unit ms k u _ (grow-framed _ _ _))

    grow-calls : (ms : List LoadedModule) (depth k u : ℕ) (vs : List PlainValue)
        → Grows m (Ans PlainValue) (calls ms depth k u vs)
    unfolding calls
    grow-calls ms zero k u vs = grow-stop _
    grow-calls ms (suc depth) k u vs = grow-unit (calls ms depth) ms k u vs

    any : (ls : List ℕ) → AreOn Any ls
    any [] = tt
    any (l ∷ ls) = (tt, any ls)

    pub grow-exec : (c : Calls) (p : Place) → EachGrows c → (b : Stmts) → Grows m Out (exec c p b)
    grow-exec c p h b =
        in-exec (Grows m) Any growing c p (λ k u vs found. h m k u vs) b (any (stmts_marks b))

  pub all-grow : (ms : List LoadedModule) (depth : ℕ) → EachGrows (calls ms depth)
  all-grow ms depth m k u vs = grow-calls m ms depth k u vs
