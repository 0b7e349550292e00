-- Beside the activations of a run nothing is marked: imports and calls of tests have no arcs of
-- their own.
use Rattle.std.proofs.Common.{◌≡◌, ℕ, zero, suc, List, [], Ok, Err, refl}
use Rattle.cov_event.specs.declared.event.CodeId.{CodeId}
use Rattle.py_value.specs.Plain.{PlainValue}
use Rattle.py_builtins.specs.World.{World, Names}
use Rattle.py_meaning.specs.Activations.{Item, mark, again, throw, sub, Items, no_items, more, arcs_so_far}
use Rattle.py_meaning.specs.Calls.{call_value}
use Rattle.py_meaning.specs.Computations.{Setting, State, Res, done, cut, M, Ans, bind, add, put, give, chain, step, tick, note, read, write, say, within, stop, ask}
use Rattle.py_meaning.specs.Frames.{in_frame, left_by, framed, ended, in_unit, calls}
use Rattle.py_meaning.specs.Modules.{LoadedModule}
use Rattle.py_meaning.specs.Program.{run_of, at_rest, first_world, script_body, run_modules, Request, answer_in, global_named, call_global, called}
use Rattle.py_meaning.specs.Statements.{Out}
use Rattle.py_meaning.proofs.Budget.{end_of}
use Rattle.cov_arcs.proofs.Everywhere.{IsOn, Ways, in-value, in-ask, in-enter, in-call_value}

-- no line
abbrev Never : ℕ → Type 0
Never l = ⊥

-- items without an arc of their own
abbrev Unmarked : Items → Type 0
Unmarked items = arcs_so_far items ≡ []

-- what was unmarked stays so
unfoldable Keeps : (A : Type 0) → M A → Type 0
Keeps A f = (s : State) (n : ℕ) → Unmarked s.items → Unmarked (end_of (f s n)).items

with-item : (i : Item) (items : Items) → IsOn Never i → Unmarked items → Unmarked (more items i)
unfolding arcs_so_far
with-item (mark l) items on h = absurd on
with-item (again l) items on h = absurd on
with-item (throw kind) items on h = h
with-item (sub a) items on h = absurd on

with-activation : (a : _) (items : Items) → Unmarked items → Unmarked (more items (sub a))
unfolding arcs_so_far
with-activation a items h = h

keeps-give : {A : Type 0} (a : A) → Keeps A (give a)
unfolding Keeps give
keeps-give a s n h = h

keeps-stop : (A : Type 0) → Keeps A stop
unfolding Keeps stop
keeps-stop A s n h = h

keeps-chain : {A B : Type 0} (m : M A) (f : A → M B) → Keeps A m → ((a : A) → Keeps B (f a))
    → Keeps B (chain m f)
unfolding Keeps chain
keeps-chain {A} m f k g s n h = go (m s n) (k s n h)
  where
    go : (r : Res A) → Unmarked (end_of r).items → Unmarked (end_of (bind r f)).items
    go (done a t i) e = g a t i e
    go (cut t) e = e

keeps-step : {A : Type 0} (i : Item) (m : M A) → Keeps A m → IsOn Never i → Keeps A (step i m)
unfolding Keeps step
keeps-step i m k on s zero h = h
keeps-step i m k on s (suc n) h = k (add i s) n (with-item i s.items on h)

keeps-note : {A : Type 0} (i : Item) (m : M A) → Keeps A m → IsOn Never i → Keeps A (note i m)
unfolding Keeps note
keeps-note i m k on s n h = k (add i s) n (with-item i s.items on h)

keeps-tick : {A : Type 0} (m : M A) → Keeps A m → Keeps A (tick m)
unfolding Keeps tick
keeps-tick m k s zero h = h
keeps-tick m k s (suc n) h = k s n h

keeps-read : {A : Type 0} (f : Setting → M A) → ((now : Setting) → Keeps A (f now))
    → Keeps A (read f)
unfolding Keeps read
keeps-read f k s n h = k s.now s n h

keeps-write : {A : Type 0} (f : Setting → Setting) (m : M A) → Keeps A m → Keeps A (write f m)
unfolding Keeps write
keeps-write f m k s n h = k (put f s) n h

keeps-say : {A : Type 0} (bytes : List ℕ) (m : M A) → Keeps A m → Keeps A (say bytes m)
unfolding Keeps say
keeps-say bytes m k s n h = k _ n h

keeps-within : {A : Type 0} (f : ℕ → M A) → ((n : ℕ) → Keeps A (f n)) → Keeps A (within f)
unfolding Keeps within
keeps-within f k s n h = k n s n h

ways : Ways Keeps Never
ways = record {
  give = keeps-give;
  stop = keeps-stop;
  chain = keeps-chain;
  step = keeps-step;
  note = keeps-note;
  tick = keeps-tick;
  read = keeps-read;
  write = keeps-write;
  say = keeps-say;
  within = keeps-within;
}

keeps-framed : (code : CodeId) (names : Names) (f : M Out)
    → Keeps (Ans PlainValue) (framed code names f)
unfolding Keeps framed
keeps-framed code names f s n h =
    go (f (record { now = in_frame names s.now; out = s.out; items = no_items }) n)
  where
    go : (r : Res Out) → Unmarked (end_of (left_by code s r)).items
    go (done o t k) = with-activation _ s.items h
    go (cut t) = with-activation _ s.items h

keeps-ended : (k : ℕ) (a : Ans PlainValue) → Keeps (Ans PlainValue) (ended k a)
keeps-ended k (Ok v) = keeps-give _
keeps-ended k (Err e) = keeps-write _ _ (keeps-give _)

keeps-in_unit : (ms : List LoadedModule) (k u : ℕ) (f : M (Ans PlainValue))
    → Keeps (Ans PlainValue) f → Keeps (Ans PlainValue) (in_unit ms k u f)
unfolding in_unit
keeps-in_unit ms k zero f h = keeps-write _ _ (keeps-chain _ _ h (keeps-ended k))
keeps-in_unit ms k (suc u) f h = h

keeps-calls : (ms : List LoadedModule) (depth k u : ℕ) (vs : List PlainValue)
    → Keeps (Ans PlainValue) (calls ms depth k u vs)
unfolding calls
keeps-calls ms zero k u vs = keeps-stop _
keeps-calls ms (suc depth) k u vs = keeps-tick _ (keeps-in_unit ms k u _ (keeps-framed _ _ _))

run-unmarked : (b : ℕ) (r : Res (Ans PlainValue)) → Unmarked (end_of r).items
    → Unmarked (run_of b r).items
run-unmarked b (done a t k) h = h
run-unmarked b (cut t) h = h

answer-unmarked : (b : ℕ) (r : Res (Ans PlainValue)) → Unmarked (end_of r).items
    → Unmarked (answer_in b r).items
answer-unmarked b (done a t k) h = h
answer-unmarked b (cut t) h = h

pub modules-unmarked : (ms : List LoadedModule) (words : List (List ℕ)) (input : List ℕ) (b : ℕ)
    → Unmarked (run_modules ms words input b).items
unfolding run_modules Keeps arcs_so_far
modules-unmarked ms words input b =
    run-unmarked b (script_body ms b (at_rest (first_world ms words) input) b)
    (in-enter Keeps Never ways (calls ms (suc b) 0 0 []) (keeps-calls ms (suc b) 0 0 [])
    (at_rest (first_world ms words) input) b refl)

pub call-unmarked : (ms : List LoadedModule) (w : World) (input : List ℕ) (r : Request) (b : ℕ)
    → Unmarked (called ms w input r b).items
unfolding called Keeps arcs_so_far
call-unmarked ms w input r b =
    answer-unmarked b (call_global ms r b (at_rest w input) b)
    (in-value Keeps Never ways {B = PlainValue} (ask (global_named r.number r.name))
    (λ f. call_value (calls ms (suc b)) ms f r.values)
    (in-ask Keeps Never ways (global_named r.number r.name)) (λ f.
    in-call_value Keeps Never ways (calls ms (suc b)) ms
    (λ k u vs found. keeps-calls ms (suc b) k u vs) f r.values) (at_rest w input) b refl)
