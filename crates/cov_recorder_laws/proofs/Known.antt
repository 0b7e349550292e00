-- A run calls only units that its modules have, and begins only lines of their texts.
use Rattle.std.proofs.Common.{◌≡◌, ℕ, zero, suc, ◌<◌, ◌&&◌, nat_lt, Bool, true, false, List, [], ◌∷◌, ◌++◌, length, map, Option, Some, None, Ok, Err, All, refl, sym, ap, ◌∙◌, arith}
use Rattle.std.specs.Prelude.{slice_get, is_some, IsSome}
use Rattle.std.specs.List.{AllByRecursion}
use Rattle.std.proofs.lemmas.Bool.{lt-ltb}
use Rattle.std.proofs.lemmas.List.Elements.{All-from_recursion, All-head, All-tail, recursion_from_All}
use Rattle.cov_event.specs.declared.event.CodeId.{CodeId}
use Rattle.cov_event.specs.declared.event.Event.{Event}
use Rattle.cov_event.specs.declared.event.Event.TheVariants.{Call, Line, Throw, Return}
use Rattle.py_value.specs.Plain.{PlainValue}
use Rattle.py_syntax.specs.Functions.{functions}
use Rattle.py_syntax.specs.Marks.{statement_lines, body_marks}
use Rattle.py_syntax.specs.Tree.{Text}
use Rattle.py_builtins.specs.World.{World, Names}
use Rattle.py_meaning.specs.Activations.{Item, mark, again, throw, sub, Activation, activation, Items, no_items, more, is_kept}
use Rattle.py_meaning.specs.Computations.{Setting, State, Res, done, cut, M, Ans, bind, add, give, chain, step, tick, note, read, write, say, within, stop}
use Rattle.py_meaning.specs.Events.{line_unless, return_if, told, told_of, events_in}
use Rattle.py_meaning.specs.Frames.{left_by, framed, ended, in_unit, calls}
use Rattle.py_meaning.specs.Modules.{LoadedModule, function_found, function_in, unit_in as unit_of_body, body_of}
use Rattle.py_meaning.specs.Program.{run_of, run_modules, script_body, at_rest, first_world, Request, called, answer_in, call_global}
use Rattle.py_meaning.specs.Statements.{Out}
use Rattle.cov_arcs.specs.Laws.{unit_lines, firsts_of}
use Rattle.cov_arcs.proofs.Everywhere.{AreOn, IsOn, IsFound, Ways, in-exec, in-value, in-ask, in-enter, in-call_value}
use Rattle.cov_recorder.specs.Plan.{Named, IsFirst, Plan, unit_in, unit_of}
use Rattle.cov_recorder.specs.Recording.{is_line}
use Rattle.cov_recorder_laws.specs.Laws.{first_lines, HasTextLines, IsKnown}
use Rattle.cov_recorder_laws.proofs.Bodies.{IsBodyOn, from_in_order, modules-on}

-- what happened is in lines of a text and in units of these modules
unfoldable mutual
  pub AreIn : List LoadedModule → Items → Type 0
  AreIn ms no_items = Unit {0}
  AreIn ms (more before (mark l)) = AreIn ms before × IsFirst l
  AreIn ms (more before (again l)) = AreIn ms before × IsFirst l
  AreIn ms (more before (throw kind)) = AreIn ms before
  AreIn ms (more before (sub a)) = AreIn ms before × IsIn ms a

  pub IsIn : List LoadedModule → Activation → Type 0
  IsIn ms (activation code items end) = IsSome (function_found ms code) × AreIn ms items

module _ (ms : List LoadedModule) where
  -- what a computation leaves
  abbrev IsLeft : {A : Type 0} → Res A → Type 0
  IsLeft (done a s n) = AreIn ms s.items
  IsLeft (cut s) = AreIn ms s.items

  -- so it is after it, where it was so before
  Keeps : (A : Type 0) → M A → Type 0
  Keeps A m = (s : State) (n : ℕ) → AreIn ms s.items → IsLeft (m s n)

  with-item : (i : Item) (items : Items) → IsOn IsFirst i → AreIn ms items → AreIn ms (more items i)
  unfolding AreIn
  with-item (mark l) items on h = (h, on)
  with-item (again l) items on h = (h, on)
  with-item (throw kind) items on h = h
  with-item (sub a) items on h = absurd on

  keeps-give : {A : Type 0} (a : A) → Keeps A (give a)
  unfolding Keeps give
  keeps-give a s n h = h

  keeps-stop : (A : Type 0) → Keeps A stop
  unfolding Keeps stop
  keeps-stop A s n h = h

  keeps-bind : {A B : Type 0} (r : Res A) (f : A → M B) → IsLeft r → ((a : A) → Keeps B (f a)) → IsLeft (bind r f)
  unfolding Keeps
  keeps-bind (done a s n) f h g = g a s n h
  keeps-bind (cut s) f h g = h

  keeps-chain : {A B : Type 0} (m : M A) (f : A → M B) → Keeps A m → ((a : A) → Keeps B (f a)) → Keeps B (chain m f)
  unfolding Keeps chain
  keeps-chain m f k g s n h = keeps-bind (m s n) f (k s n h) g

  keeps-step : {A : Type 0} (i : Item) (m : M A) → Keeps A m → IsOn IsFirst i → Keeps A (step i m)
  unfolding Keeps step
  keeps-step i m k on s zero h = h
  keeps-step i m k on s (suc n) h = k (add i s) n (with-item i s.items on h)

  keeps-note : {A : Type 0} (i : Item) (m : M A) → Keeps A m → IsOn IsFirst i → Keeps A (note i m)
  unfolding Keeps note
  keeps-note i m k on s n h = k (add i s) n (with-item i s.items on h)

  keeps-tick : {A : Type 0} (m : M A) → Keeps A m → Keeps A (tick m)
  unfolding Keeps tick
  keeps-tick m k s zero h = h
  keeps-tick m k s (suc n) h = k s n h

  keeps-read : {A : Type 0} (f : Setting → M A) → ((now : Setting) → Keeps A (f now)) → Keeps A (read f)
  unfolding Keeps read
  keeps-read f k s n h = k s.now s n h

  keeps-write : {A : Type 0} (f : Setting → Setting) (m : M A) → Keeps A m → Keeps A (write f m)
  unfolding Keeps write
  keeps-write f m k s n h = k _ n h

  keeps-say : {A : Type 0} (bytes : List ℕ) (m : M A) → Keeps A m → Keeps A (say bytes m)
  unfolding Keeps say
  keeps-say bytes m k s n h = k _ n h

  keeps-within : {A : Type 0} (f : ℕ → M A) → ((n : ℕ) → Keeps A (f n)) → Keeps A (within f)
  unfolding Keeps within
  keeps-within f k s n h = k n s n h

  ways : Ways Keeps IsFirst
  ways = record {
    give = keeps-give;
    stop = keeps-stop;
    chain = keeps-chain;
    step = keeps-step;
    note = keeps-note;
    tick = keeps-tick;
    read = keeps-read;
    write = keeps-write;
    say = keeps-say;
    within = keeps-within;
  }

  -- ---- calls

  body-left : (code : CodeId) (s : State) (r : Res Out) → IsSome (function_found ms code) → AreIn ms s.items → IsLeft r → IsLeft (left_by code s r)
  unfolding AreIn IsIn
  body-left code s (done o t n) found h k = (h, (found, k))
  body-left code s (cut t) found h k = (h, (found, k))

  nothing : AreIn ms no_items
  unfolding AreIn
  nothing = tt

  keeps-framed : (code : CodeId) (names : Names) (body : M Out) → IsSome (function_found ms code) → Keeps Out body → Keeps (Ans PlainValue) (framed code names body)
  unfolding Keeps framed
  keeps-framed code names body found k s n h = body-left code s (body _ n) found h (k _ n nothing)

  keeps-ended : (m : ℕ) (a : Ans PlainValue) → Keeps (Ans PlainValue) (ended m a)
  keeps-ended m (Ok v) = keeps-give _
  keeps-ended m (Err e) = keeps-write _ _ (keeps-give _)

  keeps-in_unit : (m u : ℕ) (body : M (Ans PlainValue)) → Keeps (Ans PlainValue) body → Keeps (Ans PlainValue) (in_unit ms m u body)
  unfolding in_unit
  keeps-in_unit m zero body k = keeps-write _ _ (keeps-chain _ _ k (keeps-ended m))
  keeps-in_unit m (suc u) body k = k

  module _ (on : (m u : ℕ) → IsBodyOn IsFirst (unit_of_body (body_of ms m) u).body) where
    keeps-calls : (depth m u : ℕ) (vs : List PlainValue) → IsFound ms m u → Keeps (Ans PlainValue) (calls ms depth m u vs)
    unfolding calls
    keeps-calls zero m u vs found = keeps-stop _
    keeps-calls (suc k) m u vs found = keeps-tick _ (keeps-in_unit m u _ (keeps-framed _ _ _ found (in-exec Keeps IsFirst ways (calls ms k) _ (keeps-calls k) _ (on m u))))

    -- ---- runs

    run-left : (budget : ℕ) (r : Res (Ans PlainValue)) → IsLeft r → AreIn ms (run_of budget r).items
    run-left budget (done a s n) h = h
    run-left budget (cut s) h = h

    pub modules-in : IsFound ms 0 0 → (words : List Text) (input : List ℕ) (budget : ℕ) → AreIn ms (run_modules ms words input budget).items
    unfolding run_modules Keeps
    modules-in found words input budget =
        run-left budget (script_body ms budget (at_rest (first_world ms words) input) budget)
        (in-enter Keeps IsFirst ways _ (keeps-calls (suc budget) 0 0 [] found) (at_rest (first_world ms words) input) budget nothing)

    answer-left : (budget : ℕ) (r : Res (Ans PlainValue)) → IsLeft r → AreIn ms (answer_in budget r).items
    answer-left budget (done a s n) h = h
    answer-left budget (cut s) h = h

    pub call-in : (w : World) (input : List ℕ) (r : Request) (budget : ℕ) → AreIn ms (called ms w input r budget).items
    unfolding called Keeps
    call-in w input r budget =
        answer-left budget (call_global ms r budget (at_rest w input) budget)
        (in-value Keeps IsFirst ways _ _ (in-ask Keeps IsFirst ways _) (λ f. in-call_value Keeps IsFirst ways (calls ms (suc budget)) ms (keeps-calls (suc budget)) f r.values) (at_rest w input) budget nothing)

-- ---- units of a plan

abbrev pub line_in : Option (List ℕ) → ℕ → Option ℕ
line_in None u = None
line_in (Some lines) u = slice_get lines u

some_mapped : {A : Type 0} (f : A → ℕ) (xs : List A) (k : ℕ) → is_some (slice_get (map f xs) k) ≡ is_some (slice_get xs k)
some_mapped f [] k = refl
some_mapped f (x ∷ xs) zero = refl
some_mapped f (x ∷ xs) (suc k) = some_mapped f xs k

pub in_plan : (units : List (List Named)) (m u : ℕ) → is_some (line_in (slice_get (map (λ units. map (λ unit. unit.first) units) units) m) u) ≡ is_some (unit_in (slice_get units m) u)
in_plan [] m u = refl
in_plan (x ∷ units) zero u = some_mapped (λ unit. unit.first) x u
in_plan (x ∷ units) (suc m) u = in_plan units m u

pub in_modules : (ms : List LoadedModule) (m u : ℕ) → is_some (line_in (slice_get (map unit_lines ms) m) u) ≡ is_some (function_in (slice_get ms m) u)
in_modules [] m u = refl
in_modules (x ∷ ms) zero zero = refl
in_modules (x ∷ ms) zero (suc k) = some_mapped (λ f. f.line) (functions x.body) k
in_modules (x ∷ ms) (suc m) u = in_modules ms m u

pub is_line-from : (l : ℕ) → IsFirst l → is_line l ≡ true
is_line-from l h = (λ i. lt-ltb 0 l (omega (arith, h.0)) i && nat_lt l 65536) ∙ lt-ltb l 65536 (omega (arith, h.1))

module _ (ms : List LoadedModule) (plan : Plan) (same : first_lines plan ≡ firsts_of ms) where
  pub has_unit : (code : CodeId) → IsSome (function_found ms code) → IsSome (unit_of plan code)
  has_unit code h = sym (in_plan plan.units code.module code.unit) ∙ ap (λ table. is_some (line_in (slice_get table code.module) code.unit)) same ∙ in_modules ms code.module code.unit ∙ h

  abbrev AreKnown : List Event → Type 0
  AreKnown events = AllByRecursion (IsKnown plan) events

  one-more : (events : List Event) (event : Event) → AreKnown events → IsKnown plan event → AreKnown (events ++ event ∷ [])
  one-more [] event h k = (k, tt)
  one-more (e ∷ events) event h k = (h.0, one-more events event h.1 k)

  line-more : (kept : Bool) (l : ℕ) (events : List Event) → AreKnown events → IsFirst l → AreKnown (line_unless kept l events)
  line-more true l events h k = h
  line-more false l events h k = one-more events (Line l) h (is_line-from l k)

  return-more : (end : Bool) (events : List Event) → AreKnown events → AreKnown (return_if end events)
  return-more true events h = one-more events Return h tt
  return-more false events h = h

  mutual
    unfolding told told_of AreIn IsIn

    told-known : (events : List Event) (items : Items) → AreKnown events → AreIn ms items → AreKnown (told events items)
    told-known events no_items h k = h
    told-known events (more before (mark l)) h k = line-more (is_kept l before) l (told events before) (told-known events before h k.0) k.1
    told-known events (more before (again l)) h k = line-more false l (told events before) (told-known events before h k.0) k.1
    told-known events (more before (throw kind)) h k = one-more (told events before) (Throw kind) (told-known events before h k) tt
    told-known events (more before (sub a)) h k = told-known_of (told events before) a (told-known events before h k.0) k.1

    told-known_of : (events : List Event) (a : Activation) → AreKnown events → IsIn ms a → AreKnown (told_of events a)
    told-known_of events (activation code items end) h k =
        return-more end (told (events ++ Call code ∷ []) items) (told-known (events ++ Call code ∷ []) items (one-more events (Call code) h (has_unit code k.0)) k.1)

  known : (items : Items) → AreIn ms items → All (IsKnown plan) (events_in items)
  known items h = All-from_recursion (IsKnown plan) (events_in items) (told-known [] items tt h)

-- ---- the modules of texts

pub bodies : (ms : List LoadedModule) → All HasTextLines ms → AllByRecursion (λ (m : LoadedModule). AreOn IsFirst (body_marks m.body)) ms
bodies [] h = tt
bodies (m ∷ ms) h = (from_in_order IsFirst (body_marks m.body) (recursion_from_All IsFirst (statement_lines m.body) (All-head HasTextLines m ms h)), bodies ms (All-tail HasTextLines m ms h))

pub script_found : (ms : List LoadedModule) → 0 < length ms → IsFound ms 0 0
script_found [] h = absurd (omega (arith, h))
script_found (m ∷ ms) h = refl

module _ (ms : List LoadedModule) (lines : All HasTextLines ms) (plan : Plan) (same : first_lines plan ≡ firsts_of ms) where
  pub modules-known : 0 < length ms → (words : List Text) (input : List ℕ) (budget : ℕ) → All (IsKnown plan) (events_in (run_modules ms words input budget).items)
  modules-known some words input budget = known ms plan same _ (modules-in ms (modules-on IsFirst ms (bodies ms lines)) (script_found ms some) words input budget)

  pub call-known : (w : World) (input : List ℕ) (r : Request) (budget : ℕ) → All (IsKnown plan) (events_in (called ms w input r budget).items)
  call-known w input r budget = known ms plan same _ (call-in ms (modules-on IsFirst ms (bodies ms lines)) w input r budget)
