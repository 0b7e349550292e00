-- The events of each run tell its arcs: an activation is open only where the run was cut in it.
use Rattle.std.proofs.Common.{◌≡◌, ℕ, zero, suc, ◌<◌, List, [], ◌∷◌, map, Some, Ok, Err, refl, sym, ap, ◌∙◌, subst}
use Rattle.std.specs.Prelude.{slice_get}
use Rattle.std.proofs.lemmas.List.{length-map}
use Rattle.cov_event.specs.declared.event.CodeId.{CodeId}
use Rattle.py_value.specs.Plain.{PlainValue}
use Rattle.py_syntax.specs.Functions.{Function, functions}
use Rattle.py_syntax.specs.Tree.{Text, Stmts}
use Rattle.py_builtins.specs.World.{World, Names}
use Rattle.py_meaning.specs.Activations.{Item, mark, again, throw, sub, Items, no_items, more}
use Rattle.py_meaning.specs.Computations.{Setting, State, Res, done, cut, M, Ans, bind, add, give, chain, step, tick, note, read, write, say, within, stop}
use Rattle.py_meaning.specs.Crossings.{crossings, lines_crossed, ordered}
use Rattle.py_meaning.specs.Events.{events_in}
use Rattle.py_meaning.specs.Frames.{left_by, framed, ended, in_unit, calls}
use Rattle.py_meaning.specs.Loading.{loaded}
use Rattle.py_meaning.specs.Modules.{LoadedModule, unit_of, unit_in, module_body, function_or}
use Rattle.py_meaning.specs.Program.{run_of, run_modules, meaning, script_body, at_rest, first_world, Request, called, answer_in, call_global}
use Rattle.py_meaning.specs.Statements.{Out}
use Rattle.cov_arcs.specs.Laws.{unit_lines, firsts_of, ArcsAgree, ProgramArcsLaw, ModulesArcsLaw, CallArcsLaw}
use Rattle.cov_arcs.specs.Told.{or_one, line_in, first_line, arcs_told}
use Rattle.cov_arcs.proofs.Everywhere.{AreOn, IsOn, Ways, in-exec, in-value, in-ask, in-enter, in-call_value}
use Rattle.cov_arcs.proofs.Following.{AreEnded, IsEnded, AreCutLast, IsCutLast, ended-cut, each-count, arcs-of_items}
use Rattle.cov_arcs.proofs.Tracing.{tracing_law}

-- nothing is asked of a line here
abbrev IsAny : ℕ → Type 0
IsAny l = Unit {0}

are-any : (lines : List ℕ) → AreOn IsAny lines
are-any [] = tt
are-any (l ∷ lines) = (tt, are-any lines)

-- what a computation leaves
abbrev IsLeft : {A : Type 0} → Res A → Type 0
IsLeft (done a s n) = AreEnded s.items
IsLeft (cut s) = AreCutLast s.items

-- Where each activation ended before it, each did after it, but for the one that it was cut in.
Closes : (A : Type 0) → M A → Type 0
Closes A m = (s : State) (n : ℕ) → AreEnded s.items → IsLeft (m s n)

with-mark : (i : Item) (items : Items) → IsOn IsAny i → AreEnded items → AreEnded (more items i)
unfolding AreEnded
with-mark (mark l) items at e = e
with-mark (again l) items at e = e
with-mark (throw kind) items at e = e
with-mark (sub a) items at e = absurd at

closes-give : {A : Type 0} (a : A) → Closes A (give a)
unfolding Closes give
closes-give a s n e = e

closes-stop : (A : Type 0) → Closes A stop
unfolding Closes stop
closes-stop A s n e = ended-cut s.items e

closes-bind : {A B : Type 0} (r : Res A) (f : A → M B) → IsLeft r → ((a : A) → Closes B (f a)) → IsLeft (bind r f)
unfolding Closes
closes-bind (done a s n) f e g = g a s n e
closes-bind (cut s) f e g = e

closes-chain : {A B : Type 0} (m : M A) (f : A → M B) → Closes A m → ((a : A) → Closes B (f a)) → Closes B (chain m f)
unfolding Closes chain
closes-chain m f h g s n e = closes-bind (m s n) f (h s n e) g

closes-step : {A : Type 0} (i : Item) (m : M A) → Closes A m → IsOn IsAny i → Closes A (step i m)
unfolding Closes step
closes-step i m h at s zero e = ended-cut s.items e
closes-step i m h at s (suc n) e = h (add i s) n (with-mark i s.items at e)

closes-note : {A : Type 0} (i : Item) (m : M A) → Closes A m → IsOn IsAny i → Closes A (note i m)
unfolding Closes note
closes-note i m h at s n e = h (add i s) n (with-mark i s.items at e)

closes-tick : {A : Type 0} (m : M A) → Closes A m → Closes A (tick m)
unfolding Closes tick
closes-tick m h s zero e = ended-cut s.items e
closes-tick m h s (suc n) e = h s n e

closes-read : {A : Type 0} (f : Setting → M A) → ((now : Setting) → Closes A (f now)) → Closes A (read f)
unfolding Closes read
closes-read f h s n e = h s.now s n e

closes-write : {A : Type 0} (f : Setting → Setting) (m : M A) → Closes A m → Closes A (write f m)
unfolding Closes write
closes-write f m h s n e = h _ n e

closes-say : {A : Type 0} (bytes : List ℕ) (m : M A) → Closes A m → Closes A (say bytes m)
unfolding Closes say
closes-say bytes m h s n e = h _ n e

closes-within : {A : Type 0} (f : ℕ → M A) → ((n : ℕ) → Closes A (f n)) → Closes A (within f)
unfolding Closes within
closes-within f h s n e = h n s n e

ways : Ways Closes IsAny
ways = record {
  give = closes-give;
  stop = closes-stop;
  chain = closes-chain;
  step = closes-step;
  note = closes-note;
  tick = closes-tick;
  read = closes-read;
  write = closes-write;
  say = closes-say;
  within = closes-within;
}

-- ---- calls

body-left : (code : CodeId) (s : State) (r : Res Out) → AreEnded s.items → IsLeft r → IsLeft (left_by code s r)
unfolding AreEnded IsEnded AreCutLast IsCutLast
body-left code s (done o t n) e h = (e, h)
body-left code s (cut t) e h = (e, h)

no-items : AreEnded no_items
unfolding AreEnded
no-items = tt

closes-framed : (code : CodeId) (names : Names) (body : M Out) → Closes Out body → Closes (Ans PlainValue) (framed code names body)
unfolding Closes framed
closes-framed code names body h s n e = body-left code s (body _ n) e (h _ n no-items)

closes-ended : (m : ℕ) (a : Ans PlainValue) → Closes (Ans PlainValue) (ended m a)
closes-ended m (Ok v) = closes-give _
closes-ended m (Err e) = closes-write _ _ (closes-give _)

closes-in_unit : (ms : List LoadedModule) (m u : ℕ) (body : M (Ans PlainValue)) → Closes (Ans PlainValue) body → Closes (Ans PlainValue) (in_unit ms m u body)
unfolding in_unit
closes-in_unit ms m zero body h = closes-write _ _ (closes-chain _ _ h (closes-ended m))
closes-in_unit ms m (suc k) body h = h

closes-calls : (ms : List LoadedModule) (depth m u : ℕ) (vs : List PlainValue) → Closes (Ans PlainValue) (calls ms depth m u vs)
unfolding calls
closes-calls ms zero m u vs = closes-stop _
closes-calls ms (suc k) m u vs = closes-tick _ (closes-in_unit ms m u _ (closes-framed _ _ _ (in-exec Closes IsAny ways (calls ms k) _ (λ m u vs found. closes-calls ms k m u vs) _ (are-any _))))

-- ---- runs

run-left : (budget : ℕ) (r : Res (Ans PlainValue)) → IsLeft r → AreCutLast (run_of budget r).items
run-left budget (done a s n) h = ended-cut s.items h
run-left budget (cut s) h = h

pub modules-left : (ms : List LoadedModule) (words : List Text) (input : List ℕ) (budget : ℕ) → AreCutLast (run_modules ms words input budget).items
unfolding run_modules Closes
modules-left ms words input budget =
    run-left budget (script_body ms budget (at_rest (first_world ms words) input) budget)
    (in-enter Closes IsAny ways _ (closes-calls ms (suc budget) 0 0 []) (at_rest (first_world ms words) input) budget no-items)

answer-left : (budget : ℕ) (r : Res (Ans PlainValue)) → IsLeft r → AreCutLast (answer_in budget r).items
answer-left budget (done a s n) h = ended-cut s.items h
answer-left budget (cut s) h = h

pub call-left : (ms : List LoadedModule) (w : World) (input : List ℕ) (r : Request) (budget : ℕ) → AreCutLast (called ms w input r budget).items
unfolding called Closes
call-left ms w input r budget =
    answer-left budget (call_global ms r budget (at_rest w input) budget)
    (in-value Closes IsAny ways _ _ (in-ask Closes IsAny ways _) (λ f. in-call_value Closes IsAny ways (calls ms (suc budget)) ms (λ m u vs found. closes-calls ms (suc budget) m u vs) f r.values) (at_rest w input) budget no-items)

-- ---- the first lines of units

line-at : (b : Stmts) (fs : List Function) (k : ℕ) → or_one (slice_get (map (λ f. f.line) fs) k) ≡ (function_or b (slice_get fs k)).line
line-at b [] k = refl
line-at b (f ∷ fs) zero = refl
line-at b (f ∷ fs) (suc k) = line-at b fs k

unit-line : (ms : List LoadedModule) (m u : ℕ) → line_in (slice_get (map unit_lines ms) m) u ≡ (unit_in (module_body (slice_get ms m)) u).line
unfolding functions
unit-line [] m zero = refl
unit-line [] m (suc k) = refl
unit-line (x ∷ ms) zero zero = refl
unit-line (x ∷ ms) zero (suc k) = line-at x.body (functions x.body) k
unit-line (x ∷ ms) (suc m) u = unit-line ms m u

pub unit-first : (ms : List LoadedModule) (code : CodeId) → first_line (firsts_of ms) code ≡ (unit_of ms code).line
unit-first ms code = unit-line ms code.module code.unit

-- ---- the laws

agree : (ms : List LoadedModule) (items : Items) → AreCutLast items → ArcsAgree ms items
agree ms items h =
    let told : (m : ℕ) → ordered [] (arcs_told (firsts_of ms) m [] (events_in items)) ≡ lines_crossed (crossings ms m items) = arcs-of_items ms (firsts_of ms) (unit-first ms) items h in
    record {
      places = λ m p. each-count ms (firsts_of ms) (unit-first ms) m p items h;
      told = told;
      kept = λ new takes m within. tracing_law.from_first (firsts_of ms) (events_in items) new takes m (subst (λ n. m < n) (sym (length-map ms unit_lines)) within) ∙ ap Some (told m);
    }

pub modules_law : ModulesArcsLaw
modules_law ms words input budget = agree ms (run_modules ms words input budget).items (modules-left ms words input budget)

pub program_law : ProgramArcsLaw
unfolding meaning
program_law program words input budget = modules_law (loaded program) words input budget

pub call_law : CallArcsLaw
call_law ms w input r budget = agree ms (called ms w input r budget).items (call-left ms w input r budget)
