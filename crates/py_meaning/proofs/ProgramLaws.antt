-- More steps change nothing of a program, nor of one call.
use Rattle.std.proofs.Common.{◌≡◌, ◌≢◌, ℕ, zero, suc, ◌+◌, ◌-◌, ◌≤◌, Bool, true, false, List, [], ◌∷◌, Ok, Err, refl, ap, arith}
use Rattle.std.specs.Prelude.{◌++◌}
use Rattle.cov_event.specs.declared.event.CodeId.{CodeId}
use Rattle.cov_event.specs.declared.event.Event.TheVariants.{Call}
use Rattle.py_value.specs.Plain.{PlainValue}
use Rattle.py_syntax.specs.Tree.{Text}
use Rattle.py_builtins.specs.World.{World, Names}
use Rattle.py_meaning.specs.Activations.{more, sub, activation, no_items}
use Rattle.py_meaning.specs.Events.{told, told_of}
use Rattle.py_meaning.specs.Computations.{Setting, State, Res, done, cut, Ans, M, tick, stop}
use Rattle.py_meaning.specs.Frames.{in_frame, back_in, left_by, framed, ended, in_unit, calls}
use Rattle.py_meaning.specs.Laws.{SettlesRun, SettlesAnswer, BeginsRun, BeginsAnswer, ProgramBudgetLaw, ModulesBudgetLaw, CallBudgetLaw, ProgramPrefixLaw, ModulesPrefixLaw, CallPrefixLaw, StepsLaw}
use Rattle.py_meaning.specs.Loading.{loaded}
use Rattle.py_meaning.specs.Modules.{LoadedModule}
use Rattle.py_builtins.specs.Outcomes as outcomes
use Rattle.py_meaning.specs.Program.{run_of, first_world, at_rest, script_body, run_modules, meaning, Request, answer_in, call_global, called}
use Rattle.py_builtins.specs.Returns as returns
use Rattle.py_meaning.specs.Statements.{Out}
use Rattle.py_meaning.proofs.Before.{Before, begins-itself, begins-trans, told-more, return-grows}
use Rattle.py_meaning.proofs.Budget.{Same, Agrees, left_at_most, agree-stop, agree-down, agree-tick, agree-zero, agree-give, agree-chain, agree-write, agree-value, agree-ask, same-left, same-right}
use Rattle.py_meaning.proofs.ExpressionLaws.{AgreeCalls, agree-enter, agree-call_value}
use Rattle.py_meaning.proofs.StatementLaws.{Alike, agree-exec}

-- a state after the frame of a body that stands in another one
abbrev after : CodeId → State → State → Bool → Setting → State
after code s t ended now = record { now = now; out = t.out; items = more s.items (sub (activation code t.items ended)) }

-- what the body tells is told after what the caller told and the call
before-after : (code : CodeId) (s t : State) (ended : Bool) (now inside : Setting) → Before (record { now = inside; out = s.out; items = no_items }) t → Before s (after code s t ended now)
before-after code s t ended now inside h = (h.0, λ es. told-more es s.items (sub (activation code t.items ended)))

after-grows : (code : CodeId) (s t u : State) (ended : Bool) (now later : Setting) → Before t u → Before (after code s t false now) (after code s u ended later)
unfolding told told_of
after-grows code s t u ended now later h = (h.0, λ es. begins-trans (h.1 (told es s.items ++ Call code ∷ [])) (return-grows ended (told (told es s.items ++ Call code ∷ []) u.items)))

agree-framed : (k : ℕ) (code : CodeId) (names : Names) (f g : M Out) → Agrees k f g → Agrees k (framed code names f) (framed code names g)
unfolding Agrees framed
agree-framed k code names f g h s n m hn hm = go (f _ n) (g _ m) (h _ n m hn hm)
  where
    first : State
    first = record { now = in_frame names s.now; out = s.out; items = no_items }

    go : (r q : Res Out) → Same first n m r q → Same s n m (left_by code s r) (left_by code s q)
    go (done o t l) (done o' t' l') e =
        let inside : Before first t' = rw (← e.1) e.4 in
        rw (e.0, e.1) (refl, refl, e.2, e.3, before-after code s t' true (back_in s.now t'.now) (in_frame names s.now) inside)
    go (done o t l) (cut t') e = (e.0, e.1, before-after code s t' false t'.now (in_frame names s.now) e.2, after-grows code s t' t true t'.now (back_in s.now t.now) e.3)
    go (cut t) (done o' t' l') e = (e.0, e.1, before-after code s t false t.now (in_frame names s.now) e.2, after-grows code s t t' true t.now (back_in s.now t'.now) e.3)
    go (cut t) (cut t') e = (
      before-after code s t false t.now (in_frame names s.now) e.0,
      before-after code s t' false t'.now (in_frame names s.now) e.1,
      λ le. after-grows code s t t' false t.now t'.now (e.2 le),
      λ le. after-grows code s t' t false t'.now t.now (e.3 le),
      λ q. ap (λ (w : State). after code s w false w.now) (e.4 q),
    )

agree-ended : (k m : ℕ) (a : Ans PlainValue) → Agrees k (ended m a) (ended m a)
agree-ended k m (Ok v) = agree-give k _
agree-ended k m (Err e) = agree-write k _ _ _ (agree-give k _)

agree-in_unit : (k : ℕ) (ms : List LoadedModule) (m u : ℕ) (f g : M (Ans PlainValue)) → Agrees k f g → Agrees k (in_unit ms m u f) (in_unit ms m u g)
unfolding in_unit
agree-in_unit k ms m zero f g fg = agree-write k _ _ _ (agree-chain k _ _ _ _ fg (agree-ended k m))
agree-in_unit k ms m (suc u) f g fg = fg

calls-zero : (ms : List LoadedModule) (j m u : ℕ) (vs : List PlainValue) (s : State) → calls ms j m u vs s 0 ≡ cut s
unfolding calls stop tick
calls-zero ms zero m u vs s = refl
calls-zero ms (suc j) m u vs s = refl

pub agree-calls : (k : ℕ) (ms : List LoadedModule) → Alike k (calls ms)
unfolding calls
agree-calls zero ms j i kj ki m u vs = agree-zero _ _ (calls-zero ms j m u vs) (calls-zero ms i m u vs)
agree-calls (suc k) ms zero i kj ki m u vs = absurd (omega arith)
agree-calls (suc k) ms (suc j) zero kj ki m u vs = absurd (omega arith)
agree-calls (suc k) ms (suc j) (suc i) kj ki m u vs =
    agree-tick k _ _ (agree-in_unit k ms m u _ _ (agree-framed k _ _ _ _ (agree-exec k (calls ms) (agree-calls k ms) j i (omega arith) (omega arith) _ _)))

-- a computation that is given as many calls inside each other as there are steps
same_whole : {A : Type 0} (f : ℕ → M A) (s : State) (b d : ℕ) → ((q j i : ℕ) → q ≤ j → q ≤ i → Agrees q (f j) (f i)) → Same s b d (f b s b) (f d s d)
unfolding Agrees
same_whole f s b d whole =
    let k = b + d in
    same-left s b d _ _ _
    (whole b b k (omega arith) (omega arith) s b b (omega arith) (omega arith))
    (same-right s b d _ _ _
    (whole k k k (omega arith) (omega arith) s b d (omega arith) (omega arith))
    (whole d k d (omega arith) (omega arith) s d d (omega arith) (omega arith)))

same_run : (s : State) (b d : ℕ) (r q : Res (Ans PlainValue)) → Same s b d r q → (run_of b r).outcome ≢ outcomes.cut → SettlesRun (run_of b r) d (run_of d q)
same_run z b d (done a s l) (done c t i) h ne =
    let steps : d - i ≡ b - l = omega (arith, h.2, h.3) in
    (λ le. rw (h.0, h.1, steps) refl, λ lt. absurd (omega (arith, lt, h.2, h.3)))
same_run z b d (done a s l) (cut t) h ne = (λ le. absurd (omega (arith, le, h.0, h.1)), λ lt. refl)
same_run z b d (cut s) q h ne = absurd (ne refl)

-- the two runs of a list of modules
both_runs : (ms : List LoadedModule) (words : List Text) (input : List ℕ) (b d : ℕ) → Same (at_rest (first_world ms words) input) b d (script_body ms b (at_rest (first_world ms words) input) b) (script_body ms d (at_rest (first_world ms words) input) d)
both_runs ms words input b d =
    same_whole (λ j. script_body ms j) (at_rest (first_world ms words) input) b d (λ q j i qj qi. agree-enter q _ _ (agree-calls q ms (suc j) (suc i) (omega arith) (omega arith) 0 0 []))

pub modules_budget : ModulesBudgetLaw
unfolding run_modules
modules_budget ms words input b d ne = same_run (at_rest (first_world ms words) input) b d _ _ (both_runs ms words input b d) ne

pub program_budget : ProgramBudgetLaw
unfolding meaning
program_budget program words input b d ne = modules_budget (loaded program) words input b d ne

same_answer : (s : State) (b d : ℕ) (r q : Res (Ans PlainValue)) → Same s b d r q → (answer_in b r).returned ≢ returns.cut → SettlesAnswer (answer_in b r) d (answer_in d q)
same_answer z b d (done a s l) (done c t i) h ne =
    let steps : d - i ≡ b - l = omega (arith, h.2, h.3) in
    (λ le. rw (h.0, h.1, steps) refl, λ lt. absurd (omega (arith, lt, h.2, h.3)))
same_answer z b d (done a s l) (cut t) h ne = (λ le. absurd (omega (arith, le, h.0, h.1)), λ lt. refl)
same_answer z b d (cut s) q h ne = absurd (ne refl)

agree-global : (k j i : ℕ) (ms : List LoadedModule) (r : Request) → k ≤ j → k ≤ i → Agrees k (call_global ms r j) (call_global ms r i)
agree-global k j i ms r kj ki = agree-value k _ _ _ _ (agree-ask k _) (λ f. agree-call_value k _ _ (agree-calls k ms (suc j) (suc i) (omega arith) (omega arith)) ms f r.values)

both_calls : (ms : List LoadedModule) (w : World) (input : List ℕ) (r : Request) (b d : ℕ) → Same (at_rest w input) b d (call_global ms r b (at_rest w input) b) (call_global ms r d (at_rest w input) d)
both_calls ms w input r b d = same_whole (λ j. call_global ms r j) (at_rest w input) b d (λ q j i qj qi. agree-global q j i ms r qj qi)

pub call_budget : CallBudgetLaw
unfolding called
call_budget ms w input r b d ne = same_answer (at_rest w input) b d _ _ (both_calls ms w input r b d) ne

-- ---- what is written and told with fewer steps

prefix_run : (z : State) (b d : ℕ) (r q : Res (Ans PlainValue)) → Same z b d r q → b ≤ d → BeginsRun (run_of b r) (run_of d q)
prefix_run z b d (done a s l) (done c t i) h le = rw (h.1) (begins-itself t.out, begins-itself (told [] t.items))
prefix_run z b d (done a s l) (cut t) h le = absurd (omega (arith, h.1))
prefix_run z b d (cut s) (done c t i) h le = (h.3.0, h.3.1 [])
prefix_run z b d (cut s) (cut t) h le = ((h.2 le).0, (h.2 le).1 [])

pub modules_prefix : ModulesPrefixLaw
unfolding run_modules
modules_prefix ms words input b d = prefix_run (at_rest (first_world ms words) input) b d _ _ (both_runs ms words input b d)

pub program_prefix : ProgramPrefixLaw
unfolding meaning
program_prefix program words input b d = modules_prefix (loaded program) words input b d

prefix_answer : (z : State) (b d : ℕ) (r q : Res (Ans PlainValue)) → Same z b d r q → b ≤ d → BeginsAnswer (answer_in b r) (answer_in d q)
prefix_answer z b d (done a s l) (done c t i) h le = rw (h.1) (begins-itself t.out, begins-itself (told [] t.items))
prefix_answer z b d (done a s l) (cut t) h le = absurd (omega (arith, h.1))
prefix_answer z b d (cut s) (done c t i) h le = (h.3.0, h.3.1 [])
prefix_answer z b d (cut s) (cut t) h le = ((h.2 le).0, (h.2 le).1 [])

pub call_prefix : CallPrefixLaw
unfolding called
call_prefix ms w input r b d = prefix_answer (at_rest w input) b d _ _ (both_calls ms w input r b d)

-- ---- steps never rise

self-calls : (k : ℕ) (ms : List LoadedModule) (depth : ℕ) → AgreeCalls k (calls ms depth) (calls ms depth)
unfolding calls
self-calls k ms zero m u vs = agree-stop (Ans PlainValue) k
self-calls k ms (suc depth) m u vs =
    agree-down k (suc k) _ _ (omega arith) (agree-tick k _ _ (agree-in_unit k ms m u _ _ (agree-framed k _ _ _ _ (agree-exec k (λ j. calls ms depth) (λ j i kj ki. self-calls k ms depth) k k (omega arith) (omega arith) _ _))))

pub steps_fall : StepsLaw
unfolding Agrees
steps_fall ms depth p body s n = left_at_most s n n _ _ (agree-exec n (λ j. calls ms depth) (λ j i kj ki. self-calls n ms depth) n n (omega arith) (omega arith) p body s n n (omega arith) (omega arith))
