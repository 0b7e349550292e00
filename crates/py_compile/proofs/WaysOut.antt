-- Ways out of suites that go through other suites, in a machine and as they are meant.
--     finally_fits and the like      ways in front of suites and in clauses
--     handle_out, last_out ..        what a suite leaves to its `try`
--     release_runs, settle_runs      the way out on top is taken
use Rattle.std.proofs.Common.{◌≡◌, ℕ, suc, ◌+◌, ◌-◌, ◌<◌, ◌≤◌, List, ◌∷◌, length, drop, Option, Some, None, Bool, true, false, refl, ap, ◌∙◌, arith}
use Rattle.std.specs.Prelude.{slice_get, ◌&&◌, if◌then◌else◌}
use Rattle.py_value.specs.Plain.{bool_value, exc_value, PlainRaised}
use Rattle.py_syntax.specs.Tree.{Text}
use Rattle.py_builtins.specs.World.{Names}
use Rattle.py_meaning.specs.Computations.{State, Res, done, cut, M, bind, put, give, chain, note, write}
use Rattle.py_meaning.specs.Laws.{IsAtMost}
use Rattle.py_meaning.specs.Places.{Scope, bound, unbound}
use Rattle.py_meaning.specs.Statements.{Out, normal, breaks, continues, returns as returned, raises, handle, settle, released, handled as in_suite}
use Rattle.py_code.specs.declared.instr.Instr.{Instr}
use Rattle.py_code.specs.declared.instr.Instr.TheVariants.{IfFalse, Settle, Release}
use Rattle.py_code.specs.Configurations.{Way, on, by_break, by_continue, by_return, by_raise, Operand, of_value, of_way, Locals}
use Rattle.py_code.specs.Machine.{act, throw, escapes, resumes}
use Rattle.py_code.specs.Run.{Goes}
use Rattle.py_code.specs.Slots.{by_names}
use Rattle.py_code.specs.Units.{Code, Module, unit_at}
use Rattle.py_compile_expr.specs.Cells.{plain, Guard, cell}
use Rattle.py_compile_expr.specs.Runs.{Spot, conf, from as going, Fits}
use Rattle.py_compile_expr.specs.Stands.{StandsAt, HasAt}
use Rattle.py_compile_expr.proofs.Simulation.{fits_less, led}
use Rattle.py_compile.specs.StatementRuns.{after_out, FitsWays}
use Rattle.py_compile.specs.Statements.{exits_code}
use Rattle.py_compile.specs.Ways.{Ways, under, in_finally, in_try, in_clause}
use Rattle.py_compile.proofs.Flow.{route_less, ways_under, raised_over, leaves_over, returns_over, led_on, break_runs, continue_runs, return_runs, escaped_runs, threw_runs}

abbrev pub is_thrown_way : Way → Bool
is_thrown_way on = false
is_thrown_way by_break = false
is_thrown_way by_continue = false
is_thrown_way (by_return x) = false
is_thrown_way (by_raise e b) = b

-- the outcome that a way stands for
abbrev pub outcome_of : Way → Out
outcome_of on = normal
outcome_of by_break = breaks
outcome_of by_continue = continues
outcome_of (by_return x) = returned x
outcome_of (by_raise e b) = raises e b

pub drop_none : (st : List Operand) (d : ℕ) → d ≡ length st → drop (length st - d) st ≡ st
drop_none st d e = let z : length st - d ≡ 0 = omega arith in ap (λ m. drop m st) z

pub finally_fits : (v : Ways) (h : Option PlainRaised) (to last end : ℕ) (st : List Operand) → last ≤ to → last ≤ end → FitsWays v h end st → FitsWays (in_finally v to) h last st
finally_fits v h to last end st le less f = record {
  on_break = (le, omega arith);
  on_continue = (le, omega arith);
  on_return = (le, omega arith);
  guard = (le, same_least v.depth (length st) f.depth);
  depth = f.depth;
  handled = f.handled;
}
  where
    same_least : (a b : ℕ) → a ≡ b → a ≤ b
    same_least a b e = omega arith

pub try_fits : (v : Ways) (h : Option PlainRaised) (to last end : ℕ) (st : List Operand) → last ≤ to → last ≤ end → FitsWays v h end st → FitsWays (in_try v to) h last st
try_fits v h to last end st le less f = record {
  on_break = route_less true v.on_break end last (length st) less f.on_break;
  on_continue = route_less true v.on_continue end last (length st) less f.on_continue;
  on_return = route_less false v.on_return end last (length st) less f.on_return;
  guard = (le, same_least v.depth (length st) f.depth);
  depth = f.depth;
  handled = f.handled;
}
  where
    same_least : (a b : ℕ) → a ≡ b → a ≤ b
    same_least a b e = omega arith

-- in a clause, the exception is on top
pub clause_fits : (v : Ways) (h : Option PlainRaised) (end : ℕ) (e : PlainRaised) (b : Bool) (st : List Operand) → FitsWays v h end st → FitsWays (in_clause v) (Some e) end (of_way (by_raise e b) ∷ st)
clause_fits v h end e b st f =
    let g = ways_under v h end (of_way (by_raise e b)) st f in
    let deep = f.depth in
    let least : v.depth < suc (length st) = omega arith in
    let zero_place : suc (length st) - v.depth - 1 ≡ 0 = omega arith in
    record {
      on_break = g.on_break;
      on_continue = g.on_continue;
      on_return = g.on_return;
      guard = g.guard;
      depth = g.depth;
      handled = (least, of_way (by_raise e b), ap (λ m. slice_get (of_way (by_raise e b) ∷ st) m) zero_place, refl);
    }

pub chain_is : {A : Type 0} (m : M A) (f : A → M Out) (s : State) (n : ℕ) → chain m f s n ≡ bind (m s n) f
unfolding chain
chain_is m f s n = refl

pub given_back : (r : Res Out) → bind r (λ o. give o) ≡ r
unfolding give
given_back (done o t j) = refl
given_back (cut t) = refl

module _ (cs : List Module) (w : Spot) where
  -- what a body leaves to its clauses and its `else`
  pub handle_out : (v : Ways) (mid begin end : ℕ) (st : List Operand) (r : Res Out) (C : PlainRaised → M Out) (E : M Out) (n : ℕ) → IsAtMost n r → v.depth ≡ length st
      → ((e : PlainRaised) (b : Bool) (t : State) (j : ℕ) → j ≤ n → going cs w begin (of_way (by_raise e b) ∷ st) t j ≡ after_out cs w v end st (C e t j))
      → ((t : State) (j : ℕ) → j ≤ n → going cs w mid st t j ≡ after_out cs w v end st (E t j)) → after_out cs w (in_try v begin) mid st r ≡ after_out cs w v end st (bind r (λ o. handle true o C E))
  unfolding give
  handle_out v mid begin end st (done normal t j) C E n le deep fc fe = fe t j le
  handle_out v mid begin end st (done breaks t j) C E n le deep fc fe = refl
  handle_out v mid begin end st (done continues t j) C E n le deep fc fe = refl
  handle_out v mid begin end st (done (returned a) t j) C E n le deep fc fe = refl
  handle_out v mid begin end st (done (raises e b) t j) C E n le deep fc fe = ap (λ xs. going cs w begin (of_way (by_raise e b) ∷ xs) t j) (drop_none st v.depth deep) ∙ fc e b t j le
  handle_out v mid begin end st (cut t) C E n le deep fc fe = refl

  pub no_handle_out : (v : Ways) (mid end : ℕ) (st : List Operand) (r : Res Out) (C : PlainRaised → M Out) (E : M Out) (n : ℕ) → IsAtMost n r
      → ((t : State) (j : ℕ) → j ≤ n → going cs w mid st t j ≡ after_out cs w v end st (E t j)) → after_out cs w v mid st r ≡ after_out cs w v end st (bind r (λ o. handle false o C E))
  unfolding give
  no_handle_out v mid end st (done normal t j) C E n le fe = fe t j le
  no_handle_out v mid end st (done breaks t j) C E n le fe = refl
  no_handle_out v mid end st (done continues t j) C E n le fe = refl
  no_handle_out v mid end st (done (returned a) t j) C E n le fe = refl
  no_handle_out v mid end st (done (raises e b) t j) C E n le fe = refl
  no_handle_out v mid end st (cut t) C E n le fe = refl

  -- every way into a suite that each way out goes through
  pub last_out : (v : Ways) (mid begin end : ℕ) (st : List Operand) (r : Res Out) (g : Out → M Out) (n : ℕ) → IsAtMost n r → v.depth ≡ length st
      → ((t : State) (j : ℕ) → going cs w mid st t j ≡ going cs w begin (of_way on ∷ st) t j)
      → ((x : Way) (t : State) (j : ℕ) → j ≤ n → going cs w begin (of_way x ∷ st) t j ≡ after_out cs w v end st (g (outcome_of x) t j)) → after_out cs w (in_finally v begin) mid st r ≡ after_out cs w v end st (bind r g)
  last_out v mid begin end st (done normal t j) g n le deep fn fs = fn t j ∙ fs on t j le
  last_out v mid begin end st (done breaks t j) g n le deep fn fs = fs by_break t j le
  last_out v mid begin end st (done continues t j) g n le deep fn fs = fs by_continue t j le
  last_out v mid begin end st (done (returned a) t j) g n le deep fn fs = fs (by_return a) t j le
  last_out v mid begin end st (done (raises e b) t j) g n le deep fn fs = ap (λ xs. going cs w begin (of_way (by_raise e b) ∷ xs) t j) (drop_none st v.depth deep) ∙ fs (by_raise e b) t j le
  last_out v mid begin end st (cut t) g n le deep fn fs = refl

  -- a suite that a way out goes through, with that way below it
  pub over_out : (v : Ways) (mid end : ℕ) (x : Operand) (st : List Operand) → Fits v.guard end (length st) → (r : Res Out) (q : Out) → ((t : State) (j : ℕ) → going cs w mid (x ∷ st) t j ≡ after_out cs w v end st (settle normal q t j))
      → after_out cs w (under v) mid (x ∷ st) r ≡ after_out cs w v end st (bind r (λ o. settle o q))
  unfolding give
  over_out v mid end x st f (done normal t j) q go = go t j
  over_out v mid end x st f (done breaks t j) q go = leaves_over cs w v.on_break by_break x st t j
  over_out v mid end x st f (done continues t j) q go = leaves_over cs w v.on_continue by_continue x st t j
  over_out v mid end x st f (done (returned a) t j) q go = returns_over cs w v.on_return a x st t j
  over_out v mid end x st f (done (raises e b) t j) q go = raised_over cs w v.guard end x st f e b t j
  over_out v mid end x st f (cut t) q go = refl

  -- a suite of a clause, with one operand below it
  pub suite_out : (v : Ways) (mid end : ℕ) (x : Operand) (st : List Operand) → Fits v.guard end (length st) → (r : Res Out) → ((t : State) (j : ℕ) → going cs w mid (x ∷ st) t j ≡ going cs w end st t j) → after_out cs w (under v) mid (x ∷ st) r ≡ after_out cs w v end st r
  suite_out v mid end x st f (done normal t j) go = go t j
  suite_out v mid end x st f (done breaks t j) go = leaves_over cs w v.on_break by_break x st t j
  suite_out v mid end x st f (done continues t j) go = leaves_over cs w v.on_continue by_continue x st t j
  suite_out v mid end x st f (done (returned a) t j) go = returns_over cs w v.on_return a x st t j
  suite_out v mid end x st f (done (raises e b) t j) go = raised_over cs w v.guard end x st f e b t j
  suite_out v mid end x st f (cut t) go = refl

  module _ (u : Code) (is : unit_at cs w.code ≡ Some u) where
    abbrev pub N0 : Locals Names
    N0 = by_names cs

    -- the way out on top is taken
    pub ways_out : (settled : Bool) (i : Instr) (x : Way) (h : Option PlainRaised) (v : Ways) (p end : ℕ) (st : List Operand) → StandsAt u p (cell v.guard (plain i)) → HasAt u (p + 1) (exits_code v (p + 1)) → p + 4 ≤ end → FitsWays v h end st
        → (s : State) (n : ℕ) → act N0 cs u i (of_way x ∷ st) (conf w p (of_way x ∷ st) s n) ≡ resumes N0 cs settled x st (conf w p (of_way x ∷ st) s n) → (settled && is_thrown_way x) ≡ false
        → going cs w p (of_way x ∷ st) s n ≡ after_out cs w v (p + 4) st (done (outcome_of x) s n)
    ways_out settled i on h v p end st at has le f s n e quiet = led cs w u is p (p + 4) i (of_way on ∷ st) st s s n at.instr (omega arith) (e ∙ ap (λ q. Goes (conf w q st s n)) (omega arith))
    ways_out settled i by_break h v p end st at has le f s n e quiet =
        led cs w u is p (p + 1) i (of_way by_break ∷ st) st s s n at.instr (omega arith) (e ∙ ap (λ q. Goes (conf w q st s n)) (omega arith))
        ∙ break_runs cs w u is v.on_break (p + 1) (p + 1 + 3) st s n has.0.instr (route_less true v.on_break end (p + 1 + 1) (length st) (omega arith) f.on_break)
    ways_out settled i by_continue h v p end st at has le f s n e quiet =
        led cs w u is p (p + 1 + 1) i (of_way by_continue ∷ st) st s s n at.instr (omega arith) (e ∙ ap (λ q. Goes (conf w q st s n)) (omega arith))
        ∙ continue_runs cs w u is v.on_continue (p + 1 + 1) (p + 1 + 3) st s n has.1.0.instr (route_less true v.on_continue end (p + 1 + 1 + 1) (length st) (omega arith) f.on_continue)
    ways_out settled i (by_return a) h v p end st at has le f s n e quiet =
        led cs w u is p (p + 1 + 1 + 1) i (of_way (by_return a) ∷ st) (of_value a ∷ st) s s n at.instr (omega arith) (e ∙ ap (λ q. Goes (conf w q (of_value a ∷ st) s n)) (omega arith))
        ∙ return_runs cs w u is v.on_return (p + 1 + 1 + 1) a st s n has.1.1.0.instr (route_less false v.on_return end (p + 1 + 1 + 1 + 1) (length st) (omega arith) f.on_return)
    ways_out settled i (by_raise x b) h v p end st at has le f s n e quiet =
        let d = conf w p st s n in
        escaped_runs cs w u is v.guard p i (of_way (by_raise x b) ∷ st) st x b s s n at.instr at.guard (fits_less v.guard end (p + 1) (length st) (omega arith) f.guard)
        (e ∙ ap (λ q. if q then throw N0 cs x d else escapes N0 cs x b d) quiet)

    -- an exception is raised as it is
    pub release_runs : (x : Way) (h : Option PlainRaised) (v : Ways) (p end : ℕ) (st : List Operand) → StandsAt u p (cell v.guard (plain Release)) → HasAt u (p + 1) (exits_code v (p + 1)) → p + 4 ≤ end → FitsWays v h end st
        → (s : State) (n : ℕ) → going cs w p (of_way x ∷ st) s n ≡ after_out cs w v (p + 4) st (done (outcome_of x) s n)
    release_runs x h v p end st at has le f s n = ways_out false Release x h v p end st at has le f s n refl refl

    -- or thrown once more
    pub settle_runs : (x : Way) (h : Option PlainRaised) (v : Ways) (p end : ℕ) (st : List Operand) → StandsAt u p (cell v.guard (plain Settle)) → HasAt u (p + 1) (exits_code v (p + 1)) → p + 4 ≤ end → FitsWays v h end st
        → (s : State) (n : ℕ) → going cs w p (of_way x ∷ st) s n ≡ after_out cs w v (p + 4) st (settle normal (outcome_of x) s n)
    unfolding give note
    settle_runs (by_raise x true) h v p end st at has le f s n =
        threw_runs cs w u is v.guard p Settle (of_way (by_raise x true) ∷ st) st x s s n at.instr at.guard (fits_less v.guard end (p + 1) (length st) (omega arith) f.guard) refl
    settle_runs (by_raise x false) h v p end st at has le f s n = ways_out true Settle (by_raise x false) h v p end st at has le f s n refl refl
    settle_runs on h v p end st at has le f s n = ways_out true Settle on h v p end st at has le f s n refl refl
    settle_runs by_break h v p end st at has le f s n = ways_out true Settle by_break h v p end st at has le f s n refl refl
    settle_runs by_continue h v p end st at has le f s n = ways_out true Settle by_continue h v p end st at has le f s n refl refl
    settle_runs (by_return a) h v p end st at has le f s n = ways_out true Settle (by_return a) h v p end st at has le f s n refl refl

    -- a truth on top decides
    pub truth_runs : (b : Bool) (g : Option Guard) (v : Ways) (p to end : ℕ) (xs st : List Operand) (m l : M Out) (s : State) (n : ℕ) → StandsAt u p (cell g (plain (IfFalse to))) → p < to
        → going cs w (p + 1) xs s n ≡ after_out cs w v end st (m s n) → going cs w to xs s n ≡ after_out cs w v end st (l s n)
        → going cs w p (of_value (bool_value b) ∷ xs) s n ≡ after_out cs w v end st ((if b then m else l) s n)
    truth_runs true g v p to end xs st m l s n at lt hy hn = led_on cs w u is p (IfFalse to) (of_value (bool_value true) ∷ xs) xs s s n at.instr refl ∙ hy
    truth_runs false g v p to end xs st m l s n at lt hy hn = led cs w u is p to (IfFalse to) (of_value (bool_value false) ∷ xs) xs s s n at.instr lt refl ∙ hn

-- a suite without a name, and one with a name that is unset after it
pub nameless : (sc : Scope) (e : PlainRaised) (m : M Out) (s : State) (n : ℕ) → in_suite sc None e m s n ≡ m s n
unfolding write chain give
nameless sc e m s n = by_result (m s n)
  where
    by_result : (r : Res Out) → bind r (λ o t j. done o (put (released sc None) t) j) ≡ r
    by_result (done o t j) = refl
    by_result (cut t) = refl

pub named : (sc : Scope) (x : Text) (e : PlainRaised) (m : M Out) (s : State) (n : ℕ) → in_suite sc (Some x) e m s n ≡ bind (m (put (bound sc x (exc_value e.kind e.arg)) s) n) (λ o. write (unbound sc x) (give o))
unfolding write chain give
named sc x e m s n = refl

pub unset_is : (sc : Scope) (x : Text) (o : Out) (t : State) (j : ℕ) → write (unbound sc x) (give o) t j ≡ done o (put (unbound sc x) t) j
unfolding write give
unset_is sc x o t j = refl

pub give_is : {A : Type 0} (a : A) (t : State) (j : ℕ) → give a t j ≡ done a t j
unfolding give
give_is a t j = refl
