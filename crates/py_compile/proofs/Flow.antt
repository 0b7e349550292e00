-- Ways out of statements in a machine, beside those of the meaning.
--     ahead_fits and the like        ways that lead ahead of less, or over more operands
--     uses, then_runs                one part of a statement after another
--     mark_runs, again_runs          steps
--     break_runs and the like        instructions that take ways out
use Rattle.std.proofs.Common.{◌≡◌, ℕ, zero, suc, ◌+◌, ◌-◌, ◌<◌, ◌≤◌, List, [], ◌∷◌, length, drop, Option, Some, None, Bool, true, false, refl, ap, ◌∙◌, arith}
use Rattle.std.specs.Prelude.{slice_get, nat_le, if◌then◌else◌, Ok, Err}
use Rattle.std.proofs.lemmas.Option.{slice_get_within}
use Rattle.std.proofs.lemmas.Bool.Decides.{nat_tests}
use Rattle.cov_event.specs.declared.event.Event.TheVariants.{Line}
use Rattle.py_value.specs.Plain.{PlainValue, PlainRaised}
use Rattle.py_builtins.specs.World.{Names}
use Rattle.py_meaning.specs.Activations.{Item, mark, again, throw as throw_item}
use Rattle.py_meaning.specs.Computations.{State, Res, done, cut, M, Ans, bind, add, give, chain, step, note}
use Rattle.py_meaning.specs.Events.{told, line_unless}
use Rattle.py_meaning.specs.Laws.{IsAtMost}
use Rattle.py_meaning.specs.Statements.{Out, normal, breaks, continues, returns as returned, raises, on_answer, using, next}
use Rattle.py_code.specs.declared.instr.Instr.{Instr}
use Rattle.py_code.specs.declared.unit.Handler.{Handler}
use Rattle.py_code.specs.declared.instr.Instr.TheVariants.{Goto}
use Rattle.py_code.specs.Configurations.{Way, by_break, by_continue, by_return, by_raise, Operand, of_value, of_way, Locals, Frame, Configuration, Effects, stuck, End, Next}
use Rattle.py_code.specs.Machine.{told as tells, told_line, act, move, stepping, marks as marking, halted, jumps, where_found, callers_rank, machine, land, escapes, throw, leave, give as giving, dropping}
use Rattle.py_code.specs.Run.{Goes, Ticks, go}
use Rattle.py_code.specs.Slots.{by_names}
use Rattle.py_code.specs.Units.{Code, Module, unit_at, places_in, places_of, handlers_in, handler_of}
use Rattle.py_code.proofs.Steps.{goes, ticks, ends, back_ticks, back_ends}
use Rattle.py_compile_expr.specs.Cells.{Guard, cell, marks, marks_again, plain}
use Rattle.py_compile_expr.specs.Runs.{Spot, effects_of, conf, from as going, thrown, after, Fits}
use Rattle.py_compile_expr.specs.Stands.{StandsAt, Guards}
use Rattle.py_compile_expr.proofs.Simulation.{fits_less, fits_more, moves, led, Lower, lower_leave, goes_on, threw}
use Rattle.py_compile.specs.StatementRuns.{ends_with, raised, leaves, returns, after_out, RouteFits, HandledFits, FitsWays}
use Rattle.py_compile.specs.Ways.{Route, out, straight, through, lower, Ways, under, break_exit, continue_exit, return_exit}

-- ---- ways that fit

pub route_less : (b : Bool) (r : Route) (end last depth : ℕ) → last ≤ end → RouteFits b r end depth → RouteFits b r last depth
route_less true out end last depth le f = f
route_less false out end last depth le f = tt
route_less true (straight drops to) end last depth le f = let a = f.0 in (omega arith, f.1)
route_less false (straight drops to) end last depth le f = let a = f.0 in (omega arith, f.1)
route_less true (through drops to) end last depth le f = let a = f.0 in (omega arith, f.1)
route_less false (through drops to) end last depth le f = let a = f.0 in (omega arith, f.1)

pub route_under : (b : Bool) (r : Route) (end depth : ℕ) → RouteFits b r end depth → RouteFits b (lower r) end (suc depth)
route_under true out end depth f = f
route_under false out end depth f = tt
route_under true (straight drops to) end depth f = let a = f.1 in (f.0, omega arith)
route_under false (straight drops to) end depth f = let a = f.1 in (f.0, omega arith)
route_under true (through drops to) end depth f = let a = f.1 in (f.0, omega arith)
route_under false (through drops to) end depth f = let a = f.1 in (f.0, omega arith)

pub handled_under : (h : Option ℕ) (o : Option PlainRaised) (x : Operand) (st : List Operand) → HandledFits h o st → HandledFits h o (x ∷ st)
handled_under None None x st f = tt
handled_under None (Some e) x st f = f
handled_under (Some below) None x st f = f
handled_under (Some below) (Some e) x st f =
    let lt = f.0 in
    let count : suc (length st) - below - 1 ≡ suc (length st - below - 1) = omega arith in
    (omega arith, f.1, ap (λ n. slice_get (x ∷ st) n) count ∙ f.2, f.3)

-- an end that comes earlier
pub ways_less : (v : Ways) (h : Option PlainRaised) (end last : ℕ) (st : List Operand) → last ≤ end → FitsWays v h end st → FitsWays v h last st
ways_less v h end last st le f = record {
  on_break = route_less true v.on_break end last (length st) le f.on_break;
  on_continue = route_less true v.on_continue end last (length st) le f.on_continue;
  on_return = route_less false v.on_return end last (length st) le f.on_return;
  guard = fits_less v.guard end last (length st) le f.guard;
  depth = f.depth;
  handled = f.handled;
}

-- one more operand
pub ways_under : (v : Ways) (h : Option PlainRaised) (end : ℕ) (x : Operand) (st : List Operand) → FitsWays v h end st → FitsWays (under v) h end (x ∷ st)
ways_under v h end x st f = record {
  on_break = route_under true v.on_break end (length st) f.on_break;
  on_continue = route_under true v.on_continue end (length st) f.on_continue;
  on_return = route_under false v.on_return end (length st) f.on_return;
  guard = fits_more v.guard end (length st) (suc (length st)) (omega arith) f.guard;
  depth = ap suc f.depth;
  handled = handled_under v.handled h x st f.handled;
}

pub dropping_runs : (n : ℕ) (xs : List Operand) (c : Configuration Names) (k : List Operand → Next Names) → n ≤ length xs → dropping n xs c k ≡ k (drop n xs)
dropping_runs n xs c k le = let yes : nat_le n (length xs) ≡ true = grind (arith, nat_tests) in ap (λ b. if b then k (drop n xs) else halted stuck c) yes

marked_same : (b : Bool) (l : ℕ) (e : Effects) → (if b then e else tells (Line l) e) ≡ record e { events = line_unless b l e.events }
marked_same true l e = refl
marked_same false l e = refl

module _ (cs : List Module) (w : Spot) where
  abbrev N : Locals Names
  N = by_names cs

  pub thrown_is : (g : Option Guard) (st : List Operand) (e : PlainRaised) (s : State) (n : ℕ) → thrown cs w g st e s n ≡ raised cs w g st e true (add (throw_item e.kind) s) n
  thrown_is None st e s n = refl
  thrown_is (Some g) st e s n = refl

  pub raised_over : (g : Option Guard) (end : ℕ) (x : Operand) (st : List Operand) → Fits g end (length st) → (e : PlainRaised) (t : Bool) (s : State) (n : ℕ) → raised cs w g (x ∷ st) e t s n ≡ raised cs w g st e t s n
  raised_over None end x st f e t s n = refl
  raised_over (Some g) end x st f e t s n =
      let le = f.1 in
      let count : suc (length st) - g.depth ≡ suc (length st - g.depth) = omega arith in
      ap (λ k. going cs w g.target (of_way (by_raise e t) ∷ drop k (x ∷ st)) s n) count

  pub leaves_over : (r : Route) (way : Way) (x : Operand) (st : List Operand) (s : State) (n : ℕ) → leaves cs w (lower r) way (x ∷ st) s n ≡ leaves cs w r way st s n
  leaves_over out way x st s n = refl
  leaves_over (straight drops to) way x st s n = refl
  leaves_over (through drops to) way x st s n = refl

  pub returns_over : (r : Route) (a : PlainValue) (x : Operand) (st : List Operand) (s : State) (n : ℕ) → returns cs w (lower r) a (x ∷ st) s n ≡ returns cs w r a st s n
  returns_over out a x st s n = refl
  returns_over (straight drops to) a x st s n = refl
  returns_over (through drops to) a x st s n = refl

  -- ---- one part after another

  -- an answer that stands on the operands is used
  pub uses : {A : Type 0} (f : A → List Operand → List Operand) (v : Ways) (mid end : ℕ) (ys st : List Operand) (m : M (Ans A)) (k : A → M Out) (first : End) (s : State) (n : ℕ)
      → first ≡ after cs w f v.guard mid ys (m s n) → IsAtMost n (m s n) → ((e : PlainRaised) (t : State) (j : ℕ) → thrown cs w v.guard ys e t j ≡ thrown cs w v.guard st e t j)
      → ((a : A) (t : State) (j : ℕ) → j ≤ n → going cs w mid (f a ys) t j ≡ after_out cs w v end st (k a t j)) → first ≡ after_out cs w v end st (using m k s n)
  unfolding using chain note give
  uses {A} f v mid end ys st m k first s n e le same next = by_result (m s n) e le
    where
      by_answer : (a : Ans A) (t : State) (j : ℕ) → first ≡ after cs w f v.guard mid ys (done a t j) → j ≤ n → first ≡ after_out cs w v end st (on_answer a k t j)
      by_answer (Ok a) t j e less = e ∙ next a t j less
      by_answer (Err x) t j e less = e ∙ (same x t j ∙ thrown_is v.guard st x t j)

      by_result : (r : Res (Ans A)) → first ≡ after cs w f v.guard mid ys r → IsAtMost n r → first ≡ after_out cs w v end st (bind r (λ a. on_answer a k))
      by_result (done a t j) e less = by_answer a t j e less
      by_result (cut t) e less = e

  -- a statement after another one
  pub then_runs : (v : Ways) (mid end : ℕ) (st : List Operand) (m k : M Out) (first : End) (s : State) (n : ℕ) → first ≡ after_out cs w v mid st (m s n) → IsAtMost n (m s n)
      → ((t : State) (j : ℕ) → j ≤ n → going cs w mid st t j ≡ after_out cs w v end st (k t j)) → first ≡ after_out cs w v end st (chain m (λ o. next o k) s n)
  unfolding chain give
  then_runs v mid end st m k first s n e le go = by_result (m s n) e le
    where
      by_result : (r : Res Out) → first ≡ after_out cs w v mid st r → IsAtMost n r → first ≡ after_out cs w v end st (bind r (λ o. next o k))
      by_result (done normal t j) e less = e ∙ go t j less
      by_result (done breaks t j) e less = e
      by_result (done continues t j) e less = e
      by_result (done (returned a) t j) e less = e
      by_result (done (raises x b) t j) e less = e
      by_result (cut t) e less = e

  -- another end
  pub ends_on : (v : Ways) (mid end : ℕ) (st : List Operand) (r : Res Out) → ((t : State) (j : ℕ) → going cs w mid st t j ≡ going cs w end st t j) → after_out cs w v mid st r ≡ after_out cs w v end st r
  ends_on v mid end st (done normal t j) f = f t j
  ends_on v mid end st (done breaks t j) f = refl
  ends_on v mid end st (done continues t j) f = refl
  ends_on v mid end st (done (returned a) t j) f = refl
  ends_on v mid end st (done (raises x b) t j) f = refl
  ends_on v mid end st (cut t) f = refl

  module _ (u : Code) (is : unit_at cs w.code ≡ Some u) where
    -- to the next place
    pub led_on : (p : ℕ) (i : Instr) (xs ys : List Operand) (s t : State) (n : ℕ) → slice_get u.instrs p ≡ Some i → act N cs u i xs (conf w p xs s n) ≡ Goes (conf w (suc p) ys t n) → going cs w p xs s n ≡ going cs w (p + 1) ys t n
    led_on p i xs ys s t n at e = let next : suc p ≡ p + 1 = omega arith in led cs w u is p (p + 1) i xs ys s t n at (omega arith) (e ∙ ap (λ q. Goes (conf w q ys t n)) next)

    -- ---- steps

    steps_on : (item : Item) (v : Ways) (p end : ℕ) (xs st : List Operand) (k : M Out) (s : State) (n : ℕ) → ((m : ℕ) → move N cs (conf w p xs s m) ≡ stepping m (conf w p xs s m) (λ j. Ticks (conf w (suc p) xs (add item s) j)))
        → ((t : State) (j : ℕ) → j < n → going cs w (p + 1) xs t j ≡ after_out cs w v end st (k t j)) → going cs w p xs s n ≡ after_out cs w v end st (step item k s n)
    unfolding step
    steps_on item v p end xs st k s zero e rest = ends (machine N cs) (conf w p xs s zero) _ (e zero)
    steps_on item v p end xs st k s (suc n) e rest =
        let next : suc p ≡ p + 1 = omega arith in
        ticks (machine N cs) (conf w p xs s (suc n)) (conf w (suc p) xs (add item s) n) (e (suc n)) refl
        ∙ (ap (λ q. going cs w q xs (add item s) n) next ∙ rest (add item s) n (omega arith))

    mark_moves : (l : ℕ) (g : Option Guard) (p : ℕ) (xs : List Operand) (s : State) → StandsAt u p (cell g (marks l)) → (m : ℕ) → move N cs (conf w p xs s m) ≡ stepping m (conf w p xs s m) (λ j. Ticks (conf w (suc p) xs (add (mark l) s) j))
    unfolding told
    mark_moves l g p xs s at m =
        let c = conf w p xs s m in
        moves cs w u is p _ xs s m at.instr
        ∙ (ap (λ o. where_found o c (λ x. marking N cs x (told_line c.top.line x c.effects) c)) at.knows
        ∙ ap (λ e. marking N cs l e c) (marked_same _ l c.effects))

    again_moves : (l : ℕ) (g : Option Guard) (p : ℕ) (xs : List Operand) (s : State) → StandsAt u p (cell g (marks_again l)) → (m : ℕ) → move N cs (conf w p xs s m) ≡ stepping m (conf w p xs s m) (λ j. Ticks (conf w (suc p) xs (add (again l) s) j))
    unfolding told
    again_moves l g p xs s at m =
        let c = conf w p xs s m in
        moves cs w u is p _ xs s m at.instr ∙ ap (λ o. where_found o c (λ x. marking N cs x (tells (Line x) c.effects) c)) at.knows

    -- a line is marked
    pub mark_runs : (l : ℕ) (g : Option Guard) (v : Ways) (p end : ℕ) (xs st : List Operand) (k : M Out) (s : State) (n : ℕ) → StandsAt u p (cell g (marks l))
        → ((t : State) (j : ℕ) → j < n → going cs w (p + 1) xs t j ≡ after_out cs w v end st (k t j)) → going cs w p xs s n ≡ after_out cs w v end st (step (mark l) k s n)
    mark_runs l g v p end xs st k s n at rest = steps_on (mark l) v p end xs st k s n (mark_moves l g p xs s at) rest

    pub again_runs : (l : ℕ) (g : Option Guard) (v : Ways) (p end : ℕ) (xs st : List Operand) (k : M Out) (s : State) (n : ℕ) → StandsAt u p (cell g (marks_again l))
        → ((t : State) (j : ℕ) → j < n → going cs w (p + 1) xs t j ≡ after_out cs w v end st (k t j)) → going cs w p xs s n ≡ after_out cs w v end st (step (again l) k s n)
    again_runs l g v p end xs st k s n at rest = steps_on (again l) v p end xs st k s n (again_moves l g p xs s at) rest

    -- a jump back to a line that is marked again
    pub back_runs : (l : ℕ) (g h : Option Guard) (p to : ℕ) (xs : List Operand) (s : State) (n : ℕ) → StandsAt u p (cell g (plain (Goto to))) → StandsAt u to (cell h (marks_again l)) → to ≤ p → going cs w p xs s n ≡ going cs w to xs s n
    back_runs l g h p to xs s zero at begin le =
        back_ends (machine N cs) (conf w p xs s zero) (conf w to xs s zero) _ (moves cs w u is p (Goto to) xs s zero at.instr) (omega arith) (again_moves l h to xs s begin zero)
    back_runs l g h p to xs s (suc n) at begin le =
        back_ticks (machine N cs) (conf w p xs s (suc n)) (conf w to xs s (suc n)) (conf w (suc to) xs (add (again l) s) n) (moves cs w u is p (Goto to) xs s (suc n) at.instr) (omega arith) refl (again_moves l h to xs s begin (suc n))

    -- ---- ways out

    pub break_runs : (r : Route) (p nowhere : ℕ) (st : List Operand) (s : State) (n : ℕ) → slice_get u.instrs p ≡ Some (break_exit r nowhere) → RouteFits true r (p + 1) (length st) → going cs w p st s n ≡ leaves cs w r by_break st s n
    break_runs out p nowhere st s n at f = absurd f
    break_runs (straight drops to) p nowhere st s n at f = let a = f.0 in led cs w u is p to _ st (drop drops st) s s n at (omega arith) (dropping_runs drops st (conf w p st s n) (λ ys. jumps to ys (conf w p st s n)) f.1)
    break_runs (through drops to) p nowhere st s n at f = let a = f.0 in led cs w u is p to _ st (of_way by_break ∷ drop drops st) s s n at (omega arith) (dropping_runs drops st (conf w p st s n) (λ ys. jumps to (of_way by_break ∷ ys) (conf w p st s n)) f.1)

    pub continue_runs : (r : Route) (p nowhere : ℕ) (st : List Operand) (s : State) (n : ℕ) → slice_get u.instrs p ≡ Some (continue_exit r nowhere) → RouteFits true r (p + 1) (length st) → going cs w p st s n ≡ leaves cs w r by_continue st s n
    continue_runs out p nowhere st s n at f = absurd f
    continue_runs (straight drops to) p nowhere st s n at f = let a = f.0 in led cs w u is p to _ st (drop drops st) s s n at (omega arith) (dropping_runs drops st (conf w p st s n) (λ ys. jumps to ys (conf w p st s n)) f.1)
    continue_runs (through drops to) p nowhere st s n at f = let a = f.0 in led cs w u is p to _ st (of_way by_continue ∷ drop drops st) s s n at (omega arith) (dropping_runs drops st (conf w p st s n) (λ ys. jumps to (of_way by_continue ∷ ys) (conf w p st s n)) f.1)

    -- the frame gives a value
    lower_give : (c : Configuration Names) (x : PlainValue) (gs : List (Frame Names)) (e : Effects) → callers_rank N cs gs ≤ callers_rank N cs c.callers → Lower cs w u is c (giving N cs x gs c.steps e)
    lower_give c x [] e le = tt
    lower_give c x (f ∷ fs) e le = (omega arith, refl)

    pub gives_runs : (p : ℕ) (i : Instr) (xs : List Operand) (x : PlainValue) (s : State) (n : ℕ) → slice_get u.instrs p ≡ Some i → act N cs u i xs (conf w p xs s n) ≡ giving N cs x w.callers n (effects_of w.before s)
        → going cs w p xs s n ≡ ends_with cs w x s n
    gives_runs p i xs x s n at e =
        goes_on cs w u is (conf w p xs s n) _ (moves cs w u is p i xs s n at ∙ e) (lower_give (conf w p xs s n) x w.callers (effects_of w.before s) (omega arith))

    pub return_runs : (r : Route) (p : ℕ) (x : PlainValue) (st : List Operand) (s : State) (n : ℕ) → slice_get u.instrs p ≡ Some (return_exit r) → RouteFits false r (p + 1) (length st) → going cs w p (of_value x ∷ st) s n ≡ returns cs w r x st s n
    return_runs out p x st s n at f = gives_runs p _ (of_value x ∷ st) x s n at refl
    return_runs (straight drops to) p x st s n at f = gives_runs p _ (of_value x ∷ st) x s n at refl
    return_runs (through drops to) p x st s n at f =
        let a = f.0 in led cs w u is p to _ (of_value x ∷ st) (of_way (by_return x) ∷ drop drops st) s s n at (omega arith) (dropping_runs drops st (conf w p (of_value x ∷ st) s n) (λ ys. jumps to (of_way (by_return x) ∷ ys) (conf w p (of_value x ∷ st) s n)) f.1)

    -- an exception is on its way
    pub escaped_runs : (g : Option Guard) (p : ℕ) (i : Instr) (xs ys : List Operand) (e : PlainRaised) (t : Bool) (s r : State) (n : ℕ) → slice_get u.instrs p ≡ Some i → Guards g (handler_of p u.handlers)
        → Fits g (p + 1) (length ys) → act N cs u i xs (conf w p xs s n) ≡ escapes N cs e t (conf w p ys r n) → going cs w p xs s n ≡ raised cs w g ys e t r n
    escaped_runs g p i xs ys e t s r n at guard fits is_out = by_handler g (handler_of p u.handlers) guard fits found
      where
        found : move N cs (conf w p xs s n) ≡ land N cs (handler_of p u.handlers) (leave N cs e w.code w.callers n (effects_of w.before r)) e t (conf w p ys r n)
        found = moves cs w u is p i xs s n at ∙ (is_out ∙ ap (λ o. land N cs (handler_of p (handlers_in o)) (leave N cs e w.code w.callers n (effects_of w.before r)) e t (conf w p ys r n)) is)

        by_handler : (k : Option Guard) (o : Option Handler) → Guards k o → Fits k (p + 1) (length ys)
            → move N cs (conf w p xs s n) ≡ land N cs o (leave N cs e w.code w.callers n (effects_of w.before r)) e t (conf w p ys r n) → going cs w p xs s n ≡ raised cs w k ys e t r n
        by_handler None None q f m = goes_on cs w u is (conf w p xs s n) _ m (lower_leave cs w u is (conf w p xs s n) e w.code w.callers (effects_of w.before r) (omega arith))
        by_handler None (Some h) q f m = absurd q
        by_handler (Some k) None q f m = absurd q
        by_handler (Some k) (Some h) q f m =
            let here = slice_get_within u.instrs p i at in
            let ahead = f.0 in
            let target = q.0 in
            let long : length (places_of cs w.code) ≡ length u.instrs = ap (λ o. length (places_in o)) is in
            goes (machine N cs) (conf w p xs s n) (conf w h.target (of_way (by_raise e t) ∷ drop (length ys - h.depth) ys) r n) m (omega arith) refl
            ∙ (ap (λ x. going cs w x (of_way (by_raise e t) ∷ drop (length ys - h.depth) ys) r n) q.0
            ∙ ap (λ x. going cs w k.target (of_way (by_raise e t) ∷ drop (length ys - x) ys) r n) q.1)

    -- it is thrown
    pub threw_runs : (g : Option Guard) (p : ℕ) (i : Instr) (xs ys : List Operand) (e : PlainRaised) (s r : State) (n : ℕ) → slice_get u.instrs p ≡ Some i → Guards g (handler_of p u.handlers)
        → Fits g (p + 1) (length ys) → act N cs u i xs (conf w p xs s n) ≡ throw N cs e (conf w p ys r n) → going cs w p xs s n ≡ raised cs w g ys e true (add (throw_item e.kind) r) n
    threw_runs g p i xs ys e s r n at guard fits h = threw cs w u is g p i xs ys e s r n at guard fits h ∙ thrown_is g ys e r n
