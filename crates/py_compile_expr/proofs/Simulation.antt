-- Instructions of a machine beside computations of the meaning, in one frame.
--     runs_on                        one computation after another
--     led, threw                     an instruction that goes on, and one that throws
--     answered, asks, works          an instruction that answers
use Rattle.std.proofs.Common.{◌≡◌, ℕ, suc, ◌+◌, ◌-◌, ◌<◌, ◌≤◌, List, [], ◌∷◌, length, drop, Option, Some, None, Bool, true, refl, ap, ◌∙◌, arith}
use Rattle.std.specs.Prelude.{slice_get, Ok, Err}
use Rattle.std.proofs.lemmas.Option.{slice_get_within}
use Rattle.cov_event.specs.declared.event.CodeId.{CodeId}
use Rattle.cov_event.specs.declared.event.Event.TheVariants.{Throw}
use Rattle.py_value.specs.Plain.{str_value, bool_value, PlainHeap, PlainRaised}
use Rattle.py_builtins.specs.World.{Names}
use Rattle.py_meaning.specs.Activations.{throw as throw_item}
use Rattle.py_meaning.specs.Computations.{Setting, State, Res, done, cut, M, Ans, bind, add, put, set_heap, give, chain, read, write, on_value, value, ask, worked, work}
use Rattle.py_meaning.specs.Events.{told}
use Rattle.py_meaning.specs.Laws.{IsAtMost, IsSteady}
use Rattle.py_code.specs.declared.instr.Instr.{Instr}
use Rattle.py_code.specs.declared.unit.Handler.{Handler}
use Rattle.py_code.specs.Configurations.{Operand, of_value, of_way, by_raise, Locals, Frame, Effects, Configuration, End, Next}
use Rattle.py_code.specs.Machine.{told as tells, escaped, land, leave, throw, answers, falls, on_heap, act, acts, move, move_in, callers_rank, rank, machine, follows}
use Rattle.py_code.specs.Run.{Goes, Ticks, Ends, go}
use Rattle.py_code.specs.Slots.{by_names}
use Rattle.py_code.specs.Units.{Code, Module, unit_at, places_in, places_of, handlers_in, handler_of, handler_at}
use Rattle.py_code.proofs.Steps.{goes, ticks, ends}
use Rattle.py_compile_expr.specs.Cells.{Guard}
use Rattle.py_compile_expr.specs.Runs.{Spot, effects_of, conf, from, thrown, after, Fits}
use Rattle.py_compile_expr.specs.Stands.{Guards}

pub fits_less : (g : Option Guard) (end last depth : ℕ) → last ≤ end → Fits g end depth → Fits g last depth
fits_less None end last depth le f = tt
fits_less (Some g) end last depth le f = let a = f.0 in (omega arith, f.1)

pub fits_more : (g : Option Guard) (end depth high : ℕ) → depth ≤ high → Fits g end depth → Fits g end high
fits_more None end depth high le f = tt
fits_more (Some g) end depth high le f = let a = f.1 in (f.0, omega arith)

-- what holds of each value that a computation gives
abbrev pub Holds : {A : Type 0} → (A → Type 0) → Res (Ans A) → Type 0
Holds Q (done (Ok a) s n) = Q a
Holds Q (done (Err e) s n) = Unit {0}
Holds Q (cut s) = Unit {0}

abbrev pub Any : {A : Type 0} → A → Type 0
Any a = Unit {0}

pub holds_any : {A : Type 0} (r : Res (Ans A)) → Holds {A = A} Any r
holds_any (done (Ok a) s n) = tt
holds_any (done (Err e) s n) = tt
holds_any (cut s) = tt

pub at_most : {A : Type 0} (m : M A) → IsSteady m → (s : State) (n : ℕ) → IsAtMost n (m s n)
unfolding IsSteady
at_most m h s n = h s n

abbrev pub text_on_top : List ℕ → List Operand → List Operand
text_on_top x st = of_value (str_value x) ∷ st

abbrev pub truth_on_top : Bool → List Operand → List Operand
truth_on_top b st = of_value (bool_value b) ∷ st

module _ (cs : List Module) (w : Spot) where
  abbrev N : Locals Names
  N = by_names cs

  -- one more operand changes nothing of what a handler finds
  pub thrown_over : (g : Option Guard) (end : ℕ) (x : Operand) (st : List Operand) → Fits g end (length st) → (e : PlainRaised) (s : State) (n : ℕ) → thrown cs w g (x ∷ st) e s n ≡ thrown cs w g st e s n
  thrown_over None end x st f e s n = refl
  thrown_over (Some g) end x st f e s n =
      let le = f.1 in
      let count : suc (length st) - g.depth ≡ suc (length st - g.depth) = omega arith in
      ap (λ k. from cs w g.target (of_way (by_raise e true) ∷ drop k (x ∷ st)) (add (throw_item e.kind) s) n) count

  -- one computation after another: the first leaves something on some operands, and the second goes on there
  pub runs_on : {A B : Type 0} (f : A → List Operand → List Operand) (h : B → List Operand → List Operand) (Q : A → Type 0) (g : Option Guard) (mid end : ℕ) (ys st : List Operand)
      (m : M (Ans A)) (k : A → M (Ans B)) (first : End) (s : State) (n : ℕ) → first ≡ after cs w f g mid ys (m s n) → IsAtMost n (m s n) → Holds Q (m s n)
      → ((e : PlainRaised) (t : State) (j : ℕ) → thrown cs w g ys e t j ≡ thrown cs w g st e t j)
      → ((a : A) (t : State) (j : ℕ) → j ≤ n → Q a → from cs w mid (f a ys) t j ≡ after cs w h g end st (k a t j)) → first ≡ after cs w h g end st (value m k s n)
  unfolding value chain give
  runs_on {A} {B} f h Q g mid end ys st m k first s n e le q same next = by_result (m s n) e le q
    where
      by_answer : (a : Ans A) (t : State) (j : ℕ) → first ≡ after cs w f g mid ys (done a t j) → j ≤ n → Holds Q (done a t j) → first ≡ after cs w h g end st (on_value a k t j)
      by_answer (Ok a) t j e less q = e ∙ next a t j less q
      by_answer (Err x) t j e less q = e ∙ same x t j

      by_result : (r : Res (Ans A)) → first ≡ after cs w f g mid ys r → IsAtMost n r → Holds Q r → first ≡ after cs w h g end st (bind r (λ a. on_value a k))
      by_result (done a t j) e less q = by_answer a t j e less q
      by_result (cut t) e less q = e

  module _ (u : Code) (is : unit_at cs w.code ≡ Some u) where
    inside : (p : ℕ) → p < length u.instrs → p < length (places_of cs w.code)
    inside p lt = let long : length (places_of cs w.code) ≡ length u.instrs = ap (λ o. length (places_in o)) is in omega arith

    pub moves : (p : ℕ) (i : Instr) (xs : List Operand) (s : State) (n : ℕ) → slice_get u.instrs p ≡ Some i → move N cs (conf w p xs s n) ≡ act N cs u i xs (conf w p xs s n)
    moves p i xs s n at = ap (λ o. move_in N cs o (conf w p xs s n)) is ∙ ap (λ o. acts N cs u o (conf w p xs s n)) at

    -- it goes on ahead
    pub led : (p to : ℕ) (i : Instr) (xs ys : List Operand) (s t : State) (n : ℕ) → slice_get u.instrs p ≡ Some i → p < to → act N cs u i xs (conf w p xs s n) ≡ Goes (conf w to ys t n)
        → from cs w p xs s n ≡ from cs w to ys t n
    led p to i xs ys s t n at lt e =
        let here = inside p (slice_get_within u.instrs p i at) in goes (machine N cs) (conf w p xs s n) (conf w to ys t n) (moves p i xs s n at ∙ e) (omega arith) refl

    -- a move that lowers the rank, takes a step or ends
    abbrev pub Lower : Configuration Names → Next Names → Type 0
    Lower c (Goes d) = (rank N cs d < rank N cs c) × (c.steps ≡ d.steps)
    Lower c (Ticks d) = c.steps ≡ suc d.steps
    Lower c (Ends r) = Unit {0}

    lower_land : (c : Configuration Names) (o : Option Handler) (out : Next Names) (e : PlainRaised) (f : Frame Names) (gs : List (Frame Names)) (v : Effects)
        → Lower c out → suc (length (places_of cs f.code)) + callers_rank N cs gs ≤ callers_rank N cs c.callers
        → Lower c (land N cs o out e true (record { top = f; callers = gs; steps = c.steps; effects = v }))
    lower_land c None out e f gs v h le = h
    lower_land c (Some k) out e f gs v h le = (omega arith, refl)

    pub lower_leave : (c : Configuration Names) (e : PlainRaised) (k : CodeId) (gs : List (Frame Names)) (v : Effects) → callers_rank N cs gs ≤ callers_rank N cs c.callers → Lower c (leave N cs e k gs c.steps v)
    lower_leave c e k [] v le = tt
    lower_leave c e k (f ∷ gs) v le =
        let x = tells (Throw e.kind) (escaped k v) in
        lower_land c (handler_at cs f.code f.place) (leave N cs e f.code gs c.steps x) e f gs x (lower_leave c e f.code gs x (omega arith)) (omega arith)

    pub goes_on : (c : Configuration Names) (v : Next Names) → move N cs c ≡ v → Lower c v → go (machine N cs) c ≡ follows N cs v
    goes_on c (Goes d) e h = goes (machine N cs) c d e h.0 h.1
    goes_on c (Ticks d) e h = ticks (machine N cs) c d e h
    goes_on c (Ends r) e h = ends (machine N cs) c r e

    -- it throws, in another state
    pub threw : (g : Option Guard) (p : ℕ) (i : Instr) (xs ys : List Operand) (e : PlainRaised) (s r : State) (n : ℕ) → slice_get u.instrs p ≡ Some i → Guards g (handler_of p u.handlers)
        → Fits g (p + 1) (length ys) → act N cs u i xs (conf w p xs s n) ≡ throw N cs e (conf w p ys r n) → from cs w p xs s n ≡ thrown cs w g ys e r n
    unfolding told
    threw g p i xs ys e s r n at guard fits is_throw = by_handler g (handler_of p u.handlers) guard fits found
      where
        t : State
        t = add (throw_item e.kind) r

        found : move N cs (conf w p xs s n) ≡ land N cs (handler_of p u.handlers) (leave N cs e w.code w.callers n (effects_of w.before t)) e true (conf w p ys t n)
        found = moves p i xs s n at ∙ (is_throw ∙ ap (λ o. land N cs (handler_of p (handlers_in o)) (leave N cs e w.code w.callers n (effects_of w.before t)) e true (conf w p ys t n)) is)

        by_handler : (k : Option Guard) (o : Option Handler) → Guards k o → Fits k (p + 1) (length ys)
            → move N cs (conf w p xs s n) ≡ land N cs o (leave N cs e w.code w.callers n (effects_of w.before t)) e true (conf w p ys t n) → from cs w p xs s n ≡ thrown cs w k ys e r n
        by_handler None None q f m = goes_on (conf w p xs s n) _ m (lower_leave (conf w p xs s n) e w.code w.callers (effects_of w.before t) (omega arith))
        by_handler None (Some h) q f m = absurd q
        by_handler (Some k) None q f m = absurd q
        by_handler (Some k) (Some h) q f m =
            let here = inside p (slice_get_within u.instrs p i at) in
            let ahead = f.0 in
            let target = q.0 in
            goes (machine N cs) (conf w p xs s n) (conf w h.target (of_way (by_raise e true) ∷ drop (length ys - h.depth) ys) t n) m (omega arith) refl
            ∙ (ap (λ x. from cs w x (of_way (by_raise e true) ∷ drop (length ys - h.depth) ys) t n) q.0
            ∙ ap (λ x. from cs w k.target (of_way (by_raise e true) ∷ drop (length ys - x) ys) t n) q.1)

    -- ---- an instruction that answers, on operands that stand above these

    pub answered : {A : Type 0} (leaves : A → List Operand → List Operand) (g : Option Guard) (p : ℕ) (i : Instr) (xs st : List Operand) (a : Ans A) (s : State) (n : ℕ) → slice_get u.instrs p ≡ Some i
        → Guards g (handler_of p u.handlers) → Fits g (p + 1) (length st) → act N cs u i xs (conf w p xs s n) ≡ answers N cs a st (conf w p xs s n) (λ v. falls (leaves v st) (conf w p xs s n))
        → from cs w p xs s n ≡ after cs w leaves g (p + 1) st (done a s n)
    answered leaves g p i xs st (Ok v) s n at guard fits e =
        let next : suc p ≡ p + 1 = omega arith in led p (p + 1) i xs (leaves v st) s s n at (omega arith) (e ∙ ap (λ q. Goes (conf w q (leaves v st) s n)) next)
    answered leaves g p i xs st (Err x) s n at guard fits e = threw g p i xs st x s s n at guard fits e

    -- what the setting answers
    pub asks : {A : Type 0} (leaves : A → List Operand → List Operand) (g : Option Guard) (p : ℕ) (i : Instr) (xs st : List Operand) (f : Setting → Ans A) (s : State) (n : ℕ) → slice_get u.instrs p ≡ Some i
        → Guards g (handler_of p u.handlers) → Fits g (p + 1) (length st) → act N cs u i xs (conf w p xs s n) ≡ answers N cs (f s.now) st (conf w p xs s n) (λ v. falls (leaves v st) (conf w p xs s n))
        → from cs w p xs s n ≡ after cs w leaves g (p + 1) st (ask f s n)
    unfolding ask read give
    asks leaves g p i xs st f s n at guard fits e = answered leaves g p i xs st (f s.now) s n at guard fits e

    -- an answer, and another heap
    pub works : {A : Type 0} (leaves : A → List Operand → List Operand) (g : Option Guard) (p : ℕ) (i : Instr) (xs st : List Operand) (f : PlainHeap → Ans (A × PlainHeap)) (s : State) (n : ℕ)
        → slice_get u.instrs p ≡ Some i → Guards g (handler_of p u.handlers) → Fits g (p + 1) (length st)
        → act N cs u i xs (conf w p xs s n) ≡ answers N cs (f s.now.world.heap) st (conf w p xs s n) (λ r. falls (leaves r.0 st) (on_heap r.1 (conf w p xs s n)))
        → from cs w p xs s n ≡ after cs w leaves g (p + 1) st (work f s n)
    unfolding work read write give
    works {A} leaves g p i xs st f s n at guard fits e = by_answer (f s.now.world.heap) e
      where
        by_answer : (r : Ans (A × PlainHeap)) → act N cs u i xs (conf w p xs s n) ≡ answers N cs r st (conf w p xs s n) (λ r. falls (leaves r.0 st) (on_heap r.1 (conf w p xs s n)))
            → from cs w p xs s n ≡ after cs w leaves g (p + 1) st (worked r s n)
        by_answer (Ok r) q =
            let next : suc p ≡ p + 1 = omega arith in
            led p (p + 1) i xs (leaves r.0 st) s (put (set_heap r.1) s) n at (omega arith) (q ∙ ap (λ k. Goes (conf w k (leaves r.0 st) (put (set_heap r.1) s) n)) next)
        by_answer (Err x) q = threw g p i xs st x s s n at guard fits q
