-- The law of statements form by form, and choices by the truth of a value.
--     StmtsRun, OptRuns, ArmsRun ..      the law of parts of statements
--     marked_uses                        a line is marked, and an answer is used
--     forks, forks_back                  jumps by the truth of a value
use Rattle.std.proofs.Common.{◌≡◌, ℕ, ◌+◌, ◌<◌, ◌≤◌, List, ◌∷◌, Option, Some, Bool, true, false, refl, sym, ap, ◌∙◌, arith}
use Rattle.std.specs.Prelude.{slice_get, if◌then◌else◌, Ok, Err}
use Rattle.py_value.specs.Operators.{truth_of}
use Rattle.py_value.specs.Plain.{PlainValue, PlainRaised}
use Rattle.py_syntax.specs.Functions.{Function, functions}
use Rattle.py_syntax.specs.Tree.{Stmts, OptSuite, Arms, Clauses, Cases, StmtKind}
use Rattle.py_meaning.specs.Activations.{mark}
use Rattle.py_meaning.specs.Calls.{Calls}
use Rattle.py_meaning.specs.Computations.{State, Res, done, cut, M, Ans, bind, give, chain, step, note, read, on_value, value, branch}
use Rattle.py_meaning.specs.Expressions.{gives}
use Rattle.py_meaning.specs.Laws.{IsSteady}
use Rattle.py_meaning.specs.Modules.{LoadedModule, body_of}
use Rattle.py_meaning.specs.Statements.{Out, on_answer, using, exec, exec_kind, exec_opt, exec_arms, exec_clauses, exec_cases}
use Rattle.py_code.specs.declared.instr.Instr.{Instr}
use Rattle.py_code.specs.Configurations.{Operand, of_value, of_way, by_raise, Locals}
use Rattle.py_code.specs.Machine.{act, falls, jumps}
use Rattle.py_code.specs.Slots.{by_names}
use Rattle.py_code.specs.Units.{Code, Module, unit_at}
use Rattle.py_builtins.specs.World.{Names}
use Rattle.py_compile_expr.specs.Cells.{cell, marks}
use Rattle.py_compile_expr.specs.Runs.{Spot, conf, from as going, after, part_of}
use Rattle.py_compile_expr.specs.Stands.{StandsAt, HasAt}
use Rattle.py_compile_expr.proofs.Simulation.{at_most, led}
use Rattle.py_compile.specs.StatementRuns.{after_out, FitsWays}
use Rattle.py_compile.specs.Statements.{stmts_size, kind_size, opt_size, arms_size, clauses_size, cases_size, stmts_code, kind_code, opt_code, arms_code, clauses_code, cases_code}
use Rattle.py_compile.specs.Ways.{Ways, in_hand}
use Rattle.py_compile.proofs.Flow.{uses, mark_runs, led_on}

module _ (cs : List Module) (ms : List LoadedModule) (c : Calls) (k : ℕ) (w : Spot) (u : Code) where
  abbrev pub here : List Function
  here = functions (body_of ms w.code.module)

  abbrev pub StmtsRun : Option PlainRaised → Stmts → Type 0
  StmtsRun h ss = (v : Ways) (p : ℕ) → HasAt u p (stmts_code here v p ss) → (st : List Operand) → FitsWays v h (p + stmts_size (in_hand v) ss) st → (s : State) (n : ℕ) → n < k
      → going cs w p st s n ≡ after_out cs w v (p + stmts_size (in_hand v) ss) st (exec c (part_of ms u w.code h) ss s n)

  abbrev pub KindRuns : Option PlainRaised → StmtKind → Type 0
  KindRuns h kind = (l : ℕ) (v : Ways) (p : ℕ) → HasAt u p (kind_code here v p l kind) → (st : List Operand) → FitsWays v h (p + kind_size (in_hand v) kind) st → (s : State) (n : ℕ) → n < k
      → going cs w p st s n ≡ after_out cs w v (p + kind_size (in_hand v) kind) st (exec_kind c (part_of ms u w.code h) l kind s n)

  abbrev pub OptRuns : Option PlainRaised → OptSuite → Type 0
  OptRuns h o = (v : Ways) (p : ℕ) → HasAt u p (opt_code here v p o) → (st : List Operand) → FitsWays v h (p + opt_size (in_hand v) o) st → (s : State) (n : ℕ) → n < k
      → going cs w p st s n ≡ after_out cs w v (p + opt_size (in_hand v) o) st (exec_opt c (part_of ms u w.code h) o s n)

  -- the arms of an `if`, where what stands after them is an `else`
  abbrev pub ArmsRun : Option PlainRaised → Arms → Type 0
  ArmsRun h arms = (v : Ways) (p end : ℕ) → HasAt u p (arms_code here v p end arms) → p + arms_size (in_hand v) arms ≤ end → (st : List Operand) → FitsWays v h end st → (orelse : M Out)
      → ((t : State) (j : ℕ) → j < k → going cs w (p + arms_size (in_hand v) arms) st t j ≡ after_out cs w v end st (orelse t j)) → (s : State) (n : ℕ) → n < k
      → going cs w p st s n ≡ after_out cs w v end st (exec_arms c (part_of ms u w.code h) arms orelse s n)

  -- the clauses of a `try`, with an exception on top
  abbrev pub ClausesRun : Option PlainRaised → Clauses → Type 0
  ClausesRun h xs = (v : Ways) (p end : ℕ) → HasAt u p (clauses_code here v p end xs) → p + clauses_size (in_hand v) xs ≤ end → (st : List Operand) → FitsWays v h end st
      → (e : PlainRaised) (b : Bool) (s : State) (n : ℕ) → n < k
      → going cs w p (of_way (by_raise e b) ∷ st) s n ≡ after_out cs w v end st (exec_clauses c (part_of ms u w.code h) xs e s n)

  -- the cases of a `match`, with the subject on top
  abbrev pub CasesRun : Option PlainRaised → Cases → Type 0
  CasesRun h xs = (v : Ways) (p end : ℕ) → HasAt u p (cases_code here v p end xs) → p + cases_size (in_hand v) xs ≡ end → (st : List Operand) → FitsWays v h end st
      → (x : PlainValue) (s : State) (n : ℕ) → n < k
      → going cs w p (of_value x ∷ st) s n ≡ after_out cs w v end st (exec_cases c (part_of ms u w.code h) xs x s n)

-- an answer by an answer
pub using_value : {A B : Type 0} (m : M (Ans A)) (f : A → M (Ans B)) (g : B → M Out) (s : State) (n : ℕ) → using (value m f) g s n ≡ using m (λ a. using (f a) g) s n
unfolding using value chain note give
using_value {A} {B} m f g s n = by_result (m s n)
  where
    by_answer : (a : Ans A) (t : State) (j : ℕ) → bind (on_value a f t j) (λ b. on_answer b g) ≡ on_answer a (λ x y z. bind (f x y z) (λ b. on_answer b g)) t j
    by_answer (Ok a) t j = refl
    by_answer (Err e) t j = refl

    by_result : (r : Res (Ans A)) → bind (bind r (λ a. on_value a f)) (λ b. on_answer b g) ≡ bind r (λ a. on_answer a (λ x y z. bind (f x y z) (λ b. on_answer b g)))
    by_result (done a t j) = by_answer a t j
    by_result (cut t) = refl

pub using_gives : {A : Type 0} (a : A) (g : A → M Out) (s : State) (n : ℕ) → using (gives a) g s n ≡ g a s n
unfolding using chain give
using_gives a g s n = refl

pub using_branch : {A : Type 0} (x : PlainValue) (a b : A) (g : A → M Out) (s : State) (n : ℕ) → using (branch x (gives a) (gives b)) g s n ≡ branch x (g a) (g b) s n
unfolding using chain branch read give
using_branch {A} x a b g s n = by_case (truth_of x s.now.world.heap)
  where
    by_case : (t : Bool) → bind ((if t then gives a else gives b) s n) (λ y. on_answer y g) ≡ (if t then g a else g b) s n
    by_case true = refl
    by_case false = refl

pub branch_is : {A : Type 0} (x : PlainValue) (m l : M A) (s : State) (n : ℕ) → branch x m l s n ≡ (if truth_of x s.now.world.heap then m s n else l s n)
unfolding branch read
branch_is x m l s n = by_case (truth_of x s.now.world.heap)
  where
    by_case : (b : Bool) → (if b then m else l) s n ≡ (if b then m s n else l s n)
    by_case true = refl
    by_case false = refl

module _ (cs : List Module) (w : Spot) (u : Code) (is : unit_at cs w.code ≡ Some u) where
  abbrev N : Locals Names
  N = by_names cs

  -- a line is marked, and an answer is used
  pub marked_uses : {A : Type 0} (l : ℕ) (f : A → List Operand → List Operand) (v : Ways) (p mid end : ℕ) (st : List Operand) (m : M (Ans A)) (g : A → M Out) (s : State) (n : ℕ) → StandsAt u p (cell v.guard (marks l)) → IsSteady m
      → ((t : State) (j : ℕ) → j < n → going cs w (p + 1) st t j ≡ after cs w f v.guard mid st (m t j))
      → ((a : A) (t : State) (j : ℕ) → j < n → going cs w mid (f a st) t j ≡ after_out cs w v end st (g a t j)) → going cs w p st s n ≡ after_out cs w v end st (step (mark l) (using m g) s n)
  marked_uses l f v p mid end st m g s n at steady first next =
      mark_runs cs w u is l v.guard v p end st st (using m g) s n at (λ t j lt.
      uses cs w f v mid end st st m g (going cs w (p + 1) st t j) t j (first t j lt) (at_most m steady t j) (λ e a b. refl) (λ a t2 j2 le. next a t2 j2 (omega arith)))

  -- to the next place with some operands where a value is true, or else to another with others
  pub forks : (x : PlainValue) (i : Instr) (v : Ways) (p to end : ℕ) (xs ys zs st : List Operand) (m l : M Out) (s : State) (n : ℕ) → slice_get u.instrs p ≡ Some i → p < to
      → act N cs u i xs (conf w p xs s n) ≡ (if truth_of x s.now.world.heap then falls ys (conf w p xs s n) else jumps to zs (conf w p xs s n))
      → going cs w (p + 1) ys s n ≡ after_out cs w v end st (m s n) → going cs w to zs s n ≡ after_out cs w v end st (l s n) → going cs w p xs s n ≡ after_out cs w v end st (branch x m l s n)
  forks x i v p to end xs ys zs st m l s n at lt e hy hn = by_case (truth_of x s.now.world.heap) e ∙ ap (after_out cs w v end st) (sym (branch_is x m l s n))
    where
      by_case : (b : Bool) → act N cs u i xs (conf w p xs s n) ≡ (if b then falls ys (conf w p xs s n) else jumps to zs (conf w p xs s n)) → going cs w p xs s n ≡ after_out cs w v end st (if b then m s n else l s n)
      by_case true q = led_on cs w u is p i xs ys s s n at q ∙ hy
      by_case false q = led cs w u is p to i xs zs s s n at lt q ∙ hn

  -- the other way round
  pub forks_back : (x : PlainValue) (i : Instr) (v : Ways) (p to end : ℕ) (xs ys zs st : List Operand) (m l : M Out) (s : State) (n : ℕ) → slice_get u.instrs p ≡ Some i → p < to
      → act N cs u i xs (conf w p xs s n) ≡ (if truth_of x s.now.world.heap then jumps to zs (conf w p xs s n) else falls ys (conf w p xs s n))
      → going cs w to zs s n ≡ after_out cs w v end st (m s n) → going cs w (p + 1) ys s n ≡ after_out cs w v end st (l s n) → going cs w p xs s n ≡ after_out cs w v end st (branch x m l s n)
  forks_back x i v p to end xs ys zs st m l s n at lt e hy hn = by_case (truth_of x s.now.world.heap) e ∙ ap (after_out cs w v end st) (sym (branch_is x m l s n))
    where
      by_case : (b : Bool) → act N cs u i xs (conf w p xs s n) ≡ (if b then jumps to zs (conf w p xs s n) else falls ys (conf w p xs s n)) → going cs w p xs s n ≡ after_out cs w v end st (if b then m s n else l s n)
      by_case true q = led cs w u is p to i xs zs s s n at lt q ∙ hy
      by_case false q = led_on cs w u is p i xs ys s s n at q ∙ hn
