-- Statements never raise the steps that are left, and loops that don't go on turn by turn.
use Rattle.std.proofs.Common.{◌≡◌, ℕ, zero, suc, ◌≤◌, Bool, true, false, Option, Some, None, Ok, Err, refl, sym, ◌∙◌, arith}
use Rattle.py_value.specs.Plain.{PlainValue, kind_value, exc_value, PlainRaised}
use Rattle.py_syntax.specs.Tree.{Text, Expr, Exprs, no_exprs, exprs, Stmts, no_stmts, stmt, suite, OptSuite, no_suite, has_suite, Arms, no_arms, arm, Clauses, no_clauses, clause, Cases, no_cases, case, StmtKind, expr, assign, aug_assign, pass, break, continue, return, raise, assert, global, import, from, if', while, for, try, def, match}
use Rattle.py_builtins.specs.World.{Names}
use Rattle.py_meaning.specs.Activations.{Item, mark, again}
use Rattle.py_meaning.specs.Assignments.{assign_to}
use Rattle.py_meaning.specs.Calls.{Calls}
use Rattle.py_meaning.specs.Computations.{State, Ans, M, cut, step, within}
use Rattle.py_meaning.specs.Expressions.{eval}
use Rattle.py_meaning.specs.Patterns.{Match}
use Rattle.py_meaning.specs.Places.{Scope, Place}
use Rattle.py_meaning.specs.Statements.{Out, normal, breaks, continues, returns, raises, throwing, on_answer, using, next, looped, Loop, if_turn, one_turn, turns, loop, while_header, while_loop, Walked, at_item, for_header, for_loop, raise_value, reraise, failed_assertion, has_clauses, handle, settle, caught_by, handled, in_clause, on_match, guarded, default_list, returned, raised, exec, exec_kind, exec_opt, exec_arms, exec_clauses, exec_finally, exec_cases}
use Rattle.py_meaning.specs.Laws.{IsSteady, AreSteady, SteadyLaw, IsTurning}
use Rattle.py_meaning.proofs.StatementLaws.{turns-zero}
use Rattle.py_meaning.proofs.Steady.{steady-give, steady-stop, steady-chain, steady-step, steady-note, steady-write, steady-within, steady-value, steady-ask, steady-work, steady-if, steady-branch, chain-same}
use Rattle.py_meaning.proofs.SteadyExpressions.{steady-eval, steady-each, steady-assign_to, steady-assign_all, steady-augment, steady-module_of, steady-import_each, steady-take_each}

pub steady-throw : (e : PlainRaised) → IsSteady (throwing e)
steady-throw e = steady-note _ _ (steady-give _)

steady-on_answer : {A : Type 0} (a : Ans A) (h : A → M Out) → ((v : A) → IsSteady (h v)) → IsSteady (on_answer a h)
steady-on_answer (Ok v) h g = g v
steady-on_answer (Err e) h g = steady-throw e

pub steady-using : {A : Type 0} (f : M (Ans A)) (h : A → M Out) → IsSteady f → ((v : A) → IsSteady (h v)) → IsSteady (using f h)
unfolding using
steady-using f h g k = steady-chain f _ g (λ a. steady-on_answer a h k)

steady-next : (o : Out) (f : M Out) → IsSteady f → IsSteady (next o f)
steady-next normal f h = h
steady-next _ f h = steady-give _

-- ---- loops

steady-looped : (o : Out) (f : M Out) → IsSteady f → IsSteady (looped o f)
steady-looped normal f h = h
steady-looped continues f h = h
steady-looped _ f h = steady-give _

steady-if_turn : {T : Type 0} (x : Option T) (o : M Out) (f : T → M Out) → IsSteady o → ((t : T) → IsSteady (f t)) → IsSteady (if_turn x o f)
steady-if_turn None o f h g = h
steady-if_turn (Some t) o f h g = g t

-- a loop whose parts never raise the steps
record Steady {T : Type 0} (x : Loop T) : Type 0 where
  header : (b : Option T) → IsSteady (x.header b)
  turn : (t : T) → IsSteady (x.turn t)
  orelse : IsSteady x.orelse

steady-turns : {T : Type 0} (x : Loop T) → Steady x → (k : ℕ) (i : Item) (b : Option T) → IsSteady (turns x k i b)
unfolding turns
steady-turns x h zero i b = steady-stop Out
steady-turns x h (suc k) i b =
    steady-step _ _ (steady-using _ _ (h.header b) (λ found. steady-if_turn found _ _ h.orelse (λ t. steady-chain _ _ (h.turn t) (λ o. steady-looped o _ (steady-turns x h k (again x.line) (Some t))))))

steady-loop : {T : Type 0} (x : Loop T) → Steady x → (i : Item) (b : Option T) → IsSteady (loop x i b)
unfolding loop
steady-loop x h i b = steady-within _ (λ n. steady-turns x h n i b)

on-answer-same : {A : Type 0} (a : Ans A) (f g : A → M Out) (s : State) (n : ℕ) → ((v : A) → f v s n ≡ g v s n) → on_answer a f s n ≡ on_answer a g s n
on-answer-same (Ok v) f g s n h = h v
on-answer-same (Err e) f g s n h = refl

if-turn-same : {T : Type 0} (x : Option T) (o : M Out) (f g : T → M Out) (s : State) (n : ℕ) → ((t : T) → f t s n ≡ g t s n) → if_turn x o f s n ≡ if_turn x o g s n
if-turn-same None o f g s n h = refl
if-turn-same (Some t) o f g s n h = h t

looped-same : (o : Out) (f g : M Out) (s : State) (n : ℕ) → f s n ≡ g s n → looped o f s n ≡ looped o g s n
looped-same normal f g s n h = h
looped-same continues f g s n h = h
looped-same breaks f g s n h = refl
looped-same (returns v) f g s n h = refl
looped-same (raises e t) f g s n h = refl

-- a turn with what follows it, which is met with fewer steps
turn-same : {T : Type 0} (x : Loop T) → Steady x → (i : Item) (b : Option T) (f g : T → M Out) (s : State) (n : ℕ) → ((t : T) (u : State) (l : ℕ) → l ≤ n → f t u l ≡ g t u l) → one_turn x i b f s (suc n) ≡ one_turn x i b g s (suc n)
unfolding step using
turn-same x h i b f g s n same =
    chain-same (x.header b) _ _ _ n (h.header b) (λ a u l le. on-answer-same a _ _ u l (λ found. if-turn-same found x.orelse _ _ u l (λ t.
    chain-same (x.turn t) _ _ u l (h.turn t) (λ o w k lk. looped-same o (f t) (g t) w k (same t w k (omega arith))))))

no-steps : {T : Type 0} (x : Loop T) (i : Item) (b : Option T) (f : T → M Out) (s : State) → one_turn x i b f s 0 ≡ cut s
unfolding step
no-steps x i b f s = refl

-- enough turns are as many as there are steps
enough-turns : {T : Type 0} (x : Loop T) → Steady x → (k j i : ℕ) (e : Item) (b : Option T) (s : State) (n : ℕ) → n ≤ k → k ≤ j → k ≤ i → turns x j e b s n ≡ turns x i e b s n
unfolding turns
enough-turns x h k j i e b s zero nk kj ki = turns-zero x j e b s ∙ sym (turns-zero x i e b s)
enough-turns x h zero j i e b s (suc n) nk kj ki = absurd (omega arith)
enough-turns x h (suc k) zero i e b s (suc n) nk kj ki = absurd (omega arith)
enough-turns x h (suc k) (suc j) zero e b s (suc n) nk kj ki = absurd (omega arith)
enough-turns x h (suc k) (suc j) (suc i) e b s (suc n) nk kj ki =
    turn-same x h e b _ _ s n (λ t u l le. enough-turns x h k j i (again x.line) (Some t) u l (omega arith) (omega arith) (omega arith))

turning : {T : Type 0} (x : Loop T) → Steady x → IsTurning x
unfolding loop within turns
turning x h i b s zero = turns-zero x 0 i b s ∙ sym (no-steps x i b _ s)
turning x h i b s (suc n) = turn-same x h i b _ _ s n (λ t u l le. enough-turns x h l n l (again x.line) (Some t) u l (omega arith) (omega arith) (omega arith))

steady-while_header : (f : M (Ans PlainValue)) → IsSteady f → IsSteady (while_header f)
steady-while_header f h = steady-value _ _ h (λ v. steady-branch v _ _ (steady-give _) (steady-give _))

steady-at_item : (v : PlainValue) (n i : ℕ) → IsSteady (at_item v n i)
steady-at_item v n i = steady-value _ _ (steady-ask _) (λ x. steady-give _)

steady-for_header : (f : M (Ans PlainValue)) → IsSteady f → (b : Option Walked) → IsSteady (for_header f b)
steady-for_header f h None = steady-value _ _ h (λ v. steady-value _ _ (steady-ask _) (λ n. steady-at_item v n 0))
steady-for_header f h (Some t) = steady-at_item t.value t.length t.place

while-parts : (l : ℕ) (test : M (Ans PlainValue)) (body orelse : M Out) → IsSteady test → IsSteady body → IsSteady orelse → Steady (while_loop l test body orelse)
while-parts l test body orelse h g k = record { header = λ b. steady-while_header test h; turn = λ t. g; orelse = k }

for-parts : (l : ℕ) (over : M (Ans PlainValue)) (to : PlainValue → M (Ans (Unit {0}))) (body orelse : M Out) → IsSteady over → ((v : PlainValue) → IsSteady (to v)) → IsSteady body → IsSteady orelse → Steady (for_loop l over to body orelse)
for-parts l over to body orelse h b g k = record { header = steady-for_header over h; turn = λ t. steady-using _ _ (b t.item) (λ u. g); orelse = k }

-- ---- exceptions, cases and functions

steady-raise_value : (v : PlainValue) → IsSteady (raise_value v)
steady-raise_value (exc_value kind a) = steady-give _
steady-raise_value (kind_value kind) = steady-give _
steady-raise_value _ = steady-throw _

steady-reraise : (e : Option PlainRaised) → IsSteady (reraise e)
steady-reraise (Some e) = steady-give _
steady-reraise None = steady-throw _

steady-failed : (c : Calls) → AreSteady c → (p : Place) (why : Option Expr) → IsSteady (failed_assertion c p why)
steady-failed c h p None = steady-throw _
steady-failed c h p (Some e) = steady-using _ _ (steady-value _ _ (steady-eval c h p e) (λ v. steady-give _)) (λ x. steady-throw x)

pub steady-handle : (has : Bool) (o : Out) (h : PlainRaised → M Out) (f : M Out) → ((e : PlainRaised) → IsSteady (h e)) → IsSteady f → IsSteady (handle has o h f)
steady-handle has normal h f g k = k
steady-handle true (raises e t) h f g k = g e
steady-handle false (raises e t) h f g k = steady-give _
steady-handle has _ h f g k = steady-give _

pub steady-settle : (o q : Out) → IsSteady (settle o q)
steady-settle normal (raises e true) = steady-throw e
steady-settle _ q = steady-give _

pub steady-caught : (c : Calls) → AreSteady c → (p : Place) (kind : Option Expr) (e : PlainRaised) → IsSteady (caught_by c p kind e)
steady-caught c h p None e = steady-give _
steady-caught c h p (Some t) e = steady-value _ _ (steady-eval c h p t) (λ v. steady-give _)

pub steady-handled : (p : Scope) (x : Option Text) (e : PlainRaised) (f : M Out) → IsSteady f → IsSteady (handled p x e f)
steady-handled p x e f h = steady-write _ _ (steady-chain _ _ h (λ o. steady-write _ _ (steady-give o)))

steady-on_match : (found : Match) (f : Names → M Out) (m : M Out) → ((names : Names) → IsSteady (f names)) → IsSteady m → IsSteady (on_match found f m)
steady-on_match None f m h g = g
steady-on_match (Some names) f m h g = h names

steady-guarded : (c : Calls) → AreSteady c → (p : Place) (guard : Option Expr) (b r : M Out) → IsSteady b → IsSteady r → IsSteady (guarded c p guard b r)
steady-guarded c h p None b r g k = g
steady-guarded c h p (Some e) b r g k = steady-using _ _ (steady-eval c h p e) (λ v. steady-branch v _ _ g k)

steady-defaults : (c : Calls) → AreSteady c → (p : Place) (es : Exprs) → IsSteady (default_list c p es)
steady-defaults c h p no_exprs = steady-give _
steady-defaults c h p (exprs e es) = steady-value _ _ (steady-each c h p (exprs e es)) (λ vs. steady-value _ _ (steady-work _) (λ a. steady-give _))

steady-returned : (c : Calls) → AreSteady c → (p : Place) (e : Option Expr) → IsSteady (returned c p e)
steady-returned c h p None = steady-give _
steady-returned c h p (Some e) = steady-using _ _ (steady-eval c h p e) (λ v. steady-give _)

steady-raised : (c : Calls) → AreSteady c → (p : Place) (e : Option Expr) → IsSteady (raised c p e)
steady-raised c h p None = steady-reraise p.handled
steady-raised c h p (Some e) = steady-using _ _ (steady-eval c h p e) steady-raise_value

-- ---- statements

mutual
  unfolding exec exec_kind exec_opt exec_arms exec_clauses exec_finally exec_cases

  pub steady-exec : (c : Calls) → AreSteady c → (p : Place) (b : Stmts) → IsSteady (exec c p b)
  steady-exec c h p no_stmts = steady-give _
  steady-exec c h p (stmt f l x e rest) = steady-chain _ _ (steady-kind c h p f x) (λ o. steady-next o _ (steady-exec c h p rest))

  pub steady-kind : (c : Calls) → AreSteady c → (p : Place) (l : ℕ) (x : StmtKind) → IsSteady (exec_kind c p l x)
  steady-kind c h p l (expr e) = steady-step _ _ (steady-using _ _ (steady-eval c h p e) (λ v. steady-give _))
  steady-kind c h p l (assign ts e) = steady-step _ _ (steady-using _ _ (steady-value _ _ (steady-eval c h p e) (λ v. steady-assign_all c h p ts v)) (λ u. steady-give _))
  steady-kind c h p l (aug_assign t op e) = steady-step _ _ (steady-using _ _ (steady-augment c h p t op e) (λ u. steady-give _))
  steady-kind c h p l pass = steady-step _ _ (steady-give _)
  steady-kind c h p l break = steady-step _ _ (steady-give _)
  steady-kind c h p l continue = steady-step _ _ (steady-give _)
  steady-kind c h p l (return e) = steady-step _ _ (steady-returned c h p e)
  steady-kind c h p l (raise e) = steady-step _ _ (steady-raised c h p e)
  steady-kind c h p l (assert t why) = steady-step _ _ (steady-using _ _ (steady-eval c h p t) (λ v. steady-branch v _ _ (steady-give _) (steady-failed c h p why)))
  steady-kind c h p l (global xs) = steady-give _
  steady-kind c h p l (import names) = steady-step _ _ (steady-using _ _ (steady-import_each c h p names) (λ u. steady-give _))
  steady-kind c h p l (from m names) = steady-step _ _ (steady-using _ _ (steady-value _ _ (steady-module_of c h p.modules m) (λ v. steady-take_each p m v names)) (λ u. steady-give _))
  steady-kind c h p l (if' xs o) = steady-arms c h p xs _ (steady-opt c h p o)
  steady-kind c h p l (while t (suite f g inline b) o) = steady-loop _ (while-parts l _ _ _ (steady-eval c h p t) (steady-exec c h p b) (steady-opt c h p o)) (mark l) None
  steady-kind c h p l (for t e (suite f g inline b) o) =
      steady-loop _ (for-parts l (eval c p e) (assign_to c p t) (exec c p b) (exec_opt c p o) (steady-eval c h p e) (λ v. steady-assign_to c h p t v) (steady-exec c h p b) (steady-opt c h p o)) (mark l) None
  steady-kind c h p l (try (suite f g inline b) cs o fin) =
      steady-step _ _ (steady-chain _ _
      (steady-chain _ _ (steady-exec c h p b) (λ q. steady-handle (has_clauses cs) q _ _ (λ e. steady-clauses c h p cs e) (steady-opt c h p o)))
      (λ q. steady-finally c h p fin q))
  steady-kind c h p l (def x ps ds comma b) = steady-step _ _ (steady-using _ _ (steady-defaults c h p ds) (λ a. steady-write _ _ (steady-give _)))
  steady-kind c h p l (match e header cs) = steady-step _ _ (steady-using _ _ (steady-eval c h p e) (λ v. steady-cases c h p cs v))

  pub steady-opt : (c : Calls) → AreSteady c → (p : Place) (b : OptSuite) → IsSteady (exec_opt c p b)
  steady-opt c h p no_suite = steady-give _
  steady-opt c h p (has_suite (suite f l inline b)) = steady-exec c h p b

  pub steady-arms : (c : Calls) → AreSteady c → (p : Place) (xs : Arms) (o : M Out) → IsSteady o → IsSteady (exec_arms c p xs o)
  steady-arms c h p no_arms o k = k
  steady-arms c h p (arm t (suite f l inline b) rest) o k =
      steady-step _ _ (steady-using _ _ (steady-eval c h p t) (λ v. steady-branch v _ _ (steady-exec c h p b) (steady-arms c h p rest o k)))

  pub steady-clauses : (c : Calls) → AreSteady c → (p : Place) (cs : Clauses) (e : PlainRaised) → IsSteady (exec_clauses c p cs e)
  steady-clauses c h p no_clauses e = steady-throw e
  steady-clauses c h p (clause t x (suite f l inline b) rest) e =
      steady-step _ _ (steady-using _ _ (steady-caught c h p t e) (λ yes. steady-if yes _ _
      (steady-handled p.scope x e (exec c (in_clause p e) b) (steady-exec c h (in_clause p e) b))
      (steady-clauses c h p rest e)))

  pub steady-finally : (c : Calls) → AreSteady c → (p : Place) (b : OptSuite) (o : Out) → IsSteady (exec_finally c p b o)
  steady-finally c h p no_suite o = steady-give _
  steady-finally c h p (has_suite (suite f l inline b)) o = steady-chain _ _ (steady-exec c h p b) (λ q. steady-settle q o)

  pub steady-cases : (c : Calls) → AreSteady c → (p : Place) (cs : Cases) (v : PlainValue) → IsSteady (exec_cases c p cs v)
  steady-cases c h p no_cases v = steady-give _
  steady-cases c h p (case q g (suite f l inline b) rest) v =
      steady-step _ _ (steady-using _ _ (steady-ask _) (λ found. steady-on_match found _ _
      (λ names. steady-write _ _ (steady-guarded c h p g _ _ (steady-exec c h p b) (steady-cases c h p rest v)))
      (steady-cases c h p rest v)))

pub steady_law : SteadyLaw
steady_law = steady-exec

pub whiles_turn : (c : Calls) → AreSteady c → (p : Place) (l : ℕ) (test : Expr) (body : Stmts) (orelse : OptSuite) → IsTurning (while_loop l (eval c p test) (exec c p body) (exec_opt c p orelse))
whiles_turn c h p l test body orelse = turning _ (while-parts l _ _ _ (steady-eval c h p test) (steady-exec c h p body) (steady-opt c h p orelse))

pub fors_turn : (c : Calls) → AreSteady c → (p : Place) (l : ℕ) (target over : Expr) (body : Stmts) (orelse : OptSuite) → IsTurning (for_loop l (eval c p over) (assign_to c p target) (exec c p body) (exec_opt c p orelse))
fors_turn c h p l target over body orelse =
    turning _ (for-parts l (eval c p over) (assign_to c p target) (exec c p body) (exec_opt c p orelse) (steady-eval c h p over) (λ v. steady-assign_to c h p target v) (steady-exec c h p body) (steady-opt c h p orelse))
