-- More steps change nothing of what a statement does.
use Rattle.std.proofs.Common.{◌≡◌, ℕ, zero, suc, ◌≤◌, Bool, true, false, Option, Some, None, Ok, Err, refl, subst, arith}
use Rattle.py_value.specs.Plain.{PlainValue, kind_value, exc_value, PlainRaised}
use Rattle.py_syntax.specs.Tree.{Text, Expr, Exprs, no_exprs, exprs, Stmts, no_stmts, stmt, suite, OptSuite, no_suite, has_suite, Arms, no_arms, arm, Clauses, no_clauses, clause, Cases, no_cases, case, StmtKind, expr, assign, aug_assign, pass, break, continue, return, raise, assert, global, import, from, if', while, for, try, def, match}
use Rattle.py_builtins.specs.World.{Names}
use Rattle.py_meaning.specs.Activations.{Item, mark, again}
use Rattle.py_meaning.specs.Calls.{Calls}
use Rattle.py_meaning.specs.Computations.{State, Ans, M, cut, step, stop}
use Rattle.py_meaning.specs.Patterns.{Match}
use Rattle.py_meaning.specs.Places.{Scope, Place}
use Rattle.py_meaning.specs.Statements.{Out, normal, continues, raises, throwing, on_answer, using, next, looped, turns, Loop, if_turn, loop, while_header, Walked, at_item, for_header, raise_value, reraise, failed_assertion, has_clauses, handle, settle, caught_by, handled, in_clause, on_match, guarded, default_list, returned, raised, exec, exec_kind, exec_opt, exec_arms, exec_clauses, exec_finally, exec_cases}
use Rattle.py_meaning.proofs.Budget.{Agrees, agree-give, agree-chain, agree-down, agree-note, agree-step, agree-mark, agree-write, agree-within, agree-zero, agree-value, agree-ask, agree-work, agree-if, agree-branch}
use Rattle.py_meaning.proofs.ExpressionLaws.{AgreeCalls, agree-eval, agree-each, agree-assign_to, agree-assign_all, agree-augment, agree-module_of, agree-import_each, agree-take_each}

agree-throw : (k : ℕ) (e : PlainRaised) → Agrees k (throwing e) (throwing e)
agree-throw k e = agree-note k _ _ _ (agree-give k _)

agree-on_answer : {A : Type 0} (k : ℕ) (a : Ans A) (h j : A → M Out) → ((v : A) → Agrees k (h v) (j v)) → Agrees k (on_answer a h) (on_answer a j)
agree-on_answer k (Ok v) h j hj = hj v
agree-on_answer k (Err e) h j hj = agree-throw k e

agree-using : {A : Type 0} (k : ℕ) (f g : M (Ans A)) (h j : A → M Out) → Agrees k f g → ((v : A) → Agrees k (h v) (j v)) → Agrees k (using f h) (using g j)
unfolding using
agree-using k f g h j fg hj = agree-chain k f g _ _ fg (λ a. agree-on_answer k a h j hj)

agree-next : (k : ℕ) (o : Out) (f g : M Out) → Agrees k f g → Agrees k (next o f) (next o g)
agree-next k normal f g h = h
agree-next k _ f g h = agree-give k _

-- ---- loops

agree-looped : (k : ℕ) (o : Out) (f g : M Out) → Agrees k f g → Agrees k (looped o f) (looped o g)
agree-looped k normal f g h = h
agree-looped k continues f g h = h
agree-looped k _ f g h = agree-give k _

agree-if_turn : {T : Type 0} (k : ℕ) (x : Option T) (o o' : M Out) (f g : T → M Out) → Agrees k o o' → ((t : T) → Agrees k (f t) (g t)) → Agrees k (if_turn x o f) (if_turn x o' g)
agree-if_turn k None o o' f g oo fg = oo
agree-if_turn k (Some t) o o' f g oo fg = fg t

pub turns-zero : {T : Type 0} (x : Loop T) (j : ℕ) (i : Item) (b : Option T) (s : State) → turns x j i b s 0 ≡ cut s
unfolding turns stop step
turns-zero x zero i b s = refl
turns-zero x (suc j) i b s = refl

-- two loops that are the same for at most k steps
record Loops {T : Type 0} (k : ℕ) (x y : Loop T) : Type 0 where
  line : x.line ≡ y.line
  header : (b : Option T) → Agrees k (x.header b) (y.header b)
  turn : (t : T) → Agrees k (x.turn t) (y.turn t)
  orelse : Agrees k x.orelse y.orelse

loops-down : {T : Type 0} (d k : ℕ) (x y : Loop T) → d ≤ k → Loops k x y → Loops d x y
loops-down d k x y dk h = record { line = h.line; header = λ b. agree-down d k _ _ dk (h.header b); turn = λ t. agree-down d k _ _ dk (h.turn t); orelse = agree-down d k _ _ dk h.orelse }

-- with enough turns
agree-turns : {T : Type 0} (k j i : ℕ) (x y : Loop T) (e : Item) (b : Option T) → k ≤ j → k ≤ i → Loops k x y → Agrees k (turns x j e b) (turns y i e b)
unfolding turns
agree-turns zero j i x y e b kj ki h = agree-zero _ _ (turns-zero x j e b) (turns-zero y i e b)
agree-turns (suc k) zero i x y e b kj ki h = absurd (omega arith)
agree-turns (suc k) (suc j) zero x y e b kj ki h = absurd (omega arith)
agree-turns {T} (suc k) (suc j) (suc i) x y e b kj ki h =
    let l : Loops k x y = loops-down k (suc k) x y (omega arith) h in
    agree-step k e _ _ (agree-using k _ _ _ _ (l.header b) (λ found. agree-if_turn k found _ _ _ _ l.orelse (λ t.
    agree-chain k _ _ _ _ (l.turn t) (λ q. agree-looped k q _ _ (subst (λ n. Agrees k (turns x j (again x.line) (Some t)) (turns y i (again n) (Some t))) l.line (agree-turns k j i x y (again x.line) (Some t) (omega arith) (omega arith) l))))))

-- a family of loops, each as good as the others for at most k steps
agree-loop : {T : Type 0} (k : ℕ) (x y : Loop T) (e : Item) (b : Option T) → Loops k x x → Loops k y y → Loops k x y → Agrees k (loop x e b) (loop y e b)
unfolding loop
agree-loop k x y e b xx yy xy =
    agree-within k _ _
    (λ j i d dj di dk. agree-turns d j i x x e b dj di (loops-down d k x x dk xx))
    (λ j i d dj di dk. agree-turns d j i y y e b dj di (loops-down d k y y dk yy))
    (λ j i d dj di dk. agree-turns d j i x y e b dj di (loops-down d k x y dk xy))

agree-while_header : (k : ℕ) (f g : M (Ans PlainValue)) → Agrees k f g → Agrees k (while_header f) (while_header g)
agree-while_header k f g fg = agree-value k _ _ _ _ fg (λ v. agree-branch k v _ _ _ _ (agree-give k _) (agree-give k _))

agree-at_item : (k : ℕ) (v : PlainValue) (n i : ℕ) → Agrees k (at_item v n i) (at_item v n i)
agree-at_item k v n i = agree-value k _ _ _ _ (agree-ask k _) (λ x. agree-give k _)

agree-for_header : (k : ℕ) (f g : M (Ans PlainValue)) → Agrees k f g → (b : Option Walked) → Agrees k (for_header f b) (for_header g b)
agree-for_header k f g fg None = agree-value k _ _ _ _ fg (λ v. agree-value k _ _ _ _ (agree-ask k _) (λ n. agree-at_item k v n 0))
agree-for_header k f g fg (Some t) = agree-at_item k t.value t.length t.place

-- ---- exceptions, cases and functions

agree-raise_value : (k : ℕ) (v : PlainValue) → Agrees k (raise_value v) (raise_value v)
agree-raise_value k (exc_value kind a) = agree-give k _
agree-raise_value k (kind_value kind) = agree-give k _
agree-raise_value k _ = agree-throw k _

agree-reraise : (k : ℕ) (e : Option PlainRaised) → Agrees k (reraise e) (reraise e)
agree-reraise k (Some e) = agree-give k _
agree-reraise k None = agree-throw k _

agree-failed : (k : ℕ) (c d : Calls) → AgreeCalls k c d → (p : Place) (why : Option Expr) → Agrees k (failed_assertion c p why) (failed_assertion d p why)
agree-failed k c d h p None = agree-throw k _
agree-failed k c d h p (Some e) = agree-using k _ _ _ _ (agree-value k _ _ _ _ (agree-eval k c d h p e) (λ v. agree-give k _)) (λ x. agree-throw k x)

agree-handle : (k : ℕ) (has : Bool) (o : Out) (h j : PlainRaised → M Out) (f g : M Out) → ((e : PlainRaised) → Agrees k (h e) (j e)) → Agrees k f g → Agrees k (handle has o h f) (handle has o j g)
agree-handle k has normal h j f g hj fg = fg
agree-handle k true (raises e t) h j f g hj fg = hj e
agree-handle k false (raises e t) h j f g hj fg = agree-give k _
agree-handle k has _ h j f g hj fg = agree-give k _

agree-settle : (k : ℕ) (o q : Out) → Agrees k (settle o q) (settle o q)
agree-settle k normal (raises e true) = agree-throw k e
agree-settle k _ q = agree-give k _

agree-caught : (k : ℕ) (c d : Calls) → AgreeCalls k c d → (p : Place) (kind : Option Expr) (e : PlainRaised) → Agrees k (caught_by c p kind e) (caught_by d p kind e)
agree-caught k c d h p None e = agree-give k _
agree-caught k c d h p (Some t) e = agree-value k _ _ _ _ (agree-eval k c d h p t) (λ v. agree-give k _)

agree-handled : (k : ℕ) (p : Scope) (x : Option Text) (e : PlainRaised) (f g : M Out) → Agrees k f g → Agrees k (handled p x e f) (handled p x e g)
agree-handled k p x e f g fg = agree-write k _ _ _ (agree-chain k _ _ _ _ fg (λ o. agree-write k _ _ _ (agree-give k o)))

agree-on_match : (k : ℕ) (found : Match) (f g : Names → M Out) (m m' : M Out) → ((names : Names) → Agrees k (f names) (g names)) → Agrees k m m' → Agrees k (on_match found f m) (on_match found g m')
agree-on_match k None f g m m' fg mm = mm
agree-on_match k (Some names) f g m m' fg mm = fg names

agree-guarded : (k : ℕ) (c d : Calls) → AgreeCalls k c d → (p : Place) (guard : Option Expr) (b b' r r' : M Out) → Agrees k b b' → Agrees k r r' → Agrees k (guarded c p guard b r) (guarded d p guard b' r')
agree-guarded k c d h p None b b' r r' bb rr = bb
agree-guarded k c d h p (Some e) b b' r r' bb rr = agree-using k _ _ _ _ (agree-eval k c d h p e) (λ v. agree-branch k v _ _ _ _ bb rr)

agree-defaults : (k : ℕ) (c d : Calls) → AgreeCalls k c d → (p : Place) (es : Exprs) → Agrees k (default_list c p es) (default_list d p es)
agree-defaults k c d h p no_exprs = agree-give k _
agree-defaults k c d h p (exprs e es) = agree-value k _ _ _ _ (agree-each k c d h p (exprs e es)) (λ vs. agree-value k _ _ _ _ (agree-work k _) (λ a. agree-give k _))

agree-returned : (k : ℕ) (c d : Calls) → AgreeCalls k c d → (p : Place) (e : Option Expr) → Agrees k (returned c p e) (returned d p e)
agree-returned k c d h p None = agree-give k _
agree-returned k c d h p (Some e) = agree-using k _ _ _ _ (agree-eval k c d h p e) (λ v. agree-give k _)

agree-raised : (k : ℕ) (c d : Calls) → AgreeCalls k c d → (p : Place) (e : Option Expr) → Agrees k (raised c p e) (raised d p e)
agree-raised k c d h p None = agree-reraise k p.handled
agree-raised k c d h p (Some e) = agree-using k _ _ _ _ (agree-eval k c d h p e) (agree-raise_value k)

-- ---- statements

-- a family of calls, each as good as the others for at most k steps
abbrev pub Alike : ℕ → (ℕ → Calls) → Type 0
Alike k D = (j i : ℕ) → k ≤ j → k ≤ i → AgreeCalls k (D j) (D i)

mutual
  unfolding exec exec_kind exec_opt exec_arms exec_clauses exec_finally exec_cases

  pub agree-exec : (k : ℕ) (D : ℕ → Calls) → Alike k D → (j i : ℕ) → k ≤ j → k ≤ i → (p : Place) (b : Stmts) → Agrees k (exec (D j) p b) (exec (D i) p b)
  agree-exec k D h j i kj ki p no_stmts = agree-give k _
  agree-exec k D h j i kj ki p (stmt f l x e rest) = agree-chain k _ _ _ _ (agree-kind k D h j i kj ki p f x) (λ o. agree-next k o _ _ (agree-exec k D h j i kj ki p rest))

  agree-kind : (k : ℕ) (D : ℕ → Calls) → Alike k D → (j i : ℕ) → k ≤ j → k ≤ i → (p : Place) (l : ℕ) (x : StmtKind) → Agrees k (exec_kind (D j) p l x) (exec_kind (D i) p l x)
  agree-kind k D h j i kj ki p l (expr e) = agree-mark k _ _ _ (agree-using k _ _ _ _ (agree-eval k _ _ (h j i kj ki) p e) (λ v. agree-give k _))
  agree-kind k D h j i kj ki p l (assign ts e) = agree-mark k _ _ _ (agree-using k _ _ _ _ (agree-value k _ _ _ _ (agree-eval k _ _ (h j i kj ki) p e) (λ v. agree-assign_all k _ _ (h j i kj ki) p ts v)) (λ u. agree-give k _))
  agree-kind k D h j i kj ki p l (aug_assign t op e) = agree-mark k _ _ _ (agree-using k _ _ _ _ (agree-augment k _ _ (h j i kj ki) p t op e) (λ u. agree-give k _))
  agree-kind k D h j i kj ki p l pass = agree-mark k _ _ _ (agree-give k _)
  agree-kind k D h j i kj ki p l break = agree-mark k _ _ _ (agree-give k _)
  agree-kind k D h j i kj ki p l continue = agree-mark k _ _ _ (agree-give k _)
  agree-kind k D h j i kj ki p l (return e) = agree-mark k _ _ _ (agree-returned k _ _ (h j i kj ki) p e)
  agree-kind k D h j i kj ki p l (raise e) = agree-mark k _ _ _ (agree-raised k _ _ (h j i kj ki) p e)
  agree-kind k D h j i kj ki p l (assert t why) = agree-mark k _ _ _ (agree-using k _ _ _ _ (agree-eval k _ _ (h j i kj ki) p t) (λ v. agree-branch k v _ _ _ _ (agree-give k _) (agree-failed k _ _ (h j i kj ki) p why)))
  agree-kind k D h j i kj ki p l (global xs) = agree-give k _
  agree-kind k D h j i kj ki p l (import names) = agree-mark k _ _ _ (agree-using k _ _ _ _ (agree-import_each k _ _ (h j i kj ki) p names) (λ u. agree-give k _))
  agree-kind k D h j i kj ki p l (from m names) = agree-mark k _ _ _ (agree-using k _ _ _ _ (agree-value k _ _ _ _ (agree-module_of k _ _ (h j i kj ki) p.modules m) (λ v. agree-take_each k p m v names)) (λ u. agree-give k _))
  agree-kind k D h j i kj ki p l (if' xs o) = agree-arms k D h j i kj ki p xs _ _ (agree-opt k D h j i kj ki p o)
  agree-kind k D h j i kj ki p l (while t (suite f g inline b) o) =
      agree-loop k _ _ (mark l) None
      (record { line = refl; header = λ v. agree-while_header k _ _ (agree-eval k _ _ (h j j kj kj) p t); turn = λ v. agree-exec k D h j j kj kj p b; orelse = agree-opt k D h j j kj kj p o })
      (record { line = refl; header = λ v. agree-while_header k _ _ (agree-eval k _ _ (h i i ki ki) p t); turn = λ v. agree-exec k D h i i ki ki p b; orelse = agree-opt k D h i i ki ki p o })
      (record { line = refl; header = λ v. agree-while_header k _ _ (agree-eval k _ _ (h j i kj ki) p t); turn = λ v. agree-exec k D h j i kj ki p b; orelse = agree-opt k D h j i kj ki p o })
  agree-kind k D h j i kj ki p l (for t e (suite f g inline b) o) =
      agree-loop k _ _ (mark l) None
      (record { line = refl; header = agree-for_header k _ _ (agree-eval k _ _ (h j j kj kj) p e); turn = λ v. agree-using k _ _ _ _ (agree-assign_to k _ _ (h j j kj kj) p t _) (λ u. agree-exec k D h j j kj kj p b); orelse = agree-opt k D h j j kj kj p o })
      (record { line = refl; header = agree-for_header k _ _ (agree-eval k _ _ (h i i ki ki) p e); turn = λ v. agree-using k _ _ _ _ (agree-assign_to k _ _ (h i i ki ki) p t _) (λ u. agree-exec k D h i i ki ki p b); orelse = agree-opt k D h i i ki ki p o })
      (record { line = refl; header = agree-for_header k _ _ (agree-eval k _ _ (h j i kj ki) p e); turn = λ v. agree-using k _ _ _ _ (agree-assign_to k _ _ (h j i kj ki) p t _) (λ u. agree-exec k D h j i kj ki p b); orelse = agree-opt k D h j i kj ki p o })
  agree-kind k D h j i kj ki p l (try (suite f g inline b) cs o fin) =
      agree-mark k _ _ _ (agree-chain k _ _ _ _
      (agree-chain k _ _ _ _ (agree-exec k D h j i kj ki p b) (λ q. agree-handle k (has_clauses cs) q _ _ _ _ (λ e. agree-clauses k D h j i kj ki p cs e) (agree-opt k D h j i kj ki p o)))
      (λ q. agree-finally k D h j i kj ki p fin q))
  agree-kind k D h j i kj ki p l (def x ps ds comma b) = agree-mark k _ _ _ (agree-using k _ _ _ _ (agree-defaults k _ _ (h j i kj ki) p ds) (λ a. agree-write k _ _ _ (agree-give k _)))
  agree-kind k D h j i kj ki p l (match e header cs) = agree-mark k _ _ _ (agree-using k _ _ _ _ (agree-eval k _ _ (h j i kj ki) p e) (λ v. agree-cases k D h j i kj ki p cs v))

  agree-opt : (k : ℕ) (D : ℕ → Calls) → Alike k D → (j i : ℕ) → k ≤ j → k ≤ i → (p : Place) (b : OptSuite) → Agrees k (exec_opt (D j) p b) (exec_opt (D i) p b)
  agree-opt k D h j i kj ki p no_suite = agree-give k _
  agree-opt k D h j i kj ki p (has_suite (suite f l inline b)) = agree-exec k D h j i kj ki p b

  agree-arms : (k : ℕ) (D : ℕ → Calls) → Alike k D → (j i : ℕ) → k ≤ j → k ≤ i → (p : Place) (xs : Arms) (o o' : M Out) → Agrees k o o' → Agrees k (exec_arms (D j) p xs o) (exec_arms (D i) p xs o')
  agree-arms k D h j i kj ki p no_arms o o' oo = oo
  agree-arms k D h j i kj ki p (arm t (suite f l inline b) rest) o o' oo =
      agree-mark k _ _ _ (agree-using k _ _ _ _ (agree-eval k _ _ (h j i kj ki) p t) (λ v. agree-branch k v _ _ _ _ (agree-exec k D h j i kj ki p b) (agree-arms k D h j i kj ki p rest o o' oo)))

  agree-clauses : (k : ℕ) (D : ℕ → Calls) → Alike k D → (j i : ℕ) → k ≤ j → k ≤ i → (p : Place) (cs : Clauses) (e : PlainRaised) → Agrees k (exec_clauses (D j) p cs e) (exec_clauses (D i) p cs e)
  agree-clauses k D h j i kj ki p no_clauses e = agree-throw k e
  agree-clauses k D h j i kj ki p (clause t x (suite f l inline b) rest) e =
      agree-mark k _ _ _ (agree-using k _ _ _ _ (agree-caught k _ _ (h j i kj ki) p t e) (λ yes. agree-if k yes _ _ _ _
      (agree-handled k p.scope x e (exec (D j) (in_clause p e) b) (exec (D i) (in_clause p e) b) (agree-exec k D h j i kj ki (in_clause p e) b))
      (agree-clauses k D h j i kj ki p rest e)))

  agree-finally : (k : ℕ) (D : ℕ → Calls) → Alike k D → (j i : ℕ) → k ≤ j → k ≤ i → (p : Place) (b : OptSuite) (o : Out) → Agrees k (exec_finally (D j) p b o) (exec_finally (D i) p b o)
  agree-finally k D h j i kj ki p no_suite o = agree-give k _
  agree-finally k D h j i kj ki p (has_suite (suite f l inline b)) o = agree-chain k _ _ _ _ (agree-exec k D h j i kj ki p b) (λ q. agree-settle k q o)

  agree-cases : (k : ℕ) (D : ℕ → Calls) → Alike k D → (j i : ℕ) → k ≤ j → k ≤ i → (p : Place) (cs : Cases) (v : PlainValue) → Agrees k (exec_cases (D j) p cs v) (exec_cases (D i) p cs v)
  agree-cases k D h j i kj ki p no_cases v = agree-give k _
  agree-cases k D h j i kj ki p (case q g (suite f l inline b) rest) v =
      agree-mark k _ _ _ (agree-using k _ _ _ _ (agree-ask k _) (λ found. agree-on_match k found _ _ _ _
      (λ names. agree-write k _ _ _ (agree-guarded k _ _ (h j i kj ki) p g _ _ _ _ (agree-exec k D h j i kj ki p b) (agree-cases k D h j i kj ki p rest v)))
      (agree-cases k D h j i kj ki p rest v)))
