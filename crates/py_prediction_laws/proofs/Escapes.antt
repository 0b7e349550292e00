-- The body of a module or a function without a fault isn't left by `break` or `continue`.
use Rattle.std.proofs.Common.{◌≡◌, ℕ, zero, suc, Bool, true, false, cond, not, List, [], ◌∷◌, ◌++◌, Option, Some, None, Ok, Err, refl}
use Rattle.py_value.specs.Plain.{PlainValue, none_value, kind_value, exc_value, PlainRaised}
use Rattle.py_scope.specs.declared.error.ScopeError.{ScopeError}
use Rattle.py_scope.specs.Faults.{Findings, ◌&◌, blame, fault_if, in_loop, in_clause as clause_stand, in_finally, findings, kind_findings, opt_findings, arms_findings, clauses_findings, cases_findings, blame_case}
use Rattle.py_syntax.specs.Tree.{Text, Expr, Stmts, no_stmts, stmt, suite, OptSuite, no_suite, has_suite, Arms, no_arms, arm, Clauses, no_clauses, clause, Cases, no_cases, case, StmtKind, expr, assign, aug_assign, pass, break, continue, return, raise, assert, global, import, from, if', while, for, try, def, match}
use Rattle.py_builtins.specs.World.{Names}
use Rattle.py_meaning.specs.Activations.{Item}
use Rattle.py_meaning.specs.Calls.{Calls}
use Rattle.py_meaning.specs.Computations.{Setting, State, Res, done, cut, Ans, M, bind, give, chain, step, note, read, write, within, stop, branch}
use Rattle.py_meaning.specs.Patterns.{Match}
use Rattle.py_meaning.specs.Places.{Place, Scope}
use Rattle.py_meaning.specs.Statements.{Out, normal, breaks, continues, returns, raises, throwing, on_answer, using, next, looped, Loop, if_turn, turns, loop, raise_value, reraise, failed_assertion, handle, settle, handled, on_match, guarded, returned, raised, in_clause, exec, exec_kind, exec_opt, exec_arms, exec_clauses, exec_finally, exec_cases}

-- a way out of a part that stands in a loop, or in none
abbrev pub Fits : Bool → Out → Type 0
Fits true o = Unit {0}
Fits false normal = Unit {0}
Fits false breaks = ⊥
Fits false continues = ⊥
Fits false (returns v) = Unit {0}
Fits false (raises e t) = Unit {0}

fits-normal : (l : Bool) → Fits l normal
fits-normal true = tt
fits-normal false = tt

fits-returns : (l : Bool) (v : PlainValue) → Fits l (returns v)
fits-returns true v = tt
fits-returns false v = tt

fits-raises : (l : Bool) (e : PlainRaised) (t : Bool) → Fits l (raises e t)
fits-raises true e t = tt
fits-raises false e t = tt

abbrev pub OnDone : (Out → Type 0) → Res Out → Type 0
OnDone P (done o s n) = P o
OnDone P (cut s) = Unit {0}

unfoldable pub Ends : Bool → M Out → Type 0
Ends l m = (s : State) (n : ℕ) → OnDone (Fits l) (m s n)

module _ (l : Bool) where
  ends-give : (o : Out) → Fits l o → Ends l (give o)
  unfolding Ends give
  ends-give o h s n = h

  ends-chain : {A : Type 0} (m : M A) (f : A → M Out) → ((a : A) → Ends l (f a)) → Ends l (chain m f)
  unfolding Ends chain
  ends-chain {A} m f h s n = go (m s n)
    where
      go : (r : Res A) → OnDone (Fits l) (bind r f)
      go (done a t k) = h a t k
      go (cut t) = tt

  ends-after : (m : M Out) (f : Out → M Out) → Ends l m → ((o : Out) → Fits l o → Ends l (f o)) → Ends l (chain m f)
  unfolding Ends chain
  ends-after m f g h s n = go (m s n) (g s n)
    where
      go : (r : Res Out) → OnDone (Fits l) r → OnDone (Fits l) (bind r f)
      go (done a t k) q = h a q t k
      go (cut t) q = tt

  ends-step : (i : Item) (m : M Out) → Ends l m → Ends l (step i m)
  unfolding Ends step
  ends-step i m h s zero = tt
  ends-step i m h s (suc n) = h _ n

  ends-note : (i : Item) (m : M Out) → Ends l m → Ends l (note i m)
  unfolding Ends note
  ends-note i m h s n = h _ n

  ends-write : (w : Setting → Setting) (m : M Out) → Ends l m → Ends l (write w m)
  unfolding Ends write
  ends-write w m h s n = h _ n

  ends-read : (f : Setting → M Out) → ((w : Setting) → Ends l (f w)) → Ends l (read f)
  unfolding Ends read
  ends-read f h s n = h s.now s n

  ends-within : (f : ℕ → M Out) → ((n : ℕ) → Ends l (f n)) → Ends l (within f)
  unfolding Ends within
  ends-within f h s n = h n s n

  ends-stop : Ends l stop
  unfolding Ends stop
  ends-stop s n = tt

  ends-if : (b : Bool) (f g : M Out) → Ends l f → Ends l g → Ends l (cond b f g)
  ends-if true f g h k = h
  ends-if false f g h k = k

  ends-branch : (v : PlainValue) (f g : M Out) → Ends l f → Ends l g → Ends l (branch v f g)
  unfolding branch
  ends-branch v f g h k = ends-read _ (λ w. ends-if _ f g h k)

  ends-throw : (e : PlainRaised) → Ends l (throwing e)
  ends-throw e = ends-note _ _ (ends-give _ (fits-raises l e true))

  ends-answer : {A : Type 0} (a : Ans A) (f : A → M Out) → ((v : A) → Ends l (f v)) → Ends l (on_answer a f)
  ends-answer (Ok v) f h = h v
  ends-answer (Err e) f h = ends-throw e

  ends-using : {A : Type 0} (m : M (Ans A)) (f : A → M Out) → ((v : A) → Ends l (f v)) → Ends l (using m f)
  unfolding using
  ends-using m f h = ends-chain m _ (λ a. ends-answer a f h)

  ends-simply : {A : Type 0} (i : Item) (m : M (Ans A)) → Ends l (step i (using m (λ a. give normal)))
  ends-simply i m = ends-step i _ (ends-using m _ (λ a. ends-give normal (fits-normal l)))

  ends-next : (o : Out) → Fits l o → (m : M Out) → Ends l m → Ends l (next o m)
  ends-next normal f m h = h
  ends-next breaks f m h = ends-give breaks f
  ends-next continues f m h = ends-give continues f
  ends-next (returns v) f m h = ends-give (returns v) f
  ends-next (raises e t) f m h = ends-give (raises e t) f

  -- whatever the suite does
  ends-looped : (o : Out) (m : M Out) → Ends l m → Ends l (looped o m)
  ends-looped normal m h = h
  ends-looped breaks m h = ends-give normal (fits-normal l)
  ends-looped continues m h = h
  ends-looped (returns v) m h = ends-give _ (fits-returns l v)
  ends-looped (raises e t) m h = ends-give _ (fits-raises l e t)

  ends-if_turn : {T : Type 0} (x : Option T) (o : M Out) (f : T → M Out) → Ends l o → ((t : T) → Ends l (f t)) → Ends l (if_turn x o f)
  ends-if_turn None o f h k = h
  ends-if_turn (Some t) o f h k = k t

  ends-turns : {T : Type 0} (x : Loop T) → Ends l x.orelse → (k : ℕ) (i : Item) (b : Option T) → Ends l (turns x k i b)
  unfolding turns
  ends-turns x h zero i b = ends-stop
  ends-turns x h (suc k) i b =
      ends-step _ _ (ends-using _ _ (λ found. ends-if_turn found _ _ h (λ t. ends-chain _ _ (λ o. ends-looped o _ (ends-turns x h k _ (Some t))))))

  ends-loop : {T : Type 0} (x : Loop T) → Ends l x.orelse → (i : Item) (b : Option T) → Ends l (loop x i b)
  unfolding loop
  ends-loop x h i b = ends-within _ (λ n. ends-turns x h n i b)

  ends-returned : (c : Calls) (p : Place) (e : Option Expr) → Ends l (returned c p e)
  ends-returned c p None = ends-give _ (fits-returns l none_value)
  ends-returned c p (Some e) = ends-using _ _ (λ v. ends-give _ (fits-returns l v))

  ends-raise_value : (v : PlainValue) → Ends l (raise_value v)
  ends-raise_value (exc_value kind a) = ends-give _ (fits-raises l _ false)
  ends-raise_value (kind_value kind) = ends-give _ (fits-raises l _ false)
  ends-raise_value _ = ends-throw _

  ends-raised : (c : Calls) (p : Place) (e : Option Expr) → Ends l (raised c p e)
  ends-raised c p None = go p.handled
    where
      go : (e : Option PlainRaised) → Ends l (reraise e)
      go (Some e) = ends-give _ (fits-raises l e false)
      go None = ends-throw _
  ends-raised c p (Some e) = ends-using _ _ ends-raise_value

  ends-failed : (c : Calls) (p : Place) (why : Option Expr) → Ends l (failed_assertion c p why)
  ends-failed c p None = ends-throw _
  ends-failed c p (Some e) = ends-using _ _ ends-throw

  ends-handle : (has : Bool) (o : Out) → Fits l o → (f : PlainRaised → M Out) (m : M Out) → ((e : PlainRaised) → Ends l (f e)) → Ends l m → Ends l (handle has o f m)
  ends-handle has normal q f m h k = k
  ends-handle has breaks q f m h k = ends-give breaks q
  ends-handle has continues q f m h k = ends-give continues q
  ends-handle has (returns v) q f m h k = ends-give (returns v) q
  ends-handle true (raises e t) q f m h k = h e
  ends-handle false (raises e t) q f m h k = ends-give (raises e t) q

  ends-settle : (o p : Out) → Fits l o → Fits l p → Ends l (settle o p)
  ends-settle normal (raises e true) f g = ends-throw e
  ends-settle normal (raises e false) f g = ends-give _ g
  ends-settle normal normal f g = ends-give _ g
  ends-settle normal breaks f g = ends-give _ g
  ends-settle normal continues f g = ends-give _ g
  ends-settle normal (returns v) f g = ends-give _ g
  ends-settle breaks p f g = ends-give _ f
  ends-settle continues p f g = ends-give _ f
  ends-settle (returns v) p f g = ends-give _ f
  ends-settle (raises e t) p f g = ends-give _ f

  ends-handled : (p : Scope) (x : Option Text) (e : PlainRaised) (m : M Out) → Ends l m → Ends l (handled p x e m)
  ends-handled p x e m h = ends-write _ _ (ends-after _ _ h (λ o f. ends-write _ _ (ends-give o f)))

  ends-on_match : (found : Match) (f : Names → M Out) (m : M Out) → ((names : Names) → Ends l (f names)) → Ends l m → Ends l (on_match found f m)
  ends-on_match None f m h k = k
  ends-on_match (Some names) f m h k = h names

  ends-guarded : (c : Calls) (p : Place) (g : Option Expr) (m r : M Out) → Ends l m → Ends l r → Ends l (guarded c p g m r)
  ends-guarded c p None m r h k = h
  ends-guarded c p (Some e) m r h k = ends-using _ _ (λ v. ends-branch v _ _ h k)

-- ---- statements without a fault

front-nil : {A : Type 0} (xs ys : List A) → xs ++ ys ≡ [] → xs ≡ []
front-nil [] ys e = refl
front-nil (x ∷ xs) ys e = absurd cc

pub back-nil : {A : Type 0} (xs ys : List A) → xs ++ ys ≡ [] → ys ≡ []
back-nil [] ys e = e
back-nil (x ∷ xs) ys e = absurd cc

abbrev pub Clear : Findings → Type 0
Clear f = f.faults ≡ []

pub clear-left : (f g : Findings) → Clear (f & g) → Clear f
clear-left f g e = front-nil f.faults g.faults e

pub clear-right : (f g : Findings) → Clear (f & g) → Clear g
clear-right f g e = back-nil f.faults g.faults e

fits-break : (l : Bool) (e : ScopeError) → fault_if (not l) e ≡ [] → Fits l breaks
fits-break true e h = tt
fits-break false e h = absurd cc

fits-continue : (l : Bool) (e : ScopeError) → fault_if (not l) e ≡ [] → Fits l continues
fits-continue true e h = tt
fits-continue false e h = absurd cc

module _ (c : Calls) where
  mutual
    unfolding exec exec_kind exec_opt exec_arms exec_clauses exec_finally exec_cases

    pub ends-exec : (p : Place) (at : _) (b : Stmts) → Clear (findings at b) → Ends at.looped (exec c p b)
    ends-exec p at no_stmts h = ends-give at.looped normal (fits-normal at.looped)
    ends-exec p at (stmt f l k e rest) h =
        ends-after at.looped _ _ (ends-kind p at f k (clear-left (kind_findings at f k) (findings at rest) h))
        (λ o q. ends-next at.looped o q _ (ends-exec p at rest (clear-right (kind_findings at f k) (findings at rest) h)))

    ends-opt : (p : Place) (at : _) (o : OptSuite) → Clear (opt_findings at o) → Ends at.looped (exec_opt c p o)
    ends-opt p at no_suite h = ends-give at.looped normal (fits-normal at.looped)
    ends-opt p at (has_suite (suite f l i b)) h = ends-exec p at b h

    ends-arms : (p : Place) (at : _) (xs : Arms) → Clear (arms_findings at xs) → (o : M Out) → Ends at.looped o → Ends at.looped (exec_arms c p xs o)
    ends-arms p at no_arms h o k = k
    ends-arms p at (arm t (suite f l i b) rest) h o k =
        ends-step at.looped _ _ (ends-using at.looped _ _ (λ v. ends-branch at.looped v _ _
        (ends-exec p at b (clear-left (findings at b) (arms_findings at rest) h))
        (ends-arms p at rest (clear-right (findings at b) (arms_findings at rest) h) o k)))

    ends-clauses : (p : Place) (at : _) (cs : Clauses) → Clear (clauses_findings at cs) → (e : PlainRaised) → Ends at.looped (exec_clauses c p cs e)
    ends-clauses p at no_clauses h e = ends-throw at.looped e
    ends-clauses p at (clause k x (suite f l i b) rest) h e =
        let inner = clear-right (blame _ _) (findings (clause_stand at) b & clauses_findings at rest) h in
        ends-step at.looped _ _ (ends-using at.looped _ _ (λ yes. ends-if at.looped yes _ _
        (ends-handled at.looped p.scope x e _ (ends-exec (in_clause p e) (clause_stand at) b (clear-left (findings (clause_stand at) b) (clauses_findings at rest) inner)))
        (ends-clauses p at rest (clear-right (findings (clause_stand at) b) (clauses_findings at rest) inner) e)))

    ends-finally : (p : Place) (at : _) (o : OptSuite) → Clear (opt_findings at o) → (pending : Out) → Fits at.looped pending → Ends at.looped (exec_finally c p o pending)
    ends-finally p at no_suite h o q = ends-give at.looped o q
    ends-finally p at (has_suite (suite f l i b)) h o q = ends-after at.looped _ _ (ends-exec p at b h) (λ r k. ends-settle at.looped r o k q)

    ends-cases : (p : Place) (at : _) (cs : Cases) → Clear (cases_findings at cs) → (v : PlainValue) → Ends at.looped (exec_cases c p cs v)
    ends-cases p at no_cases h v = ends-give at.looped normal (fits-normal at.looped)
    ends-cases p at (case q g (suite f l i b) rest) h v =
        let inner = clear-right (blame_case f q _ _) (findings at b & cases_findings at rest) h in
        let last = ends-cases p at rest (clear-right (findings at b) (cases_findings at rest) inner) v in
        ends-step at.looped _ _ (ends-using at.looped _ _ (λ found. ends-on_match at.looped found _ _
        (λ names. ends-write at.looped _ _ (ends-guarded at.looped c p g _ _ (ends-exec p at b (clear-left (findings at b) (cases_findings at rest) inner)) last))
        last))

    ends-kind : (p : Place) (at : _) (l : ℕ) (k : StmtKind) → Clear (kind_findings at l k) → Ends at.looped (exec_kind c p l k)
    ends-kind p at l (expr e) h = ends-simply at.looped _ _
    ends-kind p at l (assign ts e) h = ends-simply at.looped _ _
    ends-kind p at l (aug_assign t op e) h = ends-simply at.looped _ _
    ends-kind p at l pass h = ends-step at.looped _ _ (ends-give at.looped normal (fits-normal at.looped))
    ends-kind p at l break h = ends-step at.looped _ _ (ends-give at.looped breaks (fits-break at.looped _ h))
    ends-kind p at l continue h = ends-step at.looped _ _ (ends-give at.looped continues (fits-continue at.looped _ h))
    ends-kind p at l (return e) h = ends-step at.looped _ _ (ends-returned at.looped c p e)
    ends-kind p at l (raise e) h = ends-step at.looped _ _ (ends-raised at.looped c p e)
    ends-kind p at l (assert t why) h = ends-step at.looped _ _ (ends-using at.looped _ _ (λ v. ends-branch at.looped v _ _ (ends-give at.looped normal (fits-normal at.looped)) (ends-failed at.looped c p why)))
    ends-kind p at l (global xs) h = ends-give at.looped normal (fits-normal at.looped)
    ends-kind p at l (import names) h = ends-simply at.looped _ _
    ends-kind p at l (from m names) h = ends-simply at.looped _ _
    ends-kind p at l (if' xs o) h =
        ends-arms p at xs (clear-left (arms_findings at xs) (opt_findings at o) h) _ (ends-opt p at o (clear-right (arms_findings at xs) (opt_findings at o) h))
    ends-kind p at l (while t (suite f g i b) o) h = ends-loop at.looped _ (ends-opt p at o (clear-right (findings (in_loop at) b) (opt_findings at o) h)) _ _
    ends-kind p at l (for t e (suite f g i b) o) h = ends-loop at.looped _ (ends-opt p at o (clear-right (findings (in_loop at) b) (opt_findings at o) h)) _ _
    ends-kind p at l (try (suite f g i b) cs o fin) h =
        let later = clear-right (findings at b) (clauses_findings at cs & (opt_findings at o & opt_findings (in_finally at) fin)) h in
        let last = clear-right (clauses_findings at cs) (opt_findings at o & opt_findings (in_finally at) fin) later in
        ends-step at.looped _ _ (ends-after at.looped _ _
        (ends-after at.looped _ _ (ends-exec p at b (clear-left (findings at b) (clauses_findings at cs & (opt_findings at o & opt_findings (in_finally at) fin)) h))
        (λ q f. ends-handle at.looped _ q f _ _ (λ e. ends-clauses p at cs (clear-left (clauses_findings at cs) (opt_findings at o & opt_findings (in_finally at) fin) later) e)
        (ends-opt p at o (clear-left (opt_findings at o) (opt_findings (in_finally at) fin) last))))
        (λ q f. ends-finally p (in_finally at) fin (clear-right (opt_findings at o) (opt_findings (in_finally at) fin) last) q f))
    ends-kind p at l (def x ps ds comma b) h = ends-step at.looped _ _ (ends-using at.looped _ _ (λ a. ends-write at.looped _ _ (ends-give at.looped normal (fits-normal at.looped))))
    ends-kind p at l (match e header cs) h = ends-step at.looped _ _ (ends-using at.looped _ _ (λ v. ends-cases p at cs h v))
