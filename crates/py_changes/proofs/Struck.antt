-- Parts of a text whose marks are unsafe: a run of them that ends has reached a line that isn't
-- safe.
--     Struck, strike             such computations; a step on an unsafe line begins one
--     grow-opt, grow-arms ..     the items of what stands in statements grow
--     struck-own                 the own mark of a statement is unsafe
--     struck-arm ..              the header of a test, a clause or a case is unsafe
--     struck-row, struck-kind    all marks are unsafe, and there is one
use Rattle.std.proofs.Common.{◌≡◌, ℕ, zero, suc, Bool, true, false, List, Option, Some, None, refl, sym, subst, if◌then◌else◌}
use Rattle.py_value.specs.declared.value.FuncId.{FuncId}
use Rattle.py_value.specs.Plain.{PlainValue, PlainRaised}
use Rattle.py_syntax.specs.Marks.{own_mark, stmts_marks, kind_marks, opt_marks}
use Rattle.py_syntax.specs.Tree.{Text, Expr, Pattern, Stmts, no_stmts, stmt, suite, OptSuite, no_suite, has_suite, Arms, no_arms, arm, Clauses, no_clauses, clause, Cases, no_cases, case, StmtKind, expr, assign, aug_assign, pass, break, continue, return, raise, assert, global, import, from, if', while, for, try, def, match}
use Rattle.py_meaning.specs.Activations.{mark, again}
use Rattle.py_meaning.specs.Assignments.{assign_to}
use Rattle.py_meaning.specs.Calls.{Calls}
use Rattle.py_meaning.specs.Computations.{State, Res, done, cut, M, bind, add, chain, step, within, stop, branch, write, ask}
use Rattle.py_meaning.specs.Expressions.{eval}
use Rattle.py_meaning.specs.Modules.{LoadedModule}
use Rattle.py_meaning.specs.Patterns.{matched, bind_all}
use Rattle.py_meaning.specs.Places.{Place}
use Rattle.py_meaning.specs.Statements.{Out, normal, using, next, Loop, loop, turns, while_loop, for_loop, has_clauses, caught_by, handled, on_match, guarded, exec, exec_kind, exec_opt, exec_arms, exec_clauses, exec_finally, exec_cases}
use Rattle.py_meaning.proofs.Budget.{end_of}
use Rattle.py_changes.specs.Changed.{is_empty}
use Rattle.py_changes.proofs.Reached.{ReachOnly}
use Rattle.py_changes.proofs.Growth.{Grows, EachGrows, grow-give, grow-step, grow-exec}
use Rattle.py_changes.proofs.Follows.{OutSuits, Held, Follows, Loops, follow-under, follow-never, follow-give, follow-chain, follow-write, follow-value, follow-if, follow-branch, follow-throw, follow-using, follow-looped, follow-if_turn, follow-turns}
use Rattle.py_changes.proofs.Expressions.{Any, Sides, old_place, follow-eval, follow-assign_to, follow-assign_all, follow-augment, follow-import_each, follow-take_each, follow-module_of, follow-bound}
use Rattle.py_changes.proofs.Flow.{WalkSuits, follow-settle, follow-handle, follow-for_header, follow-while_header}
use Rattle.py_changes.proofs.Patterns.{follow-handled, follow-matched, follow-on_match}
use Rattle.py_changes.proofs.Parts.{follow-guarded, follow-caught, follow-failed, follow-defaults, follow-returned, follow-raised}
use Rattle.py_changes.proofs.Compared.{Bad, bad-left, bad-right}
use Rattle.py_changes.proofs.Itself.{Free, one-side}
use Rattle.py_changes.proofs.Quiet.{some-later, DoesNothing, quiet-kind}

module _ (Safe : ℕ → ℕ → Type 0) (m : ℕ) where
  -- a run that ended reached a line that is not safe
  abbrev pub Dirty : {A : Type 0} → Res A → Type 0
  Dirty (done a t k) = ReachOnly Safe m t.items → ⊥
  Dirty (cut t) = Unit {0}

  -- the items grow, and a run that ends has reached a line that isn't safe
  unfoldable pub Struck : (A : Type 0) → M A → Type 0
  Struck A f = (s : State) (n : ℕ)
      → (ReachOnly Safe m (end_of (f s n)).items → ReachOnly Safe m s.items) × Dirty (f s n)

  dirty : {A : Type 0} (r : Res A) → (ReachOnly Safe m (end_of r).items → ⊥) → Dirty r
  dirty (done a t k) h = h
  dirty (cut t) h = tt

  strike : {A : Type 0} (l : ℕ) (f : M A) → (Safe m l → ⊥) → Grows Safe m A f
      → Struck A (step (mark l) f)
  unfolding Struck Grows step
  strike l f bad h s zero = (λ clean. clean, tt)
  strike l f bad h s (suc n) = (
    λ clean. (h (add (mark l) s) n clean).0,
    dirty (f (add (mark l) s) n) (λ clean. bad (h (add (mark l) s) n clean).1),
  )

  strike-first : {A B : Type 0} (f : M A) (g : A → M B) → Struck A f
      → ((a : A) → Grows Safe m B (g a)) → Struck B (chain f g)
  unfolding Struck Grows chain
  strike-first {A} {B} f g h k s n = go (f s n) (h s n)
    where
      go : (r : Res A)
          → (ReachOnly Safe m (end_of r).items → ReachOnly Safe m s.items) × Dirty r
          → (ReachOnly Safe m (end_of (bind r g)).items → ReachOnly Safe m s.items)
          × Dirty (bind r g)
      go (done a t i) d =
          (λ clean. d.0 (k a t i clean), dirty (g a t i) (λ clean. d.1 (k a t i clean)))
      go (cut t) d = (d.0, tt)

  -- it is followed by any other computation
  pub follow-struck : {K : FuncId → Type 0} {C : Type 0} {Q : Out → Type 0} {f g : M Out}
      → Struck Out f → Follows Safe K C m Q f g
  unfolding Struck
  follow-struck {K} {C} {Q} {f} {g} d = record {
    run = λ s n.
        ((d s n).0, λ c kept. go (f s n) (g s n) (d s n).1);
  }
    where
      go : (r q : Res Out) → Dirty r → Held Safe K m Q r q
      go (done a t k) q e = λ clean. absurd (e clean)
      go (cut t) q e = tt

  strike-stop : Struck Out stop
  unfolding Struck stop
  strike-stop s n = (λ clean. clean, tt)

  strike-within : (f : ℕ → M Out) → ((n : ℕ) → Struck Out (f n)) → Struck Out (within f)
  unfolding Struck within
  strike-within f d s n = d n s n

  strike-quiet : {B : Type 0} (f : M Out) (g : Out → M B) → DoesNothing f → Struck B (g normal)
      → Struck B (chain f g)
  unfolding Struck chain
  strike-quiet f g q d s n =
      subst (λ x. (ReachOnly Safe m (end_of (bind x g)).items → ReachOnly Safe m s.items)
      × Dirty (bind x g))
      (sym (q s n)) (d s n)

  -- ---- computations that are followed by something grow

  grows-of : {A : Type 0} {Q : A → Type 0} {f g : M A} → Follows Safe Free ⊥ m Q f g
      → Grows Safe m A f
  unfolding Grows
  grows-of h s n = (h.run s n).0

  itself : {C : Type 0} {f : M Out} → Grows Safe m Out f → (C → ⊥)
      → Follows Safe Free C m (OutSuits Free) f f
  itself h never = follow-never h never

  strike-turns : {T : Type 0} {Q : T → Type 0} {x y : Loop T} (l : ℕ) (b : Option T)
      → (Safe m l → ⊥) → Loops Safe Free ⊥ m Q x y → (n : ℕ) → Struck Out (turns x n (mark l) b)
  unfolding turns
  strike-turns l b bad k zero = strike-stop
  strike-turns {Q = Q} {x = x} l b bad k (suc n) =
      strike l _ bad (grows-of
      (follow-using (follow-under (λ c. absurd c) (k.header b)) (λ found.
      follow-if_turn {Q = Q} found (follow-under (λ c. absurd c) k.orelse) (λ t.
      follow-chain (follow-under (λ c. absurd c.0) (k.turn t)) (λ o.
      follow-looped o
      (follow-under (λ c. absurd c.0) (follow-turns n (again x.line) (Some t) k)))))))

  strike-loop : {T : Type 0} {Q : T → Type 0} {x y : Loop T} (l : ℕ) → (Safe m l → ⊥)
      → Loops Safe Free ⊥ m Q x y → Struck Out (loop x (mark l) None)
  unfolding loop
  strike-loop l bad k = strike-within _ (λ n. strike-turns l None bad k n)

module _ (Safe : ℕ → ℕ → Type 0) (m : ℕ) (c : Calls) (ms : List LoadedModule)
    (grow : EachGrows Safe c) (xs : List Text) where
  -- the modules on both sides
  abbrev one : Sides Safe Free
  one = one-side Safe ms c grow m xs

  -- the place of the body, in a clause that handles this exception
  abbrev pub place : Option PlainRaised → Place
  place h = old_place one h

  row-grows : (h : Option PlainRaised) (b : Stmts) → Grows Safe m Out (exec c (place h) b)
  row-grows h b = grow-exec Safe m c (place h) grow b

  row-itself : {C : Type 0} (h : Option PlainRaised) (b : Stmts) → (C → ⊥)
      → Follows Safe Free C m (OutSuits Free) (exec c (place h) b) (exec c (place h) b)
  row-itself h b never = itself Safe m (row-grows h b) never

  pub grow-opt : (h : Option PlainRaised) (o : OptSuite) → Grows Safe m Out (exec_opt c (place h) o)
  unfolding exec_opt
  grow-opt h no_suite = grow-give Safe m normal
  grow-opt h (has_suite (suite f l i b)) = row-grows h b

  arm-rest : (h : Option PlainRaised) (t : Expr) (b : Stmts) (g : M Out) → Grows Safe m Out g
      → Grows Safe m Out (using (eval c (place h) t) (λ v. branch v (exec c (place h) b) g))
  arm-rest h t b g k =
      grows-of Safe m (follow-using (follow-eval one h t) (λ v.
      follow-branch v (row-itself h b (λ c. c.0)) (itself Safe m k (λ c. c.0))))

  grow-arms : (h : Option PlainRaised) (r : Arms) (o : M Out) → Grows Safe m Out o
      → Grows Safe m Out (exec_arms c (place h) r o)
  unfolding exec_arms
  grow-arms h no_arms o k = k
  grow-arms h (arm t (suite f g i b) r) o k =
      grow-step Safe m (mark f) _ (arm-rest h t b _ (grow-arms h r o k)) tt

  clause-rest : (h : Option PlainRaised) (t : Option Expr) (x : Option Text) (b : Stmts)
      (e : PlainRaised) (g : M Out) → Grows Safe m Out g
      → Grows Safe m Out (using (caught_by c (place h) t e) (λ yes.
      if yes then handled (place h).scope x e (exec c (place (Some e)) b) else g))
  clause-rest h t x b e g k =
      grows-of Safe m (follow-using (follow-caught one h t e) (λ yes. follow-if yes
      (follow-handled one x e (λ c. absurd c.0) (row-itself (Some e) b (λ c. c.0)))
      (itself Safe m k (λ c. c.0))))

  grow-clauses : (h : Option PlainRaised) (cs : Clauses) (e : PlainRaised)
      → Grows Safe m Out (exec_clauses c (place h) cs e)
  unfolding exec_clauses
  grow-clauses h no_clauses e = grows-of Safe m (follow-throw e (λ c. absurd c))
  grow-clauses h (clause t x (suite f g i b) r) e =
      grow-step Safe m (mark f) _ (clause-rest h t x b e _ (grow-clauses h r e)) tt

  grow-finally : (h : Option PlainRaised) (o : OptSuite) (pending : Out)
      → Grows Safe m Out (exec_finally c (place h) o pending)
  unfolding exec_finally
  grow-finally h no_suite pending = grow-give Safe m pending
  grow-finally h (has_suite (suite f l i b)) pending =
      grows-of Safe m (follow-chain (row-itself h b (λ c. c)) (λ q.
      follow-settle q pending (λ c. absurd c.0)))

  case-rest : (h : Option PlainRaised) (q : Pattern) (t : Option Expr) (b : Stmts) (v : PlainValue)
      (g : M Out) → Grows Safe m Out g
      → Grows Safe m Out (using (ask (λ w. matched (place h).scope w q v)) (λ found.
      on_match found
      (λ names. write (bind_all (place h).scope names)
      (guarded c (place h) t (exec c (place h) b) g)) g))
  case-rest h q t b v g k =
      grows-of Safe m
      (follow-using (follow-matched one q v (λ c. absurd c)) (λ found. follow-on_match one found
      (λ names. follow-write (bind_all (place h).scope names) (bind_all (place h).scope names)
      (λ w c kept. absurd c.0)
      (follow-guarded one h t (row-itself h b (λ c. c.0)) (itself Safe m k (λ c. c.0))))
      (itself Safe m k (λ c. c))))

  grow-cases : (h : Option PlainRaised) (cs : Cases) (v : PlainValue)
      → Grows Safe m Out (exec_cases c (place h) cs v)
  unfolding exec_cases
  grow-cases h no_cases v = grow-give Safe m normal
  grow-cases h (case q t (suite f g i b) r) v =
      grow-step Safe m (mark f) _ (case-rest h q t b v _ (grow-cases h r v)) tt

  -- ---- the own mark of a statement is unsafe

  pub struck-own : (h : Option PlainRaised) (l : ℕ) (k : StmtKind) → Bad Safe m (own_mark l k)
      → is_empty (own_mark l k) ≡ false → Struck Safe m Out (exec_kind c (place h) l k)
  unfolding exec_kind
  struck-own h l (expr e) bad some =
      strike Safe m l _ bad.0 (grows-of Safe m (follow-using (follow-eval one h e) (λ v.
      follow-give _ (λ c. tt))))
  struck-own h l (assign ts e) bad some =
      strike Safe m l _ bad.0
      (grows-of Safe m (follow-using (follow-value (follow-eval one h e) (λ v.
      follow-assign_all one h ts v (λ c. c.1))) (λ u. follow-give _ (λ c. tt))))
  struck-own h l (aug_assign t op e) bad some =
      strike Safe m l _ bad.0 (grows-of Safe m (follow-using (follow-augment one h t op e) (λ u.
      follow-give _ (λ c. tt))))
  struck-own h l pass bad some = strike Safe m l _ bad.0 (grow-give Safe m _)
  struck-own h l break bad some = strike Safe m l _ bad.0 (grow-give Safe m _)
  struck-own h l continue bad some = strike Safe m l _ bad.0 (grow-give Safe m _)
  struck-own h l (return e) bad some =
      strike Safe m l _ bad.0 (grows-of Safe m (follow-returned one h e))
  struck-own h l (raise e) bad some =
      strike Safe m l _ bad.0 (grows-of Safe m (follow-raised one h (λ c. absurd c) e))
  struck-own h l (assert t why) bad some =
      strike Safe m l _ bad.0 (grows-of Safe m (follow-using (follow-eval one h t) (λ v.
      follow-branch v (follow-give _ (λ c. tt)) (follow-failed one h why))))
  struck-own h l (global xs) bad some = absurd cc
  struck-own h l (import names) bad some =
      strike Safe m l _ bad.0 (grows-of Safe m (follow-using (follow-import_each one h names) (λ u.
      follow-give _ (λ c. tt))))
  struck-own h l (from k names) bad some =
      strike Safe m l _ bad.0
      (grows-of Safe m (follow-using (follow-value (follow-module_of one k) (λ v.
      follow-take_each one h k v names)) (λ u. follow-give _ (λ c. tt))))
  struck-own h l (if' xs o) bad some = absurd cc
  struck-own h l (while t (suite f g inline b) o) bad some =
      strike-loop Safe m {Q = Any} {y = while_loop l (eval c (place h) t) (exec c (place h) b)
      (exec_opt c (place h) o)} l bad.0 (record {
        line = refl;
        header = λ z. follow-while_header (follow-eval one h t);
        turn = λ z. row-itself h b (λ c. c.0);
        orelse = itself Safe m (grow-opt h o) (λ c. c);
      })
  struck-own h l (for t e (suite f g inline b) o) bad some =
      strike-loop Safe m {Q = WalkSuits Free}
      {y = for_loop l (eval c (place h) e) (assign_to c (place h) t) (exec c (place h) b)
      (exec_opt c (place h) o)} l bad.0 (record {
        line = refl;
        header = λ z. follow-for_header z (λ c. c.1) (follow-eval one h e);
        turn = λ z. follow-using (follow-assign_to one h t z.item (λ c. c.1.1))
            (λ v. row-itself h b (λ c. c.0.0));
        orelse = itself Safe m (grow-opt h o) (λ c. c);
      })
  struck-own h l (try (suite f g inline b) cs o fin) bad some =
      strike Safe m l _ bad.0
      (grows-of Safe m (follow-chain (follow-chain (row-itself h b (λ c. c)) (λ q.
      follow-handle (has_clauses cs) q (λ e. itself Safe m (grow-clauses h cs e) (λ c. c.0))
      (itself Safe m (grow-opt h o) (λ c. c))))
      (λ q. itself Safe m (grow-finally h fin q) (λ c. c.0))))
  struck-own h l (def x ps ds comma b) bad some =
      strike Safe m l _ bad.0 (grows-of Safe m (follow-using (follow-defaults one h ds) (λ a.
      follow-bound one x _ (λ c. absurd c.0) (follow-give _ (λ c. tt)))))
  struck-own h l (match e header cs) bad some =
      strike Safe m l _ bad.0 (grows-of Safe m (follow-using (follow-eval one h e) (λ v.
      itself Safe m (grow-cases h cs v) (λ c. c.0))))

  -- ---- the header of a test, a clause or a case is unsafe

  pub struck-arm : (h : Option PlainRaised) (t : Expr) (f g : ℕ) (i : Bool) (b : Stmts) (r : Arms)
      (o : M Out) → (Safe m f → ⊥) → Grows Safe m Out o
      → Struck Safe m Out (exec_arms c (place h) (arm t (suite f g i b) r) o)
  unfolding exec_arms
  struck-arm h t f g i b r o bad k = strike Safe m f _ bad (arm-rest h t b _ (grow-arms h r o k))

  pub struck-clause : (h : Option PlainRaised) (t : Option Expr) (x : Option Text) (f g : ℕ)
      (i : Bool) (b : Stmts) (r : Clauses) (e : PlainRaised) → (Safe m f → ⊥)
      → Struck Safe m Out (exec_clauses c (place h) (clause t x (suite f g i b) r) e)
  unfolding exec_clauses
  struck-clause h t x f g i b r e bad =
      strike Safe m f _ bad (clause-rest h t x b e _ (grow-clauses h r e))

  pub struck-case : (h : Option PlainRaised) (q : Pattern) (t : Option Expr) (f g : ℕ) (i : Bool)
      (b : Stmts) (r : Cases) (v : PlainValue) → (Safe m f → ⊥)
      → Struck Safe m Out (exec_cases c (place h) (case q t (suite f g i b) r) v)
  unfolding exec_cases
  struck-case h q t f g i b r v bad =
      strike Safe m f _ bad (case-rest h q t b v _ (grow-cases h r v))

  -- ---- all marks are unsafe, and there is one

  next-grows : (o : Out) (f : M Out) → Grows Safe m Out f → Grows Safe m Out (next o f)
  next-grows normal f g = g
  next-grows o f g = grow-give Safe m _

  struck-chain : (h : Option PlainRaised) (l : ℕ) (k : StmtKind) (r : Stmts) (x : Bool)
      → is_empty (kind_marks l k) ≡ x
      → (is_empty (kind_marks l k) ≡ false → Struck Safe m Out (exec_kind c (place h) l k))
      → (is_empty (kind_marks l k) ≡ true → Struck Safe m Out (exec c (place h) r))
      → Struck Safe m Out (chain (exec_kind c (place h) l k) (λ o. next o (exec c (place h) r)))
  struck-chain h l k r false is d e =
      strike-first Safe m _ _ (d is) (λ o. next-grows o _ (row-grows h r))
  struck-chain h l k r true is d e = strike-quiet Safe m _ _ (quiet-kind c (place h) l k is) (e is)

  mutual
    unfolding exec exec_kind exec_opt exec_arms

    pub struck-row : (h : Option PlainRaised) (a : Stmts) → Bad Safe m (stmts_marks a)
        → is_empty (stmts_marks a) ≡ false → Struck Safe m Out (exec c (place h) a)
    struck-row h no_stmts bad e = absurd cc
    struck-row h (stmt l b k f r) bad e =
        struck-chain h l k r (is_empty (kind_marks l k)) refl
        (λ is. struck-kind h l k (bad-left Safe m (kind_marks l k) (stmts_marks r) bad) is)
        (λ is. struck-row h r (bad-right Safe m (kind_marks l k) (stmts_marks r) bad)
        (some-later (kind_marks l k) (stmts_marks r) e is))

    pub struck-kind : (h : Option PlainRaised) (l : ℕ) (k : StmtKind) → Bad Safe m (kind_marks l k)
        → is_empty (kind_marks l k) ≡ false → Struck Safe m Out (exec_kind c (place h) l k)
    struck-kind h l (global xs) bad e = absurd cc
    struck-kind h l (if' no_arms o) bad e = struck-opt h o bad e
    struck-kind h l (if' (arm t (suite f g i b) r) o) bad e =
        struck-arm h t f g i b r _ bad.0 (grow-opt h o)
    struck-kind h l k bad e = struck-own h l k (bad.0, tt) refl

    struck-opt : (h : Option PlainRaised) (o : OptSuite) → Bad Safe m (opt_marks o)
        → is_empty (opt_marks o) ≡ false → Struck Safe m Out (exec_opt c (place h) o)
    struck-opt h no_suite bad e = absurd cc
    struck-opt h (has_suite (suite f l i b)) bad e = struck-row h b bad e
