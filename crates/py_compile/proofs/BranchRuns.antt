-- What the code of `if` and of loops does is what they mean.
use Rattle.std.proofs.Common.{◌≡◌, ℕ, zero, suc, ◌+◌, ◌<◌, ◌≤◌, List, ◌∷◌, ◌++◌, length, Option, Some, None, Bool, false, refl, sym, ap, ◌∙◌, subst, arith}
use Rattle.std.specs.Prelude.{Ok, Err}
use Rattle.py_value.specs.Plain.{PlainValue, PlainRaised}
use Rattle.py_syntax.specs.Tree.{Expr, Stmts, suite, OptSuite, Arms, no_arms, arm, if', while, for}
use Rattle.py_builtins.specs.Items.{walk_length, item_of}
use Rattle.py_builtins.specs.World.{Names}
use Rattle.py_meaning.specs.Activations.{mark, again}
use Rattle.py_meaning.specs.Assignments.{assign_to}
use Rattle.py_meaning.specs.Calls.{Calls}
use Rattle.py_meaning.specs.Computations.{Setting, State, Res, done, cut, M, Ans, bind, give, chain, value, ask, branch, note, read}
use Rattle.py_meaning.specs.Expressions.{gives, eval}
use Rattle.py_meaning.specs.Laws.{IsAtMost}
use Rattle.py_meaning.specs.Modules.{LoadedModule}
use Rattle.py_meaning.specs.Places.{Place}
use Rattle.py_meaning.specs.Statements.{Out, normal, breaks, continues, returns as returned, raises, on_answer, using, looped, Loop, if_turn, loop, while_header, while_loop, Walked, walked, at_item, for_loop, exec, exec_kind, exec_opt, exec_arms}
use Rattle.py_meaning.proofs.Steady.{steady-ask}
use Rattle.py_meaning.proofs.SteadyExpressions.{steady-eval, steady-assign_to}
use Rattle.py_meaning.proofs.SteadyStatements.{steady_law, steady-using, whiles_turn, fors_turn}
use Rattle.py_code.specs.declared.instr.Instr.TheVariants.{Goto, IfFalse, Walk, Next}
use Rattle.py_code.specs.Configurations.{Operand, of_value, of_walk, Locals}
use Rattle.py_code.specs.Machine.{act, answers, turns}
use Rattle.py_code.specs.Slots.{by_names}
use Rattle.py_code.specs.Units.{Code, Module, unit_at}
use Rattle.py_compile_expr.specs.Cells.{Cell, cell, plain, marks_again, put as put_cell}
use Rattle.py_compile_expr.specs.Expressions.{expr_size, expr_code}
use Rattle.py_compile_expr.specs.Runs.{Spot, conf, from as going, on_top, Fits, Matches, part_of, CallsRun}
use Rattle.py_compile_expr.specs.Stands.{StandsAt, HasAt}
use Rattle.py_compile_expr.specs.Targets.{target_size, target_code}
use Rattle.py_compile_expr.proofs.InstructionRuns.{unchanged}
use Rattle.py_compile_expr.proofs.PartRuns.{part_at}
use Rattle.py_compile_expr.proofs.ExpressionRuns.{eval_runs}
use Rattle.py_compile_expr.proofs.Places.{has_front, has_at}
use Rattle.py_compile_expr.proofs.Simulation.{fits_less, at_most, led, asks}
use Rattle.py_compile_expr.proofs.Sizes.{expr_length, target_length}
use Rattle.py_compile.specs.StatementRuns.{after_out, FitsWays}
use Rattle.py_compile.specs.Statements.{stmts_size, kind_size, opt_size, arms_size, stmts_code, kind_code, opt_code, arms_code}
use Rattle.py_compile.specs.Ways.{Ways, under, in_loop, in_hand}
use Rattle.py_compile.proofs.Flow.{route_less, ways_less, ways_under, raised_over, returns_over, uses, ends_on, led_on, mark_runs, again_runs, back_runs, threw_runs}
use Rattle.py_compile.proofs.Forms.{here, StmtsRun, KindRuns, OptRuns, ArmsRun, using_value, using_gives, using_branch, forks}
use Rattle.py_compile.proofs.Sizes.{stmts_length, arms_length}
use Rattle.py_compile.proofs.TargetRuns.{gone, target_runs}

stands_at : (u : Code) (p q : ℕ) (x : Cell) → p ≡ q → StandsAt u p x → StandsAt u q x
stands_at u p q x e h = subst (λ r. StandsAt u r x) e h

loop_fits : (v : Ways) (h : Option PlainRaised) (end back : ℕ) (st : List Operand) → back ≤ end → FitsWays v h end st → FitsWays (in_loop v 0 end back) h back st
loop_fits v h end back st le f = record {
  on_break = (le, omega arith);
  on_continue = (omega arith, omega arith);
  on_return = route_less false v.on_return end back (length st) le f.on_return;
  guard = fits_less v.guard end back (length st) le f.guard;
  depth = f.depth;
  handled = f.handled;
}

for_fits : (v : Ways) (h : Option PlainRaised) (end back : ℕ) (x : Operand) (st : List Operand) → back ≤ end → FitsWays v h end st → FitsWays (in_loop (under v) 1 end back) h back (x ∷ st)
for_fits v h end back x st le f =
    let g = ways_less (under v) h end back (x ∷ st) le (ways_under v h end x st f) in
    record { on_break = (le, omega arith); on_continue = (omega arith, omega arith); on_return = g.on_return; guard = g.guard; depth = g.depth; handled = g.handled }

module _ (cs : List Module) (w : Spot) where
  -- what a suite leaves to its loop
  loop_out : (v : Ways) (end back : ℕ) (st : List Operand) (r : Res Out) (rest : M Out) (n : ℕ) → IsAtMost n r → ((t : State) (j : ℕ) → j ≤ n → going cs w back st t j ≡ after_out cs w v end st (rest t j))
      → after_out cs w (in_loop v 0 end back) back st r ≡ after_out cs w v end st (bind r (λ o. looped o rest))
  unfolding give
  loop_out v end back st (done normal t j) rest n le go = go t j le
  loop_out v end back st (done breaks t j) rest n le go = refl
  loop_out v end back st (done continues t j) rest n le go = go t j le
  loop_out v end back st (done (returned a) t j) rest n le go = refl
  loop_out v end back st (done (raises e b) t j) rest n le go = refl
  loop_out v end back st (cut t) rest n le go = refl

  for_out : (v : Ways) (end back : ℕ) (x : Operand) (st : List Operand) → Fits v.guard back (length st) → (r : Res Out) (rest : M Out) (n : ℕ) → IsAtMost n r → ((t : State) (j : ℕ) → j ≤ n → going cs w back (x ∷ st) t j ≡ after_out cs w v end st (rest t j))
      → after_out cs w (in_loop (under v) 1 end back) back (x ∷ st) r ≡ after_out cs w v end st (bind r (λ o. looped o rest))
  unfolding give
  for_out v end back x st f (done normal t j) rest n le go = go t j le
  for_out v end back x st f (done breaks t j) rest n le go = refl
  for_out v end back x st f (done continues t j) rest n le go = go t j le
  for_out v end back x st f (done (returned a) t j) rest n le go = returns_over cs w v.on_return a x st t j
  for_out v end back x st f (done (raises e b) t j) rest n le go = raised_over cs w v.guard back x st f e b t j
  for_out v end back x st f (cut t) rest n le go = refl

chain_is : (m : M Out) (f : Out → M Out) (s : State) (n : ℕ) → chain m f s n ≡ bind (m s n) f
unfolding chain
chain_is m f s n = refl

module _ (cs : List Module) (ms : List LoadedModule) (matches : Matches cs ms) (c : Calls) (k : ℕ) (calls : CallsRun cs c k)
    (w : Spot) (u : Code) (is : unit_at cs w.code ≡ Some u) (handled : Option PlainRaised) where
  abbrev pl : Place
  pl = part_of ms u w.code handled

  abbrev N : Locals Names
  N = by_names cs

  -- ---- `if`

  pub no_arms_run : ArmsRun cs ms c k w u handled no_arms
  unfolding exec_arms
  no_arms_run v p end has le st f orelse go s n lt = ap (λ m. going cs w m st s n) (omega arith) ∙ go s n lt

  pub arm_runs : (test : Expr) (first last : ℕ) (inline : Bool) (body : Stmts) (rest : Arms) → StmtsRun cs ms c k w u handled body → ArmsRun cs ms c k w u handled rest → ArmsRun cs ms c k w u handled (arm test (suite first last inline body) rest)
  unfolding exec_arms
  arm_runs test first last inline body rest rb rr v p end has le st f orelse go s n lt =
      let q = p + 1 + expr_size test in
      let begin = q + 1 in
      let back = begin + stmts_size (in_hand v) body in
      let next = back + 1 in
      let same : next + arms_size (in_hand v) rest ≡ p + (1 + expr_size test + 1 + stmts_size (in_hand v) body + 1 + arms_size (in_hand v) rest) = omega arith in
      let at = part_at cs ms matches c k calls w u is handled (p + 1) (expr_size test) (expr_code v.guard (p + 1) test) _ (expr_length v.guard (p + 1) test) has.1 in
      let after_body = part_at cs ms matches c k calls w u is handled begin (stmts_size (in_hand v) body) (stmts_code (here cs ms c k w u) v begin body) _ (stmts_length (here cs ms c k w u) v begin body) at.1 in
      mark_runs cs w u is first v.guard v p end st st _ s n has.0 (λ t j less.
      uses cs w on_top v q end st st (eval c pl test) _ (going cs w (p + 1) st t j) t j
      (eval_runs cs ms matches c k calls w u is handled test v.guard (p + 1) (has_front u (p + 1) (expr_code v.guard (p + 1) test) _ has.1) st (fits_less v.guard end q (length st) (omega arith) f.guard) t j (omega arith)) (at_most _ (steady-eval c calls.steady pl test) t j) (unchanged cs ms matches c k calls w u is handled v.guard st)
      (λ a t2 j2 le2. forks cs w u is a (IfFalse next) v q next end (of_value a ∷ st) st st st (exec c pl body) (exec_arms c pl rest orelse) t2 j2 at.0.instr (omega arith) refl
      (rb v begin (has_front u begin (stmts_code (here cs ms c k w u) v begin body) _ at.1) st (ways_less v handled end back st (omega arith) f) t2 j2 (omega arith)
      ∙ ends_on cs w v back end st (exec c pl body t2 j2) (λ x y. led cs w u is back end (Goto end) st st x x y after_body.0.instr (omega arith) refl))
      (rr v next end after_body.1 (omega arith) st f orelse (λ x y small. ap (λ m. going cs w m st x y) same ∙ go x y small) t2 j2 (omega arith))))

  pub if_runs : (arms : Arms) (orelse : OptSuite) → ArmsRun cs ms c k w u handled arms → OptRuns cs ms c k w u handled orelse → KindRuns cs ms c k w u handled (if' arms orelse)
  unfolding exec_kind
  if_runs arms orelse ra ro l v p has st f s n lt =
      let rest = p + arms_size (in_hand v) arms in
      let last = rest + opt_size (in_hand v) orelse in
      let end = p + (arms_size (in_hand v) arms + opt_size (in_hand v) orelse) in
      let g = ways_less v handled end last st (omega arith) f in
      ra v p last (has_front u p (arms_code (here cs ms c k w u) v p last arms) _ has) (omega arith) st g (exec_opt c pl orelse)
      (λ t j less. ro v rest (part_at cs ms matches c k calls w u is handled p (arms_size (in_hand v) arms) (arms_code (here cs ms c k w u) v p last arms) _ (arms_length (here cs ms c k w u) v p last arms) has) st g t j less) s n lt
      ∙ ap (λ m. after_out cs w v m st (exec_arms c pl arms (exec_opt c pl orelse) s n)) (omega arith)

  -- ---- `while`

  module _ (test : Expr) (first last : ℕ) (inline : Bool) (body : Stmts) (orelse : OptSuite) (rb : StmtsRun cs ms c k w u handled body) (ro : OptRuns cs ms c k w u handled orelse)
      (l : ℕ) (v : Ways) (p : ℕ) (st : List Operand) (has : HasAt u p (kind_code (here cs ms c k w u) v p l (while test (suite first last inline body) orelse)))
      (f : FitsWays v handled (p + kind_size (in_hand v) (while test (suite first last inline body) orelse)) st) where
    abbrev start : ℕ
    start = p + 3

    abbrev test_end : ℕ
    test_end = start + expr_size test

    abbrev begin : ℕ
    begin = test_end + 1

    abbrev back : ℕ
    back = begin + stmts_size (in_hand v) body

    abbrev rest : ℕ
    rest = back + 1

    abbrev end : ℕ
    end = rest + opt_size (in_hand v) orelse

    abbrev L : Loop (Unit {0})
    L = while_loop l (eval c pl test) (exec c pl body) (exec_opt c pl orelse)

    fits : FitsWays v handled end st
    fits = ways_less v handled (p + (3 + expr_size test + 1 + stmts_size (in_hand v) body + 1 + opt_size (in_hand v) orelse)) end st (omega arith) f

    abbrev inner : Ways
    inner = in_loop v 0 end back

    code : HasAt u start (expr_code v.guard start test ++ put_cell v.guard (plain (IfFalse rest)) (stmts_code (here cs ms c k w u) inner begin body ++ put_cell v.guard (plain (Goto (p + 2))) (opt_code (here cs ms c k w u) v rest orelse)))
    code = has_at u (p + 1 + 1 + 1) start _ (omega arith) has.1.1.1

    tested : HasAt u test_end (put_cell v.guard (plain (IfFalse rest)) (stmts_code (here cs ms c k w u) inner begin body ++ put_cell v.guard (plain (Goto (p + 2))) (opt_code (here cs ms c k w u) v rest orelse)))
    tested = part_at cs ms matches c k calls w u is handled start (expr_size test) (expr_code v.guard start test) _ (expr_length v.guard start test) code

    turned : HasAt u back (put_cell v.guard (plain (Goto (p + 2))) (opt_code (here cs ms c k w u) v rest orelse))
    turned = part_at cs ms matches c k calls w u is handled begin (stmts_size (in_hand v) body) (stmts_code (here cs ms c k w u) inner begin body) _ (stmts_length (here cs ms c k w u) inner begin body) tested.1

    marked : StandsAt u (p + 2) (cell v.guard (marks_again l))
    marked = stands_at u (p + 1 + 1) (p + 2) (cell v.guard (marks_again l)) (omega arith) has.1.1.0

    -- the test, the suite, and what follows a turn
    test_law : (then : Unit {0} → M Out) (t : State) (j : ℕ) → j < k → ((t2 : State) (j2 : ℕ) → j2 ≤ j → going cs w back st t2 j2 ≡ after_out cs w v end st (then (tt {0}) t2 j2))
        → going cs w start st t j ≡ after_out cs w v end st (using (while_header (eval c pl test)) (λ found. if_turn found (exec_opt c pl orelse) (λ x. chain (exec c pl body) (λ o. looped o (then x)))) t j)
    test_law then t j less go =
        let K = λ (found : Option (Unit {0})). if_turn found (exec_opt c pl orelse) (λ x. chain (exec c pl body) (λ o. looped o (then x))) in
        let choose : PlainValue → M (Ans (Option (Unit {0}))) = λ a. branch a (gives (Some (tt {0}))) (gives None) in
        uses cs w on_top v test_end end st st (eval c pl test) (λ a. using (choose a) K) (going cs w start st t j) t j
        (eval_runs cs ms matches c k calls w u is handled test v.guard start (has_front u start (expr_code v.guard start test) _ code) st (fits_less v.guard end test_end (length st) (omega arith) fits.guard) t j less) (at_most _ (steady-eval c calls.steady pl test) t j) (unchanged cs ms matches c k calls w u is handled v.guard st)
        (λ a t2 j2 le2. forks cs w u is a (IfFalse rest) v test_end rest end (of_value a ∷ st) st st st (K (Some (tt {0}))) (K None) t2 j2 tested.0.instr (omega arith) refl
        (rb inner begin (has_front u begin (stmts_code (here cs ms c k w u) inner begin body) _ tested.1) st (loop_fits v handled end back st (omega arith) fits) t2 j2 (omega arith)
        ∙ (loop_out cs w v end back st (exec c pl body t2 j2) (then (tt {0})) j2 (at_most _ (steady_law c calls.steady pl body) t2 j2) (λ x y small. go x y (omega arith))
        ∙ ap (after_out cs w v end st) (sym (chain_is (exec c pl body) (λ o. looped o (then (tt {0}))) t2 j2))))
        (ro v rest turned.1 st fits t2 j2 (omega arith))
        ∙ ap (after_out cs w v end st) (sym (using_branch a (Some (tt {0})) None K t2 j2)))
        ∙ ap (after_out cs w v end st) (sym (using_value (eval c pl test) choose K t j))

    again_law : (m n : ℕ) → n ≤ m → (t : State) → n < k → going cs w (p + 2) st t n ≡ after_out cs w v end st (loop L (again l) (Some (tt {0})) t n)
    again_law zero n le t less =
        again_runs cs w u is l v.guard v (p + 2) end st st _ t n marked (λ x y small. absurd (omega arith))
        ∙ ap (after_out cs w v end st) (sym (whiles_turn c calls.steady pl l test body orelse (again l) (Some (tt {0})) t n))
    again_law (suc m) n le t less =
        again_runs cs w u is l v.guard v (p + 2) end st st _ t n marked (λ x y small.
        ap (λ z. going cs w z st x y) (omega arith)
        ∙ test_law (λ i. loop L (again l) (Some i)) x y (omega arith) (λ x2 y2 le2. back_runs cs w u is l v.guard v.guard back (p + 2) st x2 y2 turned.0 marked (omega arith) ∙ again_law m y2 (omega arith) x2 (omega arith)))
        ∙ ap (after_out cs w v end st) (sym (whiles_turn c calls.steady pl l test body orelse (again l) (Some (tt {0})) t n))

    while_law : (s : State) (n : ℕ) → n < k → going cs w p st s n ≡ after_out cs w v end st (loop L (mark l) None s n)
    while_law s n lt =
        mark_runs cs w u is l v.guard v p end st st _ s n has.0 (λ x y small.
        led cs w u is (p + 1) start (Goto start) st st x x y has.1.0.instr (omega arith) refl
        ∙ test_law (λ i. loop L (again l) (Some i)) x y (omega arith) (λ x2 y2 le2. back_runs cs w u is l v.guard v.guard back (p + 2) st x2 y2 turned.0 marked (omega arith) ∙ again_law y2 y2 (omega arith) x2 (omega arith)))
        ∙ ap (after_out cs w v end st) (sym (whiles_turn c calls.steady pl l test body orelse (mark l) None s n))

  pub while_runs : (test : Expr) (first last : ℕ) (inline : Bool) (body : Stmts) (orelse : OptSuite) → StmtsRun cs ms c k w u handled body → OptRuns cs ms c k w u handled orelse
      → KindRuns cs ms c k w u handled (while test (suite first last inline body) orelse)
  unfolding exec_kind
  while_runs test first last inline body orelse rb ro l v p has st f s n lt =
      while_law test first last inline body orelse rb ro l v p st has f s n lt
      ∙ ap (λ m. after_out cs w v m st (loop (while_loop l (eval c pl test) (exec c pl body) (exec_opt c pl orelse)) (mark l) None s n)) (omega arith)

  -- ---- `for`

  module _ (target over : Expr) (first last : ℕ) (inline : Bool) (body : Stmts) (orelse : OptSuite) (rb : StmtsRun cs ms c k w u handled body) (ro : OptRuns cs ms c k w u handled orelse)
      (l : ℕ) (v : Ways) (p : ℕ) (st : List Operand) (has : HasAt u p (kind_code (here cs ms c k w u) v p l (for target over (suite first last inline body) orelse)))
      (f : FitsWays v handled (p + kind_size (in_hand v) (for target over (suite first last inline body) orelse)) st) where
    abbrev over_end : ℕ
    over_end = p + 1 + expr_size over

    abbrev header : ℕ
    header = over_end + 2

    abbrev bind_at : ℕ
    bind_at = header + 2

    abbrev begin_for : ℕ
    begin_for = bind_at + target_size target

    abbrev back_for : ℕ
    back_for = begin_for + stmts_size (in_hand v) body

    abbrev rest_for : ℕ
    rest_for = back_for + 1

    abbrev end_for : ℕ
    end_for = rest_for + opt_size (in_hand v) orelse

    abbrev F : Loop Walked
    F = for_loop l (eval c pl over) (assign_to c pl target) (exec c pl body) (exec_opt c pl orelse)

    fits_for : FitsWays v handled end_for st
    fits_for = ways_less v handled (p + (1 + expr_size over + 3 + 1 + target_size target + stmts_size (in_hand v) body + 1 + opt_size (in_hand v) orelse)) end_for st (omega arith) f

    abbrev inner_for : Ways
    inner_for = in_loop (under v) 1 end_for back_for

    abbrev tail : List Cell
    tail = stmts_code (here cs ms c k w u) inner_for begin_for body ++ put_cell v.guard (plain (Goto header)) (opt_code (here cs ms c k w u) v rest_for orelse)

    walked_over : HasAt u over_end (put_cell v.guard (plain Walk) (put_cell v.guard (plain (Goto (header + 1))) (put_cell v.guard (marks_again l) (put_cell v.guard (plain (Next rest_for)) (target_code v.guard bind_at target ++ tail)))))
    walked_over = part_at cs ms matches c k calls w u is handled (p + 1) (expr_size over) (expr_code v.guard (p + 1) over) _ (expr_length v.guard (p + 1) over) has.1

    marked_for : StandsAt u header (cell v.guard (marks_again l))
    marked_for = stands_at u (over_end + 1 + 1) header (cell v.guard (marks_again l)) (omega arith) walked_over.1.1.0

    next_for : StandsAt u (header + 1) (cell v.guard (plain (Next rest_for)))
    next_for = stands_at u (over_end + 1 + 1 + 1) (header + 1) (cell v.guard (plain (Next rest_for))) (omega arith) walked_over.1.1.1.0

    bound_for : HasAt u bind_at (target_code v.guard bind_at target ++ tail)
    bound_for = has_at u (over_end + 1 + 1 + 1 + 1) bind_at _ (omega arith) walked_over.1.1.1.1

    body_for : HasAt u begin_for tail
    body_for = part_at cs ms matches c k calls w u is handled bind_at (target_size target) (target_code v.guard bind_at target) _ (target_length v.guard bind_at target) bound_for

    turned_for : HasAt u back_for (put_cell v.guard (plain (Goto header)) (opt_code (here cs ms c k w u) v rest_for orelse))
    turned_for = part_at cs ms matches c k calls w u is handled begin_for (stmts_size (in_hand v) body) (stmts_code (here cs ms c k w u) inner_for begin_for body) _ (stmts_length (here cs ms c k w u) inner_for begin_for body) body_for

    abbrev K_for : (Walked → M Out) → Option Walked → M Out
    K_for then found = if_turn found (exec_opt c pl orelse) (λ x. chain (using (assign_to c pl target x.item) (λ z. exec c pl body)) (λ o. looped o (then x)))

    -- the item of a turn
    item_runs : (x : PlainValue) (m i : ℕ) (then : Walked → M Out) (t : State) (j : ℕ) → j < k
        → ((y : PlainValue) (t2 : State) (j2 : ℕ) → j2 ≤ j → going cs w back_for (of_walk x m (suc i) ∷ st) t2 j2 ≡ after_out cs w v end_for st (then (record { value = x; length = m; place = suc i; item = y }) t2 j2))
        → (r : Ans (Option PlainValue)) → act N cs u (Next rest_for) (of_walk x m i ∷ st) (conf w (header + 1) (of_walk x m i ∷ st) t j)
        ≡ answers N cs r st (conf w (header + 1) (of_walk x m i ∷ st) t j) (λ y. turns N cs y x m i rest_for st (conf w (header + 1) (of_walk x m i ∷ st) t j))
        → going cs w (header + 1) (of_walk x m i ∷ st) t j ≡ after_out cs w v end_for st (on_answer r (λ y. K_for then (walked x m i y)) t j)
    unfolding note give
    item_runs x m i then t j less go (Err e) q =
        threw_runs cs w u is v.guard (header + 1) (Next rest_for) (of_walk x m i ∷ st) st e t t j next_for.instr next_for.guard (fits_less v.guard end_for (header + 1 + 1) (length st) (omega arith) fits_for.guard) q
    item_runs x m i then t j less go (Ok None) q =
        led cs w u is (header + 1) rest_for (Next rest_for) (of_walk x m i ∷ st) st t t j next_for.instr (omega arith) q ∙ ro v rest_for turned_for.1 st fits_for t j less
    item_runs x m i then t j less go (Ok (Some y)) q =
        let base : List Operand = of_walk x m (suc i) ∷ st in
        let g = for_fits v handled end_for back_for (of_walk x m (suc i)) st (omega arith) fits_for in
        led_on cs w u is (header + 1) (Next rest_for) (of_walk x m i ∷ st) (of_value y ∷ base) t t j next_for.instr q
        ∙ (ap (λ z. going cs w z (of_value y ∷ base) t j) (omega arith)
        ∙ (uses cs w gone inner_for begin_for back_for base base (assign_to c pl target y) (λ z. exec c pl body) (going cs w bind_at (of_value y ∷ base) t j) t j
        (target_runs cs ms matches c k calls w u is handled target y v.guard bind_at (has_front u bind_at (target_code v.guard bind_at target) _ bound_for) base (fits_less v.guard back_for begin_for (suc (length st)) (omega arith) g.guard) t j less)
        (at_most _ (steady-assign_to c calls.steady pl target y) t j) (unchanged cs ms matches c k calls w u is handled v.guard base)
        (λ z t2 j2 le2. rb inner_for begin_for (has_front u begin_for (stmts_code (here cs ms c k w u) inner_for begin_for body) _ body_for) base g t2 j2 (omega arith))
        ∙ (for_out cs w v end_for back_for (of_walk x m (suc i)) st (fits_less v.guard end_for back_for (length st) (omega arith) fits_for.guard) (using (assign_to c pl target y) (λ z. exec c pl body) t j) _ j
        (at_most _ (steady-using (assign_to c pl target y) (λ z. exec c pl body) (steady-assign_to c calls.steady pl target y) (λ z. steady_law c calls.steady pl body)) t j) (go y)
        ∙ ap (after_out cs w v end_for st) (sym (chain_is (using (assign_to c pl target y) (λ z. exec c pl body)) (λ o. looped o (then (record { value = x; length = m; place = suc i; item = y }))) t j)))))

    asked_is : {A : Type 0} (q : Setting → Ans A) (g : A → M Out) (t : State) (j : ℕ) → using (ask q) g t j ≡ on_answer (q t.now) g t j
    unfolding using chain ask read give
    asked_is q g t j = refl

    item_law : (x : PlainValue) (m i : ℕ) (then : Walked → M Out) (t : State) (j : ℕ) → j < k
        → ((y : PlainValue) (t2 : State) (j2 : ℕ) → j2 ≤ j → going cs w back_for (of_walk x m (suc i) ∷ st) t2 j2 ≡ after_out cs w v end_for st (then (record { value = x; length = m; place = suc i; item = y }) t2 j2))
        → going cs w (header + 1) (of_walk x m i ∷ st) t j ≡ after_out cs w v end_for st (using (at_item x m i) (K_for then) t j)
    item_law x m i then t j less go =
        item_runs x m i then t j less go (item_of x m i t.now.world.heap) refl
        ∙ ap (after_out cs w v end_for st) (sym (using_value (ask (λ z. item_of x m i z.world.heap)) (λ y. gives (walked x m i y)) (K_for then) t j
        ∙ (asked_is (λ z. item_of x m i z.world.heap) (λ y. using (gives (walked x m i y)) (K_for then)) t j
        ∙ given (item_of x m i t.now.world.heap))))
      where
        given : (r : Ans (Option PlainValue)) → on_answer r (λ y. using (gives (walked x m i y)) (K_for then)) t j ≡ on_answer r (λ y. K_for then (walked x m i y)) t j
        given (Ok y) = using_gives (walked x m i y) (K_for then) t j
        given (Err e) = refl

    again_for : (m n : ℕ) → n ≤ m → (y : Walked) (t : State) → n < k → going cs w header (of_walk y.value y.length y.place ∷ st) t n ≡ after_out cs w v end_for st (loop F (again l) (Some y) t n)
    again_for zero n le y t less =
        again_runs cs w u is l v.guard v header end_for (of_walk y.value y.length y.place ∷ st) st _ t n marked_for (λ a b small. absurd (omega arith))
        ∙ ap (after_out cs w v end_for st) (sym (fors_turn c calls.steady pl l target over body orelse (again l) (Some y) t n))
    again_for (suc m) n le y t less =
        again_runs cs w u is l v.guard v header end_for (of_walk y.value y.length y.place ∷ st) st _ t n marked_for (λ a b small.
        item_law y.value y.length y.place (λ z. loop F (again l) (Some z)) a b (omega arith)
        (λ z a2 b2 le2. back_runs cs w u is l v.guard v.guard back_for header (of_walk y.value y.length (suc y.place) ∷ st) a2 b2 turned_for.0 marked_for (omega arith)
        ∙ again_for m b2 (omega arith) (record { value = y.value; length = y.length; place = suc y.place; item = z }) a2 (omega arith)))
        ∙ ap (after_out cs w v end_for st) (sym (fors_turn c calls.steady pl l target over body orelse (again l) (Some y) t n))

    abbrev then_for : Walked → M Out
    then_for z = loop F (again l) (Some z)

    for_law : (s : State) (n : ℕ) → n < k → going cs w p st s n ≡ after_out cs w v end_for st (loop F (mark l) None s n)
    for_law s n lt =
        mark_runs cs w u is l v.guard v p end_for st st _ s n has.0 (λ a b small.
        uses cs w on_top v over_end end_for st st (eval c pl over) (λ x. using (value (ask (λ z. walk_length x z.world.heap)) (λ m. at_item x m 0)) (K_for then_for)) (going cs w (p + 1) st a b) a b
        (eval_runs cs ms matches c k calls w u is handled over v.guard (p + 1) (has_front u (p + 1) (expr_code v.guard (p + 1) over) _ has.1) st (fits_less v.guard end_for over_end (length st) (omega arith) fits_for.guard) a b (omega arith)) (at_most _ (steady-eval c calls.steady pl over) a b) (unchanged cs ms matches c k calls w u is handled v.guard st)
        (λ x a2 b2 le2. uses cs w (λ m ys. of_walk x m 0 ∷ ys) v (over_end + 1) end_for st st (ask (λ z. walk_length x z.world.heap)) (λ m. using (at_item x m 0) (K_for then_for)) (going cs w over_end (of_value x ∷ st) a2 b2) a2 b2
        (asks cs w u is (λ m ys. of_walk x m 0 ∷ ys) v.guard over_end Walk (of_value x ∷ st) st (λ z. walk_length x z.world.heap) a2 b2 walked_over.0.instr walked_over.0.guard (fits_less v.guard end_for (over_end + 1) (length st) (omega arith) fits_for.guard) refl)
        (at_most _ (steady-ask _) a2 b2) (unchanged cs ms matches c k calls w u is handled v.guard st)
        (λ m a3 b3 le3. led cs w u is (over_end + 1) (header + 1) (Goto (header + 1)) (of_walk x m 0 ∷ st) (of_walk x m 0 ∷ st) a3 a3 b3 walked_over.1.0.instr (omega arith) refl
        ∙ item_law x m 0 then_for a3 b3 (omega arith)
        (λ z a4 b4 le4. back_runs cs w u is l v.guard v.guard back_for header (of_walk x m 1 ∷ st) a4 b4 turned_for.0 marked_for (omega arith)
        ∙ again_for b4 b4 (omega arith) (record { value = x; length = m; place = 1; item = z }) a4 (omega arith)))
        ∙ ap (after_out cs w v end_for st) (sym (using_value (ask (λ z. walk_length x z.world.heap)) (λ m. at_item x m 0) (K_for then_for) a2 b2)))
        ∙ ap (after_out cs w v end_for st) (sym (using_value (eval c pl over) (λ x. value (ask (λ z. walk_length x z.world.heap)) (λ m. at_item x m 0)) (K_for then_for) a b)))
        ∙ ap (after_out cs w v end_for st) (sym (fors_turn c calls.steady pl l target over body orelse (mark l) None s n))

  pub for_runs : (target over : Expr) (first last : ℕ) (inline : Bool) (body : Stmts) (orelse : OptSuite) → StmtsRun cs ms c k w u handled body → OptRuns cs ms c k w u handled orelse
      → KindRuns cs ms c k w u handled (for target over (suite first last inline body) orelse)
  unfolding exec_kind
  for_runs target over first last inline body orelse rb ro l v p has st f s n lt =
      for_law target over first last inline body orelse rb ro l v p st has f s n lt
      ∙ ap (λ m. after_out cs w v m st (loop (for_loop l (eval c pl over) (assign_to c pl target) (exec c pl body) (exec_opt c pl orelse)) (mark l) None s n)) (omega arith)
