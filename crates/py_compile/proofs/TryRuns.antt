-- What the code of `try` does is what it means.
use Rattle.std.proofs.Common.{◌≡◌, ℕ, suc, ◌+◌, ◌<◌, ◌≤◌, List, ◌∷◌, length, Option, Some, None, Bool, true, false, refl, sym, ap, ◌∙◌, subst, arith}
use Rattle.std.specs.Prelude.{if◌then◌else◌}
use Rattle.py_value.specs.Plain.{exc_value, PlainRaised}
use Rattle.py_syntax.specs.Functions.{Function}
use Rattle.py_syntax.specs.Tree.{Text, Expr, Stmts, suite, OptSuite, no_suite, has_suite, Clauses, no_clauses, clause, try}
use Rattle.py_builtins.specs.Catching.{catches}
use Rattle.py_meaning.specs.Calls.{Calls}
use Rattle.py_meaning.specs.Computations.{State, M, bind, put, give, chain, note, write}
use Rattle.py_meaning.specs.Expressions.{eval}
use Rattle.py_meaning.specs.Modules.{LoadedModule}
use Rattle.py_meaning.specs.Places.{Place, bound, unbound}
use Rattle.py_meaning.specs.Statements.{Out, normal, using, has_clauses, handle, settle, caught_by, handled as in_suite, exec, exec_kind, exec_opt, exec_clauses, exec_finally}
use Rattle.py_meaning.proofs.Steady.{steady-give, steady-chain}
use Rattle.py_meaning.proofs.SteadyExpressions.{steady-eval}
use Rattle.py_meaning.proofs.SteadyStatements.{steady_law, steady-opt, steady-clauses, steady-handle}
use Rattle.py_code.specs.declared.instr.Instr.TheVariants.{Pop, Goto, Catches, Caught, Uncaught, Ending}
use Rattle.py_code.specs.Configurations.{on, by_raise, Operand, of_value, of_way}
use Rattle.py_code.specs.Units.{Code, Module, unit_at}
use Rattle.py_compile_expr.specs.Cells.{plain, Cell, put as put_cell}
use Rattle.py_compile_expr.specs.Expressions.{expr_size, expr_code}
use Rattle.py_compile_expr.specs.Runs.{Spot, from as going, thrown, after, on_top, Fits, Matches, part_of, CallsRun}
use Rattle.py_compile_expr.specs.Stands.{HasAt}
use Rattle.py_compile_expr.proofs.PartRuns.{part_at}
use Rattle.py_compile_expr.proofs.ExpressionRuns.{eval_runs}
use Rattle.py_compile_expr.proofs.Places.{has_front, has_at}
use Rattle.py_compile_expr.proofs.Simulation.{fits_less, fits_more, truth_on_top, at_most, led, answered, thrown_over}
use Rattle.py_compile_expr.proofs.Sizes.{expr_length}
use Rattle.py_compile.specs.StatementRuns.{after_out, FitsWays}
use Rattle.py_compile.specs.Statements.{tried_size, tried_code, caught_size, caught_code, exits_code, stmts_size, opt_size, clauses_size, stmts_code, opt_code, clauses_code}
use Rattle.py_compile.specs.Ways.{Ways, under, in_finally, in_try, in_clause, in_hand}
use Rattle.py_compile.proofs.Flow.{ways_less, ways_under, uses, ends_on, led_on, mark_runs, threw_runs}
use Rattle.py_compile.proofs.Forms.{here, StmtsRun, KindRuns, OptRuns, ClausesRun, using_value, using_gives}
use Rattle.py_compile.proofs.Sizes.{stmts_length, opt_length, clauses_length, caught_length, tried_length}
use Rattle.py_compile.proofs.TargetRuns.{store_runs, unset_runs}
use Rattle.py_compile.proofs.WaysOut.{outcome_of, finally_fits, try_fits, clause_fits, chain_is, given_back, handle_out, no_handle_out, last_out, over_out, suite_out, release_runs, settle_runs, truth_runs, nameless, named, unset_is, give_is}

module _ (cs : List Module) (ms : List LoadedModule) (matches : Matches cs ms) (c : Calls) (k : ℕ) (calls : CallsRun cs c k)
    (w : Spot) (u : Code) (is : unit_at cs w.code ≡ Some u) (handled : Option PlainRaised) where
  abbrev pl : Place
  pl = part_of ms u w.code handled

  abbrev fs : List Function
  fs = here cs ms c k w u

  abbrev way_on : PlainRaised → Bool → List Operand → List Operand
  way_on e b st = of_way (by_raise e b) ∷ st

  -- ---- clauses

  caught_runs : (kind : Option Expr) (v : Ways) (p next end : ℕ) (st : List Operand) (e : PlainRaised) (b : Bool) (m l : M Out) (s : State) (n : ℕ) → HasAt u p (caught_code v.guard p next kind) → p + caught_size kind ≤ next → next ≤ end → Fits v.guard end (length st) → n < k
      → ((t : State) (j : ℕ) → j ≤ n → going cs w (p + caught_size kind) (way_on e b st) t j ≡ after_out cs w v end st (m t j)) → ((t : State) (j : ℕ) → j ≤ n → going cs w next (way_on e b st) t j ≡ after_out cs w v end st (l t j))
      → going cs w p (way_on e b st) s n ≡ after_out cs w v end st (using (caught_by c pl kind e) (λ yes. if yes then m else l) s n)
  caught_runs None v p next end st e b m l s n has le less f lt hy hn =
      ap (λ q. going cs w q (way_on e b st) s n) (omega arith) ∙ (hy s n (omega arith) ∙ ap (after_out cs w v end st) (sym (using_gives true (λ yes. if yes then m else l) s n)))
  caught_runs (Some kd) v p next end st e b m l s n has le less f lt hy hn =
      let q = p + expr_size kd in
      let base = way_on e b st in
      let over : (x : PlainRaised) (t : State) (j : ℕ) → thrown cs w v.guard base x t j ≡ thrown cs w v.guard st x t j = thrown_over cs w v.guard end (of_way (by_raise e b)) st f in
      let more : (last : ℕ) → last ≤ end → Fits v.guard last (suc (length st)) = λ last small. fits_more v.guard last (length st) (suc (length st)) (omega arith) (fits_less v.guard end last (length st) small f) in
      let at = part_at cs ms matches c k calls w u is handled p (expr_size kd) (expr_code v.guard p kd) _ (expr_length v.guard p kd) has in
      let K = λ (yes : Bool). if yes then m else l in
      uses cs w on_top v q end base st (eval c pl kd) (λ x. using (give (catches x e.kind)) K) (going cs w p base s n) s n
      (eval_runs cs ms matches c k calls w u is handled kd v.guard p (has_front u p (expr_code v.guard p kd) _ has) base (more q (omega arith)) s n lt) (at_most _ (steady-eval c calls.steady pl kd) s n) over
      (λ x t j le1. uses cs w truth_on_top v (q + 1) end base st (give (catches x e.kind)) K (going cs w q (of_value x ∷ base) t j) t j
      (answered cs w u is truth_on_top v.guard q Catches (of_value x ∷ base) base (catches x e.kind) t j at.0.instr at.0.guard (more (q + 1) (omega arith)) refl ∙ ap (after cs w truth_on_top v.guard (q + 1) base) (sym (give_is (catches x e.kind) t j)))
      (at_most _ (steady-give _) t j) over
      (λ yes t2 j2 le2. truth_runs cs w u is yes v.guard v (q + 1) next end base st m l t2 j2 at.1.0 (omega arith)
      (ap (λ z. going cs w z base t2 j2) (omega arith) ∙ hy t2 j2 (omega arith)) (hn t2 j2 (omega arith))))
      ∙ ap (after_out cs w v end st) (sym (using_value (eval c pl kd) (λ x. give (catches x e.kind)) K s n))

  pub no_clauses_run : ClausesRun cs ms c k w u handled no_clauses
  unfolding exec_clauses note give
  no_clauses_run v p end has le st f e b s n lt =
      threw_runs cs w u is v.guard p Uncaught (way_on e b st) st e s s n has.0.instr has.0.guard (fits_less v.guard end (p + 1) (length st) (omega arith) f.guard) refl

  pub clause_runs : (kind : Option Expr) (first last : ℕ) (inline : Bool) (body : Stmts) (rest : Clauses) → ((e : PlainRaised) → StmtsRun cs ms c k w u (Some e) body) → ClausesRun cs ms c k w u handled rest
      → ClausesRun cs ms c k w u handled (clause kind None (suite first last inline body) rest)
  unfolding exec_clauses
  clause_runs kind first last inline body rest rb rr v p end has le st f e b s n lt =
      let begin = p + 1 + caught_size kind in
      let mid = begin + stmts_size true body in
      let next = mid + 2 in
      let base = way_on e b st in
      let m = exec c (part_of ms u w.code (Some e)) body in
      let at = part_at cs ms matches c k calls w u is handled (p + 1) (caught_size kind) (caught_code v.guard (p + 1) next kind) _ (caught_length v.guard (p + 1) next kind) has.1 in
      let behind = part_at cs ms matches c k calls w u is handled begin (stmts_size true body) (stmts_code fs (in_clause v) begin body) _ (stmts_length fs (in_clause v) begin body) at in
      let later : HasAt u next (clauses_code fs v next end rest) = has_at u (mid + 1 + 1) next _ (omega arith) behind.1.1 in
      mark_runs cs w u is first v.guard v p end base st _ s n has.0 (λ t j small.
      caught_runs kind v (p + 1) next end st e b (in_suite pl.scope None e m) (exec_clauses c pl rest e) t j (has_front u (p + 1) (caught_code v.guard (p + 1) next kind) _ has.1) (omega arith) (omega arith) f.guard (omega arith)
      (λ t2 j2 le2. rb e (in_clause v) begin (has_front u begin (stmts_code fs (in_clause v) begin body) _ at) base (ways_less (in_clause v) (Some e) end mid base (omega arith) (clause_fits v handled end e b st f)) t2 j2 (omega arith)
      ∙ (suite_out cs w v mid end (of_way (by_raise e b)) st f.guard (m t2 j2) (λ x y. led_on cs w u is mid Pop base st x x y behind.0.instr refl ∙ led cs w u is (mid + 1) end (Goto end) st st x x y behind.1.0.instr (omega arith) refl)
      ∙ ap (after_out cs w v end st) (sym (nameless pl.scope e m t2 j2))))
      (λ t2 j2 le2. rr v next end later (omega arith) st f e b t2 j2 (omega arith)))

  pub named_clause_runs : (kind : Option Expr) (x : Text) (first last : ℕ) (inline : Bool) (body : Stmts) (rest : Clauses) → ((e : PlainRaised) → StmtsRun cs ms c k w u (Some e) body) → ClausesRun cs ms c k w u handled rest
      → ClausesRun cs ms c k w u handled (clause kind (Some x) (suite first last inline body) rest)
  unfolding exec_clauses
  named_clause_runs kind x first last inline body rest rb rr v p end has le st f e b s n lt =
      let bind_at = p + 1 + caught_size kind in
      let begin = bind_at + 2 in
      let mid = begin + stmts_size true body in
      let release = mid + 1 in
      let pop_at = release + 1 + 4 in
      let next = release + 7 in
      let base = way_on e b st in
      let m = exec c (part_of ms u w.code (Some e)) body in
      let inner = in_finally (in_clause v) release in
      let at = part_at cs ms matches c k calls w u is handled (p + 1) (caught_size kind) (caught_code v.guard (p + 1) next kind) _ (caught_length v.guard (p + 1) next kind) has.1 in
      let suite_has = has_at u (bind_at + 1 + 1) begin _ (omega arith) at.1.1 in
      let behind = part_at cs ms matches c k calls w u is handled begin (stmts_size true body) (stmts_code fs inner begin body) _ (stmts_length fs inner begin body) suite_has in
      let tail_cells : List Cell = put_cell v.guard (plain Pop) (put_cell v.guard (plain (Goto end)) (clauses_code fs v next end rest)) in
      let exits : HasAt u (release + 1 + 1) (exits_code (under v) (release + 1 + 1)) = has_exits (λ q. exits_code (under v) q) (release + 2) (release + 1 + 1) (omega arith) (has_front u (release + 1 + 1) (exits_code (under v) (release + 2)) tail_cells behind.1.1.1) in
      let tail : HasAt u pop_at tail_cells = has_at u (release + 1 + 1 + 1 + 1 + 1) pop_at tail_cells (omega arith) behind.1.1.1.1.1.1 in
      let later : HasAt u next (clauses_code fs v next end rest) = has_at u (pop_at + 1 + 1) next _ (omega arith) tail.1.1 in
      let fits = clause_fits v handled end e b st f in
      let g = λ (o : Out). write (unbound pl.scope x) (give o) in
      mark_runs cs w u is first v.guard v p end base st _ s n has.0 (λ t j small.
      caught_runs kind v (p + 1) next end st e b (in_suite pl.scope (Some x) e m) (exec_clauses c pl rest e) t j (has_front u (p + 1) (caught_code v.guard (p + 1) next kind) _ has.1) (omega arith) (omega arith) f.guard (omega arith)
      (λ t2 j2 le2.
      let t3 = put (bound pl.scope x (exc_value e.kind e.arg)) t2 in
      led_on cs w u is bind_at Caught base (of_value (exc_value e.kind e.arg) ∷ base) t2 t2 j2 at.0.instr refl
      ∙ (store_runs cs ms matches c k calls w u is handled x (exc_value e.kind e.arg) v.guard (bind_at + 1) base t2 j2 at.1.0
      ∙ (ap (λ z. going cs w z base t3 j2) (omega arith)
      ∙ (rb e inner begin (has_front u begin (stmts_code fs inner begin body) _ suite_has) base (finally_fits (in_clause v) (Some e) release mid end base (omega arith) (omega arith) fits) t3 j2 (omega arith)
      ∙ (last_out cs w (in_clause v) mid release pop_at base (m t3 j2) g j2 (at_most _ (steady_law c calls.steady (part_of ms u w.code (Some e)) body) t3 j2) fits.depth
      (λ y z. led_on cs w u is mid Ending base (of_way on ∷ base) y y z behind.0.instr refl)
      (λ a y z le3. unset_runs cs ms matches c k calls w u is handled x v.guard release (of_way a ∷ base) y z behind.1.0
      ∙ (release_runs cs w u is a handled (under v) (release + 1) end base behind.1.1.0 exits (omega arith) (ways_under v handled end (of_way (by_raise e b)) st f) (put (unbound pl.scope x) y) z
      ∙ ap (after_out cs w (in_clause v) pop_at base) (sym (unset_is pl.scope x (outcome_of a) y z))))
      ∙ (suite_out cs w v pop_at end (of_way (by_raise e b)) st f.guard (bind (m t3 j2) g) (λ y z. led_on cs w u is pop_at Pop base st y y z tail.0.instr refl ∙ led cs w u is (pop_at + 1) end (Goto end) st st y y z tail.1.0.instr (omega arith) refl)
      ∙ ap (after_out cs w v end st) (sym (named pl.scope x e m t2 j2))))))))
      (λ t2 j2 le2. rr v next end later (omega arith) st f e b t2 j2 (omega arith)))
    where
      has_exits : (h : ℕ → List Cell) (a r : ℕ) → a ≡ r → HasAt u r (h a) → HasAt u r (h r)
      has_exits h a r same y = subst (λ z. HasAt u r (h z)) same y

  -- ---- `try`

  abbrev Handled : Bool → Stmts → Clauses → OptSuite → M Out
  Handled has body clauses orelse = chain (exec c pl body) (λ o. handle has o (exec_clauses c pl clauses) (exec_opt c pl orelse))

  tried_runs : (has : Bool) (body : Stmts) (clauses : Clauses) (orelse : OptSuite) → StmtsRun cs ms c k w u handled body → ClausesRun cs ms c k w u handled clauses → OptRuns cs ms c k w u handled orelse → (v : Ways) (p : ℕ)
      → HasAt u p (tried_code has v p (stmts_size (in_hand v) body) (opt_size (in_hand v) orelse) (clauses_size (in_hand v) clauses) (λ x q. stmts_code fs x q body) (λ q. opt_code fs v q orelse) (λ q end. clauses_code fs v q end clauses))
      → (st : List Operand) → FitsWays v handled (p + tried_size has (stmts_size (in_hand v) body) (opt_size (in_hand v) orelse) (clauses_size (in_hand v) clauses)) st → (s : State) (n : ℕ) → n < k
      → going cs w p st s n ≡ after_out cs w v (p + tried_size has (stmts_size (in_hand v) body) (opt_size (in_hand v) orelse) (clauses_size (in_hand v) clauses)) st (Handled has body clauses orelse s n)
  tried_runs false body clauses orelse rb rc ro v p code st f s n lt =
      let mid = p + stmts_size (in_hand v) body in
      let end = p + (stmts_size (in_hand v) body + opt_size (in_hand v) orelse) in
      let last = mid + opt_size (in_hand v) orelse in
      let same : last ≡ end = omega arith in
      let behind = part_at cs ms matches c k calls w u is handled p (stmts_size (in_hand v) body) (stmts_code fs v p body) _ (stmts_length fs v p body) code in
      rb v p (has_front u p (stmts_code fs v p body) _ code) st (ways_less v handled end mid st (omega arith) f) s n lt
      ∙ (no_handle_out cs w v mid end st (exec c pl body s n) (exec_clauses c pl clauses) (exec_opt c pl orelse) n (at_most _ (steady_law c calls.steady pl body) s n)
      (λ t j le. ro v mid behind st (ways_less v handled end last st (omega arith) f) t j (omega arith) ∙ ap (λ m. after_out cs w v m st (exec_opt c pl orelse t j)) same)
      ∙ ap (after_out cs w v end st) (sym (chain_is (exec c pl body) _ s n)))
  tried_runs true body clauses orelse rb rc ro v p code st f s n lt =
      let mid = p + stmts_size (in_hand v) body in
      let jump = mid + opt_size (in_hand v) orelse in
      let begin = jump + 1 in
      let last = begin + clauses_size (in_hand v) clauses in
      let end = p + (stmts_size (in_hand v) body + opt_size (in_hand v) orelse + 1 + clauses_size (in_hand v) clauses) in
      let same : last ≡ end = omega arith in
      let g = ways_less v handled end last st (omega arith) f in
      let behind = part_at cs ms matches c k calls w u is handled p (stmts_size (in_hand v) body) (stmts_code fs (in_try v begin) p body) _ (stmts_length fs (in_try v begin) p body) code in
      let jumped = part_at cs ms matches c k calls w u is handled mid (opt_size (in_hand v) orelse) (opt_code fs v mid orelse) _ (opt_length fs v mid orelse) behind in
      rb (in_try v begin) p (has_front u p (stmts_code fs (in_try v begin) p body) _ code) st (try_fits v handled begin mid end st (omega arith) (omega arith) f) s n lt
      ∙ (handle_out cs w v mid begin last st (exec c pl body s n) (exec_clauses c pl clauses) (exec_opt c pl orelse) n (at_most _ (steady_law c calls.steady pl body) s n) f.depth
      (λ e b t j le. rc v begin last jumped.1 (omega arith) st g e b t j (omega arith))
      (λ t j le. ro v mid (has_front u mid (opt_code fs v mid orelse) _ behind) st (ways_less v handled end jump st (omega arith) f) t j (omega arith)
      ∙ ends_on cs w v jump last st (exec_opt c pl orelse t j) (λ y z. led cs w u is jump last (Goto last) st st y y z jumped.0.instr (omega arith) refl))
      ∙ (ap (after_out cs w v last st) (sym (chain_is (exec c pl body) (λ o. handle true o (exec_clauses c pl clauses) (exec_opt c pl orelse)) s n)) ∙ ap (λ m. after_out cs w v m st (Handled true body clauses orelse s n)) same))

  pub try_runs : (first last : ℕ) (inline : Bool) (body : Stmts) (clauses : Clauses) (orelse : OptSuite) → StmtsRun cs ms c k w u handled body → ClausesRun cs ms c k w u handled clauses → OptRuns cs ms c k w u handled orelse
      → KindRuns cs ms c k w u handled (try (suite first last inline body) clauses orelse no_suite)
  unfolding exec_kind exec_finally
  try_runs first last inline body clauses orelse rb rc ro l v p has st f s n lt =
      let size = tried_size (has_clauses clauses) (stmts_size (in_hand v) body) (opt_size (in_hand v) orelse) (clauses_size (in_hand v) clauses) in
      let end = p + (1 + size) in
      let last_at = p + 1 + size in
      let same : last_at ≡ end = omega arith in
      mark_runs cs w u is l v.guard v p end st st _ s n has.0 (λ t j small.
      tried_runs (has_clauses clauses) body clauses orelse rb rc ro v (p + 1) has.1 st (ways_less v handled end last_at st (omega arith) f) t j (omega arith)
      ∙ (ap (λ m. after_out cs w v m st (Handled (has_clauses clauses) body clauses orelse t j)) same
      ∙ ap (after_out cs w v end st) (sym (chain_is (Handled (has_clauses clauses) body clauses orelse) (λ o. give o) t j ∙ given_back (Handled (has_clauses clauses) body clauses orelse t j)))))

  pub try_finally_runs : (first last : ℕ) (inline : Bool) (body : Stmts) (clauses : Clauses) (orelse : OptSuite) (first2 last2 : ℕ) (inline2 : Bool) (finally : Stmts)
      → StmtsRun cs ms c k w u handled body → ClausesRun cs ms c k w u handled clauses → OptRuns cs ms c k w u handled orelse → StmtsRun cs ms c k w u handled finally
      → KindRuns cs ms c k w u handled (try (suite first last inline body) clauses orelse (has_suite (suite first2 last2 inline2 finally)))
  unfolding exec_kind exec_finally
  try_finally_runs first last inline body clauses orelse first2 last2 inline2 finally rb rc ro rf l v p has st f s n lt =
      let size = tried_size (has_clauses clauses) (stmts_size (in_hand v) body) (opt_size (in_hand v) orelse) (clauses_size (in_hand v) clauses) in
      let normal_at = p + 1 + size in
      let begin = normal_at + 1 in
      let inner = in_finally v begin in
      let settle_at = begin + stmts_size (in_hand v) finally in
      let end = p + (1 + size + 1 + stmts_size (in_hand v) finally + 4) in
      let last_at = settle_at + 4 in
      let same : last_at ≡ end = omega arith in
      let tries = tried_code (has_clauses clauses) inner (p + 1) (stmts_size (in_hand v) body) (opt_size (in_hand v) orelse) (clauses_size (in_hand v) clauses) (λ x q. stmts_code fs x q body) (λ q. opt_code fs inner q orelse) (λ q to. clauses_code fs inner q to clauses) in
      let long = tried_length (has_clauses clauses) inner (p + 1) (stmts_size (in_hand v) body) (opt_size (in_hand v) orelse) (clauses_size (in_hand v) clauses) (λ x q. stmts_code fs x q body) (λ q. opt_code fs inner q orelse) (λ q to. clauses_code fs inner q to clauses)
      (λ x q e. stmts_length fs x q body ∙ ap (λ h. stmts_size h body) e) (λ q. opt_length fs inner q orelse) (λ q to. clauses_length fs inner q to clauses) in
      let behind = part_at cs ms matches c k calls w u is handled (p + 1) size tries _ long has.1 in
      let settled = part_at cs ms matches c k calls w u is handled begin (stmts_size (in_hand v) finally) (stmts_code fs (under v) begin finally) _ (stmts_length fs (under v) begin finally) behind.1 in
      mark_runs cs w u is l v.guard v p end st st _ s n has.0 (λ t j small.
      tried_runs (has_clauses clauses) body clauses orelse rb rc ro inner (p + 1) (has_front u (p + 1) tries _ has.1) st (finally_fits v handled begin normal_at end st (omega arith) (omega arith) f) t j (omega arith)
      ∙ (last_out cs w v normal_at begin end st (Handled (has_clauses clauses) body clauses orelse t j) (λ o. chain (exec c pl finally) (λ d. settle d o)) j
      (at_most _ (steady-chain (exec c pl body) _ (steady_law c calls.steady pl body) (λ o. steady-handle (has_clauses clauses) o (exec_clauses c pl clauses) (exec_opt c pl orelse) (λ e. steady-clauses c calls.steady pl clauses e) (steady-opt c calls.steady pl orelse))) t j) f.depth
      (λ y z. led_on cs w u is normal_at Ending st (of_way on ∷ st) y y z behind.0.instr refl)
      (λ x y z le. rf (under v) begin (has_front u begin (stmts_code fs (under v) begin finally) _ behind.1) (of_way x ∷ st) (ways_less (under v) handled end settle_at (of_way x ∷ st) (omega arith) (ways_under v handled end (of_way x) st f)) y z (omega arith)
      ∙ (over_out cs w v settle_at end (of_way x) st f.guard (exec c pl finally y z) (outcome_of x) (λ y2 z2. settle_runs cs w u is x handled v settle_at end st settled.0 settled.1 (omega arith) f y2 z2 ∙ ap (λ m. after_out cs w v m st (settle normal (outcome_of x) y2 z2)) same)
      ∙ ap (after_out cs w v end st) (sym (chain_is (exec c pl finally) (λ d. settle d (outcome_of x)) y z))))
      ∙ ap (after_out cs w v end st) (sym (chain_is (Handled (has_clauses clauses) body clauses orelse) (λ o. chain (exec c pl finally) (λ d. settle d o)) t j))))
