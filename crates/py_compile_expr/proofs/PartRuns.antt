-- What parts of an expression do: choices by a truth, links of a chain, slices and the values of a call.
use Rattle.std.proofs.Common.{◌≡◌, ℕ, suc, ◌+◌, ◌<◌, List, [], ◌∷◌, ◌++◌, length, Option, Some, None, Bool, true, false, refl, sym, ap, ◌∙◌, subst, arith}
use Rattle.std.specs.Prelude.{slice_get, if◌then◌else◌, Ok, Err}
use Rattle.py_value.specs.Operators.{truth_of}
use Rattle.py_value.specs.Plain.{PlainValue, bool_value, PlainRaised}
use Rattle.py_syntax.specs.declared.expr.Comparison.{Comparison}
use Rattle.py_syntax.specs.Tree.{Expr, slice, Exprs, Links, no_links, link, OptExpr, absent, present}
use Rattle.py_builtins.specs.Callees.{Callee}
use Rattle.py_builtins.specs.Making.{sliced}
use Rattle.py_builtins.specs.World.{Names}
use Rattle.py_meaning.specs.Calls.{Calls, call_of}
use Rattle.py_meaning.specs.Computations.{Setting, State, Res, done, cut, M, Ans, bind, give, chain, read, on_value, value, ask, work, branch}
use Rattle.py_meaning.specs.Expressions.{gives, eval, eval_each, eval_opt}
use Rattle.py_meaning.specs.Modules.{LoadedModule}
use Rattle.py_meaning.specs.Places.{Place}
use Rattle.py_meaning.proofs.SteadyExpressions.{steady-each}
use Rattle.py_code.specs.declared.instr.Bounds.TheVariants.{Neither, From, To, Both}
use Rattle.py_code.specs.declared.instr.Instr.{Instr}
use Rattle.py_code.specs.declared.instr.Instr.TheVariants.{Not, Slice, Goto, Call}
use Rattle.py_code.specs.Configurations.{Operand, of_value, Locals}
use Rattle.py_code.specs.Machine.{act, answers, falls, jumps, pushes, links}
use Rattle.py_code.specs.Operands.{operand_of}
use Rattle.py_code.specs.Run.{Goes}
use Rattle.py_code.specs.Slots.{by_names}
use Rattle.py_code.specs.Units.{Code, Module, unit_at, handler_of}
use Rattle.py_compile_expr.specs.Cells.{plain, Guard, Cell, cell, put as put_cell}
use Rattle.py_compile_expr.specs.Expressions.{count, expr_size, each_size, links_size, expr_code, each_code}
use Rattle.py_compile_expr.specs.Runs.{Spot, conf, from, thrown, after, on_top, Fits, Matches, part_of, CallsRun}
use Rattle.py_compile_expr.specs.Stands.{StandsAt, HasAt, Guards}
use Rattle.py_compile_expr.proofs.Places.{has_front, has_behind}
use Rattle.py_compile_expr.proofs.Pushed.{pushed}
use Rattle.py_compile_expr.proofs.Simulation.{fits_less, fits_more, at_most, thrown_over, runs_on, led, threw, works}
use Rattle.py_compile_expr.proofs.Sizes.{expr_length, each_length}
use Rattle.py_compile_expr.proofs.InstructionRuns.{each_counts, ends_at, then_value, unchanged, call_runs, branch_is}

module _ (cs : List Module) (ms : List LoadedModule) (matches : Matches cs ms) (c : Calls) (k : ℕ) (calls : CallsRun cs c k)
    (w : Spot) (u : Code) (is : unit_at cs w.code ≡ Some u) (handled : Option PlainRaised) where
  abbrev pl : Place
  pl = part_of ms u w.code handled

  abbrev N : Locals Names
  N = by_names cs

  -- after values, a handler finds what it found
  pub over_values : (g : Option Guard) (end : ℕ) (vs : List PlainValue) (st : List Operand) → Fits g end (length st) → (x : PlainRaised) (t : State) (j : ℕ) → thrown cs w g (pushed vs st) x t j ≡ thrown cs w g st x t j
  over_values g end [] st f x t j = refl
  over_values g end (v ∷ vs) st f x t j =
      over_values g end vs (of_value v ∷ st) (fits_more g end (length st) (suc (length st)) (omega arith) f) x t j ∙ thrown_over cs w g end (of_value v) st f x t j

  -- the parts of code that follow each other
  pub part_at : (p m : ℕ) (xs ys : List Cell) → length xs ≡ m → HasAt u p (xs ++ ys) → HasAt u (p + m) ys
  part_at p m xs ys e h = has_behind u p m xs ys e h

  abbrev pub Runs : Expr → Type 0
  Runs e = (g : Option Guard) (p : ℕ) → HasAt u p (expr_code g p e) → (st : List Operand) → Fits g (p + expr_size e) (length st) → (s : State) (n : ℕ) → n < k
      → from cs w p st s n ≡ after cs w on_top g (p + expr_size e) st (eval c pl e s n)

  -- a jump after an expression
  pub goto_after : (g : Option Guard) (m end : ℕ) (st : List Operand) (r : Res (Ans PlainValue)) → StandsAt u m (cell g (plain (Goto end))) → m < end → after cs w on_top g m st r ≡ after cs w on_top g end st r
  goto_after g m end st (done (Ok v) s n) at lt = led cs w u is m end (Goto end) (of_value v ∷ st) (of_value v ∷ st) s s n at.instr lt refl
  goto_after g m end st (done (Err x) s n) at lt = refl
  goto_after g m end st (cut s) at lt = refl

  -- after a value, the first or the second of two computations, by its truth
  pub not_runs : (v : PlainValue) (g : Option Guard) (p : ℕ) (st : List Operand) (s : State) (n : ℕ) → StandsAt u p (cell g (plain Not))
      → from cs w p (of_value v ∷ st) s n ≡ after cs w on_top g (p + 1) st (branch v (gives (bool_value false)) (gives (bool_value true)) s n)
  unfolding give
  not_runs v g p st s n at = by_case (truth_of v s.now.world.heap) refl ∙ ap (after cs w on_top g (p + 1) st) (sym (branch_is cs ms matches c k calls w u is handled v (gives (bool_value false)) (gives (bool_value true)) s n))
    where
      to : Bool → from cs w p (of_value v ∷ st) s n ≡ from cs w p (of_value v ∷ st) s n
      to b = refl

      by_case : (b : Bool) → act N cs u Not (of_value v ∷ st) (conf w p (of_value v ∷ st) s n)
          ≡ (if b then pushes (bool_value false) st (conf w p (of_value v ∷ st) s n) else pushes (bool_value true) st (conf w p (of_value v ∷ st) s n))
          → from cs w p (of_value v ∷ st) s n ≡ after cs w on_top g (p + 1) st (if b then done (Ok (bool_value false)) s n else done (Ok (bool_value true)) s n)
      by_case true e =
          let next : suc p ≡ p + 1 = omega arith in
          led cs w u is p (p + 1) Not (of_value v ∷ st) (of_value (bool_value false) ∷ st) s s n at.instr (omega arith) (e ∙ ap (λ q. Goes (conf w q (of_value (bool_value false) ∷ st) s n)) next)
      by_case false e =
          let next : suc p ≡ p + 1 = omega arith in
          led cs w u is p (p + 1) Not (of_value v ∷ st) (of_value (bool_value true) ∷ st) s s n at.instr (omega arith) (e ∙ ap (λ q. Goes (conf w q (of_value (bool_value true) ∷ st) s n)) next)

  -- an instruction that goes to the next place with some operands, or to another with others
  pub forks : (v : PlainValue) (i : Instr) (g : Option Guard) (p to end : ℕ) (xs ys zs st : List Operand) (m l : M (Ans PlainValue)) (s : State) (n : ℕ) → slice_get u.instrs p ≡ Some i → p < to
      → act N cs u i xs (conf w p xs s n) ≡ (if truth_of v s.now.world.heap then falls ys (conf w p xs s n) else jumps to zs (conf w p xs s n))
      → from cs w (p + 1) ys s n ≡ after cs w on_top g end st (m s n) → from cs w to zs s n ≡ after cs w on_top g end st (l s n) → from cs w p xs s n ≡ after cs w on_top g end st (branch v m l s n)
  forks v i g p to end xs ys zs st m l s n at lt e hy hn = by_case (truth_of v s.now.world.heap) e ∙ ap (after cs w on_top g end st) (sym (branch_is cs ms matches c k calls w u is handled v m l s n))
    where
      by_case : (b : Bool) → act N cs u i xs (conf w p xs s n) ≡ (if b then falls ys (conf w p xs s n) else jumps to zs (conf w p xs s n)) → from cs w p xs s n ≡ after cs w on_top g end st (if b then m s n else l s n)
      by_case true q = let next : suc p ≡ p + 1 = omega arith in led cs w u is p (p + 1) i xs ys s s n at (omega arith) (q ∙ ap (λ r. Goes (conf w r ys s n)) next) ∙ hy
      by_case false q = led cs w u is p to i xs zs s s n at lt q ∙ hn

  -- the other way round
  pub forks_back : (v : PlainValue) (i : Instr) (g : Option Guard) (p to end : ℕ) (xs ys zs st : List Operand) (m l : M (Ans PlainValue)) (s : State) (n : ℕ) → slice_get u.instrs p ≡ Some i → p < to
      → act N cs u i xs (conf w p xs s n) ≡ (if truth_of v s.now.world.heap then jumps to zs (conf w p xs s n) else falls ys (conf w p xs s n))
      → from cs w to zs s n ≡ after cs w on_top g end st (m s n) → from cs w (p + 1) ys s n ≡ after cs w on_top g end st (l s n) → from cs w p xs s n ≡ after cs w on_top g end st (branch v m l s n)
  forks_back v i g p to end xs ys zs st m l s n at lt e hy hn = by_case (truth_of v s.now.world.heap) e ∙ ap (after cs w on_top g end st) (sym (branch_is cs ms matches c k calls w u is handled v m l s n))
    where
      by_case : (b : Bool) → act N cs u i xs (conf w p xs s n) ≡ (if b then jumps to zs (conf w p xs s n) else falls ys (conf w p xs s n)) → from cs w p xs s n ≡ after cs w on_top g end st (if b then m s n else l s n)
      by_case true q = led cs w u is p to i xs zs s s n at lt q ∙ hy
      by_case false q = let next : suc p ≡ p + 1 = omega arith in led cs w u is p (p + 1) i xs ys s s n at (omega arith) (q ∙ ap (λ r. Goes (conf w r ys s n)) next) ∙ hn

  -- a comparison in a chain, which goes on with the right operand or ends with False
  pub link_runs : (r : Ans Bool) (i : Instr) (g : Option Guard) (p end : ℕ) (xs st : List Operand) (y : PlainValue) (next : M (Ans PlainValue)) (s : State) (n : ℕ) → slice_get u.instrs p ≡ Some i
      → Guards g (handler_of p u.handlers) → Fits g (p + 1) (length st) → p < end
      → act N cs u i xs (conf w p xs s n) ≡ answers N cs r st (conf w p xs s n) (λ b. links N cs b (of_value y) end st (conf w p xs s n))
      → from cs w (p + 1) (of_value y ∷ st) s n ≡ after cs w on_top g end st (next s n)
      → from cs w p xs s n ≡ after cs w on_top g end st (bind (done r s n) (λ a. on_value a (λ b. if b then next else gives (bool_value false))))
  unfolding give
  link_runs (Ok true) i g p end xs st y next s n at guard fits lt e h =
      let more : suc p ≡ p + 1 = omega arith in led cs w u is p (p + 1) i xs (of_value y ∷ st) s s n at (omega arith) (e ∙ ap (λ q. Goes (conf w q (of_value y ∷ st) s n)) more) ∙ h
  link_runs (Ok false) i g p end xs st y next s n at guard fits lt e h = led cs w u is p end i xs (of_value (bool_value false) ∷ st) s s n at lt e
  link_runs (Err x) i g p end xs st y next s n at guard fits lt e h = threw cs w u is g p i xs st x s s n at guard fits e

  pub asks_is : {A B : Type 0} (f : Setting → Ans A) (next : A → M (Ans B)) (s : State) (n : ℕ) → value (ask f) next s n ≡ bind (done (f s.now) s n) (λ a. on_value a next)
  unfolding value chain ask read give
  asks_is f next s n = refl

  pub truth_is : (b : Bool) (s : State) (n : ℕ) → done (Ok (bool_value b)) s n ≡ (if b then gives (bool_value true) else gives (bool_value false)) s n
  unfolding give
  truth_is true s n = refl
  truth_is false s n = refl

  -- a bound that is there
  pub present_is : {B : Type 0} (e : Expr) (next : Option PlainValue → M (Ans B)) (s : State) (n : ℕ) → value (eval_opt c pl (present e)) next s n ≡ value (eval c pl e) (λ v. next (Some v)) s n
  unfolding eval_opt value chain give
  present_is {B} e next s n = by_result (eval c pl e s n)
    where
      by_answer : (a : Ans PlainValue) (t : State) (j : ℕ) → bind (on_value a (λ v. gives (Some v)) t j) (λ o. on_value o next) ≡ on_value a (λ v. next (Some v)) t j
      by_answer (Ok v) t j = refl
      by_answer (Err x) t j = refl

      by_result : (r : Res (Ans PlainValue)) → bind (bind r (λ a. on_value a (λ v. gives (Some v)))) (λ o. on_value o next) ≡ bind r (λ a. on_value a (λ v. next (Some v)))
      by_result (done a t j) = by_answer a t j
      by_result (cut t) = refl

  pub absent_is : {B : Type 0} (next : Option PlainValue → M (Ans B)) (s : State) (n : ℕ) → value (eval_opt c pl absent) next s n ≡ next None s n
  unfolding eval_opt value chain give
  absent_is next s n = refl

  pub links_some : (op : Comparison) (e : Expr) (rest : Links) → 0 < links_size (link op e rest)
  links_some op e no_links = omega arith
  links_some op e (link op2 e2 rest) = omega arith

  abbrev pub OptRuns : OptExpr → Type 0
  OptRuns absent = Unit {0}
  OptRuns (present e) = Runs e

  -- two places ahead, written in two ways
  pub at_two : (g : Option Guard) (p : ℕ) (f : ℕ → List Cell) → HasAt u (p + 1 + 1) (f (p + 2)) → HasAt u (p + 1 + 1) (f (p + 1 + 1))
  at_two g p f h = subst (λ q. HasAt u (p + 1 + 1) (f q)) (omega arith) h

  pub at_two' : (g : Option Guard) (p m : ℕ) (f : ℕ → List Cell) → HasAt u (p + m + 1 + 1) (f (p + m + 2)) → HasAt u (p + m + 1 + 1) (f (p + m + 1 + 1))
  at_two' g p m f h = subst (λ q. HasAt u (p + m + 1 + 1) (f q)) (omega arith) h

  -- slices, by the bounds that are there
  pub slice_runs : (of : Expr) (a b : OptExpr) → Runs of → OptRuns a → OptRuns b → Runs (slice of a b)
  unfolding eval
  slice_runs of absent absent runs ra rb g p has st fits s n lt =
      let q = p + expr_size of in
      let end = p + (expr_size of + 0 + 0 + 1) in
      let here : Fits g (q + 1) (length st) = fits_less g end (q + 1) (length st) (omega arith) fits in
      let front = has_front u p (expr_code g p of) _ has in
      let at = part_at p (expr_size of) (expr_code g p of) _ (expr_length g p of) has in
      let zero_more : q + 0 + 0 ≡ q = omega arith in
      then_value cs ms matches c k calls w u is handled on_top g q end st st of _ (from cs w p st s n) s n (runs g p front st (fits_less g (q + 1) q (length st) (omega arith) here) s n lt) (unchanged cs ms matches c k calls w u is handled g st)
      (λ v t j le. ends_at cs ms matches c k calls w u is handled on_top g (q + 1) end st (work (sliced v None None) t j) _ (omega arith)
      (works cs w u is on_top g q (Slice Neither) (of_value v ∷ st) st (sliced v None None) t j at.0.instr at.0.guard here refl)
      ∙ ap (after cs w on_top g end st) (sym (absent_is (λ a. value (eval_opt c pl absent) (λ b. work (sliced v a b))) t j ∙ absent_is (λ b. work (sliced v None b)) t j)))
  slice_runs of absent (present e) runs ra rb g p has st fits s n lt =
      let q = p + expr_size of in
      let r = q + expr_size e in
      let end = p + (expr_size of + 0 + expr_size e + 1) in
      let here : Fits g (r + 1) (length st) = fits_less g end (r + 1) (length st) (omega arith) fits in
      let front = has_front u p (expr_code g p of) _ has in
      let back = part_at p (expr_size of) (expr_code g p of) _ (expr_length g p of) has in
      let there : HasAt u q (expr_code g q e ++ put_cell g (plain (Slice To)) []) = subst (λ m. HasAt u q (expr_code g m e ++ put_cell g (plain (Slice To)) [])) (omega arith) back in
      let second = has_front u q (expr_code g q e) _ there in
      let at = part_at q (expr_size e) (expr_code g q e) _ (expr_length g q e) there in
      then_value cs ms matches c k calls w u is handled on_top g q end st st of _ (from cs w p st s n) s n (runs g p front st (fits_less g (r + 1) q (length st) (omega arith) here) s n lt) (unchanged cs ms matches c k calls w u is handled g st)
      (λ v t j le. then_value cs ms matches c k calls w u is handled on_top g r end (of_value v ∷ st) st e _ (from cs w q (of_value v ∷ st) t j) t j
      (rb g q second (of_value v ∷ st) (fits_more g r (length st) (suc (length st)) (omega arith) (fits_less g (r + 1) r (length st) (omega arith) here)) t j (omega arith))
      (thrown_over cs w g (r + 1) (of_value v) st here)
      (λ y t' j' le'. ends_at cs ms matches c k calls w u is handled on_top g (r + 1) end st (work (sliced v None (Some y)) t' j') _ (omega arith)
      (works cs w u is on_top g r (Slice To) (of_value y ∷ of_value v ∷ st) st (sliced v None (Some y)) t' j' at.0.instr at.0.guard here refl))
      ∙ ap (after cs w on_top g end st) (sym (absent_is (λ a. value (eval_opt c pl (present e)) (λ b. work (sliced v a b))) t j ∙ present_is e (λ b. work (sliced v None b)) t j)))
  slice_runs of (present e) absent runs ra rb g p has st fits s n lt =
      let q = p + expr_size of in
      let r = q + expr_size e in
      let end = p + (expr_size of + expr_size e + 0 + 1) in
      let here : Fits g (r + 1) (length st) = fits_less g end (r + 1) (length st) (omega arith) fits in
      let front = has_front u p (expr_code g p of) _ has in
      let back = part_at p (expr_size of) (expr_code g p of) _ (expr_length g p of) has in
      let second = has_front u q (expr_code g q e) _ back in
      let at = part_at q (expr_size e) (expr_code g q e) _ (expr_length g q e) back in
      then_value cs ms matches c k calls w u is handled on_top g q end st st of _ (from cs w p st s n) s n (runs g p front st (fits_less g (r + 1) q (length st) (omega arith) here) s n lt) (unchanged cs ms matches c k calls w u is handled g st)
      (λ v t j le. then_value cs ms matches c k calls w u is handled on_top g r end (of_value v ∷ st) st e (λ x. value (eval_opt c pl absent) (λ b. work (sliced v (Some x) b))) (from cs w q (of_value v ∷ st) t j) t j
      (ra g q second (of_value v ∷ st) (fits_more g r (length st) (suc (length st)) (omega arith) (fits_less g (r + 1) r (length st) (omega arith) here)) t j (omega arith))
      (thrown_over cs w g (r + 1) (of_value v) st here)
      (λ x t' j' le'. ends_at cs ms matches c k calls w u is handled on_top g (r + 1) end st (work (sliced v (Some x) None) t' j') _ (omega arith)
      (works cs w u is on_top g r (Slice From) (of_value x ∷ of_value v ∷ st) st (sliced v (Some x) None) t' j' at.0.instr at.0.guard here refl)
      ∙ ap (after cs w on_top g end st) (sym (absent_is (λ b. work (sliced v (Some x) b)) t' j')))
      ∙ ap (after cs w on_top g end st) (sym (present_is e (λ a. value (eval_opt c pl absent) (λ b. work (sliced v a b))) t j)))
  slice_runs of (present d) (present e) runs ra rb g p has st fits s n lt =
      let q = p + expr_size of in
      let m = q + expr_size d in
      let r = m + expr_size e in
      let end = p + (expr_size of + expr_size d + expr_size e + 1) in
      let here : Fits g (r + 1) (length st) = fits_less g end (r + 1) (length st) (omega arith) fits in
      let front = has_front u p (expr_code g p of) _ has in
      let back = part_at p (expr_size of) (expr_code g p of) _ (expr_length g p of) has in
      let second = has_front u q (expr_code g q d) _ back in
      let behind = part_at q (expr_size d) (expr_code g q d) _ (expr_length g q d) back in
      let third = has_front u m (expr_code g m e) _ behind in
      let at = part_at m (expr_size e) (expr_code g m e) _ (expr_length g m e) behind in
      then_value cs ms matches c k calls w u is handled on_top g q end st st of _ (from cs w p st s n) s n (runs g p front st (fits_less g (r + 1) q (length st) (omega arith) here) s n lt) (unchanged cs ms matches c k calls w u is handled g st)
      (λ v t j le.
      let one_on : List Operand = of_value v ∷ st in
      let more : Fits g (r + 1) (suc (length st)) = fits_more g (r + 1) (length st) (suc (length st)) (omega arith) here in
      then_value cs ms matches c k calls w u is handled on_top g m end one_on st d (λ x. value (eval_opt c pl (present e)) (λ b. work (sliced v (Some x) b))) (from cs w q one_on t j) t j
      (ra g q second one_on (fits_less g (r + 1) m (suc (length st)) (omega arith) more) t j (omega arith))
      (thrown_over cs w g (r + 1) (of_value v) st here)
      (λ x t' j' le'. then_value cs ms matches c k calls w u is handled on_top g r end (of_value x ∷ one_on) st e (λ y. work (sliced v (Some x) (Some y))) (from cs w m (of_value x ∷ one_on) t' j') t' j'
      (rb g m third (of_value x ∷ one_on) (fits_more g r (suc (length st)) (suc (suc (length st))) (omega arith) (fits_less g (r + 1) r (suc (length st)) (omega arith) more)) t' j' (omega arith))
      (λ z a b. thrown_over cs w g (r + 1) (of_value x) one_on more z a b ∙ thrown_over cs w g (r + 1) (of_value v) st here z a b)
      (λ y t'' j'' le''. ends_at cs ms matches c k calls w u is handled on_top g (r + 1) end st (work (sliced v (Some x) (Some y)) t'' j'') _ (omega arith)
      (works cs w u is on_top g r (Slice Both) (of_value y ∷ of_value x ∷ one_on) st (sliced v (Some x) (Some y)) t'' j'' at.0.instr at.0.guard here refl))
      ∙ ap (after cs w on_top g end st) (sym (present_is e (λ b. work (sliced v (Some x) b)) t' j')))
      ∙ ap (after cs w on_top g end st) (sym (present_is d (λ a. value (eval_opt c pl (present e)) (λ b. work (sliced v a b))) t j)))

  abbrev pub EachRuns : Exprs → Type 0
  EachRuns es = (g : Option Guard) (p : ℕ) → HasAt u p (each_code g p es) → (st : List Operand) → Fits g (p + each_size es) (length st) → (s : State) (n : ℕ) → n < k
      → from cs w p st s n ≡ after cs w pushed g (p + each_size es) st (eval_each c pl es s n)

  -- the values of a call after what is called, and the call
  pub arguments_run_on : (es : Exprs) → EachRuns es → (f : Callee) (g : Option Guard) (p end : ℕ) (st : List Operand) → Fits g (p + each_size es + 1) (length st)
      → HasAt u p (each_code g p es ++ put_cell g (plain (Call (count es))) []) → (s : State) (n : ℕ) → n < k → p + each_size es + 1 ≡ end
      → from cs w p (operand_of f ∷ st) s n ≡ after cs w on_top g end st (value (eval_each c pl es) (λ vs. call_of c ms f vs) s n)
  arguments_run_on es runs f g p end st fits has s n lt same =
      let q = p + each_size es in
      let base : List Operand = operand_of f ∷ st in
      let front = has_front u p (each_code g p es) _ has in
      let at = part_at p (each_size es) (each_code g p es) _ (each_length g p es) has in
      runs_on cs w pushed on_top (λ vs. length vs ≡ count es) g q end base st (eval_each c pl es) _ (from cs w p base s n) s n
      (runs g p front base (fits_more g q (length st) (suc (length st)) (omega arith) (fits_less g (q + 1) q (length st) (omega arith) fits)) s n lt)
      (at_most _ (steady-each c calls.steady pl es) s n) (each_counts c pl es s n) (thrown_over cs w g (q + 1) (operand_of f) st fits)
      (λ vs t j le many. ends_at cs ms matches c k calls w u is handled on_top g (q + 1) end st (call_of c ms f vs t j) _ same (call_runs cs ms matches c k calls w u is handled f (count es) vs g q st t j at.0 fits (omega arith) many))
