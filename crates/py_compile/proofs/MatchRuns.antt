-- What the code of `match` does is what it means.
use Rattle.std.proofs.Common.{◌≡◌, ℕ, suc, ◌+◌, ◌<◌, ◌≤◌, List, [], ◌∷◌, ◌++◌, length, Option, Some, None, Bool, refl, sym, ap, ◌∙◌, arith}
use Rattle.std.specs.Prelude.{slice_get, remove, Ok, Err}
use Rattle.py_value.specs.Plain.{PlainValue, PlainRaised}
use Rattle.py_syntax.specs.Tree.{Text, Expr, Pattern, Stmts, suite, Cases, no_cases, case, match}
use Rattle.py_builtins.specs.World.{Names}
use Rattle.py_meaning.specs.Calls.{Calls}
use Rattle.py_meaning.specs.Computations.{Setting, State, M, Ans, put, give, chain, note, read, write, ask, branch}
use Rattle.py_meaning.specs.Expressions.{eval}
use Rattle.py_meaning.specs.Modules.{LoadedModule}
use Rattle.py_meaning.specs.Patterns.{Match, matched, bind_all}
use Rattle.py_meaning.specs.Places.{Place, bound}
use Rattle.py_meaning.specs.Statements.{Out, on_answer, using, on_match, guarded, exec, exec_kind, exec_cases}
use Rattle.py_meaning.proofs.SteadyExpressions.{steady-eval}
use Rattle.py_code.specs.declared.instr.Instr.TheVariants.{Pop, Copy, Roll, Goto, IfFalse}
use Rattle.py_code.specs.Configurations.{Operand, of_value}
use Rattle.py_code.specs.Machine.{falls, where_found}
use Rattle.py_code.specs.Units.{Code, Module, unit_at}
use Rattle.py_compile_expr.specs.Cells.{plain, Guard, Cell, put as put_cell}
use Rattle.py_compile_expr.specs.Expressions.{expr_size, expr_code}
use Rattle.py_compile_expr.specs.Patterns.{captured, pattern_size, Site, pattern_code, names_size, names_code}
use Rattle.py_compile_expr.specs.Runs.{Spot, conf, from as going, on_top, Fits, Matches, part_of, CallsRun}
use Rattle.py_compile_expr.specs.Stands.{HasAt}
use Rattle.py_compile_expr.proofs.PartRuns.{part_at}
use Rattle.py_compile_expr.proofs.ExpressionRuns.{eval_runs}
use Rattle.py_compile_expr.proofs.Places.{has_front, has_at}
use Rattle.py_compile_expr.proofs.Pushed.{pushed, drop_pushed, length_pushed}
use Rattle.py_compile_expr.proofs.Simulation.{fits_less, fits_more, at_most, led, thrown_over}
use Rattle.py_compile_expr.proofs.Sizes.{expr_length, pattern_length, names_length}
use Rattle.py_compile.specs.Proper.{ProperPattern}
use Rattle.py_compile.specs.StatementRuns.{after_out, FitsWays}
use Rattle.py_compile.specs.Statements.{guard_size, guard_code, stmts_size, cases_size, stmts_code, cases_code}
use Rattle.py_compile.specs.Ways.{Ways, in_hand}
use Rattle.py_compile.proofs.Flow.{ways_less, thrown_is, uses, ends_on, led_on, mark_runs}
use Rattle.py_compile.proofs.Forms.{here, StmtsRun, KindRuns, CasesRun, marked_uses, forks}
use Rattle.py_compile.proofs.PatternNames.{captured_names, values_in, as_many, HasNames, has_names}
use Rattle.py_compile.proofs.PatternOperands.{Falls}
use Rattle.py_compile.proofs.PatternRuns.{after_match, pattern_runs}
use Rattle.py_compile.proofs.Sizes.{stmts_length, guard_length}
use Rattle.py_compile.proofs.TargetRuns.{store_runs}

-- ---- the lowest of values that stand on each other

get_pushed : (vs : List PlainValue) (m : ℕ) (ys : List Operand) → slice_get (pushed vs ys) (length vs + m) ≡ slice_get ys m
get_pushed [] m ys = ap (λ n. slice_get ys n) (omega arith)
get_pushed (v ∷ vs) m ys =
    let count : suc (length vs) + m ≡ length vs + suc m = omega arith in
    ap (λ n. slice_get (pushed vs (of_value v ∷ ys)) n) count ∙ get_pushed vs (suc m) (of_value v ∷ ys)

remove_pushed : (vs : List PlainValue) (m : ℕ) (ys : List Operand) → remove (pushed vs ys) (length vs + m) ≡ pushed vs (remove ys m)
remove_pushed [] m ys = ap (λ n. remove ys n) (omega arith)
remove_pushed (v ∷ vs) m ys =
    let count : suc (length vs) + m ≡ length vs + suc m = omega arith in
    ap (λ n. remove (pushed vs (of_value v ∷ ys)) n) count ∙ remove_pushed vs (suc m) (of_value v ∷ ys)

-- a whole value, with nothing that waits
whole_falls : (most : ℕ) (R : List Operand) → Falls most 0 [] R R
whole_falls most R vs le = let long = length_pushed vs R in (omega arith, drop_pushed vs 0 R)

asked_is : {A : Type 0} (q : Setting → Ans A) (g : A → M Out) (s : State) (n : ℕ) → using (ask q) g s n ≡ on_answer (q s.now) g s n
unfolding using chain ask read give
asked_is q g s n = refl

bound_all : (b : Setting → Setting) (m : M Out) (s : State) (n : ℕ) → write b m s n ≡ m (put b s) n
unfolding write
bound_all b m s n = refl

module _ (cs : List Module) (ms : List LoadedModule) (matches : Matches cs ms) (c : Calls) (k : ℕ) (calls : CallsRun cs c k)
    (w : Spot) (u : Code) (is : unit_at cs w.code ≡ Some u) (handled : Option PlainRaised) where
  abbrev pl : Place
  pl = part_of ms u w.code handled

  -- the names of a match are bound
  bind_runs : (ns : Names) (xs : List Text) → captured_names ns ≡ xs → (g : Option Guard) (p : ℕ) → HasAt u p (names_code g xs) → (st : List Operand) (s : State) (n : ℕ)
      → going cs w p (pushed (values_in ns) st) s n ≡ going cs w (p + names_size xs) st (put (bind_all pl.scope ns) s) n
  bind_runs [] [] e g p has st s n = ap (λ m. going cs w m st s n) (omega arith)
  bind_runs [] (x ∷ xs) e g p has st s n = absurd cc
  bind_runs (a ∷ ns) [] e g p has st s n = absurd cc
  bind_runs (a ∷ ns) (x ∷ xs) e g p has st s n =
      let named : a.0 ≡ x = cc in
      let rest : captured_names ns ≡ xs = cc in
      let count : length xs ≡ length (values_in ns) + 0 = ap length (sym rest) ∙ (sym (as_many ns) ∙ omega arith) in
      let ys = pushed (values_in ns) (of_value a.1 ∷ st) in
      let d = conf w p ys s n in
      let found : slice_get ys (length xs) ≡ Some (of_value a.1) = ap (λ m. slice_get ys m) count ∙ get_pushed (values_in ns) 0 (of_value a.1 ∷ st) in
      let less : remove ys (length xs) ≡ pushed (values_in ns) st = ap (λ m. remove ys m) count ∙ remove_pushed (values_in ns) 0 (of_value a.1 ∷ st) in
      let t = put (bound pl.scope x a.1) s in
      led_on cs w u is p (Roll (length xs)) ys (of_value a.1 ∷ pushed (values_in ns) st) s s n has.0.instr
      (ap (λ o. where_found o d (λ y. falls (y ∷ remove ys (length xs)) d)) found ∙ ap (λ zs. falls (of_value a.1 ∷ zs) d) less)
      ∙ (store_runs cs ms matches c k calls w u is handled x a.1 g (p + 1) (pushed (values_in ns) st) s n has.1.0
      ∙ (bind_runs ns xs rest g (p + 1 + 1) has.1.1 st t n
      ∙ (ap (λ m. going cs w m st (put (bind_all pl.scope ns) t) n) (omega arith)
      ∙ ap (λ y. going cs w (p + (2 + names_size xs)) st (put (bind_all pl.scope ns) (put (bound pl.scope y a.1) s)) n) (sym named))))

  pub no_cases_run : CasesRun cs ms c k w u handled no_cases
  unfolding exec_cases give
  no_cases_run v p end has same st f x s n lt = led_on cs w u is p Pop (of_value x ∷ st) st s s n has.0.instr refl ∙ ap (λ m. going cs w m st s n) same

  -- the guard of a case, with the subject on top
  guard_runs : (guard : Option Expr) (v : Ways) (p next end : ℕ) (x : PlainValue) (st : List Operand) (body rest : M Out) → HasAt u p (guard_code v.guard p next guard) → p + guard_size guard < next → next ≤ end → Fits v.guard end (length st) → (s : State) (n : ℕ) → n < k
      → ((t : State) (j : ℕ) → j ≤ n → going cs w (p + guard_size guard) (of_value x ∷ st) t j ≡ after_out cs w v end st (body t j))
      → ((t : State) (j : ℕ) → j ≤ n → going cs w next (of_value x ∷ st) t j ≡ after_out cs w v end st (rest t j))
      → going cs w p (of_value x ∷ st) s n ≡ after_out cs w v end st (guarded c pl guard body rest s n)
  guard_runs None v p next end x st body rest has less le f s n lt chooses refuses = ap (λ m. going cs w m (of_value x ∷ st) s n) (omega arith) ∙ chooses s n (omega arith)
  guard_runs (Some e) v p next end x st body rest has less le f s n lt chooses refuses =
      let q = p + expr_size e in
      let base : List Operand = of_value x ∷ st in
      let at = part_at cs ms matches c k calls w u is handled p (expr_size e) (expr_code v.guard p e) _ (expr_length v.guard p e) has in
      uses cs w on_top v q end base st (eval c pl e) (λ a. branch a body rest) (going cs w p base s n) s n
      (eval_runs cs ms matches c k calls w u is handled e v.guard p (has_front u p (expr_code v.guard p e) _ has) base (fits_more v.guard q (length st) (suc (length st)) (omega arith) (fits_less v.guard end q (length st) (omega arith) f)) s n lt) (at_most _ (steady-eval c calls.steady pl e) s n)
      (thrown_over cs w v.guard end (of_value x) st f)
      (λ a t j le2. forks cs w u is a (IfFalse next) v q next end (of_value a ∷ base) base base st body rest t j at.0.instr (omega arith) refl
      (ap (λ m. going cs w m base t j) (omega arith) ∙ chooses t j le2) (refuses t j le2))

  -- a case, with the subject on top
  module _ (q : Pattern) (guard : Option Expr) (first last : ℕ) (inline : Bool) (body : Stmts) (rest : Cases) (ok : ProperPattern q) (rb : StmtsRun cs ms c k w u handled body) (rr : CasesRun cs ms c k w u handled rest)
      (v : Ways) (p end : ℕ) (has : HasAt u p (cases_code (here cs ms c k w u) v p end (case q guard (suite first last inline body) rest))) (same : p + cases_size (in_hand v) (case q guard (suite first last inline body) rest) ≡ end)
      (st : List Operand) (f : FitsWays v handled end st) (x : PlainValue) where
    abbrev bind_at : ℕ
    bind_at = p + 2 + pattern_size q

    abbrev guard_at : ℕ
    guard_at = bind_at + names_size (captured q)

    abbrev chosen : ℕ
    chosen = guard_at + guard_size guard

    abbrev begin : ℕ
    begin = chosen + 1

    abbrev back : ℕ
    back = begin + stmts_size (in_hand v) body

    abbrev next_case : ℕ
    next_case = back + 1

    abbrev base : List Operand
    base = of_value x ∷ st

    abbrev site : Site
    site = record { guard = v.guard; waiting = 0; fail = next_case; extra = 0 }

    whole : next_case + cases_size (in_hand v) rest ≡ end
    whole =
        let e : p + (2 + pattern_size q + names_size (captured q) + guard_size guard + 1 + stmts_size (in_hand v) body + 1 + cases_size (in_hand v) rest) ≡ end = same in
        omega arith

    abbrev suite_cells : List Cell
    suite_cells = put_cell v.guard (plain Pop) (stmts_code (here cs ms c k w u) v begin body ++ put_cell v.guard (plain (Goto end)) (cases_code (here cs ms c k w u) v next_case end rest))

    abbrev bound_cells : List Cell
    bound_cells = names_code v.guard (captured q) ++ (guard_code v.guard guard_at next_case guard ++ suite_cells)

    pattern_has : HasAt u (p + 2) (pattern_code site (p + 2) q ++ bound_cells)
    pattern_has = has_at u (p + 1 + 1) (p + 2) (pattern_code site (p + 2) q ++ bound_cells) (omega arith) has.1.1

    names_has : HasAt u bind_at bound_cells
    names_has = part_at cs ms matches c k calls w u is handled (p + 2) (pattern_size q) (pattern_code site (p + 2) q) bound_cells (pattern_length site (p + 2) q) pattern_has

    guard_has : HasAt u guard_at (guard_code v.guard guard_at next_case guard ++ suite_cells)
    guard_has = part_at cs ms matches c k calls w u is handled bind_at (names_size (captured q)) (names_code v.guard (captured q)) (guard_code v.guard guard_at next_case guard ++ suite_cells) (names_length v.guard (captured q)) names_has

    suite_has : HasAt u chosen suite_cells
    suite_has = part_at cs ms matches c k calls w u is handled guard_at (guard_size guard) (guard_code v.guard guard_at next_case guard) suite_cells (guard_length v.guard guard_at next_case guard) guard_has

    left_has : HasAt u back (put_cell v.guard (plain (Goto end)) (cases_code (here cs ms c k w u) v next_case end rest))
    left_has = part_at cs ms matches c k calls w u is handled begin (stmts_size (in_hand v) body) (stmts_code (here cs ms c k w u) v begin body) _ (stmts_length (here cs ms c k w u) v begin body) suite_has.1

    body_law : (t : State) (j : ℕ) → j < k → going cs w chosen base t j ≡ after_out cs w v end st (exec c pl body t j)
    body_law t j less =
        let e = whole in
        led_on cs w u is chosen Pop base st t t j suite_has.0.instr refl
        ∙ (rb v begin (has_front u begin (stmts_code (here cs ms c k w u) v begin body) _ suite_has.1) st (ways_less v handled end back st (omega arith) f) t j less
        ∙ ends_on cs w v back end st (exec c pl body t j) (λ y z. led cs w u is back end (Goto end) st st y y z left_has.0.instr (omega arith) refl))

    rest_law : (t : State) (j : ℕ) → j < k → going cs w next_case base t j ≡ after_out cs w v end st (exec_cases c pl rest x t j)
    rest_law t j less = rr v next_case end left_has.1 whole st f x t j less

    abbrev then_case : Match → M Out
    then_case found = on_match found (λ names. write (bind_all pl.scope names) (guarded c pl guard (exec c pl body) (exec_cases c pl rest x))) (exec_cases c pl rest x)

    found_law : (r : Ans Match) (t : State) (j : ℕ) → j < k → going cs w (p + 2) (of_value x ∷ base) t j ≡ after_match cs w site bind_at [] base base r t j → HasNames (captured q) r
        → going cs w (p + 2) (of_value x ∷ base) t j ≡ after_out cs w v end st (on_answer r then_case t j)
    unfolding note give
    found_law (Ok None) t j less e h = e ∙ rest_law t j less
    found_law (Ok (Some ns)) t j less e h =
        let place = whole in
        let t2 = put (bind_all pl.scope ns) t in
        e ∙ (bind_runs ns (captured q) h v.guard bind_at (has_front u bind_at (names_code v.guard (captured q)) _ names_has) base t j
        ∙ (guard_runs guard v guard_at next_case end x st (exec c pl body) (exec_cases c pl rest x) (has_front u guard_at (guard_code v.guard guard_at next_case guard) _ guard_has) (omega arith) (omega arith) f.guard t2 j less
        (λ y z le. body_law y z (omega arith)) (λ y z le. rest_law y z (omega arith))
        ∙ ap (after_out cs w v end st) (sym (bound_all (bind_all pl.scope ns) (guarded c pl guard (exec c pl body) (exec_cases c pl rest x)) t j))))
    found_law (Err y) t j less e h = e ∙ (thrown_over cs w v.guard end (of_value x) st f.guard y t j ∙ thrown_is cs w v.guard st y t j)

    case_law : (s : State) (n : ℕ) → n < k → going cs w p base s n ≡ after_out cs w v end st (exec_cases c pl (case q guard (suite first last inline body) rest) x s n)
    unfolding exec_cases
    case_law s n lt =
        mark_runs cs w u is first v.guard v p end base st _ s n has.0 (λ t j small.
        let place = whole in
        led_on cs w u is (p + 1) (Copy 0) base (of_value x ∷ base) t t j has.1.0.instr refl
        ∙ (ap (λ m. going cs w m (of_value x ∷ base) t j) (omega arith)
        ∙ (found_law (matched pl.scope t.now q x) t j (omega arith)
        (pattern_runs cs ms matches c k calls w u is handled t j q ok site (p + 2) (has_front u (p + 2) (pattern_code site (p + 2) q) _ pattern_has) [] base base refl (omega arith) (whole_falls (length (captured q)) base)
        (fits_more v.guard bind_at (length st) (suc (length st)) (omega arith) (fits_less v.guard end bind_at (length st) (omega arith) f.guard)) x)
        (has_names pl.scope t.now q ok x)
        ∙ ap (after_out cs w v end st) (sym (asked_is (λ z. matched pl.scope z q x) then_case t j)))))

  pub case_runs : (q : Pattern) (guard : Option Expr) (first last : ℕ) (inline : Bool) (body : Stmts) (rest : Cases) → ProperPattern q → StmtsRun cs ms c k w u handled body → CasesRun cs ms c k w u handled rest
      → CasesRun cs ms c k w u handled (case q guard (suite first last inline body) rest)
  case_runs q guard first last inline body rest ok rb rr v p end has same st f x s n lt = case_law q guard first last inline body rest ok rb rr v p end has same st f x s n lt

  pub match_runs : (subject : Expr) (header : ℕ) (cases : Cases) → CasesRun cs ms c k w u handled cases → KindRuns cs ms c k w u handled (match subject header cases)
  unfolding exec_kind
  match_runs subject header cases rc l v p has st f s n lt =
      let q = p + 1 + expr_size subject in
      let end = p + (1 + expr_size subject + cases_size (in_hand v) cases) in
      let last = q + cases_size (in_hand v) cases in
      let same : last ≡ end = omega arith in
      let at = part_at cs ms matches c k calls w u is handled (p + 1) (expr_size subject) (expr_code v.guard (p + 1) subject) _ (expr_length v.guard (p + 1) subject) has.1 in
      marked_uses cs w u is l on_top v p q end st (eval c pl subject) _ s n has.0 (steady-eval c calls.steady pl subject)
      (λ t j less. eval_runs cs ms matches c k calls w u is handled subject v.guard (p + 1) (has_front u (p + 1) (expr_code v.guard (p + 1) subject) _ has.1) st (fits_less v.guard end q (length st) (omega arith) f.guard) t j (omega arith))
      (λ a t j less. rc v q last at refl st (ways_less v handled end last st (omega arith) f) a t j (omega arith) ∙ ap (λ m. after_out cs w v m st (exec_cases c pl cases a t j)) same)
