-- The code of statements by the lines of the module's `def`s.
use Rattle.std.proofs.Common.{◌≡◌, ℕ, suc, ◌+◌, List, [], ◌∷◌, ◌++◌, Some, None, Result, Ok, Err, IfOk, true, false, refl, sym, ap, ◌∙◌}
use Rattle.std.specs.Prelude.{nat_eq, if◌then◌else◌}
use Rattle.py_syntax.specs.Functions.{Function}
use Rattle.py_syntax.specs.Tree.{Text, Exprs, Stmts, no_stmts, stmt, suite, OptSuite, no_suite, has_suite, Arms, no_arms, arm, Clauses, no_clauses, clause, Cases, no_cases, case, StmtKind, expr, assign, aug_assign, pass, break, continue, return, raise, assert, global, import, from, if', while, for, try, def, match}
use Rattle.py_meaning.specs.Modules.{unit_at}
use Rattle.py_code.specs.declared.instr.Instr.TheVariants.{Pop, Copy, Goto, IfFalse, Walk, Next, Return, Caught, Ending, Settle, Release}
use Rattle.py_code.specs.declared.unit.Constant.TheVariants.{None as NoneConstant}
use Rattle.py_compile_expr.specs.Cells.{constant, store, unset, marks, marks_again, plain, Cell, put}
use Rattle.py_compile_expr.specs.Expressions.{expr_size, expr_code}
use Rattle.py_compile_expr.specs.Patterns.{captured, pattern_size, pattern_code, names_size, names_code}
use Rattle.py_compile_expr.specs.Targets.{target_size, target_code}
use Rattle.py_compile.specs.Statements.{function_code, caught_size, caught_code, guard_size, guard_code, exits_code, tried_size, stmts_size, stmts_code, kind_size, kind_code, opt_size, opt_code, arms_size, arms_code, clauses_size, clauses_code, cases_size, cases_code}
use Rattle.py_compile.specs.Units.{body_cells}
use Rattle.py_compile.specs.Ways.{Ways, outermost, under, in_loop, in_clause, in_finally, in_try, in_hand}
use Rattle.py_compile_body.specs.Parts.{at_lines, lines_of}

-- ---- units by lines

pub at_first : (l x : ℕ) (rest : List ℕ) → unit_at l (at_lines (x ∷ rest)) ≡ (if nat_eq x l then 1 else suc (unit_at l (at_lines rest)))
unfolding unit_at
at_first l x rest = refl

pub unit_by_lines : (l : ℕ) (fs : List Function) → unit_at l (at_lines (lines_of fs)) ≡ unit_at l fs
unfolding unit_at
unit_by_lines l [] = refl
unit_by_lines l (f ∷ fs) = ap (λ n. if nat_eq f.line l then 1 else suc n) (unit_by_lines l fs)

-- ---- code that names the same units

abbrev NamesSame : List Function → List Function → Type 0
NamesSame fs gs = (l : ℕ) → unit_at l fs ≡ unit_at l gs

-- a `def` by the unit of its function
abbrev def_code_at : Ways → (p l : ℕ) → Text → Exprs → (unit : ℕ) → List Cell
def_code_at w p l x defaults unit = put w.guard (marks l) (function_code w.guard (p + 1) unit defaults ++ put w.guard (store x) [])

-- two parts in a row
joined : (x y u v : List Cell) → x ≡ u → y ≡ v → x ++ y ≡ u ++ v
joined x y u v a b = ap (λ cs. cs ++ y) a ∙ ap (λ cs. u ++ cs) b

mutual
  pub stmts_same : (fs gs : List Function) → NamesSame fs gs → (w : Ways) (p : ℕ) (ss : Stmts) → stmts_code fs w p ss ≡ stmts_code gs w p ss
  stmts_same fs gs h w p no_stmts = refl
  stmts_same fs gs h w p (stmt first last k end rest) =
      joined _ _ _ _ (kind_same fs gs h w p first k) (stmts_same fs gs h w (p + kind_size (in_hand w) k) rest)

  kind_same : (fs gs : List Function) → NamesSame fs gs → (w : Ways) (p l : ℕ) (k : StmtKind) → kind_code fs w p l k ≡ kind_code gs w p l k
  kind_same fs gs h w p l (expr e) = refl
  kind_same fs gs h w p l (assign targets e) = refl
  kind_same fs gs h w p l (aug_assign place op e) = refl
  kind_same fs gs h w p l pass = refl
  kind_same fs gs h w p l break = refl
  kind_same fs gs h w p l continue = refl
  kind_same fs gs h w p l (return e) = refl
  kind_same fs gs h w p l (raise e) = refl
  kind_same fs gs h w p l (assert test why) = refl
  kind_same fs gs h w p l (global xs) = refl
  kind_same fs gs h w p l (import names) = refl
  kind_same fs gs h w p l (from m names) = refl
  kind_same fs gs h w p l (if' arms orelse) =
      let rest = p + arms_size (in_hand w) arms in
      joined _ _ _ _ (arms_same fs gs h w p (rest + opt_size (in_hand w) orelse) arms) (opt_same fs gs h w rest orelse)
  kind_same fs gs h w p l (while test (suite first last inline body) orelse) =
      let begin = p + 3 + expr_size test + 1 in
      let back = begin + stmts_size (in_hand w) body in
      let rest = back + 1 in
      ap (λ cs. put w.guard (marks l) (put w.guard (plain (Goto (p + 3))) (put w.guard (marks_again l) (expr_code w.guard (p + 3) test ++ put w.guard (plain (IfFalse rest)) cs))))
      (joined _ _ _ _ (stmts_same fs gs h (in_loop w 0 (rest + opt_size (in_hand w) orelse) back) begin body) (ap (put w.guard (plain (Goto (p + 2)))) (opt_same fs gs h w rest orelse)))
  kind_same fs gs h w p l (for target over (suite first last inline body) orelse) =
      let again = p + 1 + expr_size over + 2 in
      let begin = again + 2 + target_size target in
      let back = begin + stmts_size (in_hand w) body in
      let rest = back + 1 in
      ap (λ cs. put w.guard (marks l) (expr_code w.guard (p + 1) over ++ put w.guard (plain Walk) (put w.guard (plain (Goto (again + 1))) (put w.guard (marks_again l)
      (put w.guard (plain (Next rest)) (target_code w.guard (again + 2) target ++ cs))))))
      (joined _ _ _ _ (stmts_same fs gs h (in_loop (under w) 1 (rest + opt_size (in_hand w) orelse) back) begin body) (ap (put w.guard (plain (Goto again))) (opt_same fs gs h w rest orelse)))
  kind_same fs gs h w p l (try (suite first last inline body) no_clauses orelse no_suite) =
      ap (put w.guard (marks l)) (joined _ _ _ _ (stmts_same fs gs h w (p + 1) body) (opt_same fs gs h w (p + 1 + stmts_size (in_hand w) body) orelse))
  kind_same fs gs h w p l (try (suite first last inline body) (clause kind x s rest) orelse no_suite) =
      let begin = p + 1 + stmts_size (in_hand w) body + opt_size (in_hand w) orelse + 1 in
      let end = begin + clauses_size (in_hand w) (clause kind x s rest) in
      ap (put w.guard (marks l))
      (joined _ _ _ _ (stmts_same fs gs h (in_try w begin) (p + 1) body)
      (joined _ _ _ _ (opt_same fs gs h w (p + 1 + stmts_size (in_hand w) body) orelse) (ap (put w.guard (plain (Goto end))) (clauses_same fs gs h w begin end (clause kind x s rest)))))
  kind_same fs gs h w p l (try (suite first last inline body) no_clauses orelse (has_suite (suite f g i finally))) =
      let normal = p + 1 + (stmts_size (in_hand w) body + opt_size (in_hand w) orelse) in
      let inner = in_finally w (normal + 1) in
      ap (put w.guard (marks l))
      (joined _ _ _ _ (joined _ _ _ _ (stmts_same fs gs h inner (p + 1) body) (opt_same fs gs h inner (p + 1 + stmts_size (in_hand w) body) orelse))
      (ap (λ cs. put w.guard (plain Ending) (cs ++ put w.guard (plain Settle) (exits_code w (normal + 1 + stmts_size (in_hand w) finally + 1)))) (stmts_same fs gs h (under w) (normal + 1) finally)))
  kind_same fs gs h w p l (try (suite first last inline body) (clause kind x s rest) orelse (has_suite (suite f g i finally))) =
      let normal = p + 1 + tried_size true (stmts_size (in_hand w) body) (opt_size (in_hand w) orelse) (clauses_size (in_hand w) (clause kind x s rest)) in
      let inner = in_finally w (normal + 1) in
      let begin = p + 1 + stmts_size (in_hand w) body + opt_size (in_hand w) orelse + 1 in
      let end = begin + clauses_size (in_hand w) (clause kind x s rest) in
      ap (put w.guard (marks l))
      (joined _ _ _ _
      (joined _ _ _ _ (stmts_same fs gs h (in_try inner begin) (p + 1) body)
      (joined _ _ _ _ (opt_same fs gs h inner (p + 1 + stmts_size (in_hand w) body) orelse) (ap (put inner.guard (plain (Goto end))) (clauses_same fs gs h inner begin end (clause kind x s rest)))))
      (ap (λ cs. put w.guard (plain Ending) (cs ++ put w.guard (plain Settle) (exits_code w (normal + 1 + stmts_size (in_hand w) finally + 1)))) (stmts_same fs gs h (under w) (normal + 1) finally)))
  kind_same fs gs h w p l (def x params defaults comma body) = ap (λ n. def_code_at w p l x defaults n) (h l)
  kind_same fs gs h w p l (match subject header cases) =
      let first = p + 1 + expr_size subject in
      ap (λ cs. put w.guard (marks l) (expr_code w.guard (p + 1) subject ++ cs)) (cases_same fs gs h w first (first + cases_size (in_hand w) cases) cases)

  opt_same : (fs gs : List Function) → NamesSame fs gs → (w : Ways) (p : ℕ) (o : OptSuite) → opt_code fs w p o ≡ opt_code gs w p o
  opt_same fs gs h w p no_suite = refl
  opt_same fs gs h w p (has_suite (suite first last inline body)) = stmts_same fs gs h w p body

  arms_same : (fs gs : List Function) → NamesSame fs gs → (w : Ways) (p end : ℕ) (arms : Arms) → arms_code fs w p end arms ≡ arms_code gs w p end arms
  arms_same fs gs h w p end no_arms = refl
  arms_same fs gs h w p end (arm test (suite first last inline body) rest) =
      let begin = p + 1 + expr_size test + 1 in
      let next = begin + stmts_size (in_hand w) body + 1 in
      ap (λ cs. put w.guard (marks first) (expr_code w.guard (p + 1) test ++ put w.guard (plain (IfFalse next)) cs))
      (joined _ _ _ _ (stmts_same fs gs h w begin body) (ap (put w.guard (plain (Goto end))) (arms_same fs gs h w next end rest)))

  clauses_same : (fs gs : List Function) → NamesSame fs gs → (w : Ways) (p end : ℕ) (cs : Clauses) → clauses_code fs w p end cs ≡ clauses_code gs w p end cs
  clauses_same fs gs h w p end no_clauses = refl
  clauses_same fs gs h w p end (clause kind None (suite first last inline body) rest) =
      let begin = p + 1 + caught_size kind in
      let next = begin + stmts_size true body + 2 in
      ap (λ cs. put w.guard (marks first) (caught_code w.guard (p + 1) next kind ++ cs))
      (joined _ _ _ _ (stmts_same fs gs h (in_clause w) begin body) (ap (λ cs. put w.guard (plain Pop) (put w.guard (plain (Goto end)) cs)) (clauses_same fs gs h w next end rest)))
  clauses_same fs gs h w p end (clause kind (Some x) (suite first last inline body) rest) =
      let begin = p + 1 + caught_size kind + 2 in
      let release = begin + stmts_size true body + 1 in
      let next = release + 7 in
      ap (λ cs. put w.guard (marks first) (caught_code w.guard (p + 1) next kind ++ put w.guard (plain Caught) (put w.guard (store x) cs)))
      (joined _ _ _ _ (stmts_same fs gs h (in_finally (in_clause w) release) begin body)
      (ap (λ cs. put w.guard (plain Ending) (put w.guard (unset x) (put w.guard (plain Release) (exits_code (under w) (release + 2) ++ put w.guard (plain Pop) (put w.guard (plain (Goto end)) cs)))))
      (clauses_same fs gs h w next end rest)))

  cases_same : (fs gs : List Function) → NamesSame fs gs → (w : Ways) (p end : ℕ) (cs : Cases) → cases_code fs w p end cs ≡ cases_code gs w p end cs
  cases_same fs gs h w p end no_cases = refl
  cases_same fs gs h w p end (case q guard (suite first last inline body) rest) =
      let bind = p + 2 + pattern_size q in
      let begin = bind + names_size (captured q) + guard_size guard + 1 in
      let next = begin + stmts_size (in_hand w) body + 1 in
      ap (λ cs. put w.guard (marks first) (put w.guard (plain (Copy 0)) (pattern_code (record { guard = w.guard; waiting = 0; fail = next; extra = 0 }) (p + 2) q
      ++ (names_code w.guard (captured q) ++ (guard_code w.guard (bind + names_size (captured q)) next guard ++ put w.guard (plain Pop) cs)))))
      (joined _ _ _ _ (stmts_same fs gs h w begin body) (ap (put w.guard (plain (Goto end))) (cases_same fs gs h w next end rest)))

-- ---- bodies

pub body_same : (fs : List Function) (lines : List ℕ) (body : Stmts) → lines_of fs ≡ lines → body_cells (at_lines lines) body ≡ body_cells fs body
body_same fs lines body e =
    ap (λ cs. cs ++ put None (constant NoneConstant) (put None (plain Return) []))
    (stmts_same (at_lines lines) fs (λ l. ap (λ xs. unit_at l (at_lines xs)) (sym e) ∙ unit_by_lines l fs) (outermost (stmts_size false body)) 0 body)

pub body_by : {E : Type 0} (r : Result (List Cell) E) (lines : List ℕ) (body all : Stmts) → body ≡ all → IfOk r (λ b. b ≡ body_cells (at_lines lines) body)
    → IfOk r (λ b. (fs : List Function) → lines_of fs ≡ lines → b ≡ body_cells fs all)
body_by (Ok cs) lines body all same h = λ fs e. h ∙ ap (body_cells (at_lines lines)) same ∙ body_same fs lines all e
body_by (Err f) lines body all same h = h
