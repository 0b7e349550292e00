-- The code of compound statements by their parts, whatever their suites are.
use Rattle.std.proofs.Common.{◌≡◌, ℕ, ◌+◌, List, [], ◌++◌, Bool, true, Option, Some, None, ap, ◌∙◌, arith, append_assoc}
use Rattle.std.proofs.lemmas.List.{append-nil}
use Rattle.py_syntax.specs.Functions.{Function}
use Rattle.py_syntax.specs.Tree.{Text, Expr, Pattern, Suite, suite, OptSuite, no_suite, has_suite, Arms, arm, Clauses, no_clauses, clause, Cases, case, while, for, try}
use Rattle.py_code.specs.declared.instr.Instr.TheVariants.{Goto}
use Rattle.py_compile_expr.specs.Cells.{marks, plain, Cell, put}
use Rattle.py_compile_expr.specs.Expressions.{expr_size}
use Rattle.py_compile_expr.specs.Targets.{target_size, target_code}
use Rattle.py_compile_body.specs.Parts.{suite_body, suite_line, suite_size, try_end, try_begin, handlers_size, finally_size, named_size, case_head_size, clause_begin, clause_next, case_begin, finally_ways, tried_ways, clause_ways, arm_head, while_head, for_head, clause_head, clause_end, case_head, handlers_code, finally_code}
use Rattle.py_compile.specs.Statements.{caught_size, stmts_size, stmts_code, kind_size, kind_code, opt_size, opt_code, arms_size, arms_code, clauses_size, clauses_code, cases_size, cases_code}
use Rattle.py_compile.specs.Ways.{Ways, under, in_loop, in_clause, in_finally, in_try, in_hand}

-- ---- loops

pub while_size : (h : Bool) (t : Expr) (s : Suite) (o : OptSuite) → kind_size h (while t s o) ≡ expr_size t + suite_size h s + 5 + opt_size h o
while_size h t (suite f l i b) o = omega arith

pub while_form : (fs : List Function) (w : Ways) (p l : ℕ) (t : Expr) (s : Suite) (o : OptSuite)
    → kind_code fs w p l (while t s o)
    ≡ while_head w.guard p l t (p + 3 + expr_size t + 1 + suite_size (in_hand w) s + 1)
    ++ (stmts_code fs (in_loop w 0 (p + 3 + expr_size t + 1 + suite_size (in_hand w) s + 1 + opt_size (in_hand w) o) (p + 3 + expr_size t + 1 + suite_size (in_hand w) s)) (p + 3 + expr_size t + 1) (suite_body s)
    ++ put w.guard (plain (Goto (p + 2))) (opt_code fs w (p + 3 + expr_size t + 1 + suite_size (in_hand w) s + 1) o))
while_form fs w p l t (suite f g i b) o = simp append_assoc

pub for_size : (h : Bool) (t e : Expr) (s : Suite) (o : OptSuite) → kind_size h (for t e s o) ≡ expr_size e + target_size t + 6 + suite_size h s + opt_size h o
for_size h t e (suite f l i b) o = omega arith

pub for_form : (fs : List Function) (w : Ways) (p l : ℕ) (t e : Expr) (s : Suite) (o : OptSuite)
    → kind_code fs w p l (for t e s o)
    ≡ for_head w.guard p l e (p + 1 + expr_size e + 2 + 2 + target_size t + suite_size (in_hand w) s + 1)
    ++ (target_code w.guard (p + 1 + expr_size e + 2 + 2) t
    ++ (stmts_code fs (in_loop (under w) 1 (p + 1 + expr_size e + 2 + 2 + target_size t + suite_size (in_hand w) s + 1 + opt_size (in_hand w) o) (p + 1 + expr_size e + 2 + 2 + target_size t + suite_size (in_hand w) s))
    (p + 1 + expr_size e + 2 + 2 + target_size t) (suite_body s)
    ++ put w.guard (plain (Goto (p + 1 + expr_size e + 2))) (opt_code fs w (p + 1 + expr_size e + 2 + 2 + target_size t + suite_size (in_hand w) s + 1) o)))
for_form fs w p l t e (suite f g i b) o = simp append_assoc

-- ---- `if`

pub arms_form : (fs : List Function) (w : Ways) (p end : ℕ) (t : Expr) (s : Suite) (rest : Arms)
    → arms_code fs w p end (arm t s rest)
    ≡ arm_head w.guard p (suite_line s) (p + 1 + expr_size t + 1 + suite_size (in_hand w) s + 1) t
    ++ (stmts_code fs w (p + 1 + expr_size t + 1) (suite_body s) ++ (put w.guard (plain (Goto end)) [] ++ arms_code fs w (p + 1 + expr_size t + 1 + suite_size (in_hand w) s + 1) end rest))
arms_form fs w p end t (suite f g i b) rest = simp append_assoc

pub arms_form_size : (h : Bool) (t : Expr) (s : Suite) (rest : Arms) → arms_size h (arm t s rest) ≡ expr_size t + suite_size h s + 3 + arms_size h rest
arms_form_size h t (suite f g i b) rest = omega arith

-- ---- `try`

pub clauses_form : (fs : List Function) (w : Ways) (p end : ℕ) (k : Option Expr) (x : Option Text) (s : Suite) (rest : Clauses)
    → clauses_code fs w p end (clause k x s rest)
    ≡ clause_head w.guard p (suite_line s) (clause_next p k x s) k x
    ++ (stmts_code fs (clause_ways x (in_clause w) (clause_begin p k x + suite_size true s + 1)) (clause_begin p k x) (suite_body s)
    ++ (clause_end w (clause_begin p k x + suite_size true s) end x ++ clauses_code fs w (clause_next p k x s) end rest))
clauses_form fs w p end k None (suite f g i b) rest = simp (append_assoc, append-nil)
clauses_form fs w p end k (Some x) (suite f g i b) rest = simp (append_assoc, append-nil)

pub clauses_form_size : (h : Bool) (k : Option Expr) (x : Option Text) (s : Suite) (rest : Clauses) → clauses_size h (clause k x s rest) ≡ caught_size k + suite_size true s + named_size x + clauses_size h rest
clauses_form_size h k None (suite f g i b) rest = omega arith
clauses_form_size h k (Some x) (suite f g i b) rest = omega arith

-- ---- `match`

pub cases_form : (fs : List Function) (w : Ways) (p end : ℕ) (q : Pattern) (guard : Option Expr) (s : Suite) (rest : Cases)
    → cases_code fs w p end (case q guard s rest)
    ≡ case_head w.guard p (suite_line s) (case_begin p q guard + suite_size (in_hand w) s + 1) q guard
    ++ (stmts_code fs w (case_begin p q guard) (suite_body s) ++ (put w.guard (plain (Goto end)) [] ++ cases_code fs w (case_begin p q guard + suite_size (in_hand w) s + 1) end rest))
cases_form fs w p end q guard (suite f g i b) rest = simp append_assoc

pub cases_form_size : (h : Bool) (q : Pattern) (guard : Option Expr) (s : Suite) (rest : Cases) → cases_size h (case q guard s rest) ≡ case_head_size q guard + suite_size h s + 1 + cases_size h rest
cases_form_size h q guard (suite f g i b) rest = omega arith

pub try_size : (h : Bool) (s : Suite) (cs : Clauses) (o fin : OptSuite) → kind_size h (try s cs o fin) ≡ suite_size h s + opt_size h o + handlers_size h cs + finally_size h fin + 1
try_size h (suite f l i b) no_clauses o no_suite = omega arith
try_size h (suite f l i b) no_clauses o (has_suite (suite f2 l2 i2 b2)) = omega arith
try_size h (suite f l i b) (clause k x s rest) o no_suite = omega arith
try_size h (suite f l i b) (clause k x s rest) o (has_suite (suite f2 l2 i2 b2)) = omega arith

pub try_end-size : (h : Bool) (p : ℕ) (s : Suite) (cs : Clauses) (o : OptSuite) → try_end h p s cs o ≡ p + 1 + suite_size h s + opt_size h o + handlers_size h cs
try_end-size h p s no_clauses o = omega arith
try_end-size h p s (clause k x t rest) o = omega arith

-- the parts of a `try` in a row
abbrev pub try_parts : List Function → Ways → ℕ → (line : ℕ) → (end : ℕ) → Suite → Clauses → OptSuite → OptSuite → List Cell
try_parts fs w p l end s cs o fin =
    let inside = finally_ways fin w (try_end (in_hand w) p s cs o + 1) in
    put w.guard (marks l) (stmts_code fs (tried_ways cs inside (try_begin (in_hand w) p s o)) (p + 1) (suite_body s)
    ++ (opt_code fs inside (p + 1 + suite_size (in_hand w) s) o
    ++ (handlers_code fs inside (p + 1 + suite_size (in_hand w) s + opt_size (in_hand w) o) end cs ++ finally_code fs w (try_end (in_hand w) p s cs o) fin)))

pub try_form : (fs : List Function) (w : Ways) (p l : ℕ) (s : Suite) (cs : Clauses) (o fin : OptSuite)
    → kind_code fs w p l (try s cs o fin) ≡ try_parts fs w p l (try_end (in_hand w) p s cs o) s cs o fin
try_form fs w p l (suite f g i b) no_clauses o no_suite = simp append-nil
try_form fs w p l (suite f g i b) no_clauses o (has_suite (suite f2 g2 i2 b2)) = simp append_assoc
try_form fs w p l (suite f g i b) (clause k x t rest) o no_suite =
    let B = stmts_size (in_hand w) b in
    let O = opt_size (in_hand w) o in
    let C = clauses_size (in_hand w) (clause k x t rest) in
    let e : p + 1 + B + O + 1 + C ≡ p + 1 + (B + O + 1 + C) = omega arith in
    ap (λ n. put w.guard (marks l) (stmts_code fs (in_try w (p + 1 + B + O + 1)) (p + 1) b ++ (opt_code fs w (p + 1 + B) o ++ put w.guard (plain (Goto n)) (clauses_code fs w (p + 1 + B + O + 1) n (clause k x t rest))))) e
    ∙ simp append-nil
try_form fs w p l (suite f g i b) (clause k x t rest) o (has_suite (suite f2 g2 i2 b2)) =
    let B = stmts_size (in_hand w) b in
    let O = opt_size (in_hand w) o in
    let C = clauses_size (in_hand w) (clause k x t rest) in
    let inner = in_finally w (p + 1 + (B + O + 1 + C) + 1) in
    let e : p + 1 + B + O + 1 + C ≡ p + 1 + (B + O + 1 + C) = omega arith in
    ap (λ n. put w.guard (marks l) ((stmts_code fs (in_try inner (p + 1 + B + O + 1)) (p + 1) b ++ (opt_code fs inner (p + 1 + B) o ++ put inner.guard (plain (Goto n)) (clauses_code fs inner (p + 1 + B + O + 1) n (clause k x t rest))))
    ++ finally_code fs w (p + 1 + (B + O + 1 + C)) (has_suite (suite f2 g2 i2 b2)))) e
    ∙ simp append_assoc
