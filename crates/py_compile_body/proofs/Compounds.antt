-- The code of compound statements, at the places and by the ways that the code computes.
use Rattle.std.proofs.Common.{◌≡◌, ℕ, ◌+◌, List, [], ◌++◌, sym, ap, ◌∙◌, append_assoc}
use Rattle.py_syntax.specs.Functions.{Function}
use Rattle.py_syntax.specs.Tree.{Expr, Suite, OptSuite, has_suite, Arms, Clauses, Cases, if', while, for, try}
use Rattle.py_code.specs.declared.instr.Instr.TheVariants.{Goto, Ending, Settle}
use Rattle.py_compile_expr.specs.Cells.{marks, plain, Cell, put}
use Rattle.py_compile_expr.specs.Expressions.{expr_size, expr_code}
use Rattle.py_compile_expr.specs.Targets.{target_code}
use Rattle.py_compile_body.specs.Parts.{suite_body, suite_size, while_begin, while_back, for_again, for_begin, for_back, try_end, try_begin, finally_ways, tried_ways, while_head, for_head, try_body, handlers_code, finally_code, if_code, match_code, while_code, for_code}
use Rattle.py_compile.specs.Statements.{exits_code, stmts_code, kind_code, opt_size, opt_code, arms_size, cases_size, cases_code}
use Rattle.py_compile.specs.Ways.{Ways, under, in_loop, in_hand}
use Rattle.py_compile_body.proofs.Forms.{while_form, for_form, try_form}

-- ways out at other spellings of their places
pub looped : (v w : Ways) (k e b f c : ℕ) → v ≡ in_loop w k e b → e ≡ f → b ≡ c → v ≡ in_loop w k f c
looped v w k e b f c h x y = h ∙ ap (λ n. in_loop w k n b) x ∙ ap (λ n. in_loop w k f n) y

-- a part more at the end
regroup : (h s g o : List Cell) → h ++ (s ++ (g ++ o)) ≡ (h ++ (s ++ g)) ++ o
regroup h s g o = ap (λ cs. h ++ cs) (sym (append_assoc s g o)) ∙ sym (append_assoc h (s ++ g) o)

pub while_node : (fs : List Function) (w : Ways) (p l : ℕ) (t : Expr) (s : Suite) (o : OptSuite) (rest again first : ℕ) (inside : Ways)
    → rest ≡ while_back (in_hand w) p t s + 1 → inside ≡ in_loop w 0 (rest + opt_size (in_hand w) o) (while_back (in_hand w) p t s) → again ≡ p + 2 → first ≡ while_begin p t
    → while_code fs w p l t s o ≡ while_head w.guard p l t rest ++ (stmts_code fs inside first (suite_body s) ++ put w.guard (plain (Goto again)) [])
while_node fs w p l t s o rest again first inside r i a b =
    ap (λ n. while_head w.guard p l t n ++ (stmts_code fs (in_loop w 0 (n + opt_size (in_hand w) o) (while_back (in_hand w) p t s)) (while_begin p t) (suite_body s) ++ put w.guard (plain (Goto (p + 2))) [])) (sym r)
    ∙ ap (λ v. while_head w.guard p l t rest ++ (stmts_code fs v (while_begin p t) (suite_body s) ++ put w.guard (plain (Goto (p + 2))) [])) (sym i)
    ∙ ap (λ n. while_head w.guard p l t rest ++ (stmts_code fs inside (while_begin p t) (suite_body s) ++ put w.guard (plain (Goto n)) [])) (sym a)
    ∙ ap (λ n. while_head w.guard p l t rest ++ (stmts_code fs inside n (suite_body s) ++ put w.guard (plain (Goto again)) [])) (sym b)

-- a `while` with its `else`
pub while_whole : (fs : List Function) (w : Ways) (p l : ℕ) (t : Expr) (s : Suite) (o : OptSuite) (rest : ℕ) → rest ≡ while_back (in_hand w) p t s + 1
    → kind_code fs w p l (while t s o) ≡ while_code fs w p l t s o ++ opt_code fs w rest o
while_whole fs w p l t s o rest r =
    let back = while_back (in_hand w) p t s in
    let inside = in_loop w 0 (back + 1 + opt_size (in_hand w) o) back in
    while_form fs w p l t s o
    ∙ regroup (while_head w.guard p l t (back + 1)) (stmts_code fs inside (while_begin p t) (suite_body s)) (put w.guard (plain (Goto (p + 2))) []) (opt_code fs w (back + 1) o)
    ∙ ap (λ n. while_code fs w p l t s o ++ opt_code fs w n o) (sym r)

pub for_node : (fs : List Function) (w : Ways) (p l : ℕ) (t e : Expr) (s : Suite) (o : OptSuite) (rest again first second : ℕ) (inside : Ways)
    → again ≡ for_again p e → rest ≡ for_back (in_hand w) p t e s + 1 → inside ≡ in_loop (under w) 1 (rest + opt_size (in_hand w) o) (for_back (in_hand w) p t e s)
    → first ≡ for_again p e + 2 → second ≡ for_begin p t e
    → for_code fs w p l t e s o ≡ for_head w.guard p l e rest ++ (target_code w.guard first t ++ (stmts_code fs inside second (suite_body s) ++ put w.guard (plain (Goto again)) []))
for_node fs w p l t e s o rest again first second inside a r i b c =
    let at = for_again p e + 2 in
    ap (λ n. for_head w.guard p l e n ++ (target_code w.guard at t ++ (stmts_code fs (in_loop (under w) 1 (n + opt_size (in_hand w) o) (for_back (in_hand w) p t e s)) (for_begin p t e) (suite_body s) ++ put w.guard (plain (Goto (for_again p e))) []))) (sym r)
    ∙ ap (λ v. for_head w.guard p l e rest ++ (target_code w.guard at t ++ (stmts_code fs v (for_begin p t e) (suite_body s) ++ put w.guard (plain (Goto (for_again p e))) []))) (sym i)
    ∙ ap (λ n. for_head w.guard p l e rest ++ (target_code w.guard at t ++ (stmts_code fs inside (for_begin p t e) (suite_body s) ++ put w.guard (plain (Goto n)) []))) (sym a)
    ∙ ap (λ n. for_head w.guard p l e rest ++ (target_code w.guard n t ++ (stmts_code fs inside (for_begin p t e) (suite_body s) ++ put w.guard (plain (Goto again)) []))) (sym b)
    ∙ ap (λ n. for_head w.guard p l e rest ++ (target_code w.guard first t ++ (stmts_code fs inside n (suite_body s) ++ put w.guard (plain (Goto again)) []))) (sym c)

-- a `for` with its `else`
pub for_whole : (fs : List Function) (w : Ways) (p l : ℕ) (t e : Expr) (s : Suite) (o : OptSuite) (rest : ℕ) → rest ≡ for_back (in_hand w) p t e s + 1
    → kind_code fs w p l (for t e s o) ≡ for_code fs w p l t e s o ++ opt_code fs w rest o
for_whole fs w p l t e s o rest r =
    let back = for_back (in_hand w) p t e s in
    let inside = in_loop (under w) 1 (back + 1 + opt_size (in_hand w) o) back in
    let head = for_head w.guard p l e (back + 1) in
    let bind = target_code w.guard (for_again p e + 2) t in
    let body = stmts_code fs inside (for_begin p t e) (suite_body s) in
    let jump = put w.guard (plain (Goto (for_again p e))) [] in
    let other = opt_code fs w (back + 1) o in
    for_form fs w p l t e s o
    ∙ ap (λ cs. head ++ cs) (regroup bind body jump other)
    ∙ sym (append_assoc head (bind ++ (body ++ jump)) other)
    ∙ ap (λ n. for_code fs w p l t e s o ++ opt_code fs w n o) (sym r)

pub try_body_node : (fs : List Function) (w : Ways) (p l : ℕ) (s : Suite) (cs : Clauses) (o fin : OptSuite) (end first : ℕ) (tried inside : Ways)
    → end ≡ try_end (in_hand w) p s cs o → inside ≡ finally_ways fin w (end + 1) → tried ≡ tried_ways cs inside (try_begin (in_hand w) p s o) → first ≡ p + 1
    → try_body fs w p l s cs o fin ≡ put w.guard (marks l) [] ++ stmts_code fs tried first (suite_body s)
try_body_node fs w p l s cs o fin end first tried inside e i t a =
    let begin = try_begin (in_hand w) p s o in
    ap (λ n. put w.guard (marks l) (stmts_code fs (tried_ways cs (finally_ways fin w (n + 1)) begin) (p + 1) (suite_body s))) (sym e)
    ∙ ap (λ v. put w.guard (marks l) (stmts_code fs (tried_ways cs v begin) (p + 1) (suite_body s))) (sym i)
    ∙ ap (λ v. put w.guard (marks l) (stmts_code fs v (p + 1) (suite_body s))) (sym t)
    ∙ ap (λ n. put w.guard (marks l) (stmts_code fs tried n (suite_body s))) (sym a)

-- a `try` with its `else`, its clauses and its `finally`
pub try_whole : (fs : List Function) (w : Ways) (p l : ℕ) (s : Suite) (cs : Clauses) (o fin : OptSuite) (end second third fourth : ℕ) (inside : Ways)
    → end ≡ try_end (in_hand w) p s cs o → inside ≡ finally_ways fin w (end + 1)
    → second ≡ p + 1 + suite_size (in_hand w) s → third ≡ p + 1 + suite_size (in_hand w) s + opt_size (in_hand w) o → fourth ≡ end
    → kind_code fs w p l (try s cs o fin)
    ≡ try_body fs w p l s cs o fin ++ (opt_code fs inside second o ++ (handlers_code fs inside third end cs ++ finally_code fs w fourth fin))
try_whole fs w p l s cs o fin end second third fourth inside e i b c d =
    let q = p + 1 + suite_size (in_hand w) s in
    let r = p + 1 + suite_size (in_hand w) s + opt_size (in_hand w) o in
    let body = try_body fs w p l s cs o fin in
    let last : end ≡ fourth = sym d in
    try_form fs w p l s cs o fin
    ∙ ap (λ n. body ++ (opt_code fs (finally_ways fin w (n + 1)) q o ++ (handlers_code fs (finally_ways fin w (n + 1)) r n cs ++ finally_code fs w n fin))) (sym e)
    ∙ ap (λ v. body ++ (opt_code fs v q o ++ (handlers_code fs v r end cs ++ finally_code fs w end fin))) (sym i)
    ∙ ap (λ n. body ++ (opt_code fs inside n o ++ (handlers_code fs inside r end cs ++ finally_code fs w end fin))) (sym b)
    ∙ ap (λ n. body ++ (opt_code fs inside second o ++ (handlers_code fs inside n end cs ++ finally_code fs w end fin))) (sym c)
    ∙ ap (λ n. body ++ (opt_code fs inside second o ++ (handlers_code fs inside third end cs ++ finally_code fs w n fin))) last

-- ---- the suite of a `finally`

pub finally_node : (fs : List Function) (w lower : Ways) (p first third : ℕ) (s : Suite) → lower ≡ under w → first ≡ p + 1 → third ≡ p + 1 + suite_size (in_hand w) s + 1
    → finally_code fs w p (has_suite s) ≡ put w.guard (plain Ending) [] ++ (stmts_code fs lower first (suite_body s) ++ (put w.guard (plain Settle) [] ++ exits_code w third))
finally_node fs w lower p first third s l a b =
    ap (λ v. put w.guard (plain Ending) (stmts_code fs v (p + 1) (suite_body s) ++ put w.guard (plain Settle) (exits_code w (p + 1 + suite_size (in_hand w) s + 1)))) (sym l)
    ∙ ap (λ n. put w.guard (plain Ending) (stmts_code fs lower n (suite_body s) ++ put w.guard (plain Settle) (exits_code w (p + 1 + suite_size (in_hand w) s + 1)))) (sym a)
    ∙ ap (λ n. put w.guard (plain Ending) (stmts_code fs lower first (suite_body s) ++ put w.guard (plain Settle) (exits_code w n))) (sym b)

-- ---- `if` and `match`

-- an `if` with its `else`
pub if_whole : (fs : List Function) (w : Ways) (p l : ℕ) (arms : Arms) (o : OptSuite) (rest : ℕ) → rest ≡ p + arms_size (in_hand w) arms
    → kind_code fs w p l (if' arms o) ≡ if_code fs w p arms o ++ opt_code fs w rest o
if_whole fs w p l arms o rest r = ap (λ n. if_code fs w p arms o ++ opt_code fs w n o) (sym r)

pub match_node : (fs : List Function) (w : Ways) (p l end first : ℕ) (e : Expr) (cs : Cases) → end ≡ p + 1 + expr_size e + cases_size (in_hand w) cs → first ≡ p + 1 + expr_size e
    → match_code fs w p l e cs ≡ put w.guard (marks l) (expr_code w.guard (p + 1) e) ++ cases_code fs w first end cs
match_node fs w p l end first e cs is a =
    ap (λ n. put w.guard (marks l) (expr_code w.guard (p + 1) e ++ cases_code fs w (p + 1 + expr_size e) n cs)) (sym is)
    ∙ ap (λ n. put w.guard (marks l) (expr_code w.guard (p + 1) e ++ cases_code fs w n end cs)) (sym a)
