-- Turns of loops over parts with a suite each: tests, clauses and cases. What a turn adds is a head, a suite and an end.
use Rattle.std.proofs.Common.{◌≡◌, ℕ, ◌+◌, ◌<◌, List, [], ◌++◌, drop, length, get_or, Bool, true, Option, Some, None, refl, sym, ap, ◌∙◌, arith, append_assoc}
use Rattle.std.specs.Option.{option_map}
use Rattle.py_syntax.specs.Functions.{Function}
use Rattle.py_syntax.specs.declared.stmt.Arm.{Arm as ArmNode, out-Arm}
use Rattle.py_syntax.specs.declared.stmt.Clause.{Clause as ClauseNode, out-Clause}
use Rattle.py_syntax.specs.declared.stmt.Case.{Case as CaseNode, out-Case}
use Rattle.py_syntax.specs.declared.stmt.Stmt.{Stmt as StmtNode, out-Stmt}
use Rattle.py_syntax.specs.Tree.{Text, Expr, Pattern, Suite, arm, clause, case}
use Rattle.py_syntax.specs.View.{plain_expr, plain_pattern, plain_stmts, plain_kind, plain_suite, plain_arms, plain_clauses, plain_cases}
use Rattle.py_code.specs.declared.instr.Instr.TheVariants.{Goto}
use Rattle.py_compile_expr.specs.Cells.{plain, Cell, put}
use Rattle.py_compile_expr.specs.Expressions.{expr_size}
use Rattle.py_compile_expr.proofs.Turns.{the_drop, a_turn, and_then}
use Rattle.py_compile_body.specs.Parts.{suite_body, suite_line, suite_size, named_size, clause_end_size, case_head_size, clause_begin, clause_next, case_begin, clause_ways, arm_head, clause_head, clause_end, case_head}
use Rattle.py_compile.specs.Statements.{caught_size, stmts_size, stmts_code, kind_size, kind_code, arms_size, arms_code, clauses_size, clauses_code, cases_size, cases_code}
use Rattle.py_compile.specs.Ways.{Ways, in_clause, in_hand}
use Rattle.py_compile_body.proofs.Forms.{arms_form, arms_form_size, clauses_form, clauses_form_size, cases_form, cases_form_size}
use Rattle.py_compile_body.proofs.KindViews.{stmts_are, arms_are, clauses_are, cases_are}

-- a head, a suite and an end
three_added : (now one two next w x y z rest all : List Cell) → one ≡ now ++ x → two ≡ one ++ y → next ≡ two ++ z → all ≡ x ++ (y ++ (z ++ rest)) → now ++ all ≡ w → next ++ rest ≡ w
three_added now one two next w x y z rest all a b c e h =
    a_turn now next w ((x ++ y) ++ z) rest all (and_then now two next (x ++ y) z ((x ++ y) ++ z) c (and_then now one two x y (x ++ y) b a refl) refl)
    (e ∙ sym (append_assoc x y (z ++ rest)) ∙ sym (append_assoc (x ++ y) z rest)) h

-- ---- tests

shown_arms : (xs : List ArmNode) (i : ℕ) (a : ArmNode) → i < length xs → a ≡ get_or xs i a
    → plain_arms (drop i xs) ≡ arm (plain_expr (out-Arm a).test) (plain_suite (out-Arm a).body) (plain_arms (drop (i + 1) xs))
shown_arms xs i a lt is = ap plain_arms (the_drop xs i a lt is) ∙ arms_are a (drop (i + 1) xs)

pub arms_counted : (h : Bool) (xs : List ArmNode) (i : ℕ) (a : ArmNode) (p next w : ℕ) → i < length xs → a ≡ get_or xs i a
    → next ≡ p + (expr_size (plain_expr (out-Arm a).test) + suite_size h (plain_suite (out-Arm a).body) + 3) → p + arms_size h (plain_arms (drop i xs)) ≡ w → next + arms_size h (plain_arms (drop (i + 1) xs)) ≡ w
arms_counted h xs i a p next w lt is e k =
    let t = ap (arms_size h) (shown_arms xs i a lt is) ∙ arms_form_size h (plain_expr (out-Arm a).test) (plain_suite (out-Arm a).body) (plain_arms (drop (i + 1) xs)) in omega (arith, e, k, t)

pub arms_added : (fs : List Function) (v : Ways) (p first third end line jump : ℕ) (xs : List ArmNode) (i : ℕ) (a : ArmNode) (now one two next w : List Cell) → i < length xs → a ≡ get_or xs i a
    → line ≡ suite_line (plain_suite (out-Arm a).body) → jump ≡ p + 1 + expr_size (plain_expr (out-Arm a).test) + 1 + suite_size (in_hand v) (plain_suite (out-Arm a).body) + 1
    → first ≡ p + 1 + expr_size (plain_expr (out-Arm a).test) + 1 → third ≡ jump
    → one ≡ now ++ arm_head v.guard p line jump (plain_expr (out-Arm a).test) → two ≡ one ++ stmts_code fs v first (suite_body (plain_suite (out-Arm a).body)) → next ≡ two ++ put v.guard (plain (Goto end)) []
    → now ++ arms_code fs v p end (plain_arms (drop i xs)) ≡ w → next ++ arms_code fs v third end (plain_arms (drop (i + 1) xs)) ≡ w
arms_added fs v p first third end line jump xs i a now one two next w lt is l j f t x y z h =
    let e = plain_expr (out-Arm a).test in
    let s = plain_suite (out-Arm a).body in
    let rest = plain_arms (drop (i + 1) xs) in
    let begin = p + 1 + expr_size e + 1 in
    let goto = put v.guard (plain (Goto end)) [] in
    three_added now one two next w (arm_head v.guard p line jump e) (stmts_code fs v first (suite_body s)) goto (arms_code fs v third end rest) (arms_code fs v p end (plain_arms (drop i xs))) x y z
    (ap (arms_code fs v p end) (shown_arms xs i a lt is) ∙ arms_form fs v p end e s rest
    ∙ ap (λ n. arm_head v.guard p n (begin + suite_size (in_hand v) s + 1) e ++ (stmts_code fs v begin (suite_body s) ++ (goto ++ arms_code fs v (begin + suite_size (in_hand v) s + 1) end rest))) (sym l)
    ∙ ap (λ n. arm_head v.guard p line n e ++ (stmts_code fs v begin (suite_body s) ++ (goto ++ arms_code fs v n end rest))) (sym j)
    ∙ ap (λ n. arm_head v.guard p line jump e ++ (stmts_code fs v n (suite_body s) ++ (goto ++ arms_code fs v jump end rest))) (sym f)
    ∙ ap (λ n. arm_head v.guard p line jump e ++ (stmts_code fs v first (suite_body s) ++ (goto ++ arms_code fs v n end rest))) (sym t)) h

-- ---- clauses

shown_clauses : (xs : List ClauseNode) (i : ℕ) (c : ClauseNode) → i < length xs → c ≡ get_or xs i c
    → plain_clauses (drop i xs) ≡ clause (option_map plain_expr (out-Clause c).kind) (out-Clause c).name (plain_suite (out-Clause c).body) (plain_clauses (drop (i + 1) xs))
shown_clauses xs i c lt is = ap plain_clauses (the_drop xs i c lt is) ∙ clauses_are c (drop (i + 1) xs)

pub clauses_counted : (h : Bool) (xs : List ClauseNode) (i : ℕ) (c : ClauseNode) (p next w : ℕ) → i < length xs → c ≡ get_or xs i c
    → next ≡ p + (caught_size (option_map plain_expr (out-Clause c).kind) + suite_size true (plain_suite (out-Clause c).body) + named_size (out-Clause c).name)
    → p + clauses_size h (plain_clauses (drop i xs)) ≡ w → next + clauses_size h (plain_clauses (drop (i + 1) xs)) ≡ w
clauses_counted h xs i c p next w lt is e k =
    let t = ap (clauses_size h) (shown_clauses xs i c lt is) ∙ clauses_form_size h (option_map plain_expr (out-Clause c).kind) (out-Clause c).name (plain_suite (out-Clause c).body) (plain_clauses (drop (i + 1) xs)) in omega (arith, e, k, t)

pub clauses_added : (fs : List Function) (v inside : Ways) (p first second third end line jump : ℕ) (xs : List ClauseNode) (i : ℕ) (c : ClauseNode) (now one two next w : List Cell) → i < length xs → c ≡ get_or xs i c
    → line ≡ suite_line (plain_suite (out-Clause c).body) → jump ≡ clause_next p (option_map plain_expr (out-Clause c).kind) (out-Clause c).name (plain_suite (out-Clause c).body)
    → inside ≡ clause_ways (out-Clause c).name (in_clause v) (clause_begin p (option_map plain_expr (out-Clause c).kind) (out-Clause c).name + suite_size true (plain_suite (out-Clause c).body) + 1)
    → first ≡ clause_begin p (option_map plain_expr (out-Clause c).kind) (out-Clause c).name
    → second ≡ clause_begin p (option_map plain_expr (out-Clause c).kind) (out-Clause c).name + suite_size true (plain_suite (out-Clause c).body) → third ≡ jump
    → one ≡ now ++ clause_head v.guard p line jump (option_map plain_expr (out-Clause c).kind) (out-Clause c).name
    → two ≡ one ++ stmts_code fs inside first (suite_body (plain_suite (out-Clause c).body)) → next ≡ two ++ clause_end v second end (out-Clause c).name
    → now ++ clauses_code fs v p end (plain_clauses (drop i xs)) ≡ w → next ++ clauses_code fs v third end (plain_clauses (drop (i + 1) xs)) ≡ w
clauses_added fs v inside p first second third end line jump xs i c now one two next w lt is l j m f g t x y z h =
    let k = option_map plain_expr (out-Clause c).kind in
    let n = (out-Clause c).name in
    let s = plain_suite (out-Clause c).body in
    let rest = plain_clauses (drop (i + 1) xs) in
    let begin = clause_begin p k n in
    let ways = clause_ways n (in_clause v) (begin + suite_size true s + 1) in
    three_added now one two next w (clause_head v.guard p line jump k n) (stmts_code fs inside first (suite_body s)) (clause_end v second end n) (clauses_code fs v third end rest) (clauses_code fs v p end (plain_clauses (drop i xs))) x y z
    (ap (clauses_code fs v p end) (shown_clauses xs i c lt is) ∙ clauses_form fs v p end k n s rest
    ∙ ap (λ q. clause_head v.guard p q (clause_next p k n s) k n ++ (stmts_code fs ways begin (suite_body s) ++ (clause_end v (begin + suite_size true s) end n ++ clauses_code fs v (clause_next p k n s) end rest))) (sym l)
    ∙ ap (λ q. clause_head v.guard p line q k n ++ (stmts_code fs ways begin (suite_body s) ++ (clause_end v (begin + suite_size true s) end n ++ clauses_code fs v q end rest))) (sym j)
    ∙ ap (λ q. clause_head v.guard p line jump k n ++ (stmts_code fs q begin (suite_body s) ++ (clause_end v (begin + suite_size true s) end n ++ clauses_code fs v jump end rest))) (sym m)
    ∙ ap (λ q. clause_head v.guard p line jump k n ++ (stmts_code fs inside q (suite_body s) ++ (clause_end v (begin + suite_size true s) end n ++ clauses_code fs v jump end rest))) (sym f)
    ∙ ap (λ q. clause_head v.guard p line jump k n ++ (stmts_code fs inside first (suite_body s) ++ (clause_end v q end n ++ clauses_code fs v jump end rest))) (sym g)
    ∙ ap (λ q. clause_head v.guard p line jump k n ++ (stmts_code fs inside first (suite_body s) ++ (clause_end v second end n ++ clauses_code fs v q end rest))) (sym t)) h

-- ---- cases

shown_cases : (xs : List CaseNode) (i : ℕ) (c : CaseNode) → i < length xs → c ≡ get_or xs i c
    → plain_cases (drop i xs) ≡ case (plain_pattern (out-Case c).pattern) (option_map plain_expr (out-Case c).guard) (plain_suite (out-Case c).body) (plain_cases (drop (i + 1) xs))
shown_cases xs i c lt is = ap plain_cases (the_drop xs i c lt is) ∙ cases_are c (drop (i + 1) xs)

pub cases_counted : (h : Bool) (xs : List CaseNode) (i : ℕ) (c : CaseNode) (p next w : ℕ) → i < length xs → c ≡ get_or xs i c
    → next ≡ p + (case_head_size (plain_pattern (out-Case c).pattern) (option_map plain_expr (out-Case c).guard) + suite_size h (plain_suite (out-Case c).body) + 1)
    → p + cases_size h (plain_cases (drop i xs)) ≡ w → next + cases_size h (plain_cases (drop (i + 1) xs)) ≡ w
cases_counted h xs i c p next w lt is e k =
    let t = ap (cases_size h) (shown_cases xs i c lt is) ∙ cases_form_size h (plain_pattern (out-Case c).pattern) (option_map plain_expr (out-Case c).guard) (plain_suite (out-Case c).body) (plain_cases (drop (i + 1) xs)) in omega (arith, e, k, t)

pub cases_added : (fs : List Function) (v : Ways) (p first third end line jump : ℕ) (xs : List CaseNode) (i : ℕ) (c : CaseNode) (now one two next w : List Cell) → i < length xs → c ≡ get_or xs i c
    → line ≡ suite_line (plain_suite (out-Case c).body) → jump ≡ case_begin p (plain_pattern (out-Case c).pattern) (option_map plain_expr (out-Case c).guard) + suite_size (in_hand v) (plain_suite (out-Case c).body) + 1
    → first ≡ case_begin p (plain_pattern (out-Case c).pattern) (option_map plain_expr (out-Case c).guard) → third ≡ jump
    → one ≡ now ++ case_head v.guard p line jump (plain_pattern (out-Case c).pattern) (option_map plain_expr (out-Case c).guard)
    → two ≡ one ++ stmts_code fs v first (suite_body (plain_suite (out-Case c).body)) → next ≡ two ++ put v.guard (plain (Goto end)) []
    → now ++ cases_code fs v p end (plain_cases (drop i xs)) ≡ w → next ++ cases_code fs v third end (plain_cases (drop (i + 1) xs)) ≡ w
cases_added fs v p first third end line jump xs i c now one two next w lt is l j f t x y z h =
    let q = plain_pattern (out-Case c).pattern in
    let guard = option_map plain_expr (out-Case c).guard in
    let s = plain_suite (out-Case c).body in
    let rest = plain_cases (drop (i + 1) xs) in
    let begin = case_begin p q guard in
    let goto = put v.guard (plain (Goto end)) [] in
    three_added now one two next w (case_head v.guard p line jump q guard) (stmts_code fs v first (suite_body s)) goto (cases_code fs v third end rest) (cases_code fs v p end (plain_cases (drop i xs))) x y z
    (ap (cases_code fs v p end) (shown_cases xs i c lt is) ∙ cases_form fs v p end q guard s rest
    ∙ ap (λ n. case_head v.guard p n (begin + suite_size (in_hand v) s + 1) q guard ++ (stmts_code fs v begin (suite_body s) ++ (goto ++ cases_code fs v (begin + suite_size (in_hand v) s + 1) end rest))) (sym l)
    ∙ ap (λ n. case_head v.guard p line n q guard ++ (stmts_code fs v begin (suite_body s) ++ (goto ++ cases_code fs v n end rest))) (sym j)
    ∙ ap (λ n. case_head v.guard p line jump q guard ++ (stmts_code fs v n (suite_body s) ++ (goto ++ cases_code fs v jump end rest))) (sym f)
    ∙ ap (λ n. case_head v.guard p line jump q guard ++ (stmts_code fs v first (suite_body s) ++ (goto ++ cases_code fs v n end rest))) (sym t)) h

-- ---- places and ways of a turn

pub clause_next-is : (p : ℕ) (k : Option Expr) (x : Option Text) (s : Suite) → clause_next p k x s ≡ clause_begin p k x + suite_size true s + clause_end_size x
clause_next-is p k None s = omega arith
clause_next-is p k (Some x) s = omega arith

pub clause_counts : (p n : ℕ) (k : Option Expr) (x : Option Text) → clause_begin p k x + n + clause_end_size x ≡ p + (caught_size k + n + named_size x)
clause_counts p n k None = omega arith
clause_counts p n k (Some x) = omega arith

-- an exception is handled in the suite of a clause
pub clause_hand : (x : Option Text) (w : Ways) (to : ℕ) → in_hand (clause_ways x (in_clause w) to) ≡ true
clause_hand None w to = refl
clause_hand (Some x) w to = refl

pub case_begin-is : (p : ℕ) (q : Pattern) (guard : Option Expr) → case_begin p q guard ≡ p + case_head_size q guard
case_begin-is p q guard = omega arith

-- ---- the sizes of statements in a row

pub stmts_counted : (h : Bool) (xs : List StmtNode) (i : ℕ) (a : StmtNode) (p next w : ℕ) → i < length xs → a ≡ get_or xs i a
    → next ≡ p + kind_size h (plain_kind (out-Stmt a).kind) → p + stmts_size h (plain_stmts (drop i xs)) ≡ w → next + stmts_size h (plain_stmts (drop (i + 1) xs)) ≡ w
stmts_counted h xs i a p next w lt is e k =
    let t = ap (λ ys. stmts_size h (plain_stmts ys)) (the_drop xs i a lt is) ∙ ap (stmts_size h) (stmts_are a (drop (i + 1) xs)) in omega (arith, e, k, t)

pub stmts_added : (fs : List Function) (v : Ways) (p to : ℕ) (xs : List StmtNode) (i : ℕ) (a : StmtNode) (now next w : List Cell) → i < length xs → a ≡ get_or xs i a
    → to ≡ p + kind_size (in_hand v) (plain_kind (out-Stmt a).kind) → next ≡ now ++ kind_code fs v p (out-Stmt a).first (plain_kind (out-Stmt a).kind)
    → now ++ stmts_code fs v p (plain_stmts (drop i xs)) ≡ w → next ++ stmts_code fs v to (plain_stmts (drop (i + 1) xs)) ≡ w
stmts_added fs v p to xs i a now next w lt is e x h =
    a_turn now next w (kind_code fs v p (out-Stmt a).first (plain_kind (out-Stmt a).kind)) (stmts_code fs v to (plain_stmts (drop (i + 1) xs))) (stmts_code fs v p (plain_stmts (drop i xs))) x
    (ap (λ ys. stmts_code fs v p (plain_stmts ys)) (the_drop xs i a lt is) ∙ ap (stmts_code fs v p) (stmts_are a (drop (i + 1) xs))
    ∙ ap (λ n. kind_code fs v p (out-Stmt a).first (plain_kind (out-Stmt a).kind) ++ stmts_code fs v n (plain_stmts (drop (i + 1) xs))) (sym e)) h
