-- How high and how deep trees are when a part is put at their end, and that open suites grow with what they hold.
use Rattle.std.proofs.Common.{◌≡◌, ℕ, ◌≤◌, max, Bool, Option, refl, arith}
use Rattle.py_syntax.specs.declared.stmt.LineEnd.{LineEnd}
use Rattle.py_syntax.specs.Tree.{Text, Expr, Pattern}
use Rattle.py_syntax.specs.Tree.{Stmts, no_stmts, stmt, Suite, suite, no_suite, Arms, no_arms, arm, Clauses, no_clauses, clause, Cases, no_cases, case, StmtKind, if', while, for, try}
use Rattle.py_syntax.specs.Normal.{height, pattern_height}
use Rattle.py_syntax.specs.Statements.{option_height, stmts_height, kind_height, suite_height, arms_height, clauses_height, cases_height, stmts_nesting, kind_nesting, suite_nesting, arms_nesting, clauses_nesting, cases_nesting}
use Rattle.py_statements.specs.Open.{snoc_stmt, snoc_arm, snoc_clause, snoc_case, no_end, SuiteOf, an_arm, a_while, a_for, a_try, a_clause, an_else, a_finally, a_def, a_case, with_else, closed, SuiteStack, top, inside, add}
use Rattle.py_parse.specs.Least.{pass_line, ended, ending, closing}

-- ---- one more at the end

pub snoc_height : (ss : Stmts) (f l : ℕ) (k : StmtKind) (e : LineEnd) → stmts_height (snoc_stmt ss f l k e) ≡ max (stmts_height ss) (kind_height k)
snoc_height no_stmts f l k e = omega arith
snoc_height (stmt f' l' k' e' ss) f l k e = let h = snoc_height ss f l k e in omega arith

pub snoc_nesting : (ss : Stmts) (f l : ℕ) (k : StmtKind) (e : LineEnd) → stmts_nesting (snoc_stmt ss f l k e) ≡ max (stmts_nesting ss) (kind_nesting k)
snoc_nesting no_stmts f l k e = omega arith
snoc_nesting (stmt f' l' k' e' ss) f l k e = let h = snoc_nesting ss f l k e in omega arith

pub arm_height : (arms : Arms) (t : Expr) (s : Suite) → arms_height (snoc_arm arms t s) ≡ max (arms_height arms) (max (height t) (suite_height s))
arm_height no_arms t s = omega arith
arm_height (arm t' s' arms) t s = let h = arm_height arms t s in omega arith

pub arm_nesting : (arms : Arms) (t : Expr) (s : Suite) → arms_nesting (snoc_arm arms t s) ≡ max (arms_nesting arms) (suite_nesting s)
arm_nesting no_arms t s = omega arith
arm_nesting (arm t' s' arms) t s = let h = arm_nesting arms t s in omega arith

pub clause_height : (cs : Clauses) (e : Option Expr) (x : Option Text) (s : Suite) → clauses_height (snoc_clause cs e x s) ≡ max (clauses_height cs) (max (option_height e) (suite_height s))
clause_height no_clauses e x s = omega arith
clause_height (clause e' x' s' cs) e x s = let h = clause_height cs e x s in omega arith

pub clause_nesting : (cs : Clauses) (e : Option Expr) (x : Option Text) (s : Suite) → clauses_nesting (snoc_clause cs e x s) ≡ max (clauses_nesting cs) (suite_nesting s)
clause_nesting no_clauses e x s = omega arith
clause_nesting (clause e' x' s' cs) e x s = let h = clause_nesting cs e x s in omega arith

pub case_height : (cs : Cases) (p : Pattern) (g : Option Expr) (s : Suite) → cases_height (snoc_case cs p g s) ≡ max (cases_height cs) (max (max (pattern_height p) (option_height g)) (suite_height s))
case_height no_cases p g s = omega arith
case_height (case p' g' s' cs) p g s = let h = case_height cs p g s in omega arith

pub case_nesting : (cs : Cases) (p : Pattern) (g : Option Expr) (s : Suite) → cases_nesting (snoc_case cs p g s) ≡ max (cases_nesting cs) (suite_nesting s)
case_nesting no_cases p g s = omega arith
case_nesting (case p' g' s' cs) p g s = let h = case_nesting cs p g s in omega arith

-- ---- one tree no higher and no deeper than another

abbrev pub Low : Stmts → Stmts → Type 0
Low m n = (stmts_height m ≤ stmts_height n) × (stmts_nesting m ≤ stmts_nesting n)

abbrev pub Under : StmtKind → StmtKind → Type 0
Under k l = (kind_height k ≤ kind_height l) × (kind_nesting k ≤ kind_nesting l)

abbrev pub Within : Suite → Suite → Type 0
Within s t = (suite_height s ≤ suite_height t) × (suite_nesting s ≤ suite_nesting t)

pub low_same : (m : Stmts) → Low m m
low_same m = (omega arith, omega arith)

pub low_trans : (a b c : Stmts) → Low a b → Low b c → Low a c
low_trans a b c h i = let h0 = h.0 in let h1 = h.1 in let i0 = i.0 in let i1 = i.1 in (omega arith, omega arith)

pub under_same : (k : StmtKind) → Under k k
under_same k = (omega arith, omega arith)

pub under_trans : (a b c : StmtKind) → Under a b → Under b c → Under a c
under_trans a b c h i = let h0 = h.0 in let h1 = h.1 in let i0 = i.0 in let i1 = i.1 in (omega arith, omega arith)

pub within : (f l f' l' : ℕ) (i i' : Bool) (ss ss' : Stmts) → Low ss ss' → Within (suite f l i ss) (suite f' l' i' ss')
within f l f' l' i i' ss ss' h = let h0 = h.0 in let h1 = h.1 in (omega arith, omega arith)

-- what is added for a statement to be whole makes it no higher and no deeper
pub ended_height : (l : ℕ) (k : StmtKind) → kind_height (ended l k) ≡ kind_height k
ended_height l (try b no_clauses o no_suite) = omega arith
ended_height l k = refl

pub ended_nesting : (l : ℕ) (k : StmtKind) → kind_nesting (ended l k) ≡ kind_nesting k
ended_nesting l (try (suite f g i ss) no_clauses o no_suite) = omega arith
ended_nesting l k = refl

pub ended_under : (l : ℕ) (k : StmtKind) → Under k (ended l k)
ended_under l k = let h = ended_height l k in let n = ended_nesting l k in (omega arith, omega arith)

pub under_ended : (l : ℕ) (k : StmtKind) → Under (ended l k) k
under_ended l k = let h = ended_height l k in let n = ended_nesting l k in (omega arith, omega arith)

else_under : (k : StmtKind) (s t : Suite) → Within s t → Under (with_else k s) (with_else k t)
else_under (if' arms o) s t h = let h0 = h.0 in let h1 = h.1 in (omega arith, omega arith)
else_under (while e b o) s t h = let h0 = h.0 in let h1 = h.1 in (omega arith, omega arith)
else_under (for x e b o) s t h = let h0 = h.0 in let h1 = h.1 in (omega arith, omega arith)
else_under (try b cs o f) s t h = let h0 = h.0 in let h1 = h.1 in (omega arith, omega arith)
else_under k s t h = under_same k

pub closed_under : (o : SuiteOf) (s t : Suite) → Within s t → Under (closed o s) (closed o t)
closed_under (an_arm arms e) s t h = let h0 = h.0 in let h1 = h.1 in let a = arm_height arms e s in let b = arm_height arms e t in let c = arm_nesting arms e s in let d = arm_nesting arms e t in (omega arith, omega arith)
closed_under (a_while e) s t h = let h0 = h.0 in let h1 = h.1 in (omega arith, omega arith)
closed_under (a_for x e) s t h = let h0 = h.0 in let h1 = h.1 in (omega arith, omega arith)
closed_under a_try s t h = let h0 = h.0 in let h1 = h.1 in (omega arith, omega arith)
closed_under (a_clause b cs e x) s t h = let h0 = h.0 in let h1 = h.1 in let a = clause_height cs e x s in let b = clause_height cs e x t in let c = clause_nesting cs e x s in let d = clause_nesting cs e x t in (omega arith, omega arith)
closed_under (an_else k) s t h = else_under k s t h
closed_under (a_finally b cs o) s t h = let h0 = h.0 in let h1 = h.1 in (omega arith, omega arith)
closed_under (a_def x ps ds c) s t h = let h0 = h.0 in let h1 = h.1 in (omega arith, omega arith)
closed_under (a_case e last cs p g) s t h = let h0 = h.0 in let h1 = h.1 in let a = case_height cs p g s in let b = case_height cs p g t in let c = case_nesting cs p g s in let d = case_nesting cs p g t in (omega arith, omega arith)

-- a statement so far, and a suite that holds more
pub suite_under : (o : SuiteOf) (l l' f g f' g' : ℕ) (i i' : Bool) (ss ss' : Stmts) → Low ss ss' → Under (ended l (closed o (suite f g i ss))) (ended l' (closed o (suite f' g' i' ss')))
suite_under o l l' f g f' g' i i' ss ss' h =
    under_trans (ended l (closed o (suite f g i ss))) (closed o (suite f g i ss)) (ended l' (closed o (suite f' g' i' ss'))) (under_ended l (closed o (suite f g i ss)))
    (under_trans (closed o (suite f g i ss)) (closed o (suite f' g' i' ss')) (ended l' (closed o (suite f' g' i' ss'))) (closed_under o (suite f g i ss) (suite f' g' i' ss') (within f g f' g' i i' ss ss' h)) (ended_under l' (closed o (suite f' g' i' ss'))))

-- ---- open suites

pub snoc_low : (ss : Stmts) (f l f' l' : ℕ) (k k' : StmtKind) (e e' : LineEnd) → Under k k' → Low (snoc_stmt ss f l k e) (snoc_stmt ss f' l' k' e')
snoc_low ss f l f' l' k k' e e' h =
    let h0 = h.0 in let h1 = h.1 in
    let a = snoc_height ss f l k e in let b = snoc_height ss f' l' k' e' in
    let c = snoc_nesting ss f l k e in let d = snoc_nesting ss f' l' k' e' in
    (omega arith, omega arith)

pub snoc_more : (ss : Stmts) (f l : ℕ) (k : StmtKind) (e : LineEnd) → Low ss (snoc_stmt ss f l k e)
snoc_more ss f l k e = let a = snoc_height ss f l k e in let c = snoc_nesting ss f l k e in (omega arith, omega arith)

-- A statement no lower makes the module no lower.
pub ending_low : (b : SuiteStack) (l l' f g f' g' : ℕ) (k k' : StmtKind) (e e' : LineEnd) → Under k k' → Low (ending l b f g k e) (ending l' b f' g' k' e')
ending_low (top ss) l l' f g f' g' k k' e e' h = snoc_low ss f g f' g' k k' e e' h
ending_low (inside ss i x y begun o b) l l' f g f' g' k k' e e' h =
    ending_low b l l' begun l begun l' (ended l (closed o (suite x y i (snoc_stmt ss f g k e)))) (ended l' (closed o (suite x y i (snoc_stmt ss f' g' k' e')))) no_end no_end
    (suite_under o l l' x y x y i i (snoc_stmt ss f g k e) (snoc_stmt ss f' g' k' e') (snoc_low ss f g f' g' k k' e e' h))

-- no statement does either
pub closing_low : (b : SuiteStack) (l l' f g : ℕ) (k : StmtKind) (e : LineEnd) → Low (closing l b) (ending l' b f g k e)
closing_low (top ss) l l' f g k e = snoc_more ss f g k e
closing_low (inside no_stmts i x y begun o b) l l' f g k e =
    ending_low b l l' begun l begun l' (ended l (closed o (suite x y i (pass_line l)))) (ended l' (closed o (suite x y i (snoc_stmt no_stmts f g k e)))) no_end no_end
    (suite_under o l l' x y x y i i (pass_line l) (snoc_stmt no_stmts f g k e) (omega arith, omega arith))
closing_low (inside (stmt a c k' e' ss) i x y begun o b) l l' f g k e =
    ending_low b l l' begun l begun l' (ended l (closed o (suite x y i (stmt a c k' e' ss)))) (ended l' (closed o (suite x y i (snoc_stmt (stmt a c k' e' ss) f g k e)))) no_end no_end
    (suite_under o l l' x y x y i i (stmt a c k' e' ss) (snoc_stmt (stmt a c k' e' ss) f g k e) (snoc_more (stmt a c k' e' ss) f g k e))

-- A statement that is put into the innermost suite stays there.
pub added_low : (b : SuiteStack) (l l' f g : ℕ) (k : StmtKind) (e : LineEnd) → Low (ending l b f g k e) (closing l' (add b f g k e))
added_low (top ss) l l' f g k e = low_same (snoc_stmt ss f g k e)
added_low (inside no_stmts i x y begun o b) l l' f g k e =
    ending_low b l l' begun l begun l' (ended l (closed o (suite x y i (snoc_stmt no_stmts f g k e)))) (ended l' (closed o (suite x y i (snoc_stmt no_stmts f g k e)))) no_end no_end
    (suite_under o l l' x y x y i i (snoc_stmt no_stmts f g k e) (snoc_stmt no_stmts f g k e) (low_same (snoc_stmt no_stmts f g k e)))
added_low (inside (stmt a c k' e' ss) i x y begun o b) l l' f g k e =
    ending_low b l l' begun l begun l' (ended l (closed o (suite x y i (snoc_stmt (stmt a c k' e' ss) f g k e)))) (ended l' (closed o (suite x y i (snoc_stmt (stmt a c k' e' ss) f g k e)))) no_end no_end
    (suite_under o l l' x y x y i i (snoc_stmt (stmt a c k' e' ss) f g k e) (snoc_stmt (stmt a c k' e' ss) f g k e) (low_same (snoc_stmt (stmt a c k' e' ss) f g k e)))
