-- The height and the depth of the module that open suites and a statement in them end as.
--
-- They are the greater of what the open suites have without the statement and of what the statement brings there.
use Rattle.std.proofs.Common.{◌≡◌, ℕ, suc, ◌+◌, max, true, false, refl, arith}
use Rattle.py_syntax.specs.declared.stmt.LineEnd.{LineEnd}
use Rattle.py_syntax.specs.Tree.{no_stmts, stmt, Suite, suite, no_suite, clause, StmtKind, if', while, for, try}
use Rattle.py_syntax.specs.Normal.{height, heights, pattern_height}
use Rattle.py_syntax.specs.Statements.{option_height, stmts_height, kind_height, suite_height, opt_height, arms_height, clauses_height, cases_height, stmts_nesting, kind_nesting, suite_nesting, opt_nesting, arms_nesting, clauses_nesting, cases_nesting}
use Rattle.py_statements.specs.Open.{snoc_stmt, no_end, SuiteOf, an_arm, a_while, a_for, a_try, a_clause, an_else, a_finally, a_def, a_case, closed, SuiteStack, top, inside}
use Rattle.py_statements.specs.Machine.{Span}
use Rattle.py_parse.specs.Least.{pass_line, ended, ending, closing, Form, complete}
use Rattle.py_parse.proofs.Sound.Valid.{TakesElse, ValidSuiteOf, ValidLine, ValidSimple}
use Rattle.py_parse.proofs.Least.GrowthParts.{snoc_height, snoc_nesting, arm_height, arm_nesting, clause_height, clause_nesting, case_height, case_nesting, under_same, ended_height, ended_nesting}
use Rattle.py_parse.proofs.Least.GrowthForms.{core, low_to, low_from}

-- ---- what stands in front of a suite in its statement

abbrev pub suite_of_height : SuiteOf → ℕ
suite_of_height (an_arm arms t) = max (arms_height arms) (height t)
suite_of_height (a_while t) = height t
suite_of_height (a_for t e) = max (height t) (height e)
suite_of_height a_try = 0
suite_of_height (a_clause b cs e x) = max (max (suite_height b) (clauses_height cs)) (option_height e)
suite_of_height (an_else k) = kind_height k
suite_of_height (a_finally b cs o) = max (max (suite_height b) (clauses_height cs)) (opt_height o)
suite_of_height (a_def x ps ds c) = heights ds
suite_of_height (a_case e last cs p g) = max (max (height e) (cases_height cs)) (max (pattern_height p) (option_height g))

abbrev pub suite_of_nesting : SuiteOf → ℕ
suite_of_nesting (an_arm arms t) = arms_nesting arms
suite_of_nesting (a_clause b cs e x) = max (suite_nesting b) (clauses_nesting cs)
suite_of_nesting (an_else k) = kind_nesting k
suite_of_nesting (a_finally b cs o) = max (max (suite_nesting b) (clauses_nesting cs)) (opt_nesting o)
suite_of_nesting (a_case e last cs p g) = cases_nesting cs
suite_of_nesting o = 0

-- what an `else` belongs to may have one
abbrev pub Apt : SuiteOf → Type 0
Apt (an_else k) = TakesElse k
Apt o = Unit {0}

pub apt : (o : SuiteOf) → ValidSuiteOf o → Apt o
apt (an_else k) h = h
apt o h = tt

pub closed_height : (o : SuiteOf) (s : Suite) → Apt o → kind_height (closed o s) ≡ max (suite_of_height o) (suite_height s)
closed_height (an_arm arms t) s h = let a = arm_height arms t s in omega arith
closed_height (a_while t) s h = omega arith
closed_height (a_for t e) s h = omega arith
closed_height a_try s h = omega arith
closed_height (a_clause b cs e x) s h = let a = clause_height cs e x s in omega arith
closed_height (an_else (if' arms no_suite)) s h = omega arith
closed_height (an_else (while t b no_suite)) s h = omega arith
closed_height (an_else (for t e b no_suite)) s h = omega arith
closed_height (an_else (try b (clause e x s' cs) no_suite no_suite)) s h = omega arith
closed_height (an_else k) s h = absurd h
closed_height (a_finally b cs o) s h = omega arith
closed_height (a_def x ps ds c) s h = omega arith
closed_height (a_case e last cs p g) s h = let a = case_height cs p g s in omega arith

pub closed_nesting : (o : SuiteOf) (s : Suite) → Apt o → kind_nesting (closed o s) ≡ max (suite_of_nesting o) (suite_nesting s)
closed_nesting (an_arm arms t) s h = let a = arm_nesting arms t s in omega arith
closed_nesting (a_while t) s h = omega arith
closed_nesting (a_for t e) s h = omega arith
closed_nesting a_try s h = omega arith
closed_nesting (a_clause b cs e x) s h = let a = clause_nesting cs e x s in omega arith
closed_nesting (an_else (if' arms no_suite)) s h = omega arith
closed_nesting (an_else (while t b no_suite)) s h = omega arith
closed_nesting (an_else (for t e b no_suite)) s h = omega arith
closed_nesting (an_else (try b (clause e x s' cs) no_suite no_suite)) s h = omega arith
closed_nesting (an_else k) s h = absurd h
closed_nesting (a_finally b cs o) s h = omega arith
closed_nesting (a_def x ps ds c) s h = omega arith
closed_nesting (a_case e last cs p g) s h = let a = case_nesting cs p g s in omega arith

-- ---- open suites

-- the height of what was read in open suites, how many they are, and how deep that is
abbrev pub suites_height : SuiteStack → ℕ
suites_height (top ss) = stmts_height ss
suites_height (inside ss inline first last begun o b) = max (suites_height b) (max (suite_of_height o) (stmts_height ss))

abbrev pub depth : SuiteStack → ℕ
depth (top ss) = 0
depth (inside ss inline first last begun o b) = suc (depth b)

abbrev pub suites_nesting : SuiteStack → ℕ
suites_nesting (top ss) = stmts_nesting ss
suites_nesting (inside ss inline first last begun o b) = max (suites_nesting b) (max (suite_of_nesting o) (suc (stmts_nesting ss)) + depth b)

abbrev pub AptSuites : SuiteStack → Type 0
AptSuites (top ss) = Unit {0}
AptSuites (inside ss inline first last begun o b) = Apt o × AptSuites b

pub apt_line : (b : SuiteStack) → ValidLine b → AptSuites b
apt_line (top ss) h = tt
apt_line (inside ss inline first last begun o b) h = (apt o h.3, apt_line b h.4)

pub apt_simple : (b : SuiteStack) → ValidSimple b → AptSuites b
apt_simple (top ss) h = tt
apt_simple (inside ss true first last begun o b) h = (apt o h.2, apt_line b h.3)
apt_simple (inside ss false first last begun o b) h = (apt o h.2, apt_line b h.3)

-- All suites end after one statement more.
pub ending_height : (l : ℕ) (b : SuiteStack) (first last : ℕ) (k : StmtKind) (e : LineEnd) → AptSuites b → stmts_height (ending l b first last k e) ≡ max (suites_height b) (kind_height k)
ending_height l (top ss) first last k e h = snoc_height ss first last k e
ending_height l (inside ss i f g begun o b) first last k e h =
    let all = closed o (suite f g i (snoc_stmt ss first last k e)) in
    let outer = ending_height l b begun l (ended l all) no_end h.1 in
    let one = ended_height l all in
    let two = closed_height o (suite f g i (snoc_stmt ss first last k e)) h.0 in
    let three = snoc_height ss first last k e in
    omega arith

pub ending_nesting : (l : ℕ) (b : SuiteStack) (first last : ℕ) (k : StmtKind) (e : LineEnd) → AptSuites b → stmts_nesting (ending l b first last k e) ≡ max (suites_nesting b) (kind_nesting k + depth b)
ending_nesting l (top ss) first last k e h = let one = snoc_nesting ss first last k e in omega arith
ending_nesting l (inside ss i f g begun o b) first last k e h =
    let all = closed o (suite f g i (snoc_stmt ss first last k e)) in
    let outer = ending_nesting l b begun l (ended l all) no_end h.1 in
    let one = ended_nesting l all in
    let two = closed_nesting o (suite f g i (snoc_stmt ss first last k e)) h.0 in
    let three = snoc_nesting ss first last k e in
    omega arith

-- All suites end where a statement may begin.
pub closing_height : (l : ℕ) (b : SuiteStack) → AptSuites b → stmts_height (closing l b) ≡ suites_height b
closing_height l (top ss) h = refl
closing_height l (inside no_stmts i f g begun o b) h =
    let all = closed o (suite f g i (pass_line l)) in
    let outer = ending_height l b begun l (ended l all) no_end h.1 in
    let one = ended_height l all in
    let two = closed_height o (suite f g i (pass_line l)) h.0 in
    omega arith
closing_height l (inside (stmt f' l' k e ss) i f g begun o b) h =
    let all = closed o (suite f g i (stmt f' l' k e ss)) in
    let outer = ending_height l b begun l (ended l all) no_end h.1 in
    let one = ended_height l all in
    let two = closed_height o (suite f g i (stmt f' l' k e ss)) h.0 in
    omega arith

pub closing_nesting : (l : ℕ) (b : SuiteStack) → AptSuites b → stmts_nesting (closing l b) ≡ suites_nesting b
closing_nesting l (top ss) h = refl
closing_nesting l (inside no_stmts i f g begun o b) h =
    let all = closed o (suite f g i (pass_line l)) in
    let outer = ending_nesting l b begun l (ended l all) no_end h.1 in
    let one = ended_nesting l all in
    let two = closed_nesting o (suite f g i (pass_line l)) h.0 in
    omega arith
closing_nesting l (inside (stmt f' l' k e ss) i f g begun o b) h =
    let all = closed o (suite f g i (stmt f' l' k e ss)) in
    let outer = ending_nesting l b begun l (ended l all) no_end h.1 in
    let one = ended_nesting l all in
    let two = closed_nesting o (suite f g i (stmt f' l' k e ss)) h.0 in
    omega arith

-- All suites end after what a place is completed to.
pub complete_height : (f : Form) (n : Span) (b : SuiteStack) → AptSuites b → stmts_height (complete f n b) ≡ max (suites_height b) (kind_height (core f))
complete_height f n b h =
    let low = low_from f n b 0 0 0 (core f) no_end (under_same (core f)) in
    let high = low_to f n b 0 0 0 (core f) no_end (under_same (core f)) in
    let one = low.0 in let two = high.0 in
    let is = ending_height 0 b 0 0 (core f) no_end h in
    omega arith

pub complete_nesting : (f : Form) (n : Span) (b : SuiteStack) → AptSuites b → stmts_nesting (complete f n b) ≡ max (suites_nesting b) (kind_nesting (core f) + depth b)
complete_nesting f n b h =
    let low = low_from f n b 0 0 0 (core f) no_end (under_same (core f)) in
    let high = low_to f n b 0 0 0 (core f) no_end (under_same (core f)) in
    let one = low.1 in let two = high.1 in
    let is = ending_nesting 0 b 0 0 (core f) no_end h in
    omega arith
