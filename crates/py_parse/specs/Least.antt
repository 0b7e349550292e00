-- The least module that a state can be completed to: it is the least in height, and in suites
-- inside each other.
--     pass_line, pass_suite               the least suite
--     ended, chosen, over                 statements that have all that they need
--     ending, closing                     the open suites end
--     Form, resumed, with_param, form     what a place inside a statement is completed to
--     header_suite, complete, finished    the least module of a state
--     least_height, least_nesting         its height, and how deep its suites stand
--
-- What is added stands on the last line that was read.
use Rattle.std.specs.Prelude.{ℕ, Bool, true, false, List, [], ◌∷◌, ◌++◌, Some, None}
use Rattle.py_syntax.specs.declared.stmt.LineEnd.{LineEnd}
use Rattle.py_syntax.specs.Tree.{Text, Expr, Exprs, no_exprs, exprs, wild}
use Rattle.py_syntax.specs.Tree.{Stmts, no_stmts, stmt, Suite, suite, no_suite, has_suite}
use Rattle.py_syntax.specs.Tree.{no_clauses, Cases, no_cases, case, StmtKind, expr, assign}
use Rattle.py_syntax.specs.Tree.{aug_assign, pass, break, continue, return, raise, assert, global}
use Rattle.py_syntax.specs.Tree.{import, from, if', while, for, try, def, match}
use Rattle.py_syntax.specs.Statements.{stmts_height, stmts_nesting}
use Rattle.py_grammar.specs.Machine.{snoc}
use Rattle.py_grammar.specs.Least as expression
use Rattle.py_grammar.specs.Least.{least_name}
use Rattle.py_parse_pattern.specs.Machine as pattern
use Rattle.py_statements.specs.Open.{snoc_stmt, no_end, newline_end, both_end, SuiteOf, an_arm}
use Rattle.py_statements.specs.Open.{a_while, a_for, a_clause, a_def, a_case, closed, SuiteStack}
use Rattle.py_statements.specs.Open.{top, inside}
use Rattle.py_statements.specs.Machine.{Continuation, value, augmented, leaving, asserted, reason}
use Rattle.py_statements.specs.Machine.{arm_test, while_test, for_target, for_over, clause_kind}
use Rattle.py_statements.specs.Machine.{subject, guard, default, Place, Reading, Matching, Simple}
use Rattle.py_statements.specs.Listed.{froms, listed, with_name, is_some}
use Rattle.py_statements.specs.Machine.{Semicolon, Leaving, NameWanted, NameRead, BoundWanted}
use Rattle.py_statements.specs.Machine.{BoundRead, ModuleWanted, ImportWanted, FunctionWanted}
use Rattle.py_statements.specs.Machine.{ParamsWanted, ParamWanted, ParamRead, Except, ClauseBound}
use Rattle.py_statements.specs.Machine.{ColonWanted, SuiteWanted, IndentWanted, MatchLine}
use Rattle.py_statements.specs.Machine.{MatchBlock, Span, State, Line, at, After, Choosing, Over}
use Rattle.py_statements.specs.Machine.{assigned, left}

-- `pass` alone
abbrev pub pass_line : ℕ → Stmts
pass_line l = stmt l l pass newline_end no_stmts

-- the same as a suite on the line of its header
abbrev pub pass_suite : ℕ → Suite
pass_suite l = suite l l true (pass_line l)

-- a statement that has all that it needs
abbrev pub ended : ℕ → StmtKind → StmtKind
ended l (expr e) = expr e
ended l (assign ts e) = assign ts e
ended l (aug_assign p op e) = aug_assign p op e
ended l pass = pass
ended l break = break
ended l continue = continue
ended l (return e) = return e
ended l (raise e) = raise e
ended l (assert t e) = assert t e
ended l (global xs) = global xs
ended l (import names) = import names
ended l (from m names) = from m names
ended l (if' arms o) = if' arms o
ended l (while t b o) = while t b o
ended l (for t e b o) = for t e b o
ended l (try b no_clauses o no_suite) = try b no_clauses o (has_suite (pass_suite l))
ended l (try b cs o f) = try b cs o f
ended l (def x ps ds c b) = def x ps ds c b
ended l (match e last cs) = match e last cs

-- a `match` with a case
abbrev pub chosen : ℕ → Expr → ℕ → Cases → StmtKind
chosen l e header_last no_cases = match e header_last (case wild None (pass_suite l) no_cases)
chosen l e header_last (case p g b cs) = match e header_last (case p g b cs)

-- the statement of an open suite that is closed, with all that it needs
abbrev pub over : ℕ → SuiteOf → Suite → StmtKind
over l o s = ended l (closed o s)

-- The open suites end, from the inside, after one statement more.
abbrev pub ending : ℕ → SuiteStack → ℕ → ℕ → StmtKind → LineEnd → Stmts
ending l (top ss) first last k e = snoc_stmt ss first last k e
ending l (inside ss inline f g begun o b) first last k e =
    ending l b begun l (over l o (suite f g inline (snoc_stmt ss first last k e))) no_end

-- They end where a statement may begin. A block that was just opened gets one.
abbrev pub closing : ℕ → SuiteStack → Stmts
closing l (top ss) = ss
closing l (inside no_stmts inline first last begun o b) =
    ending l b begun l (over l o (suite first last inline (pass_line l))) no_end
closing l (inside ss inline first last begun o b) =
    ending l b begun l (over l o (suite first last inline ss)) no_end

-- What a place inside a statement or a header is completed to.
pub data Form : Type 0 where
  a_statement : (k : StmtKind) (e : LineEnd) → Form
  a_header : (inline : Bool) (o : SuiteOf) → Form
  a_match : (e : Expr) (header_last : ℕ) → Form

-- what a statement is completed to after an expression of it
abbrev pub resumed : Continuation → Expr → ℕ → Form
resumed (value ts) e l = a_statement (assigned ts e) newline_end
resumed (augmented p op) e l = a_statement (aug_assign p op e) newline_end
resumed (leaving raises) e l = a_statement (left raises (Some e)) newline_end
resumed asserted e l = a_statement (assert e None) newline_end
resumed (reason test) e l = a_statement (assert test (Some e)) newline_end
resumed (arm_test arms) e l = a_header true (an_arm arms e)
resumed while_test e l = a_header true (a_while e)
resumed for_target e l = a_header true (a_for e least_name)
resumed (for_over t) e l = a_header true (a_for t e)
resumed (clause_kind b cs) e l = a_header true (a_clause b cs (Some e) None)
resumed subject e l = a_match e l
resumed (guard e' last cs p) e l = a_header true (a_case e' last cs p (Some e))
resumed (default x ps ds y) e l = a_header true (a_def x (ps ++ y ∷ []) (snoc ds e) false)

-- the parameters with this one, which has a default where one stands in front of it
abbrev pub with_param : Text → List Text → Exprs → Text → SuiteOf
with_param x ps no_exprs y = a_def x (ps ++ y ∷ []) no_exprs false
with_param x ps (exprs d ds) y = a_def x (ps ++ y ∷ []) (snoc (exprs d ds) least_name) false

-- what a place inside a statement or a header is completed to
abbrev pub form : Place → ℕ → Form
form (Reading r s) l = resumed r (expression.finished s) l
form (Matching e last cs s) l = a_header true (a_case e last cs (pattern.finished s) None)
form (Simple k) l = a_statement k newline_end
form (Semicolon k) l = a_statement k both_end
form (Leaving raises) l = a_statement (left raises None) newline_end
form (NameWanted xs) l = a_statement (listed (with_name xs [] None)) newline_end
form (NameRead xs x) l = a_statement (listed (with_name xs x None)) newline_end
form (BoundWanted xs x) l = a_statement (listed (with_name xs x (Some []))) newline_end
form (BoundRead xs) l = a_statement (listed xs) newline_end
form ModuleWanted l = a_statement (listed (with_name (froms [] []) [] None)) newline_end
form (ImportWanted m) l = a_statement (listed (with_name (froms m []) [] None)) newline_end
form FunctionWanted l = a_header true (a_def [] [] no_exprs false)
form (ParamsWanted x) l = a_header true (a_def x [] no_exprs false)
form (ParamWanted x ps ds) l = a_header true (a_def x ps ds (is_some ps))
form (ParamRead x ps ds y) l = a_header true (with_param x ps ds y)
form (Except b cs) l = a_header true (a_clause b cs None None)
form (ClauseBound b cs e) l = a_header true (a_clause b cs (Some e) (Some []))
form (ColonWanted o) l = a_header true o
form (SuiteWanted o) l = a_header true o
form (IndentWanted o) l = a_header false o
form (MatchLine e last) l = a_match e last
form (MatchBlock e last) l = a_match e last

-- the least suite after a header with these lines
abbrev pub header_suite : Bool → Span → Suite
header_suite inline n = suite n.first n.last inline (pass_line n.last)

-- the module that comes of it, with the open suites ended
abbrev pub complete : Form → Span → SuiteStack → Stmts
complete (a_statement k e) n b = ending n.last b n.begun n.last k e
complete (a_header inline o) n b =
    ending n.last b n.begun n.last (over n.last o (header_suite inline n)) no_end
complete (a_match e header_last) n b =
    ending n.last b n.begun n.last (chosen n.last e header_last no_cases) no_end

-- the least module of a state
abbrev pub finished : State → Stmts
finished (Line b) = closing 0 b
finished (at p n b) = complete (form p n.last) n b
finished (After k first last b) = ending last b first last (ended last k) no_end
finished (Choosing e header_last cs first b) = ending 0 b first 0 (chosen 0 e header_last cs) no_end
finished (Over ss) = ss

-- its height
abbrev pub least_height : State → ℕ
least_height s = stmts_height (finished s)

-- how many of its suites stand inside each other
abbrev pub least_nesting : State → ℕ
least_nesting s = stmts_nesting (finished s)
