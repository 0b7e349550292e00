-- What is open round a place in the text of a module: suites, from the inside, with what was read
-- of them.
--     snoc_stmt .. snoc_case         lists with one more at the end
--     no_end .. both_end             how a statement ends its line
--     SuiteOf                        what an open suite belongs to
--     with_else, closed              the statement where the suite is closed
--     SuiteStack, add                the open suites, and a statement more in the innermost
use Rattle.std.specs.Prelude.{ℕ, Bool, true, false, List, Option}
use Rattle.py_syntax.specs.declared.stmt.LineEnd.{LineEnd}
use Rattle.py_syntax.specs.Tree.{Text, Expr, Exprs, Pattern}
use Rattle.py_syntax.specs.Tree.{Stmts, no_stmts, stmt, Suite, OptSuite, no_suite, has_suite, Arms}
use Rattle.py_syntax.specs.Tree.{no_arms, arm, Clauses, no_clauses, clause, Cases, no_cases, case}
use Rattle.py_syntax.specs.Tree.{StmtKind, expr, assign, aug_assign, pass, break, continue, return}
use Rattle.py_syntax.specs.Tree.{raise, assert, global, import, from, if', while, for, try, def}
use Rattle.py_syntax.specs.Tree.{match}

-- ---- one more at the end

-- statements with one more
abbrev pub snoc_stmt : Stmts → ℕ → ℕ → StmtKind → LineEnd → Stmts
snoc_stmt no_stmts first last k e = stmt first last k e no_stmts
snoc_stmt (stmt f l k' e' ss) first last k e = stmt f l k' e' (snoc_stmt ss first last k e)

-- tests with one more
abbrev pub snoc_arm : Arms → Expr → Suite → Arms
snoc_arm no_arms t b = arm t b no_arms
snoc_arm (arm t' b' arms) t b = arm t' b' (snoc_arm arms t b)

-- `except` clauses with one more
abbrev pub snoc_clause : Clauses → Option Expr → Option Text → Suite → Clauses
snoc_clause no_clauses e x b = clause e x b no_clauses
snoc_clause (clause e' x' b' cs) e x b = clause e' x' b' (snoc_clause cs e x b)

-- cases with one more
abbrev pub snoc_case : Cases → Pattern → Option Expr → Suite → Cases
snoc_case no_cases p g b = case p g b no_cases
snoc_case (case p' g' b' cs) p g b = case p' g' b' (snoc_case cs p g b)

-- ---- how a statement ends its line

-- nothing, as after a compound statement
abbrev pub no_end : LineEnd
no_end = record { semicolon = false; newline = false }

-- the end of the line
abbrev pub newline_end : LineEnd
newline_end = record { semicolon = false; newline = true }

-- a semicolon, with a statement after it
abbrev pub semicolon_end : LineEnd
semicolon_end = record { semicolon = true; newline = false }

-- a semicolon and the end of the line
abbrev pub both_end : LineEnd
both_end = record { semicolon = true; newline = true }

-- ---- suites

-- What an open suite belongs to: a part of a compound statement, with what was read of the
-- statement before it.
pub data SuiteOf : Type 0 where
  an_arm : (arms : Arms) (test : Expr) → SuiteOf
  a_while : (test : Expr) → SuiteOf
  a_for : (target over : Expr) → SuiteOf
  a_try : SuiteOf
  a_clause : (body : Suite) (clauses : Clauses) (kind : Option Expr) (bound : Option Text) → SuiteOf
  -- the `else` of a statement that has none yet
  an_else : (so_far : StmtKind) → SuiteOf
  a_finally : (body : Suite) (clauses : Clauses) (orelse : OptSuite) → SuiteOf
  a_def : (x : Text) (params : List Text) (defaults : Exprs) (comma : Bool) → SuiteOf
  a_case : (subject : Expr) (header_last : ℕ) (cases : Cases) (p : Pattern) (guard : Option Expr)
      → SuiteOf

-- a statement with an `else` suite
abbrev pub with_else : StmtKind → Suite → StmtKind
with_else (expr e) s = expr e
with_else (assign ts e) s = assign ts e
with_else (aug_assign t op e) s = aug_assign t op e
with_else pass s = pass
with_else break s = break
with_else continue s = continue
with_else (return e) s = return e
with_else (raise e) s = raise e
with_else (assert t e) s = assert t e
with_else (global xs) s = global xs
with_else (import names) s = import names
with_else (from m names) s = from m names
with_else (if' arms o) s = if' arms (has_suite s)
with_else (while t b o) s = while t b (has_suite s)
with_else (for t e b o) s = for t e b (has_suite s)
with_else (try b cs o f) s = try b cs (has_suite s) f
with_else (def x ps ds c b) s = def x ps ds c b
with_else (match e last cs) s = match e last cs

-- The statement so far, where the suite is closed.
abbrev pub closed : SuiteOf → Suite → StmtKind
closed (an_arm arms t) s = if' (snoc_arm arms t s) no_suite
closed (a_while t) s = while t s no_suite
closed (a_for t e) s = for t e s no_suite
closed a_try s = try s no_clauses no_suite no_suite
closed (a_clause b cs e x) s = try b (snoc_clause cs e x s) no_suite no_suite
closed (an_else k) s = with_else k s
closed (a_finally b cs o) s = try b cs o (has_suite s)
closed (a_def x ps ds c) s = def x ps ds c s
closed (a_case e last cs p g) s = match e last (snoc_case cs p g s)

-- The open suites with the statements that were read in them. A suite has the lines of its header,
-- its form, and the first line of the statement that it belongs to.
pub data SuiteStack : Type 0 where
  top : (ss : Stmts) → SuiteStack
  inside : (ss : Stmts) (inline : Bool) (first last begun : ℕ) (o : SuiteOf) (k : SuiteStack)
      → SuiteStack

-- a statement more in the innermost suite
abbrev pub add : SuiteStack → ℕ → ℕ → StmtKind → LineEnd → SuiteStack
add (top ss) first last k e = top (snoc_stmt ss first last k e)
add (inside ss inline f l begun o b) first last k e =
    inside (snoc_stmt ss first last k e) inline f l begun o b
