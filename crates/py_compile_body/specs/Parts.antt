-- Parts of the code of statements, each at one part of their trees.
--     suite_body, suite_line              a suite
--     suite_size .. named_size            sizes
--     while_begin .. case_begin           places
--     finally_ways .. clause_ways         ways out of suites
--     read_item_code, written_item_code   parts of `place op= e`
--     if_code, match_code                 an `if` up to its `else`, and a `match`
--     while_head .. case_head             code in front of suites and after them
--     while_code, for_code, try_body      up to an `else`
--     handlers_code .. def_code           what follows the `else` of a `try`, and a `def`
--     at_lines                            functions by the lines of their `def`s alone
use Rattle.std.specs.Prelude.{ℕ, ◌+◌, Bool, true, List, [], ◌++◌, map, Option, Some, None}
use Rattle.py_operator.specs.declared.operator.BinOp.{BinOp}
use Rattle.py_syntax.specs.Functions.{Function}
use Rattle.py_syntax.specs.Tree.{Text, Expr, Exprs, Pattern, Stmts, no_stmts, Suite, suite, OptSuite, no_suite, has_suite, Arms, Clauses, no_clauses, clause, Cases}
use Rattle.py_code.specs.declared.instr.Instr.TheVariants.{Pop, Copy, Sink, InPlace, Index, StoreIndex, Goto, IfFalse, Walk, Next, Caught, Ending, Settle, Release}
use Rattle.py_compile_expr.specs.Cells.{store, unset, marks, marks_again, plain, Guard, Cell, put}
use Rattle.py_compile_expr.specs.Expressions.{expr_size, expr_code}
use Rattle.py_compile_expr.specs.Patterns.{captured, pattern_size, pattern_code, names_size, names_code}
use Rattle.py_compile_expr.specs.Targets.{target_size, target_code}
use Rattle.py_meaning.specs.Modules.{unit_at}
use Rattle.py_meaning.specs.Statements.{has_clauses}
use Rattle.py_compile.specs.Statements.{function_code, tried_size, caught_size, caught_code, guard_size, guard_code, exits_code, stmts_size, stmts_code, opt_size, arms_size, arms_code, clauses_size, clauses_code, cases_size, cases_code}
use Rattle.py_compile.specs.Ways.{Ways, under, in_loop, in_finally, in_try, in_hand}

-- the statements of a suite
abbrev pub suite_body : Suite → Stmts
suite_body (suite first last inline body) = body

-- the line where the header of a suite begins
abbrev pub suite_line : Suite → ℕ
suite_line (suite first last inline body) = first

-- ---- sizes

-- the statements of a suite, where an exception is handled or not
abbrev pub suite_size : Bool → Suite → ℕ
suite_size h s = stmts_size h (suite_body s)

-- the clauses of a `try` with the jump over them, where there are some
abbrev pub handlers_size : Bool → Clauses → ℕ
handlers_size h no_clauses = 0
handlers_size h (clause kind x s rest) = clauses_size h (clause kind x s rest) + 1

-- the suite of a `finally` with the instructions round it
abbrev pub finally_size : Bool → OptSuite → ℕ
finally_size h no_suite = 0
finally_size h (has_suite s) = suite_size h s + 5

-- what a clause takes besides its kind and its suite
abbrev pub named_size : Option Text → ℕ
named_size None = 3
named_size (Some x) = 11

-- what follows the suite of a clause
abbrev pub clause_end_size : Option Text → ℕ
clause_end_size None = 2
clause_end_size (Some x) = 8

-- a case in front of its suite
abbrev pub case_head_size : Pattern → Option Expr → ℕ
case_head_size q guard = 2 + pattern_size q + names_size (captured q) + guard_size guard + 1

-- ---- places

-- where the suite of a `while` begins
abbrev pub while_begin : ℕ → Expr → ℕ
while_begin p test = p + 3 + expr_size test + 1

-- where it ends, with the jump back
abbrev pub while_back : Bool → ℕ → Expr → Suite → ℕ
while_back h p test s = p + 3 + expr_size test + 1 + suite_size h s

-- where a further turn of a `for` begins
abbrev pub for_again : ℕ → Expr → ℕ
for_again p items = p + 1 + expr_size items + 2

-- where its suite begins
abbrev pub for_begin : ℕ → (target items : Expr) → ℕ
for_begin p target items = p + 1 + expr_size items + 2 + 2 + target_size target

-- where its suite ends, with the jump back
abbrev pub for_back : Bool → ℕ → (target items : Expr) → Suite → ℕ
for_back h p target items s = p + 1 + expr_size items + 2 + 2 + target_size target + suite_size h s

-- where the clauses of a `try` begin
abbrev pub try_begin : Bool → ℕ → Suite → OptSuite → ℕ
try_begin h p s orelse = p + 1 + suite_size h s + opt_size h orelse + 1

-- where its suites end
abbrev pub try_end : Bool → ℕ → Suite → Clauses → OptSuite → ℕ
try_end h p s cs orelse =
    p + 1 + tried_size (has_clauses cs) (suite_size h s) (opt_size h orelse) (clauses_size h cs)

-- where the suite of a clause begins
abbrev pub clause_begin : ℕ → Option Expr → Option Text → ℕ
clause_begin p kind None = p + 1 + caught_size kind
clause_begin p kind (Some x) = p + 1 + caught_size kind + 2

-- where the next clause begins
abbrev pub clause_next : ℕ → Option Expr → Option Text → Suite → ℕ
clause_next p kind None s = p + 1 + caught_size kind + suite_size true s + 2
clause_next p kind (Some x) s = p + 1 + caught_size kind + 2 + suite_size true s + 1 + 7

-- where the suite of a case begins
abbrev pub case_begin : ℕ → Pattern → Option Expr → ℕ
case_begin p q guard = p + 2 + pattern_size q + names_size (captured q) + guard_size guard + 1

-- ---- ways

-- in front of a `finally`, if there is one
abbrev pub finally_ways : OptSuite → Ways → ℕ → Ways
finally_ways no_suite w to = w
finally_ways (has_suite s) w to = in_finally w to

-- in front of clauses, if there are some
abbrev pub tried_ways : Clauses → Ways → ℕ → Ways
tried_ways no_clauses w to = w
tried_ways (clause kind x s rest) w to = in_try w to

-- in the suite of a clause, whose name is unset on every way out
abbrev pub clause_ways : Option Text → Ways → ℕ → Ways
clause_ways None w to = w
clause_ways (Some x) w to = in_finally w to

-- ---- parts of `place op= e`

-- an object, an index, and the item there
abbrev pub read_item_code : Option Guard → ℕ → Expr → Expr → List Cell
read_item_code g p of at =
    expr_code g p of ++ (expr_code g (p + expr_size of) at
    ++ put g (plain (Copy 1)) (put g (plain (Copy 1)) (put g (plain Index) [])))

-- the item with a value, stored at its index
abbrev pub written_item_code : Option Guard → BinOp → List Cell
written_item_code g op =
    put g (plain (InPlace op)) (put g (plain (Sink 2)) (put g (plain StoreIndex) []))

-- ---- statements

-- tests with their suites, up to an `else`
abbrev pub if_code : List Function → Ways → ℕ → Arms → OptSuite → List Cell
if_code fs w p arms orelse =
    arms_code fs w p (p + arms_size (in_hand w) arms + opt_size (in_hand w) orelse) arms

-- a subject with its cases
abbrev pub match_code : List Function → Ways → ℕ → (line : ℕ) → Expr → Cases → List Cell
match_code fs w p l subject cases =
    let first = p + 1 + expr_size subject in
    put w.guard (marks l) (expr_code w.guard (p + 1) subject
    ++ cases_code fs w first (first + cases_size (in_hand w) cases) cases)

-- ---- code in front of suites and after them

-- the marks and the test of a `while`
abbrev pub while_head : Option Guard → ℕ → (line : ℕ) → Expr → (rest : ℕ) → List Cell
while_head g p l test rest =
    put g (marks l) (put g (plain (Goto (p + 3))) (put g (marks_again l)
    (expr_code g (p + 3) test ++ put g (plain (IfFalse rest)) [])))

-- the mark of an `if` or `elif`, and its test
abbrev pub arm_head : Option Guard → ℕ → (line next : ℕ) → Expr → List Cell
arm_head g p l next test =
    put g (marks l) (expr_code g (p + 1) test ++ put g (plain (IfFalse next)) [])

-- the walk of a `for`, and its marks
abbrev pub for_head : Option Guard → ℕ → (line : ℕ) → Expr → (rest : ℕ) → List Cell
for_head g p l over rest =
    let again = p + 1 + expr_size over + 2 in
    put g (marks l) (expr_code g (p + 1) over
    ++ put g (plain Walk) (put g (plain (Goto (again + 1)))
    (put g (marks_again l) (put g (plain (Next rest)) []))))

-- the name that the exception is bound to, where there is one
abbrev pub name_code : Option Guard → Option Text → List Cell
name_code g None = []
name_code g (Some x) = put g (plain Caught) (put g (store x) [])

-- the mark of a clause, its kind, and the name that the exception is bound to
abbrev pub clause_head : Option Guard → ℕ → (line next : ℕ) → Option Expr → Option Text → List Cell
clause_head g p l next kind x = put g (marks l) (caught_code g (p + 1) next kind ++ name_code g x)

-- the name of a clause is unset on every way out of its suite
abbrev pub release_code : Ways → ℕ → Text → List Cell
release_code w p x =
    put w.guard (plain Ending) (put w.guard (unset x)
    (put w.guard (plain Release) (exits_code (under w) (p + 1 + 2))))

-- the end of a clause
abbrev pub clause_end : Ways → ℕ → (end : ℕ) → Option Text → List Cell
clause_end w p end None = put w.guard (plain Pop) (put w.guard (plain (Goto end)) [])
clause_end w p end (Some x) =
    release_code w p x ++ put w.guard (plain Pop) (put w.guard (plain (Goto end)) [])

-- a case in front of its suite
abbrev pub case_head : Option Guard → ℕ → (line next : ℕ) → Pattern → Option Expr → List Cell
case_head g p l next q guard =
    let bind = p + 2 + pattern_size q in
    put g (marks l) (put g (plain (Copy 0))
    (pattern_code (record { guard = g; waiting = 0; fail = next; extra = 0 }) (p + 2) q
    ++ (names_code g (captured q)
    ++ (guard_code g (bind + names_size (captured q)) next guard ++ put g (plain Pop) []))))

-- a `while` up to its `else`
abbrev pub while_code : List Function → Ways → ℕ → (line : ℕ) → Expr → Suite → OptSuite → List Cell
while_code fs w p l test s orelse =
    let back = while_back (in_hand w) p test s in
    let inside = in_loop w 0 (back + 1 + opt_size (in_hand w) orelse) back in
    while_head w.guard p l test (back + 1)
    ++ (stmts_code fs inside (while_begin p test) (suite_body s)
    ++ put w.guard (plain (Goto (p + 2))) [])

-- a `for` up to its `else`
abbrev pub for_code : List Function → Ways → ℕ → (line : ℕ) → (target items : Expr) → Suite
    → OptSuite → List Cell
for_code fs w p l target items s orelse =
    let again = for_again p items in
    let back = for_back (in_hand w) p target items s in
    let inside = in_loop (under w) 1 (back + 1 + opt_size (in_hand w) orelse) back in
    for_head w.guard p l items (back + 1)
    ++ (target_code w.guard (again + 2) target
    ++ (stmts_code fs inside (for_begin p target items) (suite_body s)
    ++ put w.guard (plain (Goto again)) []))

-- a `try` up to its `else`
abbrev pub try_body : List Function → Ways → ℕ → (line : ℕ) → Suite → Clauses → OptSuite → OptSuite
    → List Cell
try_body fs w p l s cs orelse finally =
    let inside = finally_ways finally w (try_end (in_hand w) p s cs orelse + 1) in
    put w.guard (marks l)
    (stmts_code fs (tried_ways cs inside (try_begin (in_hand w) p s orelse)) (p + 1) (suite_body s))

-- the clauses of a `try`, and the jump over them
abbrev pub handlers_code : List Function → Ways → ℕ → (end : ℕ) → Clauses → List Cell
handlers_code fs w p end no_clauses = []
handlers_code fs w p end (clause kind x s rest) =
    put w.guard (plain (Goto end)) (clauses_code fs w (p + 1) end (clause kind x s rest))

-- the suite of a `finally`, and where each way out goes on after it
abbrev pub finally_code : List Function → Ways → ℕ → OptSuite → List Cell
finally_code fs w p no_suite = []
finally_code fs w p (has_suite s) =
    put w.guard (plain Ending) (stmts_code fs (under w) (p + 1) (suite_body s)
    ++ put w.guard (plain Settle) (exits_code w (p + 1 + suite_size (in_hand w) s + 1)))

-- a function, and its name
abbrev pub def_code : List Function → Option Guard → ℕ → (line : ℕ) → Text → Exprs → List Cell
def_code fs g p l x defaults =
    put g (marks l) (function_code g (p + 1) (unit_at l fs) defaults ++ put g (store x) [])

-- where the `def`s of functions begin
abbrev pub lines_of : List Function → List ℕ
lines_of = map (λ f. f.line)

-- what tells the unit of a `def` is its line
abbrev pub at_line : ℕ → Function
at_line l = record { line = l; name = []; params = []; body = no_stmts }

-- functions of which only the lines are known
abbrev pub at_lines : List ℕ → List Function
at_lines = map at_line
